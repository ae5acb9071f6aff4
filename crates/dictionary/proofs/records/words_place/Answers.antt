-- Behind the count. Assumes nothing.
use native.Mathlib.Omega.{arith}
use Rattle.rules_dictionary.proofs.Packing.{regular, within, short}
use Rattle.rules_dictionary.proofs.Members.{pdo_in, count_in_lem}
use Rattle.dictionary.proofs.records.words_place.Goals as goal

pub returns : goal.returns
returns c =
    let i = pdo_in c.args.p c.requires in
    (omega (arith, (regular i).words, c.mapping_place.ensures.0), omega (arith, c.mapping_place.ensures.0, within (count_in_lem i), short))
