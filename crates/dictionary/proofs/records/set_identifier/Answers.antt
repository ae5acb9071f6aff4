-- Behind the record's place. Assumes nothing.
use native.Mathlib.Omega.{arith}
use Rattle.rules_dictionary.specs.Values.{store}
use Rattle.rules_dictionary.proofs.Packing.{within, regular}
use Rattle.rules_dictionary.proofs.Members.{pdo_in, identifier_in}
use Rattle.dictionary.proofs.Regular.{identifier_at}
use Rattle.dictionary.proofs.records.set_identifier.Goals as goal

pub write4-requires : goal.write4-requires
unfolding store
write4-requires c =
    let i = pdo_in c.args.p c.requires.1 in
    omega (arith, within (identifier_in i), (regular i).identifies, c.communication_place-place.ensures.0)

pub returns : goal.returns
unfolding store
returns c = rw (identifier_at c.requires.1 c.communication_place-place.ensures.0) at c.write4.ensures
