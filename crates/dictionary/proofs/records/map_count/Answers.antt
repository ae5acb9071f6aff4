-- At the record's place. Assumes nothing.
use native.Mathlib.Omega.{arith}
use Rattle.rules_dictionary.specs.Values.{read}
use Rattle.rules_dictionary.proofs.Packing.{within}
use Rattle.rules_dictionary.proofs.Members.{pdo_in, count_in_lem}
use Rattle.dictionary.proofs.records.map_count.Goals as goal

pub read1-requires : goal.read1-requires
unfolding read
read1-requires c = omega (arith, within (count_in_lem (pdo_in c.args.p c.requires.1)))

pub returns : goal.returns
unfolding read
returns c = rw c.mapping_place.ensures.0 at c.read1.ensures
