-- At the record's place. Assumes nothing.
use native.Mathlib.Omega.{arith}
use Rattle.rules_dictionary.specs.Values.{read}
use Rattle.rules_dictionary.proofs.Packing.{within}
use Rattle.rules_dictionary.proofs.Members.{pdo_in, communication_in}
use Rattle.dictionary.proofs.records.communication_count.Goals as goal

pub read1-requires : goal.read1-requires
unfolding read
read1-requires c = omega (arith, within (communication_in (pdo_in c.args.p c.requires.1)))

pub returns : goal.returns
unfolding read
returns c = rw c.communication_place.ensures.0 at c.read1.ensures
