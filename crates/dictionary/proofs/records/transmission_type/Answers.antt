-- Behind the record's place. Assumes nothing.
use native.Mathlib.Omega.{arith}
use Rattle.rules_dictionary.specs.Values.{read}
use Rattle.rules_dictionary.proofs.Packing.{within, regular}
use Rattle.rules_dictionary.proofs.Members.{pdo_in, type_in}
use Rattle.dictionary.proofs.Regular.{type_at}
use Rattle.dictionary.proofs.records.transmission_type.Goals as goal

pub read1-requires : goal.read1-requires
unfolding read
read1-requires c =
    let i = pdo_in c.args.p c.requires.1 in
    omega (arith, within (type_in i), (regular i).identifies, (regular i).types)

pub returns : goal.returns
unfolding read
returns c = rw (type_at c.requires.1 c.communication_place.ensures.0) at c.read1.ensures
