-- Behind the record's place. Assumes nothing.
use native.Mathlib.Omega.{arith}
use Rattle.rules_dictionary.specs.Values.{read}
use Rattle.rules_dictionary.proofs.Packing.{within, regular}
use Rattle.rules_dictionary.proofs.Members.{pdo_in, identifier_in}
use Rattle.dictionary.proofs.Regular.{identifier_at}
use Rattle.dictionary.proofs.records.identifier.Goals as goal

pub read4-requires : goal.read4-requires
unfolding read
read4-requires c =
    let i = pdo_in c.args.p c.requires.1 in
    omega (arith, within (identifier_in i), (regular i).identifies)

pub returns : goal.returns
unfolding read
returns c = rw (identifier_at c.requires.1 c.communication_place.ensures.0) at c.read4.ensures
