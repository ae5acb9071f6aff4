-- So many records on from the first of the direction. Assumes nothing.
use Rattle.std.proofs.Common.{◌≡◌}
use native.Mathlib.Omega.{arith}
use Rattle.rules_dictionary.specs.Table.{communication_place, communication_length, open_table}
use Rattle.rules_dictionary.proofs.Packing.{regular}
use Rattle.rules_dictionary.proofs.Members.{pdo_in, communication_in}
use Rattle.dictionary.proofs.Regular.{recorded, small}
use Rattle.dictionary.proofs.records.communication_place.Goals as goal

pub returns : goal.returns
unfolding open_table
returns c =
    let p = c.args.p in
    let i = pdo_in p c.requires in
    let r = c.record_place in
    let at : r.result ≡ communication_place p =
    recorded communication_place communication_length p (regular i).communication c.requires r.ensures.receives r.ensures.transmits in
    (at, omega (arith, at, small (communication_in i)))
