-- So many records on from the first of the direction. Assumes nothing.
use Rattle.std.proofs.Common.{◌≡◌}
use native.Mathlib.Omega.{arith}
use Rattle.rules_dictionary.specs.Table.{mapping_place, mapping_length, open_table}
use Rattle.rules_dictionary.proofs.Packing.{regular}
use Rattle.rules_dictionary.proofs.Members.{pdo_in, count_in_lem}
use Rattle.dictionary.proofs.Regular.{recorded, small}
use Rattle.dictionary.proofs.records.mapping_place.Goals as goal

pub returns : goal.returns
unfolding open_table
returns c =
    let p = c.args.p in
    let i = pdo_in p c.requires in
    let r = c.record_place in
    let at : r.result ≡ mapping_place p =
    recorded mapping_place mapping_length p (regular i).mapping c.requires r.ensures.receives r.ensures.transmits in
    (at, omega (arith, at, small (count_in_lem i)))
