-- By the room. Assumes nothing.
use mathlib.Core.Path.{◌∙◌, ap, ap₂}
use native.Mathlib.Omega.{arith}
use Prim.Native.Nat.{◌+◌}
use Rattle.dictionary.specs.Lines.{sizes_from, place_in}
use Rattle.dictionary.proofs.table.place_in.Goals as goal

pub returns-in-Node : goal.returns-in-Node
unfolding place_in
returns-in-Node c =
    let a = c.args in
    rw c.in-Node.is (c.sizes_from.ensures.0 ∙ ap (sizes_from a.rows.now 0) (omega arith))

pub returns-in-Communication : goal.returns-in-Communication
unfolding place_in
returns-in-Communication c = rw c.in-Communication.is (ap₂ ◌+◌ c.communication_place.ensures.0 c.communication_offset.ensures.0)

pub returns-in-Mapping : goal.returns-in-Mapping
unfolding place_in
returns-in-Mapping c = rw c.in-Mapping.is (ap₂ ◌+◌ c.mapping_place.ensures.0 c.mapping_offset.ensures.0)

pub returns-in-Drive : goal.returns-in-Drive
unfolding place_in
returns-in-Drive c = rw c.in-Drive.is c.drive_place.ensures
