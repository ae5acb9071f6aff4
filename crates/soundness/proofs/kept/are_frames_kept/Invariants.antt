-- `soundness::kept::are_frames_kept` meets its contract. Assumes nothing.
use Prim.Native.Nat.{◌+◌, ◌≤◌}
use mathlib.Core.Path.{◌≡◌}
use Rattle.rules_dictionary.specs.Table.{each_way}
use Rattle.form.specs.Form.{plan_place}
use Rattle.mapping.specs.Kept.{frame_place}
use Rattle.soundness.proofs.Every.{Left, framed}
use Rattle.soundness.proofs.kept.are_frames_kept.Given as goal

abbrev pub invariant-loop : goal.invariant-loop
invariant-loop l =
    Left (framed l.state l.d) each_way l.counter
    × ((l.counter ≤ each_way) × ((l.frame ≡ frame_place l.counter) × (l.plan ≡ plan_place (each_way + l.counter))))
