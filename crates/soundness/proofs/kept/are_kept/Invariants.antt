-- `soundness::kept::are_kept` meets its contract: what is left to test is what was at the start. Assumes nothing.
use Prim.Native.Nat.{◌+◌, ◌-◌, ◌*◌, ◌≤◌}
use mathlib.Core.Path.{◌≡◌}
use Rattle.rules_dictionary.specs.Table.{each_way}
use Rattle.form.specs.Form.{plan_length}
use Rattle.mapping.specs.Words.{way_of}
use Rattle.mapping.specs.Kept.{record_length}
use Rattle.soundness.specs.Kept.{plans_kept_from}
use Rattle.soundness.proofs.kept.are_kept.Given as goal

abbrev pub invariant-loop : goal.invariant-loop
invariant-loop l =
    (plans_kept_from (each_way - l.counter) (way_of l.transmit) l.plan l.map l.state l.d
    ≡ plans_kept_from each_way (way_of l.transmit) l.plans l.maps l.state l.d)
    × ((l.plan ≡ l.plans + plan_length * l.counter) × ((l.map ≡ l.maps + record_length * l.counter) × (l.counter ≤ each_way)))
