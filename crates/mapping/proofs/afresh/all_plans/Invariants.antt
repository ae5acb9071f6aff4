-- The invariant: as many plans as are counted stand in the array.
-- Assumes nothing.
use Prim.Native.Nat.{◌*◌, ◌≤◌}
use mathlib.Core.Path.{◌≡◌}
use Rattle.rules_dictionary.specs.Table.{each_way}
use Rattle.rules_dictionary.specs.Plans.{mapped, plan_for}
use Rattle.mapping.proofs.Filling.{filled}
use Rattle.mapping.proofs.afresh.all_plans.Given as goal

abbrev pub invariant-loop-p : goal.invariant-loop-p
invariant-loop-p l = (l.plans ≡ filled (λ i. plan_for (mapped l.d i)) l.p l.initial.plans) × (l.p ≤ 2 * each_way)
