use Prim.Native.Nat.{◌*◌}
use native.Mathlib.Omega.{arith}
use mathlib.Core.Path.{◌≡◌}
use Rattle.rules_dictionary.specs.Table.{each_way}
use Rattle.rules_dictionary.specs.Plans.{plans_of}
use Rattle.mapping.proofs.Filling.{filled, none_filled, one_filled}
use Rattle.mapping.proofs.afresh.all_plans.Goals as goal

pub loop-p-init : goal.loop-p-init
loop-p-init c = (none_filled _ _, omega arith)

pub plan_of-requires : goal.plan_of-requires
plan_of-requires c = let g = c.requires in (g.0, (omega arith, g.1 _ (omega arith)))

pub loop-p-preserved : goal.loop-p-preserved
loop-p-preserved c =
    let l = c.loop-p in
    (one_filled _ l.p _ l.plans _ l.invariant.0 c.plan_of.ensures, omega arith)

pub returns : goal.returns
unfolding filled plans_of
returns c =
    let l = c.loop-p in
    let all : l.p ≡ 2 * each_way = omega arith in
    rw all at l.invariant.0
