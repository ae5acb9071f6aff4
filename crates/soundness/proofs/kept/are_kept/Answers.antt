use Prim.Native.Nat.{◌+◌, ◌-◌}
use mathlib.Core.Path.{◌≡◌, refl, sym, ◌∙◌}
use native.Mathlib.Omega.{arith}
use borrow.Author.Rules.{rules}
use Rattle.rules_dictionary.specs.Table.{each_way}
use Rattle.mapping.specs.Words.{way_of}
use Rattle.soundness.proofs.Every.{plans_step, plans_end}
use Rattle.soundness.proofs.kept.are_kept.Goals as goal

pub loop-init : goal.loop-init
loop-init c = (refl, search rules)

pub returns-then-not-is_plan_kept : goal.returns-then-not-is_plan_kept
returns-then-not-is_plan_kept c =
    let l = c.loop in
    let a = c.args in
    let e = plans_step (way_of a.transmit) a.state.now a.d.now (each_way - l.counter) l.plan l.map (omega arith) in
    sym (sym l.invariant.0 ∙ e ∙ rw (sym c.is_plan_kept.ensures ∙ c.if-not-is_plan_kept.true))

pub loop-preserved : goal.loop-preserved
loop-preserved c =
    let l = c.loop in
    let a = c.args in
    let e = plans_step (way_of a.transmit) a.state.now a.d.now (each_way - l.counter) l.plan l.map (omega arith) in
    let z : each_way - (l.counter + 1) ≡ each_way - l.counter - 1 = omega arith in
    (sym (e ∙ rw (sym c.is_plan_kept.ensures ∙ c.if-not-is_plan_kept.false, z)) ∙ l.invariant.0, search rules)

pub returns : goal.returns
returns c =
    let l = c.loop in
    let a = c.args in
    sym (plans_end (way_of a.transmit) a.state.now a.d.now (each_way - l.counter) l.plan l.map (omega arith)) ∙ l.invariant.0
