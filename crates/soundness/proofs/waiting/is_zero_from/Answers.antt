use mathlib.Core.Path.{refl, sym, ◌∙◌}
use borrow.Author.Rules.{rules}
use borrow.Author.Tests.{eq-eqb, ne_eqb}
use Rattle.soundness.proofs.Holding.{zero_step, zero_end}
use Rattle.soundness.proofs.waiting.is_zero_from.Goals as goal

pub loop-k-init : goal.loop-k-init
loop-k-init c = refl

pub returns-then-content-k-ne0 : goal.returns-then-content-k-ne0
returns-then-content-k-ne0 c =
    let l = c.loop-k in
    let a = c.args in
    let e = zero_step a.content l.k (search rules) in
    (sym (sym l.invariant ∙ e ∙ rw (ne_eqb _ _ c.if-content-k-ne0.true)), search rules)

pub loop-k-preserved : goal.loop-k-preserved
loop-k-preserved c =
    let l = c.loop-k in
    let a = c.args in
    let e = zero_step a.content l.k (search rules) in
    sym (e ∙ rw (eq-eqb _ _ c.if-content-k-ne0.false)) ∙ l.invariant

pub returns : goal.returns
returns c =
    let l = c.loop-k in
    (sym (zero_end c.args.content l.k (search rules)) ∙ l.invariant, search rules)
