-- `soundness::waiting::is_count_sound` meets its contract. Assumes nothing.
use mathlib.Core.Path.{sym, ◌∙◌}
use native.Mathlib.Omega.{arith}
use Rattle.soundness.proofs.Counting.{no_count, unworking_count, event_count, working_count}
use Rattle.soundness.proofs.waiting.is_count_sound.Goals as goal

pub returns-then-count-eq0 : goal.returns-then-count-eq0
returns-then-count-eq0 c = rw c.if-count-eq0.true (sym (no_count _ _ _))

pub returns-then-not-works : goal.returns-then-not-works
returns-then-not-works c =
    let a = c.args in
    sym (unworking_count a.m a.d.now a.p a.count c.if-count-eq0.false
    (sym c.works.ensures ∙ c.if-not-works.true))

pub returns-then-kind-gt-LAST_SYNCHRONOUS : goal.returns-then-kind-gt-LAST_SYNCHRONOUS
returns-then-kind-gt-LAST_SYNCHRONOUS c =
    let a = c.args in
    sym (event_count a.m a.d.now a.p a.count c.if-count-eq0.false
    (rw (← c.transmission_type-kind.ensures) c.if-kind-gt-LAST_SYNCHRONOUS.true))

pub returns : goal.returns
returns c =
    let a = c.args in
    let e = c.transmission_type-kind.ensures in
    rw e
    (sym (working_count a.m a.d.now a.p a.count c.if-count-eq0.false
    (sym c.works.ensures ∙ c.if-not-works.false) (rw (← e) (omega arith))))
