-- `soundness::waiting::is_frame_sound` meets its contract. Assumes nothing.
use Prim.Native.Nat.{◌≤◌}
use native.Mathlib.Omega.{arith}
use mathlib.Core.Path.{sym, ◌∙◌}
use borrow.Author.Tests.{lt-leb}
use Rattle.rules_dictionary.specs.Legal.{last_synchronous}
use Rattle.rules_services.specs.PdoTraffic.{type_of}
use Rattle.form.specs.Form.{plan_in}
use Rattle.mapping.proofs.Unpacked.{legal_is, in_place}
use Rattle.soundness.proofs.Holding.{receives, held_none, held_some, held_by}
use Rattle.soundness.proofs.waiting.is_frame_sound.Goals as goal

pub returns-then-frame-eq0 : goal.returns-then-frame-eq0
returns-then-frame-eq0 c =
    let a = c.args in
    sym (held_none a.m a.d.now a.p a.frame c.if-frame-eq0.true ∙ c.requires.1.1.1.1)

pub returns-then-not-works : goal.returns-then-not-works
returns-then-not-works c =
    let a = c.args in
    sym (held_some a.m a.d.now a.p a.frame c.if-frame-eq0.false
    ∙ rw (sym c.works.ensures ∙ c.if-not-works.true))

pub returns-then-transmission_type-gt-LAST_SYNCHRONOUS : goal.returns-then-transmission_type-gt-LAST_SYNCHRONOUS
returns-then-transmission_type-gt-LAST_SYNCHRONOUS c =
    let a = c.args in
    sym (held_some a.m a.d.now a.p a.frame c.if-frame-eq0.false
    ∙ rw (sym c.works.ensures ∙ c.if-not-works.false)
    (rw (lt-leb (type_of a.d.now a.p) last_synchronous (rw (← c.transmission_type.ensures) c.if-transmission_type-gt-LAST_SYNCHRONOUS.true))))

pub is_full-requires : goal.is_full-requires
is_full-requires c =
    let a = c.args in
    in_place a.state.now a.p c.requires.0 c.requires.1.1.0
    (receives a.d.now a.p (plan_in a.state.now a.p) c.requires.1.1.0 c.requires.1.1.1.0)

pub returns-then-not-is_full : goal.returns-then-not-is_full
returns-then-not-is_full c =
    let a = c.args in
    -- the plan is the mapping's
    let r = receives a.d.now a.p (plan_in a.state.now a.p) c.requires.1.1.0 c.requires.1.1.1.0 in
    let k : type_of a.d.now a.p ≤ last_synchronous = rw (← c.transmission_type.ensures) (omega arith) in
    sym (held_by a.m a.d.now a.p a.frame c.if-frame-eq0.false
    (sym c.works.ensures ∙ c.if-not-works.false) k r
    ∙ rw (sym c.is_full.ensures ∙ c.if-not-is_full.true))

pub are_legal-requires : goal.are_legal-requires
are_legal-requires c =
    let a = c.args in
    in_place a.state.now a.p c.requires.0 c.requires.1.1.0
    (receives a.d.now a.p (plan_in a.state.now a.p) c.requires.1.1.0 c.requires.1.1.1.0)

pub returns : goal.returns
returns c =
    let a = c.args in
    -- the plan is the mapping's
    let r = receives a.d.now a.p (plan_in a.state.now a.p) c.requires.1.1.0 c.requires.1.1.1.0 in
    let k : type_of a.d.now a.p ≤ last_synchronous = rw (← c.transmission_type.ensures) (omega arith) in
    let e = c.are_legal.ensures in
    sym (held_by a.m a.d.now a.p a.frame c.if-frame-eq0.false
    (sym c.works.ensures ∙ c.if-not-works.false) k r
    ∙ rw (sym c.is_full.ensures ∙ c.if-not-is_full.false, ← legal_is r a.d.now a.frame.bytes e.1)
    (sym e.0))
