use mathlib.Core.Bool.{not}
use native.Mathlib.Omega.{arith}
use mathlib.Core.Path.{refl, ◌∙◌, ap}
use borrow.Author.Rules.{rules}
use Rattle.rules_dictionary.specs.Table.{each_way}
use Rattle.soundness.proofs.Every.{fails, passes, ends, waits, waits_by_pdo, pace_fails, frame_tells}
use Rattle.soundness.proofs.Fresh.{plan_in_lem}
use Rattle.soundness.proofs.waiting.is_each_sound.Goals as goal

pub returns-then-not-is_pace_sound : goal.returns-then-not-is_pace_sound
returns-then-not-is_pace_sound c =
    let l = c.loop-t in
    let a = c.args in
    fails (waits a.state.now a.d.now a.m) each_way l.t l.invariant.0 c.loop-t-test.true
    (pace_fails a.state.now a.d.now a.m l.t c.is_pace_sound.ensures (ap not c.if-not-is_pace_sound.true)) refl
    ∙ waits_by_pdo a.state.now a.d.now a.m

pub is_held_sound-requires : goal.is_held_sound-requires
is_held_sound-requires c =
    let t = c.loop-t.t in
    let k = plan_in_lem c.args.state.now c.args.d.now t (omega (arith, c.loop-t-test.true)) c.requires.1.1 in
    (c.requires.0, (c.requires.1.0, (c.loop-t-test.true, k)))

pub returns-then-not-is_held_sound : goal.returns-then-not-is_held_sound
returns-then-not-is_held_sound c =
    let l = c.loop-t in
    let a = c.args in
    fails (waits a.state.now a.d.now a.m) each_way l.t l.invariant.0 c.loop-t-test.true
    (frame_tells a.state.now a.d.now a.m l.t c.is_pace_sound.ensures (ap not c.if-not-is_pace_sound.false)
    c.is_held_sound.ensures) (ap not c.if-not-is_held_sound.true)
    ∙ waits_by_pdo a.state.now a.d.now a.m

pub loop-t-preserved : goal.loop-t-preserved
loop-t-preserved c =
    let l = c.loop-t in
    let a = c.args in (
      passes (waits a.state.now a.d.now a.m) each_way l.t l.invariant.0 c.loop-t-test.true
          (frame_tells a.state.now a.d.now a.m l.t c.is_pace_sound.ensures (ap not c.if-not-is_pace_sound.false)
          c.is_held_sound.ensures) (ap not c.if-not-is_held_sound.false),
      search rules,
    )

pub returns : goal.returns
returns c =
    let l = c.loop-t in
    let a = c.args in
    ends (waits a.state.now a.d.now a.m) each_way l.t l.invariant.0 (omega arith) ∙ waits_by_pdo a.state.now a.d.now a.m

pub loop-t-init : goal.loop-t-init
loop-t-init c = (refl, search rules)
