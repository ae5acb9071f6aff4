-- `calls::frame` meets its contract. Assumes nothing.
use Prim.Native.Nat.{ℕ}
use mathlib.Core.Path.{refl, sym, ◌∙◌, ap}
use mathlib.Core.List.{List}
use Rattle.state.specs.declared.Answer.{Answer}
use Rattle.state.specs.declared.State.{State}
use Rattle.rules.specs.Calls.{frame_call, answer}
use Rattle.form.specs.Holding.{Holds}
use Rattle.form.proofs.Holding.{held_state}
use Rattle.calls.specs.Opening.{opening_of}
use Rattle.calls.specs.Answers.{outcome}
use Rattle.calls.proofs.Refusals.{passes_so, not_opened, opens_form, opened_in, unsound_frame}
use Rattle.calls.proofs.Answered.{answers_by, owned}
use Rattle.calls.proofs.frame.Goals as goal

pub returns-in-Err : goal.returns-in-Err
returns-in-Err c =
    let own = c.form_of-state.ensures in
    let a = c.args in
    let e = c.in-Err.ensures ∙ ap (λ (bs : List ℕ). opening_of bs a.d.now a.output.now) own.0
    ∙ opens_form a.s a.d.now a.output.now own.1 in
    ap (λ (x : Answer). outcome x a.d.now a.output.now) c.refuse.ensures
    ∙ not_opened (frame_call a.identifier a.bytes.now) a.s a.d.now a.output.now refl
    (unsound_frame a.identifier a.bytes.now a.s a.d.now) e

pub frame_in-given-requires : goal.frame_in-given-requires
frame_in-given-requires c =
    let a = c.args in
    let own = c.form_of-state.ensures in
    let k = opened_in _ a.d.now a.output.now
    (passes_so (sym c.in_default.is ∙ c.opened.ensures)) in
    record { own = owned (record { bytes = own.0; typed = own.1 }); whole = k.0; stands = k.1.1 }

pub returns : goal.returns
returns c =
    let a = c.args in
    let own = c.form_of-state.ensures in
    let held : Holds c.form_of-state.result a.s = record { bytes = own.0; typed = own.1 } in
    rw c.with_state.ensures (answers_by c.frame_in-given.ensures
    ∙ ap (λ (s : State). answer (frame_call a.identifier a.bytes.now) s a.d.now a.output.now) (held_state held))
