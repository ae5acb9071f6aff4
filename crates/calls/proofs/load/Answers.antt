-- `calls::load` meets its contract. Assumes nothing.
use Prim.Native.Nat.{ℕ}
use mathlib.Core.Path.{sym, ◌∙◌, ap}
use mathlib.Core.List.{List}
use Rattle.state.specs.declared.State.{State}
use Rattle.rules.specs.Calls.{load_answer}
use Rattle.form.specs.Holding.{Holds}
use Rattle.form.proofs.Holding.{held_state}
use Rattle.calls.specs.declared.LoadAnswer.{LoadAnswer}
use Rattle.calls.specs.Opening.{loadable_of}
use Rattle.calls.specs.Loads.{load_outcome}
use Rattle.calls.proofs.Refusals.{passes_so, loadable_in}
use Rattle.calls.proofs.Answered.{owned}
use Rattle.calls.proofs.Loading.{load_not_opened, load_answers_by}
use Rattle.calls.proofs.load.Goals as goal

pub returns-in-Err : goal.returns-in-Err
returns-in-Err c =
    let own = c.form_of-state.ensures in
    let a = c.args in
    let e = c.in-Err.ensures ∙ ap (λ (bs : List ℕ). loadable_of bs a.d.now) own.0 in
    ap (λ (x : LoadAnswer). load_outcome x a.d.now) c.load_refused.ensures
    ∙ load_not_opened a.file.now a.s a.d.now own.1 e

pub load_in-given-requires : goal.load_in-given-requires
load_in-given-requires c =
    let a = c.args in
    let own = c.form_of-state.ensures in
    let k = loadable_in _ a.d.now (passes_so (sym c.in_default.is ∙ c.loadable.ensures)) in
    record { own = owned (record { bytes = own.0; typed = own.1 }); whole = k.0; long = k.1.1.0; sound = k.1.1.1 }

pub returns : goal.returns
returns c =
    let a = c.args in
    let own = c.form_of-state.ensures in
    let held : Holds c.form_of-state.result a.s = record { bytes = own.0; typed = own.1 } in
    rw c.load_with_state.ensures (load_answers_by c.load_in-given.ensures
    ∙ ap (λ (s : State). load_answer a.file.now s a.d.now) (held_state held))
