-- `cendurak::cendurak_event` meets its contract. Assumes nothing.
use Prim.Native.Nat.{ℕ}
use native.Mathlib.Omega.{arith}
use mathlib.Core.Path.{sym, ◌∙◌, ap}
use Rattle.rules.specs.Calls.{event_call}
use Rattle.form.proofs.OneForm.{form_state_of}
use Rattle.form.proofs.Holding.{holds_own}
use Rattle.calls.proofs.Refusals.{passes_so, opened_in}
use Rattle.cendurak.specs.Boundary.{left}
use Rattle.cendurak.proofs.Ways.{event_not_opened, made, as_given, a_form}
use Rattle.cendurak.proofs.cendurak_event.Goals as goal

pub returns-in-Err : goal.returns-in-Err
returns-in-Err c =
    let e = c.in-Err.ensures in
    let a = c.args in
    ap (λ (k : ℕ). left k a.state.now a.dict.now a.out.now) c.refused.ensures
    ∙ event_not_opened a.number a.arguments.now a.state.now a.dict.now a.out.now e

pub event_in-requires : goal.event_in-requires
event_in-requires c =
    let a = c.args in
    let k = opened_in a.state.now a.dict.now a.out.now
    (passes_so (sym c.in_default.is ∙ c.opened.ensures)) in
    record {
      own = holds_own a.state.now (λ i. omega (arith, c.slice_known-1.given i)) k.1.0;
      whole = k.0;
      stands = k.1.1;
    }

pub returns : goal.returns
returns c =
    let a = c.args in
    let k = opened_in a.state.now a.dict.now a.out.now
    (passes_so (sym c.in_default.is ∙ c.opened.ensures)) in
    let call = event_call a.number a.arguments.now in
    made call a.state.now a.dict.now a.out.now (a_form a.state.now k.0 k.1.0)
    (as_given call a.state.now a.dict.now a.out.now (form_state_of a.state.now k.1.0)) _ _ _ _ _
    c.event_in.ensures c.told.ensures
