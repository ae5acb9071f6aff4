-- `cendurak::cendurak_power_up` meets its contract. Assumes nothing.
use Prim.Native.Nat.{ℕ}
use mathlib.Core.Path.{sym, ◌∙◌, ap}
use borrow.Author.Tests.{eq-eqb}
use Rattle.rules.specs.Calls.{power_up_call}
use Rattle.form.specs.Form.{state_of, state_length}
use Rattle.calls.proofs.Refusals.{passes_so}
use Rattle.cendurak.specs.Boundary.{left}
use Rattle.cendurak.proofs.Ways.{not_powered, no_room_for_state, powered, made}
use Rattle.cendurak.proofs.cendurak_power_up.Goals as goal

pub returns-in-Err : goal.returns-in-Err
returns-in-Err c =
    let e = c.in-Err.ensures in
    let a = c.args in
    ap (λ (k : ℕ). left k a.state.now a.dict.now a.out.now) c.refused.ensures
    ∙ not_powered a.n a.state.now a.dict.now a.out.now e

pub returns-then-state-ne-STATE_LENGTH : goal.returns-then-state-ne-STATE_LENGTH
returns-then-state-ne-STATE_LENGTH c =
    let a = c.args in
    ap (λ (k : ℕ). left k a.state.now a.dict.now a.out.now) c.refused-then-state-ne-STATE_LENGTH.ensures
    ∙ no_room_for_state a.n a.state.now a.dict.now a.out.now (passes_so (sym c.in_default.is ∙ c.powering.ensures))
    c.if-state-ne-STATE_LENGTH.true

pub power_up_in-requires : goal.power_up_in-requires
power_up_in-requires c = (
  c.if-state-ne-STATE_LENGTH.false,
  passes_so (sym c.in_default.is ∙ c.powering.ensures),
)

pub returns : goal.returns
returns c =
    let a = c.args in
    let clear = passes_so (sym c.in_default.is ∙ c.powering.ensures) in
    made (power_up_call a.n) a.state.now a.dict.now a.out.now (eq-eqb _ state_length c.if-state-ne-STATE_LENGTH.false)
    (powered a.n a.state.now a.dict.now a.out.now clear) _ _ _ _ _
    (c.power_up_in.ensures (state_of a.state.now)) c.told.ensures
