-- `calls::counting::counted` meets its contract. Assumes nothing.
use mathlib.Core.Path.{◌∙◌, sym, ap}
use Rattle.drive.specs.Window.{one_more}
use Rattle.form.specs.Form.{state_of}
use Rattle.calls.proofs.Counted.{counted_outside, counted_tick, counted_else}
use Rattle.calls.proofs.counting.counted.Goals as goal

pub returns-then-not-is_position_inside : goal.returns-then-not-is_position_inside
returns-then-not-is_position_inside c =
    let a = c.args in
    counted_outside (state_of a.state.now).axis.drive a.d.now a.ticked
    (sym c.is_position_inside.ensures ∙ c.if-not-is_position_inside.true)

pub returns-then-ticked : goal.returns-then-ticked
returns-then-ticked c =
    let a = c.args in
    c.one_more.ensures ∙ ap one_more c.read_stay-before.ensures
    ∙ counted_tick (state_of a.state.now).axis.drive a.d.now a.ticked
    (sym c.is_position_inside.ensures ∙ c.if-not-is_position_inside.false) c.if-ticked.true

pub returns-else-ticked : goal.returns-else-ticked
returns-else-ticked c =
    let a = c.args in
    c.read_stay-before.ensures
    ∙ counted_else (state_of a.state.now).axis.drive a.d.now a.ticked
    (sym c.is_position_inside.ensures ∙ c.if-not-is_position_inside.false) c.if-ticked.false
