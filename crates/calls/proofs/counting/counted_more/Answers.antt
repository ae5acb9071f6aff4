-- `calls::counting::counted_more` meets its contract. Assumes nothing.
use mathlib.Core.Path.{◌∙◌, ap}
use Rattle.drive.specs.Window.{one_more}
use Rattle.form.specs.Form.{state_of}
use Rattle.calls.proofs.Counted.{counted_more_lem}
use Rattle.calls.proofs.counting.counted_more.Goals as goal

pub returns : goal.returns
returns c =
    let a = c.args in
    let is = c.read_stay-before.ensures in
    c.one_more.ensures ∙ ap one_more is
    ∙ counted_more_lem (state_of a.state.now).axis.drive a.d.now c.requires.sound (λ e. c.if-before-eq0.false (is ∙ e))
