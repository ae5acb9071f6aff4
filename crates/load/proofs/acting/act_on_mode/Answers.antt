-- Where 6060h was written, or not. Assumes nothing.
use Rattle.std.proofs.Common.{◌≡◌, ap, ◌∙◌}
use Rattle.state.specs.declared.State.{State}
use Rattle.drive.specs.SetPoints.{mode_written}
use Rattle.form.proofs.Holding.{held_state}
use Rattle.load.proofs.acting.act_on_mode.Goals as goal

pub returns-then-written : goal.returns-then-written
returns-then-written c s h =
    let a = c.args in
    let is : c.mode_written.result ≡ mode_written a.d.now s.axis.drive =
    c.mode_written.ensures ∙ ap (mode_written a.d.now) (c.read_drive-drive.ensures ∙ ap (λ (u : State). u.axis.drive) (held_state h)) in
    rw (c.if-written.true, ← is) (c.put_drive.ensures s h)

pub returns-else-written : goal.returns-else-written
returns-else-written c = λ s h. rw c.if-written.false h
