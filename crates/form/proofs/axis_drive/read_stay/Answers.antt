-- `form::axis_drive::read_stay` meets its contract. Assumes nothing.
use Rattle.form.specs.Form.{state_of, drive_at}
use Rattle.form.proofs.axis_drive.read_stay.Goals as goal

pub returns : goal.returns
unfolding state_of drive_at
returns c = c.read2.ensures
