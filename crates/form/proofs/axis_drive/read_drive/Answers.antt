use Rattle.form.specs.Form.{state_of, drive_at}
use Rattle.form.proofs.axis_drive.read_drive.Goals as goal

pub returns : goal.returns
unfolding state_of drive_at
returns c =
    rw (c.read2.ensures, c.flag_of-3.ensures, c.flag_of-2.ensures, c.flag_of.ensures)
    (rw (c.read_store.ensures, c.mode_of.ensures, c.drive_state_of.ensures))
