use Rattle.form.specs.Form.{set_point_at}
use Rattle.form.proofs.axis_drive.read_set_point.Goals as goal

pub returns : goal.returns
unfolding set_point_at
returns c = rw (c.read4-4.ensures, c.read4-3.ensures, c.read4-2.ensures, c.read4.ensures)
