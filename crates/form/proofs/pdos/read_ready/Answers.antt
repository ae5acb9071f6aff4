use Rattle.form.specs.Form.{state_of}
use Rattle.form.proofs.pdos.read_ready.Goals as goal

pub returns : goal.returns
unfolding state_of
returns c = c.read_row.ensures
