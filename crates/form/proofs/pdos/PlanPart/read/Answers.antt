use Rattle.form.specs.Form.{plan_at}
use Rattle.form.proofs.pdos.PlanPart.read.Goals as goal

pub returns : goal.returns
unfolding plan_at
returns c = rw c.read_row.ensures
