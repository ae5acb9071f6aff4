use Rattle.std.proofs.Common.{ap}
use Rattle.form.specs.Form.{move_of, move_at}
use Rattle.form.proofs.pdos.MovePart.read.Goals as goal

pub returns : goal.returns
unfolding move_at
returns c = ap move_of c.read4-word.ensures
