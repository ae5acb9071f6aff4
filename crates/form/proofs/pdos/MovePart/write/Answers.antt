use Rattle.std.proofs.Common.{rules}
use Rattle.form.specs.Form.{move_form}
use Rattle.form.proofs.pdos.MovePart.write.Goals as goal

pub returns : goal.returns
unfolding move_form
returns c = (cc, record { place = search rules; size = search rules })
