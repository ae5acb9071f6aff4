use Rattle.std.proofs.Common.{add-one}
use Rattle.form.specs.Form.{pace_form}
use Rattle.form.proofs.pdos.PacePart.write.Goals as goal

pub returns : goal.returns
unfolding pace_form
returns c = (rw (c.flag_number.ensures, add-one), tt)
