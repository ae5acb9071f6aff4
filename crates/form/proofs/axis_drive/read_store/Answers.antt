use Rattle.std.proofs.Common.{rules}
use Rattle.form.specs.Form.{store_at}
use Rattle.form.proofs.axis_drive.read_store.Goals as goal

pub returns-in_default : goal.returns-in_default
unfolding store_at
returns-in_default c = search rules

pub returns-in-0 : goal.returns-in-0
unfolding store_at
returns-in-0 c = rw c.in-0.is

pub returns-in-1 : goal.returns-in-1
unfolding store_at
returns-in-1 c = rw (c.in-1.is, c.read4.ensures)

pub returns-in-2 : goal.returns-in-2
unfolding store_at
returns-in-2 c = rw (c.in-2.is, c.read_set_point.ensures)
