use Rattle.std.proofs.Common.{rules}
use Rattle.form.specs.Form.{state_of, transfer_at}
use Rattle.form.proofs.transfers.read_transfer.Goals as goal

pub returns-in_default : goal.returns-in_default
unfolding state_of transfer_at
returns-in_default c = search rules

pub returns-in-0 : goal.returns-in-0
unfolding state_of transfer_at
returns-in-0 c = rw c.in-0.is

pub returns-in-1 : goal.returns-in-1
unfolding state_of transfer_at
returns-in-1 c = rw c.in-1.is
