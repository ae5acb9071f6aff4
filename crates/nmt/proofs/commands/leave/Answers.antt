-- `nmt::commands::leave` meets its contract. Assumes nothing.
use Rattle.nmt.proofs.commands.leave.Goals as goal

pub returns : goal.returns
returns c =
    λ s h. c.put_none_held.ensures _ (c.enter.ensures s h)
