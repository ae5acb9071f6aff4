-- `nmt::commands::enter` meets its contract. Assumes nothing.
use Rattle.form.proofs.Holding.{held_state}
use Rattle.nmt.proofs.commands.enter.Goals as goal

pub returns : goal.returns
returns c =
    λ s h. rw (c.read_node-node.ensures, held_state h) at (c.put_node.ensures s h)
