-- `nmt::resets::renew` meets its contract. Assumes nothing.
use Rattle.rules_services.specs.Nmt.{fresh_state}
use Rattle.nmt.proofs.resets.renew.Goals as goal

pub returns : goal.returns
unfolding fresh_state
returns c =
    λ s h.
    rw (c.fresh_drive.ensures 0, c.fresh_node.ensures)
    at (c.put_none_held.ensures _ (c.put_drive.ensures _ (c.put_no_transfer.ensures _ (c.put_node.ensures s h))))
