-- `soundness::rows::limits_in_order` meets its contract. Assumes nothing.
use Rattle.soundness.proofs.rows.limits_in_order.Goals as goal

pub returns : goal.returns
returns c = rw (← c.minimum_position.ensures, ← c.maximum_position.ensures) c.is_at_most.ensures
