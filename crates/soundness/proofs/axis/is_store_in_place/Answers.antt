-- `soundness::axis::is_store_in_place` meets its contract. Assumes nothing.
use Rattle.rules.specs.Sound.{store_in_place}
use Rattle.soundness.proofs.axis.is_store_in_place.Goals as goal

pub returns : goal.returns
unfolding store_in_place
returns c = rw (c.positions.ensures, c.is_empty.ensures)
