-- `soundness::axis::is_cause_in_place` meets its contract. Assumes nothing.
use Rattle.rules.specs.Sound.{cause_in_place}
use Rattle.soundness.proofs.axis.is_cause_in_place.Goals as goal

pub returns : goal.returns
unfolding cause_in_place
returns c = rw c.is_faulty.ensures
