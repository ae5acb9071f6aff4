-- `soundness::axis::is_taken_in_place` meets its contract. Assumes nothing.
use Rattle.rules.specs.Sound.{taken_in_place}
use Rattle.soundness.proofs.axis.is_taken_in_place.Goals as goal

pub returns : goal.returns
unfolding taken_in_place
returns c = rw (← c.control_word.ensures, c.has.ensures)
