-- `soundness::axis::is_drive_sound` meets its contract. Assumes nothing.
use Rattle.rules.specs.Sound.{drive_sound}
use Rattle.soundness.proofs.axis.is_drive_sound.Goals as goal

pub returns : goal.returns
unfolding drive_sound
returns c = rw (c.is_store_in_place.ensures, c.is_taken_in_place.ensures, c.is_cause_in_place.ensures)
