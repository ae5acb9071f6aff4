-- `soundness::axis::is_mode_made` meets its contract. Assumes nothing.
use Rattle.soundness.proofs.axis.is_mode_made.Goals as goal

pub returns : goal.returns
returns c = rw (c.mode-asked.ensures, c.mode_display.ensures, c.number.ensures)
