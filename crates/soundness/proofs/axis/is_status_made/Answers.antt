-- `soundness::axis::is_status_made` meets its contract. Assumes nothing.
use Rattle.soundness.proofs.axis.is_status_made.Goals as goal

pub returns : goal.returns
returns c = rw (c.status_word.ensures, c.status.ensures)
