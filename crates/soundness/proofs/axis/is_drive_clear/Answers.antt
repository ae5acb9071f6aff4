-- `soundness::axis::is_drive_clear` meets its contract. Assumes nothing.
use Rattle.soundness.specs.Parts.{drive_clauses}
use Rattle.soundness.proofs.axis.is_drive_clear.Goals as goal

pub returns : goal.returns
unfolding drive_clauses
returns c =
    rw (c.is_status_made.ensures, c.is_stopped-remote.ensures, c.is_mode_made.ensures)
    (rw (c.is_drive_sound.ensures, c.is_heartbeat_sound.ensures))
