use mathlib.Core.Bool.{and-true, not-not}
use Rattle.soundness.specs.Rows.{tests}
use Rattle.soundness.proofs.rows.drive_legal.Goals as goal

pub returns : goal.returns
unfolding tests
returns c =
    rw (
      c.is_mode.ensures,
      c.mode.ensures,
      c.position_window.ensures,
      c.limit_count.ensures,
      c.profile_acceleration.ensures,
      c.profile_deceleration.ensures,
      c.supported_modes.ensures,
    )
    (rw (not-not, and-true))
