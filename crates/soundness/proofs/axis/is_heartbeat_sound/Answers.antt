-- `soundness::axis::is_heartbeat_sound` meets its contract. Assumes nothing.
use Rattle.rules.specs.Sound.{heartbeat_sound}
use Rattle.soundness.proofs.axis.is_heartbeat_sound.Goals as goal

pub returns : goal.returns
unfolding heartbeat_sound
returns c = rw c.heartbeat_time.ensures
