-- What a call is to its own end: the transmit PDOs wait for SYNC, and what the node counts waits for the tick.
-- Assumes nothing.
use Rattle.std.specs.Prelude.{Bool, true, false}
use Rattle.state.specs.declared.Occasion.{Occasion}
use Rattle.state.specs.declared.Occasion.TheVariants.{Plain, Synced, Ticked}

abbrev pub is_synced : Occasion → Bool
is_synced Plain = false
is_synced Synced = true
is_synced Ticked = false

abbrev pub is_ticked : Occasion → Bool
is_ticked Plain = false
is_ticked Synced = false
is_ticked Ticked = true
