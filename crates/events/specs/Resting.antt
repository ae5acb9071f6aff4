-- After which events nothing is left to do at the call's end.
-- Assumes nothing.
use Rattle.std.specs.Prelude.{ℕ, List, Bool, true, false}
use Rattle.state.specs.declared.State.{State}
use Rattle.rules_services.specs.declared.Event.{Event}
use Rattle.rules_services.specs.declared.Event.TheVariants.{Started, QuickStopDone, Fault, ReactionDone, Feedback, SetPointReached, Tick}
use Rattle.rules_services.specs.declared.Event.TheVariants.{CauseGone, Voltage}

-- a tick alone: the heartbeat's count is neither in the dictionary nor shown
abbrev pub is_tick : Event → State → List ℕ → Bool
is_tick Started s d = false
is_tick QuickStopDone s d = false
is_tick ReactionDone s d = false
is_tick SetPointReached s d = false
is_tick Tick s d = true
is_tick CauseGone s d = false
is_tick (Fault code register) s d = false
is_tick (Feedback at speed) s d = false
is_tick (Voltage b) s d = false
