-- `events::places::is_in_place` meets its contract: the events that the drive's state or its cause allows. Assumes nothing.
use Rattle.rules_services.specs.Events.{is_in_place}
use Rattle.events.proofs.places.is_in_place.Goals as goal

pub returns-in-QuickStopDone : goal.returns-in-QuickStopDone
unfolding is_in_place
returns-in-QuickStopDone c = rw c.in-QuickStopDone.is (rw c.read_drive-drive.ensures at c.is_quick_stop.ensures)

pub returns-in-CauseGone : goal.returns-in-CauseGone
unfolding is_in_place
returns-in-CauseGone c = rw (c.in-CauseGone.is, c.read_drive-drive.ensures)
