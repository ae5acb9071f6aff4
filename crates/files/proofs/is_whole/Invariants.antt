-- The loop's invariant: what is still to be read, from this place on, is whole where the file is.
-- Assumes nothing.
use Rattle.std.proofs.Common.{◌≤◌, ◌≡◌, length, drop}
use Rattle.files.specs.ConciseDcf.{reading, is_whole, reading_of}
use Rattle.files.proofs.Places.{left}
use Rattle.files.proofs.is_whole.Given as goal

abbrev pub invariant-loop-entry : goal.invariant-loop-entry
invariant-loop-entry l = (l.at ≤ length l.file) × (is_whole (reading (left l.file l._entry) (drop l.at l.file)) ≡ is_whole (reading_of l.file))
