-- The loop's invariant: what is still to be read, from this place on, is whole, and has an entry of the index where the file has one.
-- Assumes nothing.
use Rattle.std.proofs.Common.{◌≡◌, true, drop}
use Rattle.files.specs.ConciseDcf.{reading, is_whole, entries_of, entries_in}
use Rattle.files.proofs.Naming.{is_named}
use Rattle.files.proofs.Places.{left}
use Rattle.files.proofs.names.Given as goal

abbrev pub invariant-loop-entry : goal.invariant-loop-entry
invariant-loop-entry l =
    (is_whole (reading (left l.file l._entry) (drop l.at l.file)) ≡ true)
    × (is_named l.index (entries_of (reading (left l.file l._entry) (drop l.at l.file))) ≡ is_named l.index (entries_in l.file))
