-- Those that are left, from this place on, come to what all of them come to. Assumes nothing.
use Rattle.std.proofs.Common.{◌≡◌, ◌+◌, ◌-◌, true, length, drop}
use Rattle.rules_dictionary.specs.Table.{dictionary_length}
use Rattle.files.specs.ConciseDcf.{reading, is_whole, entries_of, entries_in, count_in}
use Rattle.load.specs.Trying.{nothing_tried, entries_tried}
use Rattle.load.proofs.trying.try_entries.Given as goal

abbrev pub invariant-loop : goal.invariant-loop
invariant-loop l =
    (entries_tried (entries_of (reading (l.end - l.counter) (drop l.at l.file))) l.tally l.d
    ≡ entries_tried (entries_in l.file) nothing_tried l.initial.d)
    × ((is_whole (reading (l.end - l.counter) (drop l.at l.file)) ≡ true)
    × ((l.tally.tried + (l.end - l.counter) ≡ count_in l.file) × (length l.d ≡ dictionary_length)))
