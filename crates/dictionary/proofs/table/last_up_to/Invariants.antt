-- The invariant of the halving: the row of the rank is not above the key, unless it is the first; the row that many ranks on is, unless
-- none is there. Assumes nothing.
use Prim.Native.Nat.{◌≤◌, ◌<◌, ◌+◌}
use Rattle.rules_dictionary.specs.Table.{entries, row_at, key}
use Rattle.dictionary.proofs.Lines.{Power}
use Rattle.dictionary.proofs.table.last_up_to.Given as goal

abbrev pub invariant-loop-width : goal.invariant-loop-width
invariant-loop-width l =
    (l.rank < entries) × ((0 < l.rank → key (row_at l.rank) ≤ l.key)
    × ((l.rank + l.width < entries → l.key < key (row_at (l.rank + l.width))) × (Power l.width × (l.width ≤ 128))))

abbrev pub decreases-loop-width : goal.decreases-loop-width
decreases-loop-width l = l.width
