-- The verdict on the words from here on, with the bits before them, is the one on them all. Assumes nothing.
use Rattle.std.proofs.Common.{◌≡◌, ◌+◌, ◌*◌, ◌≤◌}
use Rattle.rules_dictionary.specs.Table.{most_moves}
use Rattle.rules_dictionary.specs.Legal.{count_verdict}
use Rattle.mapping.specs.Slots.{words_from}
use Rattle.sdo.specs.Verdicts.{words_verdict}
use Rattle.sdo.proofs.Maps.{left}
use Rattle.sdo.proofs.mappings.words_verdict.Given as goal

abbrev pub invariant-loop-k : goal.invariant-loop-k
invariant-loop-k l =
    (words_verdict l.bits (left l.n l.k (l.first + 4 * l.k) l.d) ≡ count_verdict (words_from most_moves l.first l.d) l.n) × (l.bits ≤ 255 * l.k)
