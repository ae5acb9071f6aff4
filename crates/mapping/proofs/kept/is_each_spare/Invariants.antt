-- `mapping::kept::is_each_spare` meets its contract. Assumes nothing.
use Prim.Native.Nat.{◌+◌, ◌*◌, ◌-◌, ◌≤◌}
use mathlib.Core.Path.{◌≡◌}
use Rattle.mapping.specs.Words.{way_of}
use Rattle.mapping.specs.Slots.{words_from}
use Rattle.mapping.specs.Kept.{spare_kept}
use Rattle.mapping.proofs.kept.is_each_spare.Given as goal

abbrev pub invariant-loop : goal.invariant-loop
invariant-loop l =
    (spare_kept (way_of l.transmit) (words_from (l.count - l.counter) l.place l.d) (words_from (l.count - l.counter) l.at l.state)
    ≡ spare_kept (way_of l.transmit) (words_from l.count l.words l.d) (words_from l.count l.moves l.state))
    × ((l.at ≡ l.moves + 4 * l.counter) × ((l.place ≡ l.words + 4 * l.counter) × (l.counter ≤ l.count)))
