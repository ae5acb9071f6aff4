-- `mapping::kept::are_mapped` meets its contract. Assumes nothing.
use Prim.Native.Nat.{◌+◌, ◌*◌, ◌-◌, ◌≤◌}
use mathlib.Core.Path.{◌≡◌}
use Rattle.mapping.specs.Words.{way_of}
use Rattle.mapping.specs.Slots.{words_from}
use Rattle.mapping.specs.Kept.{mapped_kept}
use Rattle.mapping.proofs.kept.are_mapped.Given as goal

abbrev pub invariant-loop : goal.invariant-loop
invariant-loop l =
    (mapped_kept (way_of l.transmit) l.used (words_from (l.count - l.counter) l.place l.d) (words_from (l.count - l.counter) l.at l.state)
    ≡ mapped_kept (way_of l.transmit) 0 (words_from l.count l.words l.d) (words_from l.count l.moves l.state))
    × ((l.at ≡ l.moves + 4 * l.counter) × ((l.place ≡ l.words + 4 * l.counter) × ((l.counter ≤ l.count) × (l.used ≤ 255 * l.counter))))
