use Prim.Native.Nat.{◌+◌, ◌*◌, ◌≤◌}
use mathlib.Core.Path.{◌≡◌}
use lib.ListN.{length}
use Rattle.mapping.specs.Words.{way_of}
use Rattle.mapping.specs.Slots.{moves_named}
use Rattle.mapping.proofs.plans.moves_of.Given as goal

abbrev pub invariant-loop-k : goal.invariant-loop-k
invariant-loop-k l =
    (l.moves ≡ moves_named (way_of l.transmit) l.k l.first l.d) × ((l.k ≤ l.count) × ((l.at ≡ l.first + 4 * l.k) × (length l.moves ≡ 8)))
