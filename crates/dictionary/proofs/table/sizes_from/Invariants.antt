-- The sum so far, and what is left of it. Assumes nothing.
use Prim.Native.Nat.{◌≤◌, ◌+◌, ◌-◌, ◌*◌}
use mathlib.Core.Path.{◌≡◌}
use Rattle.rules_dictionary.specs.Table.{entries}
use Rattle.dictionary.specs.Lines.{sizes_from}
use Rattle.dictionary.proofs.table.sizes_from.Given as goal

abbrev pub invariant-loop-k : goal.invariant-loop-k
invariant-loop-k l =
    (l.bytes + sizes_from l.rows l.k (l.last - l.k) ≡ sizes_from l.rows l.first (l.last - l.first))
    × (l.bytes + 7 * (l.last - l.k) ≤ 7 * entries)
