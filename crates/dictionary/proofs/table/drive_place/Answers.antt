-- Behind the rows before it, or in front of those from it on. Assumes nothing.
use mathlib.Core.Path.{refl, ap₂}
use Prim.Native.Nat.{◌+◌, ◌-◌}
use native.Mathlib.Omega.{arith}
use borrow.Author.Tests.{lt-ltb, le-ltb}
use Rattle.rules_dictionary.specs.Table.{open_table}
use Rattle.dictionary.specs.Lines.{drive_rank, middle_rank, drive_place}
use Rattle.dictionary.proofs.Lines.{left-fits}
use Rattle.dictionary.proofs.table.drive_place.Goals as goal

pub sizes_from-requires : goal.sizes_from-requires
unfolding drive_place drive_rank middle_rank open_table
sizes_from-requires c = (c.requires.0, (omega arith, omega (arith, c.requires.1)))

pub returns-then-rank-lt-MIDDLE_RANK : goal.returns-then-rank-lt-MIDDLE_RANK
unfolding drive_place drive_rank middle_rank open_table
returns-then-rank-lt-MIDDLE_RANK c = simp (lt-ltb c.args.rank middle_rank c.if-rank-lt-MIDDLE_RANK.true) (ap₂ ◌+◌ refl c.sizes_from.ensures.0)

pub sizes_from-requires-2 : goal.sizes_from-requires-2
unfolding drive_place drive_rank middle_rank open_table
sizes_from-requires-2 c = (c.requires.0, (omega (arith, c.requires.1), omega arith))

pub overflow_sub-result : goal.overflow_sub-result
unfolding drive_place drive_rank middle_rank open_table
overflow_sub-result c = omega (arith, left-fits c.args.rows.now c.args.rank c.requires.0 c.requires.1, c.sizes_from-2.ensures.0)

pub returns : goal.returns
unfolding drive_place drive_rank middle_rank open_table
returns c = simp (le-ltb c.args.rank middle_rank (omega arith)) (ap₂ ◌-◌ refl c.sizes_from-2.ensures.0)
