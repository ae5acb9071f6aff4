-- `feeder::start` meets its contract. Assumes nothing.
use borrow.Author.Tests.{lt-ltb, le-ltb}
use Rattle.feeder.specs.Feeder.{started}
use Rattle.feeder.proofs.start.Goals as goal

pub returns-then-lengths-gt-MOST_LENGTHS : goal.returns-then-lengths-gt-MOST_LENGTHS
unfolding started
returns-then-lengths-gt-MOST_LENGTHS c = simp (lt-ltb _ _ c.if-lengths-gt-MOST_LENGTHS.true)

pub returns : goal.returns
unfolding started
returns c = simp (le-ltb _ _ c.if-lengths-gt-MOST_LENGTHS.false)
