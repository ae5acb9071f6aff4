-- `soundness::identifiers::differ` meets its contract. Assumes nothing.
use borrow.Author.Rules.{rules}
use mathlib.Core.Path.{◌≡◌}
use lib.ListN.{length}
use mathlib.Core.Bool.{and-true}
use Rattle.soundness.specs.Keys.{distinct}
use Rattle.soundness.proofs.Quads.{quad}
use Rattle.soundness.proofs.identifiers.differ.Goals as goal

pub returns : goal.returns
unfolding distinct
returns c =
    let k : length c.args.k ≡ 4 = search rules in
    rw (quad c.args.k k) (simp and-true)
