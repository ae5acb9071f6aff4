-- `soundness::identifiers::apart` meets its contract. Assumes nothing.
use borrow.Author.Rules.{rules}
use mathlib.Core.Path.{◌≡◌}
use lib.ListN.{length}
use mathlib.Core.Bool.{and-true}
use Rattle.soundness.proofs.Quads.{quad}
use Rattle.soundness.proofs.identifiers.apart.Goals as goal

pub returns : goal.returns
returns c =
    let k : length c.args.k ≡ 4 = search rules in
    rw (c.none_is.ensures, c.none_is-2.ensures, c.none_is-3.ensures, c.none_is-4.ensures) (rw (quad c.args.k k) (simp and-true))
