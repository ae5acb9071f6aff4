-- `soundness::identifiers::are_legal` meets its contract. Assumes nothing.
use borrow.Author.Rules.{rules}
use mathlib.Core.Path.{◌≡◌}
use lib.ListN.{length, get_or}
use Rattle.soundness.proofs.KeyMeaning.{all_legal}
use Rattle.soundness.proofs.Quads.{quad}
use Rattle.soundness.proofs.identifiers.are_legal.Goals as goal

pub returns : goal.returns
returns c =
    let k : length c.args.k ≡ 4 = search rules in
    let o : length c.args.others ≡ 4 = search rules in
    rw (quad c.args.k k, quad c.args.others o) (all_legal (get_or c.args.k 0 0) (get_or c.args.k 1 0) (get_or c.args.k 2 0) (get_or c.args.k 3 0)
    (get_or c.args.others 0 0) (get_or c.args.others 1 0) (get_or c.args.others 2 0) (get_or c.args.others 3 0))
