use mathlib.Core.Bool.{and-true}
use Rattle.soundness.specs.Rows.{tests}
use Rattle.soundness.proofs.rows.node_legal.Goals as goal

pub returns : goal.returns
unfolding tests
returns c = rw and-true (cc)
