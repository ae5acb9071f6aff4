use Rattle.form.specs.Own.{node_own}
use Rattle.form.proofs.node.own_node.Goals as goal

pub returns : goal.returns
unfolding node_own
returns c = cc
