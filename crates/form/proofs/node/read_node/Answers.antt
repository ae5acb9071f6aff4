use Rattle.form.specs.Form.{state_of, node_at}
use Rattle.form.proofs.node.read_node.Goals as goal

pub returns : goal.returns
unfolding state_of node_at
returns c = rw (c.read2.ensures, c.flag_of.ensures, c.nmt_of.ensures)
