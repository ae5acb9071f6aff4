use Rattle.form.specs.Form.{node_form}
use Rattle.std.proofs.Common.{rules}
use Rattle.form.proofs.node.write_node.Goals as goal

pub returns : goal.returns
unfolding node_form
returns c =
    (rw (c.write2.ensures, c.flag_number.ensures, c.nmt_number.ensures), search rules)
