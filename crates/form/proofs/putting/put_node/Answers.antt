use Rattle.form.proofs.Holding.{put_node_lem}
use Rattle.form.proofs.putting.put_node.Goals as goal

pub returns : goal.returns
returns c =
    let w = c.write_node.ensures in
    λ s h. rw w.0 (put_node_lem h _ w.1)
