-- `rpdo::dropping::refused` meets its contract. Assumes nothing.
use Rattle.rpdo.proofs.Leaving.{left_said}
use Rattle.rpdo.proofs.dropping.refused.Goals as goal

pub emergency-frames-requires : goal.emergency-frames-requires
emergency-frames-requires c =
    let k = c.requires in
    rw c.read_node.ensures (k.long, (k.room, k.id))

pub returns : goal.returns
returns c =
    rw c.nothing_done.ensures
    (left_said c.args.code c.requires.own (rw c.read_node.ensures at c.emergency-frames.ensures))
