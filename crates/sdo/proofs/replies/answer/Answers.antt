-- The transfer put, and the rest said. Assumes nothing.
use Rattle.sdo.proofs.Answering.{spoken}
use Rattle.sdo.proofs.replies.answer.Goals as goal

pub returns : goal.returns
returns c = spoken c.requires.own c.put_transfer.ensures (rw c.read_node-node.ensures at c.say_alone.ensures)
