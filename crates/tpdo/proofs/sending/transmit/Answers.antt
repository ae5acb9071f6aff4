-- `tpdo::sending::transmit` meets its contract. Assumes nothing.
use Rattle.tpdo.proofs.OnePdo.{unsent, sent}
use Rattle.tpdo.proofs.sending.transmit.Goals as goal

pub returns-then-not-goes : goal.returns-then-not-goes
returns-then-not-goes c =
    let a = c.args in
    unsent a.d.now a.t _ a.output.now a.goes (c.if-not-goes.true)

pub send-requires : goal.send-requires
send-requires c =
    (c.requires.frame_size_in_bounds.0, rw c.read_ready_frame-content.ensures c.requires.frame_size_in_bounds.1.1)

pub returns : goal.returns
returns c =
    let a = c.args in
    let content = c.read_ready_frame-content.ensures in
    sent a.d.now a.t _ a.output.now a.goes (c.if-not-goes.false) _ c.identifier-word.ensures _
    (rw content at c.send.ensures)
