-- `nmt::resets::restart` meets its contract. Assumes nothing.
use Rattle.rules_services.specs.Nmt.{commanded}
use Rattle.form.specs.Form.{state_of}
use Rattle.nmt.proofs.Commanding.{started}
use Rattle.nmt.proofs.resets.restart.Goals as goal

pub start-requires : goal.start-requires
start-requires c =
    let may = c.requires in
    let is = c.read_node-node.ensures in
    record { long = may.lent.long; room = may.lent.room; first = rw is may.first; last = rw is may.lent.id }

pub returns : goal.returns
unfolding commanded
returns c =
    let s = state_of c.args.state.now in
    let is = c.read_node-node.ensures in
    started s.node.id s _ _ _ _ _ (rw is at (c.renew.ensures s c.requires.lent.own)) (rw is at c.start.ensures)
