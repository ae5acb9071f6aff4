-- `calls::finishing::end_call` meets its contract. Assumes nothing.
use mathlib.Core.Path.{◌∙◌, ap}
use Rattle.state.specs.declared.State.{State}
use Rattle.form.proofs.Holding.{held_state, held_length}
use Rattle.calls.proofs.Ends.{ended, may_ready, may_send}
use Rattle.calls.proofs.finishing.end_call.Goals as goal

pub renewed-changed-requires : goal.renewed-changed-requires
renewed-changed-requires c =
    let p = c.requires in
    let s = c.settle-written.ensures in
    let made = rw (c.read_node-node.ensures, c.read_drive-drive.ensures) at s.0 in
    let written = rw (c.read_node-node.ensures, c.read_drive-drive.ensures) at s.1.0 in
    (p.0.own, may_ready p.0 p.1 _ made _ written s.1.1)

pub transmit_all-sent-requires : goal.transmit_all-sent-requires
transmit_all-sent-requires c =
    let p = c.requires in
    let made = rw (c.read_node-node.ensures, c.read_drive-drive.ensures) at c.settle-written.ensures.0 in
    let held = c.renewed-changed.ensures.holds in
    let paces = c.read_paces.ensures ∙ ap (λ (t : State). t.axis.paces) (held_state held) in
    let ready = ap (λ (t : State). t.axis.ready) (held_state held) in
    record {
      state_len = (held_length held, rw (c.read_node-node.ensures, paces) (may_send p.0 p.1 _ made _ ready));
      output_length_in_bounds = (p.0.room, p.0.few);
    }

pub returns : goal.returns
returns c =
    let p = c.requires in
    let s = c.settle-written.ensures in
    let node = c.read_node-node.ensures in
    let made = rw (node, c.read_drive-drive.ensures) at s.0 in
    let written = rw (node, c.read_drive-drive.ensures) at s.1.0 in
    let may = may_ready p.0 p.1 _ made _ written s.1.1 in
    let r = c.renewed-changed.ensures in
    let paces = c.read_paces.ensures ∙ ap (λ (t : State). t.axis.paces) (held_state r.holds) in
    let ready = ap (λ (t : State). t.axis.ready) (held_state r.holds) in
    let sent = rw (r.value, paces, node, ready) at c.transmit_all-sent.ensures in
    ended made may.plans _ _ _ _ sent (c.put_paces.ensures _ r.holds)
