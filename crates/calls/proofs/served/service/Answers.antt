-- `calls::served::service` meets its contract. Assumes nothing.
use Prim.Native.Nat.{◌+◌}
use mathlib.Core.Path.{sym, ◌∙◌, ap}
use Rattle.state.specs.declared.Node.{Node}
use Rattle.rules_services.specs.Sdo.{request_base}
use Rattle.form.specs.Form.{state_of}
use Rattle.rpdo.proofs.Leaving.{renamed}
use Rattle.calls.proofs.Serving.{kept, serviced_sync, serviced_request, serviced_received, sync_is}
use Rattle.calls.proofs.served.service.Goals as goal

pub returns-then-identifier-eq-SYNC : goal.returns-then-identifier-eq-SYNC
returns-then-identifier-eq-SYNC c =
    let a = c.args in
    let s = state_of a.state.now in
    renamed (serviced_sync a.content s a.d.now a.identifier c.if-identifier-eq-SYNC.true
    ∙ sync_is a.content s a.d.now c.requires.1.0) c.sync.ensures

pub returns-then-identifier-node : goal.returns-then-identifier-node
returns-then-identifier-node c =
    let a = c.args in
    let own = ap (λ (n : Node). request_base + n.id) c.read_node-node.ensures in
    renamed (serviced_request a.content (state_of a.state.now) a.d.now a.identifier c.if-identifier-eq-SYNC.false
    (c.if-identifier-node.true ∙ own)) c.request.ensures

pub returns : goal.returns
returns c =
    let a = c.args in
    let own = ap (λ (n : Node). request_base + n.id) c.read_node-node.ensures in
    renamed (serviced_received a.content (state_of a.state.now) a.d.now a.identifier c.if-identifier-eq-SYNC.false
    (λ e. c.if-identifier-node.false (e ∙ sym own))) c.receive.ensures

pub sync-requires : goal.sync-requires
sync-requires c = kept c.requires.0

pub receive-requires : goal.receive-requires
receive-requires c =
    let p = c.requires in (
      kept
          p.0,
      p.1.0.shape,
    )
