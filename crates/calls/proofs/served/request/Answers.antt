-- `calls::served::request` meets its contract. Assumes nothing.
use mathlib.Core.Path.{sym, ◌∙◌, ap}
use Rattle.state.specs.declared.Node.{Node}
use Rattle.state.specs.NmtStates.{is_stopped}
use Rattle.form.specs.Form.{state_of}
use Rattle.rpdo.proofs.Leaving.{renamed, left_still}
use Rattle.calls.proofs.Serving.{lent_all, request_served, request_stopped, request_short}
use Rattle.calls.proofs.served.request.Goals as goal

pub returns-then-is_stopped : goal.returns-then-is_stopped
returns-then-is_stopped c =
    let a = c.args in
    let own = ap (λ (n : Node). is_stopped n.nmt) (sym c.read_node.ensures) in
    renamed (request_stopped a.content (state_of a.state.now) a.d.now c.requires.1
    (own ∙ sym c.is_stopped.ensures ∙ c.if-is_stopped.true)) (left_still c.requires.0.own c.nothing_done.ensures)

pub returns-then-content-ne-REQUEST_LENGTH : goal.returns-then-content-ne-REQUEST_LENGTH
returns-then-content-ne-REQUEST_LENGTH c =
    let a = c.args in
    renamed (request_short a.content (state_of a.state.now) a.d.now c.requires.1 c.if-content-ne-REQUEST_LENGTH.true)
    (left_still c.requires.0.own c.nothing_done-then-content-ne-REQUEST_LENGTH.ensures)

pub serve-requires : goal.serve-requires
serve-requires c =
    lent_all c.requires.0

pub returns : goal.returns
returns c =
    let a = c.args in
    let own = ap (λ (n : Node). is_stopped n.nmt) (sym c.read_node.ensures) in
    renamed (request_served a.content (state_of a.state.now) a.d.now c.requires.1
    (own ∙ sym c.is_stopped.ensures ∙ c.if-is_stopped.false) c.if-content-ne-REQUEST_LENGTH.false) c.serve.ensures
