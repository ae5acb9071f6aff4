-- `calls::served::serve_frame` meets its contract. Assumes nothing.
use Rattle.form.specs.Form.{state_of}
use Rattle.rpdo.proofs.Leaving.{renamed}
use Rattle.calls.proofs.Serving.{commandable, framed_nmt, framed_serviced}
use Rattle.calls.proofs.served.serve_frame.Goals as goal

pub returns-then-identifier-eq-NMT : goal.returns-then-identifier-eq-NMT
returns-then-identifier-eq-NMT c =
    let a = c.args in
    renamed (framed_nmt a.content (state_of a.state.now) a.d.now a.identifier c.if-identifier-eq-NMT.true)
    c.nmt_frame.ensures

pub returns : goal.returns
returns c =
    let a = c.args in
    renamed (framed_serviced a.content (state_of a.state.now) a.d.now a.identifier c.if-identifier-eq-NMT.false)
    c.service.ensures

pub nmt_frame-requires : goal.nmt_frame-requires
nmt_frame-requires c = let p = c.requires in (commandable p.0, p.1)
