-- `rpdo::receiving::received` meets its contract: the emergency is one frame at the most. Assumes nothing.
use native.Mathlib.Omega.{arith}
use mathlib.Core.Path.{◌≡◌, ◌∙◌}
use lib.ListN.{take, length-take, length-drop}
use Rattle.rules_services.specs.Emergency.{pdo_too_long}
use Rattle.form.specs.Form.{state_of}
use Rattle.mapping.proofs.Unpacked.{length_is}
use Rattle.rpdo.proofs.Leaving.{renamed}
use Rattle.rpdo.proofs.Applied.{one_frame}
use Rattle.rpdo.proofs.Frames.{lends, too_short, fits, used_data, too_long, judged_few}
use Rattle.rpdo.proofs.receiving.received.Goals as goal

pub returns-then-content-needed : goal.returns-then-content-needed
returns-then-content-needed c =
    let k = c.requires in
    renamed (too_short k.0 k.1 c.length_of-needed.ensures c.if-content-needed.true _) c.refused.ensures

pub emergency-n-requires : goal.emergency-n-requires
emergency-n-requires c =
    let k = c.requires.0.lent in
    rw c.read_node.ensures (k.long, (omega (arith, k.room), k.id))

pub overflow_mul-n : goal.overflow_mul-n
overflow_mul-n c =
    let a = c.args in
    omega (arith, c.emergency-n.ensures.0, one_frame pdo_too_long c.read_node.result a.d.now)

pub slice_bounds-judge-count : goal.slice_bounds-judge-count
slice_bounds-judge-count c =
    let few = one_frame pdo_too_long c.read_node.result c.args.d.now in
    omega (arith, c.emergency-n.auto.output, c.requires.0.lent.room, c.emergency-n.ensures.0)

pub judge-done-requires : goal.judge-done-requires
judge-done-requires c =
    let k = c.requires in
    let few = one_frame pdo_too_long c.read_node.result c.args.d.now in (
      lends k.0 (simp (length-take, length-drop) (omega (arith, c.emergency-n.auto.output, k.0.lent.room, c.emergency-n.ensures.0))),
      (
        used_data k.0 k.1 c.length_of-needed.ensures c.if-needed-content.true c.leading.ensures,
        c.length_of-needed.ensures ∙ length_is k.0.receives,
      ),
    )

pub overflow_add-done : goal.overflow_add-done
overflow_add-done c =
    let a = c.args in
    let bs = take c.length_of-needed.result c.leading.result in
    let few = one_frame pdo_too_long c.read_node.result a.d.now in
    let sent = judged_few a.p bs (state_of a.state.now) a.d.now c.requires.0.receives in
    omega (arith, c.judge-done.ensures.0.frames, c.emergency-n.ensures.0)

pub returns-then-needed-content : goal.returns-then-needed-content
returns-then-needed-content c =
    let k = c.requires in
    too_long k.0 k.1 c.length_of-needed.ensures c.if-needed-content.true c.leading.ensures
    (rw c.read_node.ensures at c.emergency-n.ensures) c.judge-done.ensures

pub judge-requires : goal.judge-requires
judge-requires c =
    let k = c.requires in
    let e : c.args.content.length ≡ c.length_of-needed.result = omega (arith, c.if-needed-content.false, c.if-content-needed.false) in
    (lends k.0 (omega (arith, k.0.lent.room)), (k.1, e ∙ c.length_of-needed.ensures ∙ length_is k.0.receives))

pub returns : goal.returns
returns c =
    let k = c.requires in
    renamed (fits k.0 k.1 c.length_of-needed.ensures (omega (arith, c.if-needed-content.false, c.if-content-needed.false)) _) c.judge.ensures

pub slice_bounds-judge-start : goal.slice_bounds-judge-start
slice_bounds-judge-start c = slice_bounds-judge-count c
