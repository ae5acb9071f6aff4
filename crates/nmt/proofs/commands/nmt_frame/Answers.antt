-- `nmt::commands::nmt_frame` meets its contract. Assumes nothing.
use mathlib.Core.Path.{refl}
use mathlib.Core.Bool.{true}
use mathlib.Core.List.{[]}
use Rattle.form.specs.Form.{state_of}
use Rattle.output.proofs.Left.{left_as, calm_said, resting}
use Rattle.nmt.proofs.Commanding.{by_data}
use Rattle.nmt.proofs.commands.nmt_frame.Goals as goal

pub returns-then-is_for_node : goal.returns-then-is_for_node
returns-then-is_for_node c =
    let s = state_of c.args.state.now in
    let for-this = rw c.read_node-node.ensures at c.is_for_node.ensures in
    rw (by_data c.args.content c.requires.1.shape s, ← for-this, c.if-is_for_node.true) c.command.ensures

pub returns : goal.returns
returns c =
    let s = state_of c.args.state.now in
    let for-this = rw c.read_node-node.ensures at c.is_for_node.ensures in
    rw (c.nothing_done.ensures, by_data c.args.content c.requires.1.shape s, ← for-this, c.if-is_for_node.false)
    (left_as s s true _ _ c.requires.0.lent.own, resting s _ _ refl (calm_said s []))
