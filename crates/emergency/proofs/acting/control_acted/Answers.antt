-- `emergency::acting::control_acted` meets its contract. Assumes nothing.
use mathlib.Core.Path.{refl, ◌∙◌, ap}
use mathlib.Core.Bool.{false}
use Rattle.state.specs.declared.State.{State}
use Rattle.form.proofs.Holding.{held_state}
use Rattle.output.proofs.Left.{left_as, as_effect}
use Rattle.emergency.proofs.Written.{control_resets, control_moves, reset_left}
use Rattle.emergency.proofs.acting.control_acted.Goals as goal

pub fault_reset-requires : goal.fault_reset-requires
fault_reset-requires c =
    let held = c.put_drive.ensures _ c.requires.own in
    rw (c.read_node.ensures, held_state held) (c.requires.long, (c.requires.room, c.requires.id))

pub returns-then-controlled : goal.returns-then-controlled
returns-then-controlled c =
    let held = c.put_drive.ensures _ c.requires.own in
    let node = c.read_node.ensures ∙ ap (λ (s : State). s.node) (held_state held) in
    let resets = control_resets c.args.old _ c.args.d.now _ c.control_written-controlled.ensures c.if-controlled.true in
    let left = reset_left _ held (rw node at c.fault_reset.ensures) in
    (as_effect resets left.0, left.1)

pub returns : goal.returns
returns c =
    let a = c.args in
    let held = c.put_drive.ensures _ c.requires.own in
    let moves = control_moves a.old _ a.d.now _ c.control_written-controlled.ensures c.if-controlled.false in
    rw c.nothing_done.ensures (as_effect moves (left_as _ _ false a.d.now a.output.now held), refl)
