-- `nmt::commands::command` meets its contract. Assumes nothing.
use borrow.Author.Tests.{ne_eqb}
use Rattle.rules_services.specs.Nmt.{command_of, commanded, left, voltage_disabled}
use Rattle.form.specs.Form.{state_of}
use Rattle.nmt.proofs.Commanding.{operational, restated}
use Rattle.nmt.proofs.commands.command.Goals as goal

pub returns-then-is_pre_operational : goal.returns-then-is_pre_operational
unfolding command_of commanded
returns-then-is_pre_operational c =
    let s = state_of c.args.state.now in
    let is = rw c.read_node.ensures at c.is_pre_operational.ensures in
    rw (c.nothing_done-then-is_pre_operational.ensures, c.in-128.is) (rw (← is, c.if-is_pre_operational.true) (restated s s _ _ c.requires.lent.own))

pub returns-in-1 : goal.returns-in-1
unfolding command_of
returns-in-1 c =
    let s = state_of c.args.state.now in
    rw (c.nothing_done.ensures, c.in-1.is, operational) (restated s _ _ _ (c.enter.ensures s c.requires.lent.own))

pub returns-in-2 : goal.returns-in-2
unfolding command_of commanded left voltage_disabled
returns-in-2 c =
    let s = state_of c.args.state.now in
    rw (c.nothing_done-in-2.ensures, c.in-2.is)
    (restated s _ _ _ (c.put_no_transfer.ensures _ (c.leave.ensures _ (c.disable_voltage.ensures s c.requires.lent.own))))

pub returns-else-is_pre_operational : goal.returns-else-is_pre_operational
unfolding command_of commanded left
returns-else-is_pre_operational c =
    let s = state_of c.args.state.now in
    let is = rw c.read_node.ensures at c.is_pre_operational.ensures in
    rw (c.nothing_done-in-128.ensures, c.in-128.is)
    (rw (← is, c.if-is_pre_operational.false) (restated s _ _ _ (c.leave-in-128.ensures s c.requires.lent.own)))

pub returns-in-129 : goal.returns-in-129
unfolding command_of
returns-in-129 c =
    rw c.in-129.is c.restart.ensures

pub returns-in-130 : goal.returns-in-130
unfolding command_of
returns-in-130 c =
    rw c.in-130.is c.reset_communication.ensures

pub returns-in_default : goal.returns-in_default
unfolding command_of commanded
returns-in_default c =
    let k = c.in_default.in_default-own.rest in
    let s = state_of c.args.state.now in
    rw (c.nothing_done-in_default.ensures, ne_eqb _ _ k.0.0.0.0.1, ne_eqb _ _ k.0.0.0.1, ne_eqb _ _ k.0.0.1)
    (rw (ne_eqb _ _ k.0.1, ne_eqb _ _ k.1) (restated s s _ _ c.requires.lent.own))
