-- By bits 7-5, and bit 1 of a download. Assumes nothing.
use Rattle.std.proofs.Common.{◌/◌, ◌%◌}
use borrow.Author.Rules.{rules}
use borrow.Author.Tests.{ne_eqb}
use Rattle.rules_services.specs.SdoServer.{command_of}
use Rattle.sdo.proofs.request.command_of.Goals as goal

pub returns-in_default : goal.returns-in_default
unfolding command_of
returns-in_default c =
    let k = c.args.command / 32 % 8 in
    simp (
      ne_eqb k 0 (search rules),
      ne_eqb k 1 (search rules),
      ne_eqb k 2 (search rules),
      ne_eqb k 3 (search rules),
      ne_eqb k 4 (search rules),
    )

pub returns-in-0 : goal.returns-in-0
unfolding command_of
returns-in-0 c = rw c.in-0.is

pub returns-then-command-eq1 : goal.returns-then-command-eq1
unfolding command_of
returns-then-command-eq1 c = rw (c.in-1.is, c.if-command-eq1.true)

pub returns-else-command-eq1 : goal.returns-else-command-eq1
unfolding command_of
returns-else-command-eq1 c = simp (c.in-1.is, ne_eqb (c.args.command / 2 % 2) 1 c.if-command-eq1.false)

pub returns-in-2 : goal.returns-in-2
unfolding command_of
returns-in-2 c = rw c.in-2.is

pub returns-in-3 : goal.returns-in-3
unfolding command_of
returns-in-3 c = rw c.in-3.is

pub returns-in-4 : goal.returns-in-4
unfolding command_of
returns-in-4 c = rw c.in-4.is
