-- `events::telling::told_fault` meets its contract: the code is not 0. Assumes nothing.
use Rattle.std.proofs.Common.{◌≡◌, length, arith}
use borrow.Author.Tests.{eq-eqb}
use Rattle.rules_services.specs.Events.{event_of}
use Rattle.events.proofs.Well.{then_provided}
use Rattle.events.proofs.telling.told_fault.Goals as goal

pub returns : goal.returns
unfolding event_of
returns c =
    let three : length c.args.arguments.now ≡ 3 = omega (arith, c.in-len3.len_at_least, c.in-len3.len_below) in
    rw (c.then_some.ensures, then_provided, c.read2-code.ensures, eq-eqb _ _ three)
