-- `mapping::ready::lay_values` meets its contract: what is left to lay is what was at the start. Assumes nothing.
use Rattle.mapping.proofs.Laid.{Laying}
use Rattle.mapping.proofs.ready.lay_values.Given as goal

abbrev pub invariant-loop : goal.invariant-loop
invariant-loop l = Laying l.d l.initial.state l.state l.first l.plan l.spot l.at l.counter
