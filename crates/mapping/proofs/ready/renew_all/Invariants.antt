-- `mapping::ready::renew_all` meets its contract: so many ready frames are worked again. Assumes nothing.
use Rattle.mapping.proofs.Renewed.{Renewing}
use Rattle.mapping.proofs.ready.renew_all.Given as goal

abbrev pub invariant-loop-t : goal.invariant-loop-t
invariant-loop-t l = Renewing l.d l.initial.state l.state l.changed l.t
