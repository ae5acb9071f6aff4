-- The invariant: what is left to do from transmit PDO t on is what was to do at the start, less what is done.
-- Assumes nothing.
use Rattle.state.specs.declared.NmtState.TheVariants.{Operational}
use Rattle.form.specs.Form.{state_of}
use Rattle.tpdo.proofs.Rounds.{Reached}
use Rattle.tpdo.proofs.sending.transmit_all.Given as goal

-- the loop runs in Operational alone
abbrev pub invariant-loop-t : goal.invariant-loop-t
invariant-loop-t l =
    Reached l.was l.occasion Operational l.changed l.paces l.d (state_of l.state).axis.ready l.n l.initial.output l.output l.next l.sent l.t
