-- `mapping::kept::is_frame_kept` meets its contract: what is left to compare is what was at the start. Assumes nothing.
use Rattle.mapping.proofs.Framed.{Compared}
use Rattle.mapping.proofs.kept.is_frame_kept.Given as goal

abbrev pub invariant-loop : goal.invariant-loop
invariant-loop l = Compared l.d l.state l.frame l.plan l.moves l.at l.counter
