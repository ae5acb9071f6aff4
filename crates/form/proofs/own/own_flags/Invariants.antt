use Rattle.std.proofs.Common.{get_or}
use Rattle.form.specs.Own.{own_flag}
use Rattle.form.proofs.Tested.{Tested}
use Rattle.form.proofs.own.own_flags.Given as goal

abbrev pub invariant-loop-k : goal.invariant-loop-k
invariant-loop-k l = Tested (λ i. own_flag (get_or l.bytes i 0)) l.place 1 l.own l.k
