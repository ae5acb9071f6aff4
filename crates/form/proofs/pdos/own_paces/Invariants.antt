use Rattle.std.proofs.Common.{◌+◌, get_or}
use Rattle.form.specs.Form.{due_offset, pace_length, paces_place}
use Rattle.form.specs.Own.{own_flag}
use Rattle.form.proofs.Tested.{Tested}
use Rattle.form.proofs.pdos.own_paces.Given as goal

abbrev pub invariant-loop-k : goal.invariant-loop-k
invariant-loop-k l = Tested (λ i. own_flag (get_or l.bytes (i + due_offset) 0)) paces_place pace_length l.own l.k
