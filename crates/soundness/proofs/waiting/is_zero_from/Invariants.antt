-- `soundness::waiting::is_zero_from` meets its contract. Assumes nothing.
use mathlib.Core.Path.{◌≡◌}
use Rattle.soundness.specs.Waiting.{zero_from}
use Rattle.soundness.proofs.waiting.is_zero_from.Given as goal

abbrev pub invariant-loop-k : goal.invariant-loop-k
invariant-loop-k l = zero_from l.k l.content ≡ zero_from l.first l.content
