-- `main` is safe and ends. The loop's invariant: what is kept is within the input, as a batch asks.
-- Assumes nothing.
use Rattle.std.proofs.Common.{◌≤◌}
use Rattle.bench.specs.Text.{input_length}
use Rattle.bench.proofs.main.Given as goal

abbrev pub invariant-loop : goal.invariant-loop
invariant-loop l = l.place.kept ≤ input_length
