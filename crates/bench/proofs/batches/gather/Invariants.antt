-- `gather` meets its contract. The loop's invariant: what is taken is within the input, and the text has no more than its share for each byte
-- taken. So the answer to a record that is there fits.
-- Assumes nothing.
use Rattle.std.proofs.Common.{◌*◌, ◌≤◌, length}
use Rattle.bench.specs.Text.{text_per_byte}
use Rattle.bench.proofs.batches.gather.Given as goal

abbrev pub invariant-loop-number : goal.invariant-loop-number
invariant-loop-number l = (l.taken ≤ length l.input) × (l.text.end ≤ text_per_byte * l.taken)
