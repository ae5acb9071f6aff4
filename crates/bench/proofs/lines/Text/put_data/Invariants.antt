-- `put_data` meets its contract. The loop's invariant: three characters for each byte that has been laid.
-- Assumes nothing.
use Rattle.std.proofs.Common.{◌≡◌, ◌+◌, ◌*◌}
use Rattle.bench.proofs.lines.Text.put_data.Given as goal

abbrev pub invariant-loop-byte : goal.invariant-loop-byte
invariant-loop-byte l = l.self.end ≡ l.initial.self.end + 3 * l.byte-index
