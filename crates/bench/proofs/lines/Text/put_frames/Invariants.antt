-- `put_frames` meets its contract. The loop's invariant: the longest line, at most, for each frame that has been laid.
-- Assumes nothing.
use Rattle.std.proofs.Common.{◌+◌, ◌*◌, ◌≤◌}
use Rattle.bench.specs.Text.{longest_frame}
use Rattle.bench.proofs.lines.Text.put_frames.Given as goal

abbrev pub invariant-loop-n : goal.invariant-loop-n
invariant-loop-n l = l.self.end ≤ l.initial.self.end + longest_frame * l.n
