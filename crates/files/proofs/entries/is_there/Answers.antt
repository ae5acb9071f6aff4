-- Less than a head is left, or the head says how much there must be.
-- Assumes nothing.
use Rattle.std.proofs.Common.{◌∙◌, sym, ap, ℕ, ◌-◌, arith, leb, length}
use Rattle.files.specs.ConciseDcf.{head_size}
use Rattle.files.proofs.Heads.{no_head, has_head}
use Rattle.files.proofs.entries.is_there.Goals as goal

pub returns-then-room-lt-HEAD_SIZE : goal.returns-then-room-lt-HEAD_SIZE
returns-then-room-lt-HEAD_SIZE c =
    let a = c.args in
    sym (no_head a.at a.file.now (omega arith))

pub returns : goal.returns
returns c =
    let a = c.args in
    ap (λ (n : ℕ). leb n (length a.file.now - a.at - head_size)) c.size_at.ensures ∙ has_head a.at a.file.now (omega arith)
