-- Byte by byte. Assumes nothing.
use borrow.Author.Rules.{rules}
use Rattle.soundness.proofs.Receipts.{receipt_tested}
use Rattle.soundness.proofs.transfers.is_receipt_sound.Goals as goal

pub returns : goal.returns
returns c =
    rw (
      receipt_tested c.args.g,
      ← c.counted_or_zero.ensures,
      ← c.counted_or_zero-2.ensures,
      ← c.counted_or_zero-3.ensures,
      ← c.counted_or_zero-4.ensures,
    )
    (search rules)
