-- `calls::content_of` meets its contract. Assumes nothing.
use Rattle.calls.proofs.Telling.{laid_over}
use Rattle.calls.proofs.content_of.Goals as goal

pub returns : goal.returns
returns c = rw c.copy_from_slice.ensures.after (laid_over c.args.bytes.now c.requires)
