use Rattle.form.proofs.Holding.{put_transfer_lem}
use Rattle.form.proofs.putting.put_no_transfer.Goals as goal

pub returns : goal.returns
returns c = λ s h. rw c.write_transfer.ensures (put_transfer_lem h _)
