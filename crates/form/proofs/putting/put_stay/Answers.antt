use Rattle.std.proofs.Common.{rules}
use Rattle.form.proofs.Holding.{put_stay_lem}
use Rattle.form.proofs.putting.put_stay.Goals as goal

pub returns : goal.returns
returns c = λ s h. rw c.write2.ensures (put_stay_lem h _ (search rules))
