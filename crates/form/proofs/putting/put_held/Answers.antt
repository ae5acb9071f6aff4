use Rattle.form.proofs.Holding.{put_one_held}
use Rattle.form.proofs.putting.put_held.Goals as goal

pub returns : goal.returns
returns c =
    let w = c.write.ensures in
    λ s h. rw w.0 (put_one_held h c.args.p _ c.requires.1 w.1)
