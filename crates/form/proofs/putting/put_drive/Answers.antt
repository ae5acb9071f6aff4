use Rattle.form.proofs.Holding.{put_drive_lem}
use Rattle.form.proofs.putting.put_drive.Goals as goal

pub returns : goal.returns
returns c =
    let w = c.write_drive.ensures in
    λ s h. rw w.0 (put_drive_lem h _ w.1.0 w.1.1)
