use Rattle.form.proofs.Holding.{put_paces_lem}
use Rattle.form.proofs.putting.put_paces.Goals as goal

pub returns : goal.returns
returns c =
    let w = c.write_row.ensures in
    λ s h. rw w.0 (put_paces_lem h _ w.1)
