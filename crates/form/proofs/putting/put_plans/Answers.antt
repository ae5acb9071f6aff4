use Rattle.form.proofs.Holding.{put_plans_lem}
use Rattle.form.proofs.putting.put_plans.Goals as goal

pub returns : goal.returns
returns c =
    let w = c.write_plans.ensures in
    λ s h. rw w.0 (put_plans_lem h _ w.1)
