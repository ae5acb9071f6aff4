use Rattle.form.specs.Own.{head_own}
use Rattle.form.proofs.is_head_own.Goals as goal

pub returns : goal.returns
unfolding head_own
returns c = cc
