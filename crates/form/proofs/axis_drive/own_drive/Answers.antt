use Rattle.form.specs.Own.{drive_own}
use Rattle.form.proofs.axis_drive.own_drive.Goals as goal

pub returns : goal.returns
unfolding drive_own
returns c = cc
