-- `emergency::acting::mode_acted` meets its contract. Assumes nothing.
use Rattle.emergency.proofs.Written.{mode_acts_lem}
use Rattle.emergency.proofs.acting.mode_acted.Goals as goal

pub returns-then-written : goal.returns-then-written
returns-then-written c =
    let a = c.args in
    mode_acts_lem a.written a.drive _ a.d.now c.if-written.true c.mode_written.ensures
