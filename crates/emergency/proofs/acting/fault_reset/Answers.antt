-- `emergency::acting::fault_reset` meets its contract. Assumes nothing.
use Rattle.emergency.proofs.acting.fault_reset.Goals as goal

pub returns : goal.returns
returns c =
    let e = c.emergency-frames.ensures in
    record { done = rw (c.nothing_done.ensures, e.0); dictionary = c.set_error_register.ensures; output = e.1 }
