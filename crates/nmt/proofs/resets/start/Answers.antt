-- `nmt::resets::start` meets its contract. Assumes nothing.
use Rattle.nmt.proofs.Commanding.{starts}
use Rattle.nmt.proofs.resets.start.Goals as goal

pub returns : goal.returns
returns c =
    rw c.nothing_done.ensures (starts _ _ _ _ _ c.write_defaults.ensures c.boot_up.ensures)
