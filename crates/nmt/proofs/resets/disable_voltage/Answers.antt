-- `nmt::resets::disable_voltage` meets its contract. Assumes nothing.
use Rattle.rules_services.specs.Nmt.{voltage_disabled}
use Rattle.form.proofs.Holding.{held_state}
use Rattle.nmt.proofs.resets.disable_voltage.Goals as goal

pub returns : goal.returns
unfolding voltage_disabled
returns c =
    λ s h.
    rw (c.enters.ensures, c.next-after.ensures, c.read_drive-drive.ensures, held_state h) at (c.put_drive.ensures s h)
