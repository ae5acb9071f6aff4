-- `nmt::resets::fresh_drive` meets its contract. Assumes nothing.
use mathlib.Core.Path.{refl}
use Rattle.rules_services.specs.Nmt.{fresh_state}
use Rattle.nmt.proofs.resets.fresh_drive.Goals as goal

pub returns : goal.returns
unfolding fresh_state
returns c = λ n. refl
