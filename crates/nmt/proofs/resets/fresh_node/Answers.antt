-- `nmt::resets::fresh_node` meets its contract. Assumes nothing.
use mathlib.Core.Path.{refl}
use Rattle.rules_services.specs.Nmt.{fresh_state}
use Rattle.nmt.proofs.resets.fresh_node.Goals as goal

pub returns : goal.returns
unfolding fresh_state
returns c = refl
