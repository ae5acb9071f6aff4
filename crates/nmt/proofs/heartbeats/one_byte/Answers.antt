-- `nmt::heartbeats::one_byte` meets its contract. Assumes nothing.
use mathlib.Core.Path.{refl}
use Rattle.rules_dictionary.specs.Plans.{pdo_data}
use Rattle.nmt.proofs.heartbeats.one_byte.Goals as goal

pub returns : goal.returns
unfolding pdo_data
returns c = refl
