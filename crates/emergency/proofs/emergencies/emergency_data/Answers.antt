-- `emergency::emergencies::emergency_data` meets its contract. Assumes nothing.
use Rattle.rules_dictionary.specs.Numbers.{bytes}
use Rattle.rules_dictionary.specs.Plans.{pdo_data}
use Rattle.emergency.proofs.emergencies.emergency_data.Goals as goal

pub returns : goal.returns
unfolding pdo_data bytes
returns c = rw c.to_le_bytes.ensures
