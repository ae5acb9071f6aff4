-- By what its callees promise. Assumes nothing.
use Rattle.rules_services.specs.Sdo.{is_wrong_time}
use Rattle.sdo.proofs.offers.is_entry_shut.Goals as goal

pub returns-then-is_mapping_shut : goal.returns-then-is_mapping_shut
unfolding is_wrong_time
returns-then-is_mapping_shut c = rw (← c.is_mapping_shut.ensures, c.if-is_mapping_shut.true)

pub returns-else-is_mapping_shut : goal.returns-else-is_mapping_shut
unfolding is_wrong_time
returns-else-is_mapping_shut c = rw (← c.is_mapping_shut.ensures, c.if-is_mapping_shut.false, ← c.map_count.ensures)
