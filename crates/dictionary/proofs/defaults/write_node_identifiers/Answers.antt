-- 1014h, then the identifiers of either direction. Assumes nothing.
use Rattle.dictionary.proofs.Filled.{by_direction_lem}
use Rattle.dictionary.proofs.defaults.write_node_identifiers.Goals as goal

pub returns : goal.returns
returns c = rw (c.write_identifiers-2.ensures, c.write_identifiers.ensures, c.set_emergency_identifier.ensures) (by_direction_lem _ _)
