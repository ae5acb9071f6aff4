-- The default bytes, 1001h put back, then the identifiers. Assumes nothing.
use Rattle.rules_dictionary.specs.Table.{open_table}
use Rattle.dictionary.proofs.Filled.{communication_for_node}
use Rattle.dictionary.proofs.defaults.write_communication_defaults.Goals as goal

pub returns : goal.returns
unfolding open_table
returns c = rw (c.write_node_identifiers.ensures, c.write_first.ensures) (communication_for_node _ _ c.requires.0)
