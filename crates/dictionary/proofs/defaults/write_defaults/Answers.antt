-- The default bytes, then the identifiers. Assumes nothing.
use Rattle.rules_dictionary.specs.Table.{table, dictionary_length}
use Rattle.dictionary.proofs.Filled.{for_node}
use Rattle.dictionary.proofs.defaults.write_defaults.Goals as goal

pub returns : goal.returns
unfolding dictionary_length table
returns c = rw (c.write_node_identifiers.ensures, c.write_first.ensures) (for_node _ _ c.requires.0)
