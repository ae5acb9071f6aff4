-- By the places of 1017h and 6060h. Assumes nothing.
use Rattle.rules_dictionary.specs.Table.{open_table}
use Rattle.load.proofs.trying.taken_at.Goals as goal

pub returns : goal.returns
unfolding open_table
returns c = rw c.is_mapping.ensures
