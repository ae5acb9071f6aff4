-- `mapping::words::receive_slots` meets its contract, by computation. Assumes nothing.
use mathlib.Core.Path.{refl}
use Rattle.rules_dictionary.specs.Table.{open_table}
use Rattle.mapping.specs.Words.{named_for}
use Rattle.mapping.proofs.words.receive_slots.Goals as goal

pub returns : goal.returns
unfolding open_table named_for
returns c = refl
