-- The default bytes in code are the definitions' table, by computation. Assumes nothing.
use native.Mathlib.Nat.{zero-add}
use Rattle.rules_dictionary.specs.Numbers.{bytes}
use Rattle.rules_dictionary.specs.Table.{table, dictionary_length}
use Rattle.rules_dictionary.specs.Values.{packed_defaults}
use Rattle.dictionary.proofs.defaults.write_first.Goals as goal

pub returns : goal.returns
unfolding dictionary_length packed_defaults table bytes
returns c = rw (c.copy_from_slice.ensures.after, zero-add)
