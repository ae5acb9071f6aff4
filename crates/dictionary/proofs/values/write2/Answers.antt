-- Two bytes. Assumes nothing.
use native.Mathlib.Numerals.{add-one}
use Rattle.rules_dictionary.specs.Numbers.{bytes}
use Rattle.dictionary.proofs.values.write2.Goals as goal

pub returns : goal.returns
unfolding bytes
returns c = simp (c.to_le_bytes.ensures, add-one)
