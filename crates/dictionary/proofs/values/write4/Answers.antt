-- Four bytes. Assumes nothing.
use native.Mathlib.Omega.{arith}
use Rattle.rules_dictionary.specs.Numbers.{bytes}
use Rattle.dictionary.proofs.values.write4.Goals as goal

pub returns : goal.returns
unfolding bytes
returns c = simp c.to_le_bytes.ensures (grind arith)
