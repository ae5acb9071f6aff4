-- Four bytes. Assumes nothing.
use native.Mathlib.Omega.{arith}
use Rattle.dictionary.proofs.Bytes.{value_step, value_none}
use Rattle.dictionary.proofs.values.read4.Goals as goal

pub returns : goal.returns
returns c = rw (value_step 3, value_step 2, value_step 1, value_step 0, value_none) (grind arith)
