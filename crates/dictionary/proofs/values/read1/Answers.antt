-- One byte. Assumes nothing.
use native.Mathlib.Omega.{arith}
use Rattle.dictionary.proofs.Bytes.{value_step, value_none}
use Rattle.dictionary.proofs.values.read1.Goals as goal

pub returns : goal.returns
returns c = rw (value_step 0, value_none) (omega arith)
