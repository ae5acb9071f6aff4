-- Two bytes. Assumes nothing.
use native.Mathlib.Omega.{arith}
use Rattle.dictionary.proofs.Bytes.{value_step, value_none}
use Rattle.dictionary.proofs.values.read2.Goals as goal

pub returns : goal.returns
returns c = rw (value_step 1, value_step 0, value_none) (omega arith)
