-- One byte. Assumes nothing.
use mathlib.Core.Path.{◌≡◌}
use Prim.Native.Nat.{◌%◌}
use native.Mathlib.Omega.{arith}
use Rattle.rules_dictionary.specs.Numbers.{bytes}
use Rattle.dictionary.proofs.values.write1.Goals as goal

pub returns : goal.returns
unfolding bytes
returns c = let e : c.args.v % 256 ≡ c.args.v = omega arith in cc
