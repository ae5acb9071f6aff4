-- `mapping::kept::are_zero` meets its contract. Assumes nothing.
use mathlib.Core.Path.{◌≡◌}
use native.Mathlib.Omega.{arith}
use borrow.Author.Rules.{rules}
use Rattle.dictionary.proofs.Bytes.{value_none}
use Rattle.mapping.proofs.Framed.{both_ends}
use Rattle.mapping.proofs.kept.are_zero.Goals as goal

pub returns-then-count-ge-STEP : goal.returns-then-count-ge-STEP
returns-then-count-ge-STEP c =
    let a = c.args in
    rw (c.read4.ensures, c.read4-then-count-ge-STEP.ensures) (both_ends a.bytes.now 4 a.count a.place (search rules) (search rules))

pub returns-then-count-ge-HALF_STEP : goal.returns-then-count-ge-HALF_STEP
returns-then-count-ge-HALF_STEP c =
    let a = c.args in
    rw (c.read2.ensures, c.read2-then-count-ge-HALF_STEP.ensures) (both_ends a.bytes.now 2 a.count a.place (search rules) (omega arith))

pub returns-then-count-gt0 : goal.returns-then-count-gt0
returns-then-count-gt0 c =
    let one : c.args.count ≡ 1 = omega arith in
    rw (c.read1.ensures, one)

pub returns : goal.returns
returns c =
    let a = c.args in
    let none : a.count ≡ 0 = omega arith in
    rw (none, value_none a.place a.bytes.now)
