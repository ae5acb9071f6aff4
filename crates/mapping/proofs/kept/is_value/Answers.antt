-- `mapping::kept::is_value` meets its contract: by the size. Assumes nothing.
use native.Mathlib.Omega.{arith}
use Rattle.dictionary.proofs.Bytes.{is_four}
use Rattle.mapping.proofs.kept.is_value.Goals as goal

pub returns-then-size-eq1 : goal.returns-then-size-eq1
returns-then-size-eq1 c = rw (c.read1.ensures, c.read1-then-size-eq1.ensures, c.if-size-eq1.true)

pub returns-then-size-eq2 : goal.returns-then-size-eq2
returns-then-size-eq2 c = rw (c.read2.ensures, c.read2-then-size-eq2.ensures, c.if-size-eq2.true)

pub read4-requires : goal.read4-requires
read4-requires c = omega (arith, is_four _ c.requires.1.1 c.if-size-eq1.false c.if-size-eq2.false)

pub read4-requires-2 : goal.read4-requires-2
read4-requires-2 c =
    omega (arith, is_four _ c.requires.1.1 c.if-size-eq1.false c.if-size-eq2.false)

pub returns : goal.returns
returns c =
    let four = is_four _ c.requires.1.1 c.if-size-eq1.false
    c.if-size-eq2.false in
    rw (c.read4.ensures, c.read4-2.ensures, four)
