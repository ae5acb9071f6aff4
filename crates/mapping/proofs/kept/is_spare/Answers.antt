-- `mapping::kept::is_spare` meets its contract. Assumes nothing.
use mathlib.Core.Path.{sym}
use native.Mathlib.Omega.{arith}
use Rattle.mapping.specs.Words.{way_of}
use Rattle.mapping.proofs.Keeping.{both_empty, kept_past, word_past}
use Rattle.mapping.proofs.kept.is_spare.Goals as goal

pub returns-then-word-kept-eq0 : goal.returns-then-word-kept-eq0
returns-then-word-kept-eq0 c =
    let a = c.args in
    sym (both_empty (way_of a.transmit) a.word a.kept c.if-word-kept-eq0.true)

pub returns-then-kept-ne0 : goal.returns-then-kept-ne0
returns-then-kept-ne0 c =
    let a = c.args in
    sym (kept_past (way_of a.transmit) a.word a.kept c.if-kept-ne0.true)

pub returns : goal.returns
returns c =
    let a = c.args in
    rw c.kept_word.ensures (word_past (way_of a.transmit) a.word a.kept (omega arith) c.if-word-kept-eq0.false)
