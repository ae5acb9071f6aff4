-- A zero, a word that names an object, or one that is refused. Assumes nothing.
use Rattle.std.proofs.Common.{◌∙◌}
use Rattle.sdo.proofs.Maps.{word_zero, word_named, word_refused}
use Rattle.sdo.proofs.mappings.entry_verdict.Goals as goal

pub returns-then-w-eq0 : goal.returns-then-w-eq0
returns-then-w-eq0 c = word_zero c.args.p c.args.w c.if-w-eq0.true

pub returns-then-named-ne0 : goal.returns-then-named-ne0
returns-then-named-ne0 c = let a = c.args in word_named a.p a.w _ c.move_of-named.ensures c.if-named-ne0.true

pub returns : goal.returns
returns c =
    let a = c.args in
    c.unnamed_verdict.ensures ∙ word_refused a.p a.w _ c.move_of-named.ensures c.if-named-ne0.false c.if-w-eq0.false
