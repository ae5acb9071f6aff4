-- `soundness::waiting::is_full` meets its contract. Assumes nothing.
use mathlib.Core.Path.{sym, ◌∙◌}
use borrow.Author.Tests.{eq-eqb, ne_eqb}
use Rattle.soundness.proofs.Holding.{full}
use borrow.Author.Rules.{rules}
use Rattle.soundness.proofs.waiting.is_full.Goals as goal

pub returns-then-frame-mapped : goal.returns-then-frame-mapped
returns-then-frame-mapped c =
    let n = c.length_of-mapped.ensures in
    sym (full c.args.frame _ (search rules) c.requires.fits.room ∙ rw (← n, ne_eqb _ _ c.if-frame-mapped.true))

pub returns : goal.returns
returns c =
    let n = c.length_of-mapped.ensures in
    sym (full c.args.frame _ c.is_zero_from.ensures.1 c.requires.fits.room
    ∙ rw (← n, eq-eqb _ _ c.if-frame-mapped.false, ← c.is_zero_from.ensures.0))
