-- One PDO after another. Assumes nothing.
use Rattle.std.proofs.Common.{sym, ◌∙◌}
use Rattle.sdo.proofs.Names.{next_pdo}
use Rattle.sdo.proofs.identifiers.is_taken.Goals as goal

pub returns-then-takes : goal.returns-then-takes
returns-then-takes c =
    let l = c.loop-q in
    sym (sym l.invariant ∙ next_pdo _ _ _ l.q c.loop-q-test.true ∙ rw (← c.identifier.ensures, ← c.takes.ensures, c.if-takes.true))

pub loop-q-preserved : goal.loop-q-preserved
loop-q-preserved c =
    let l = c.loop-q in
    sym (next_pdo _ _ _ l.q c.loop-q-test.true ∙ rw (← c.identifier.ensures, ← c.takes.ensures, c.if-takes.false)) ∙ l.invariant
