use Rattle.form.proofs.Rows.{Row}
use Rattle.form.proofs.parts.write_row.Given as goal

abbrev pub invariant-loop-k : goal.invariant-loop-k
invariant-loop-k g l = let t = g.T.Part in Row t.form t.Typed t.LENGTH l.parts l.initial.bytes l.place l.bytes l.k
