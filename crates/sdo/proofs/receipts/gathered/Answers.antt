-- One byte after another. Assumes nothing.
use Rattle.std.proofs.Common.{sym, ◌∙◌, arith}
use Rattle.sdo.proofs.Parts.{carried_slice, gathered_next, gathered_all}
use Rattle.sdo.proofs.receipts.gathered.Goals as goal

pub loop-b-preserved : goal.loop-b-preserved
loop-b-preserved c =
    let l = c.loop-b in
    rw c.added-after.ensures (sym (gathered_next l.after _ l.b-index c.loop-b-test.true) ∙ l.invariant)

pub returns : goal.returns
returns c =
    let l = c.loop-b in
    gathered_all c.args.request (carried_slice c.args.request) c.args.g l.after l.b-index (omega (arith, c.loop-b-test.false)) l.invariant
