use Rattle.std.proofs.Common.{◌≡◌, length, arith, rules}
use Rattle.form.proofs.Rows.{none_yet, one_more, all_written}
use Rattle.form.proofs.parts.write_row.Goals as goal

pub loop-k-init : goal.loop-k-init
loop-k-init g c = none_yet

pub loop-k-preserved : goal.loop-k-preserved
loop-k-preserved g c =
    let few : length c.args.parts ≡ g.row.N = search rules in
    let w = rw c.LENGTH.ensures at c.write.ensures in
    one_more c.loop-k.invariant c.index-parts-k.result (omega arith) (g.met.T.Part.sized _ w.1) w.1 w.0

pub returns : goal.returns
returns g c = all_written c.loop-k.invariant (search rules) (omega arith)
