use Rattle.std.proofs.Common.{◌≡◌, ◌+◌, ◌*◌, arith}
use Rattle.form.specs.Own.{flags_own}
use Rattle.form.proofs.Tested.{one_more, all_tested}
use Rattle.form.proofs.own.own_flags.Goals as goal

pub loop-k-preserved : goal.loop-k-preserved
loop-k-preserved c =
    let next : c.args.place + c.loop-k.k ≡ c.args.place + 1 * c.loop-k.k = omega arith in
    one_more c.loop-k.invariant (rw (c.own_flag-own.ensures, next))

pub returns : goal.returns
unfolding flags_own
returns c = all_tested c.args.count c.loop-k.invariant (omega arith)
