use Rattle.std.proofs.Common.{arith}
use Rattle.form.specs.Own.{paces_own}
use Rattle.rules_dictionary.specs.Table.{each_way}
use Rattle.form.proofs.Tested.{one_more, all_tested}
use Rattle.form.proofs.pdos.own_paces.Goals as goal

pub loop-k-preserved : goal.loop-k-preserved
loop-k-preserved c = one_more c.loop-k.invariant (rw (← c.own_flag-own.ensures))

pub returns : goal.returns
unfolding paces_own
returns c = all_tested each_way c.loop-k.invariant (omega arith)
