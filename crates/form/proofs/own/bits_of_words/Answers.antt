use Rattle.std.proofs.Common.{arith}
use Rattle.form.specs.Own.{every_word}
use Rattle.form.proofs.Tested.{or-zero, one_more, all_tested}
use Rattle.form.proofs.own.bits_of_words.Goals as goal

pub loop-k-preserved : goal.loop-k-preserved
loop-k-preserved c = one_more c.loop-k.invariant (rw (← c.read4-bits.ensures) (or-zero c.loop-k.bits c.read4-bits.result))

pub returns : goal.returns
unfolding every_word
returns c = all_tested c.args.count c.loop-k.invariant (omega arith)
