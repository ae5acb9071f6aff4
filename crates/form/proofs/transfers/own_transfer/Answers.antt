use Rattle.std.proofs.Common.{rules}
use Rattle.form.specs.Own.{transfer_own}
use Rattle.form.proofs.transfers.own_transfer.Goals as goal

pub returns-in-0 : goal.returns-in-0
unfolding transfer_own
returns-in-0 c = rw (c.bits_of_words.ensures, c.in-0.is)

pub returns-in-1 : goal.returns-in-1
unfolding transfer_own
returns-in-1 c = rw c.in-1.is c.bits_of_words-in-1.ensures

pub returns-in-2 : goal.returns-in-2
unfolding transfer_own
returns-in-2 c = rw c.in-2.is c.own_flag.ensures

pub returns-in_default : goal.returns-in_default
unfolding transfer_own
returns-in_default c = search rules
