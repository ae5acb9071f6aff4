use Rattle.std.proofs.Common.{rules}
use Rattle.form.specs.Own.{store_own}
use Rattle.form.proofs.axis_drive.own_store.Goals as goal

pub returns-in_default : goal.returns-in_default
unfolding store_own
returns-in_default c = search rules

pub returns-in-0 : goal.returns-in-0
unfolding store_own
returns-in-0 c = rw c.in-0.is c.bits_of_words.ensures

pub returns-in-1 : goal.returns-in-1
unfolding store_own
returns-in-1 c = rw c.in-1.is c.bits_of_words-in-1.ensures

pub returns-in-2 : goal.returns-in-2
unfolding store_own
returns-in-2 c = rw c.in-2.is c.bits_of_words-in-2.ensures

pub returns-in-3 : goal.returns-in-3
unfolding store_own
returns-in-3 c = rw c.in-3.is
