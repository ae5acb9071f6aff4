-- `mapping::words::transmit_word` meets its contract: its places are the rows', by computation. Assumes nothing.
use Prim.Native.Nat.{◌%◌, ◌^◌}
use mathlib.Core.Path.{◌≡◌}
use native.Mathlib.Omega.{arith}
use borrow.Author.Tests.{ne_eqb}
use Rattle.rules_dictionary.specs.Table.{open_table}
use Rattle.mapping.specs.Words.{named, word_move, kept_word}
use Rattle.mapping.proofs.words.transmit_word.Goals as goal

pub returns-in-268501000 : goal.returns-in-268501000
unfolding named word_move kept_word open_table
returns-in-268501000 c = rw c.in-268501000.is

pub returns-in-1614741520 : goal.returns-in-1614741520
unfolding named word_move kept_word open_table
returns-in-1614741520 c = rw c.in-1614741520.is

pub returns-in-1614872592 : goal.returns-in-1614872592
unfolding named word_move kept_word open_table
returns-in-1614872592 c = rw c.in-1614872592.is

pub returns-in-1616969736 : goal.returns-in-1616969736
unfolding named word_move kept_word open_table
returns-in-1616969736 c = rw c.in-1616969736.is

pub returns-in-1617166368 : goal.returns-in-1617166368
unfolding named word_move kept_word open_table
returns-in-1617166368 c = rw c.in-1617166368.is

pub returns-in-1617690656 : goal.returns-in-1617690656
unfolding named word_move kept_word open_table
returns-in-1617690656 c = rw c.in-1617690656.is

pub returns-in_default : goal.returns-in_default
unfolding named word_move kept_word open_table
returns-in_default c =
    let w = c.args.word in
    let e : w % 2 ^ 32 ≡ w = omega arith in
    rw e
    (simp (
      ne_eqb w 0x10010008 c.in_default.in_default-own.rest.0.0.0.0.0.1,
      ne_eqb w 0x603F0010 c.in_default.in_default-own.rest.0.0.0.0.1,
      ne_eqb w 0x60410010 c.in_default.in_default-own.rest.0.0.0.1,
      ne_eqb w 0x60610008 c.in_default.in_default-own.rest.0.0.1,
      ne_eqb w 0x60640020 c.in_default.in_default-own.rest.0.1,
      ne_eqb w 0x606C0020 c.in_default.in_default-own.rest.1,
    ))
