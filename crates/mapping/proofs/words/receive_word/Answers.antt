-- `mapping::words::receive_word` meets its contract: its places are the rows', by computation. Assumes nothing.
use Prim.Native.Nat.{◌%◌, ◌^◌}
use mathlib.Core.Path.{◌≡◌}
use native.Mathlib.Omega.{arith}
use borrow.Author.Tests.{ne_eqb}
use Rattle.rules_dictionary.specs.Table.{open_table}
use Rattle.mapping.specs.Words.{named, word_move, kept_word}
use Rattle.mapping.proofs.words.receive_word.Goals as goal

pub returns-in-1614807056 : goal.returns-in-1614807056
unfolding named word_move kept_word open_table
returns-in-1614807056 c = rw c.in-1614807056.is

pub returns-in-1616904200 : goal.returns-in-1616904200
unfolding named word_move kept_word open_table
returns-in-1616904200 c = rw c.in-1616904200.is

pub returns-in-1618608160 : goal.returns-in-1618608160
unfolding named word_move kept_word open_table
returns-in-1618608160 c = rw c.in-1618608160.is

pub returns-in-1619066912 : goal.returns-in-1619066912
unfolding named word_move kept_word open_table
returns-in-1619066912 c = rw c.in-1619066912.is

pub returns-in-1619197984 : goal.returns-in-1619197984
unfolding named word_move kept_word open_table
returns-in-1619197984 c = rw c.in-1619197984.is

pub returns-in-1619263520 : goal.returns-in-1619263520
unfolding named word_move kept_word open_table
returns-in-1619263520 c = rw c.in-1619263520.is

pub returns-in-1627324448 : goal.returns-in-1627324448
unfolding named word_move kept_word open_table
returns-in-1627324448 c = rw c.in-1627324448.is

pub returns-in_default : goal.returns-in_default
unfolding named word_move kept_word open_table
returns-in_default c =
    let w = c.args.word in
    let e : w % 2 ^ 32 ≡ w = omega arith in
    rw e
    (simp (
      ne_eqb w 0x60400010 c.in_default.in_default-own.rest.0.0.0.0.0.0.1,
      ne_eqb w 0x60600008 c.in_default.in_default-own.rest.0.0.0.0.0.1,
      ne_eqb w 0x607A0020 c.in_default.in_default-own.rest.0.0.0.0.1,
      ne_eqb w 0x60810020 c.in_default.in_default-own.rest.0.0.0.1,
      ne_eqb w 0x60830020 c.in_default.in_default-own.rest.0.0.1,
      ne_eqb w 0x60840020 c.in_default.in_default-own.rest.0.1,
      ne_eqb w 0x60FF0020 c.in_default.in_default-own.rest.1,
    ))
