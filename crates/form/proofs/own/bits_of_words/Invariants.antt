use Rattle.form.specs.Form.{word_length, word_at}
use Rattle.form.specs.Own.{is_zero}
use Rattle.form.proofs.Tested.{Tested}
use Rattle.form.proofs.own.bits_of_words.Given as goal

abbrev pub invariant-loop-k : goal.invariant-loop-k
invariant-loop-k l = Tested (λ i. is_zero (word_at i l.bytes)) l.place word_length (is_zero l.bits) l.k
