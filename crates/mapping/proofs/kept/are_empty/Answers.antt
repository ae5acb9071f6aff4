-- `mapping::kept::are_empty` meets its contract. Assumes nothing.
use lib.Bits.{bit_or}
use Rattle.form.proofs.Tested.{or-zero}
use Rattle.mapping.specs.Kept.{ends_empty}
use Rattle.mapping.proofs.kept.are_empty.Goals as goal

pub returns : goal.returns
unfolding ends_empty
returns c =
    let k = c.bits_of_words-2.result in
    let j = c.bits_of_words.result in
    let w = c.bits_of_words-3.result in
    let v = c.bits_of_words-4.result in
    rw (or-zero (bit_or j k) (bit_or w v), or-zero j k, or-zero w v)
    (rw (c.bits_of_words-4.ensures, c.bits_of_words-3.ensures)
    (rw (c.bits_of_words-2.ensures, c.bits_of_words.ensures)))
