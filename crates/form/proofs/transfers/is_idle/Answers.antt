use Rattle.std.proofs.Common.{◌∙◌}
use Rattle.form.specs.Own.{idle_at}
use Rattle.form.proofs.Tested.{or-zero}
use Rattle.form.proofs.transfers.is_idle.Goals as goal

pub returns : goal.returns
unfolding idle_at
returns c =
    or-zero c.read2-head.result c.bits_of_words-words.result ∙ rw (c.read2-head.ensures, c.bits_of_words-words.ensures)
