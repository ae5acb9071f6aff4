-- `soundness::waiting::is_none_waiting` meets its contract. Assumes nothing.
use Rattle.soundness.specs.Waiting.{none_waiting}
use Rattle.soundness.proofs.waiting.is_none_waiting.Goals as goal

pub returns : goal.returns
unfolding none_waiting
returns c = c.bits_of_words.ensures
