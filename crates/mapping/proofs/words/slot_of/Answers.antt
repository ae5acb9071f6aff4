-- `mapping::words::slot_of` meets its contract. Assumes nothing.
use borrow.Author.Rules.{rules}
use Rattle.mapping.specs.Words.{slot_of}
use Rattle.mapping.proofs.words.slot_of.Goals as goal

pub returns : goal.returns
unfolding slot_of
returns c = search rules
