-- `calls::opens::lent` meets its contract. Assumes nothing.
use Rattle.rules_dictionary.specs.Table.{table, dictionary_length}
use Rattle.calls.proofs.Refusals.{other_length, no_room, well_lent}
use Rattle.calls.proofs.opens.lent.Goals as goal

pub returns-then-d-ne-DICTIONARY_LENGTH : goal.returns-then-d-ne-DICTIONARY_LENGTH
unfolding dictionary_length table
returns-then-d-ne-DICTIONARY_LENGTH c = let a = c.args in other_length a.d.now a.output.now c.if-d-ne-DICTIONARY_LENGTH.true

pub returns-then-output-lt-OUTPUT_LENGTH : goal.returns-then-output-lt-OUTPUT_LENGTH
unfolding dictionary_length table
returns-then-output-lt-OUTPUT_LENGTH c =
    let a = c.args in
    no_room a.d.now a.output.now c.if-d-ne-DICTIONARY_LENGTH.false c.if-output-lt-OUTPUT_LENGTH.true

pub returns : goal.returns
unfolding dictionary_length table
returns c = let a = c.args in well_lent a.d.now a.output.now c.if-d-ne-DICTIONARY_LENGTH.false c.if-output-lt-OUTPUT_LENGTH.false
