-- `calls::opens::loadable` meets its contract. Assumes nothing.
use Rattle.std.proofs.Common.{◌∙◌}
use Rattle.rules_dictionary.specs.Table.{table, dictionary_length}
use Rattle.calls.proofs.Refusals.{load_other_length, load_opens_by}
use Rattle.calls.proofs.opens.loadable.Goals as goal

pub returns-then-length-ne-DICTIONARY_LENGTH : goal.returns-then-length-ne-DICTIONARY_LENGTH
unfolding dictionary_length table
returns-then-length-ne-DICTIONARY_LENGTH c =
    let a = c.args in
    load_other_length a.state.now a.d.now c.if-length-ne-DICTIONARY_LENGTH.true

pub held-requires : goal.held-requires
unfolding dictionary_length table
held-requires c = c.if-length-ne-DICTIONARY_LENGTH.false

pub returns : goal.returns
unfolding dictionary_length table
returns c =
    let a = c.args in
    c.held.ensures ∙ load_opens_by a.state.now a.d.now c.if-length-ne-DICTIONARY_LENGTH.false
