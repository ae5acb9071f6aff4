-- `soundness::kept::are_plans_kept` meets its contract: one direction, then the other. Assumes nothing.
use mathlib.Core.Path.{sym, ◌∙◌}
use borrow.Author.Rules.{rules}
use Rattle.rules_dictionary.specs.Table.{open_table}
use Rattle.soundness.proofs.Every.{plans_by_way}
use Rattle.soundness.proofs.kept.are_plans_kept.Goals as goal

pub are_kept-requires-clause-slots : goal.are_kept-requires-clause-slots
are_kept-requires-clause-slots c = c.receive_slots-received.ensures

pub returns-then-not-are_kept : goal.returns-then-not-are_kept
unfolding open_table
returns-then-not-are_kept c =
    let a = c.args in
    rw (sym c.are_kept.ensures ∙ c.if-not-are_kept.true) at (plans_by_way a.state.now a.d.now)

pub are_kept-requires-2-clause-slots : goal.are_kept-requires-2-clause-slots
are_kept-requires-2-clause-slots c = c.transmit_slots-transmitted.ensures

pub returns : goal.returns
unfolding open_table
returns c =
    let a = c.args in
    c.are_kept-2.ensures
    ∙ rw (sym c.are_kept.ensures ∙ c.if-not-are_kept.false) at (plans_by_way a.state.now a.d.now)

pub are_kept-requires-clause-plans_in_bounds : goal.are_kept-requires-clause-plans_in_bounds
unfolding open_table
are_kept-requires-clause-plans_in_bounds c = search rules

pub are_kept-requires-clause-records_in_bounds : goal.are_kept-requires-clause-records_in_bounds
unfolding open_table
are_kept-requires-clause-records_in_bounds c = search rules

pub are_kept-requires-2-clause-plans_in_bounds : goal.are_kept-requires-2-clause-plans_in_bounds
unfolding open_table
are_kept-requires-2-clause-plans_in_bounds c = search rules

pub are_kept-requires-2-clause-records_in_bounds : goal.are_kept-requires-2-clause-records_in_bounds
unfolding open_table
are_kept-requires-2-clause-records_in_bounds c = search rules
