-- `mapping::kept::is_plan_kept` meets its contract: the definition goes as the code does. Assumes nothing.
use mathlib.Core.Path.{sym, ◌∙◌}
use native.Mathlib.Omega.{arith}
use borrow.Author.Rules.{rules}
use borrow.Author.Tests.{lt-leb, le-leb, eq-eqb, ne_eqb}
use lib.ListN.{get_or}
use Rattle.rules_dictionary.specs.Table.{most_moves}
use Rattle.mapping.specs.Kept.{plan_kept_at}
use Rattle.mapping.proofs.kept.is_plan_kept.Goals as goal

pub overflow_cast-count : goal.overflow_cast-count
overflow_cast-count c =
    omega (arith, c.shared_slice_known-4-1.given c.args.map, c.requires.record_in_bounds.0)

pub returns-then-count-gt-MOST_MOVES : goal.returns-then-count-gt-MOST_MOVES
unfolding plan_kept_at
returns-then-count-gt-MOST_MOVES c =
    let a = c.args in
    rw (lt-leb (get_or a.d.now a.map 0) most_moves c.if-count-gt-MOST_MOVES.true)

pub returns-then-state-plan : goal.returns-then-state-plan
unfolding plan_kept_at
returns-then-state-plan c =
    let a = c.args in
    let count = get_or a.d.now a.map 0 in
    rw (le-leb count most_moves (search rules), ne_eqb (get_or a.state.now a.plan 0) count c.if-state-plan.true)

pub are_mapped-requires-clause-slots : goal.are_mapped-requires-clause-slots
are_mapped-requires-clause-slots c = c.requires.slots

pub returns-then-not-are_mapped : goal.returns-then-not-are_mapped
unfolding plan_kept_at
returns-then-not-are_mapped c =
    let a = c.args in
    let count = get_or a.d.now a.map 0 in
    rw (
      le-leb count most_moves (search rules),
      eq-eqb (get_or a.state.now a.plan 0) count c.if-state-plan.false,
      sym c.are_mapped.ensures ∙ c.if-not-are_mapped.true,
    )

pub returns : goal.returns
unfolding plan_kept_at
returns c =
    let a = c.args in
    let count = get_or a.d.now a.map 0 in
    rw (
      le-leb count most_moves (search rules),
      eq-eqb (get_or a.state.now a.plan 0) count c.if-state-plan.false,
      sym c.are_mapped.ensures ∙ c.if-not-are_mapped.false,
    )
    c.are_spare.ensures
