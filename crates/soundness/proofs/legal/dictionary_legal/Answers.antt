-- `soundness::legal::dictionary_legal` meets its contract. Assumes nothing.
use mathlib.Core.Path.{sym, ◌∙◌, ap₂}
use mathlib.Core.Bool.{◌&&◌}
use Rattle.soundness.specs.Parts.{dictionary_clauses}
use Rattle.soundness.proofs.legal.dictionary_legal.Goals as goal

pub returns-then-not-rows_legal-limits_in_order : goal.returns-then-not-rows_legal-limits_in_order
unfolding dictionary_clauses
returns-then-not-rows_legal-limits_in_order c =
    rw (sym (ap₂ ◌&&◌ c.rows_legal.ensures c.limits_in_order.ensures)
    ∙ c.if-not-rows_legal-limits_in_order.true)

pub returns : goal.returns
unfolding dictionary_clauses
returns c =
    rw (sym (ap₂ ◌&&◌ c.rows_legal.ensures c.limits_in_order.ensures)
    ∙ c.if-not-rows_legal-limits_in_order.false)
    c.identifiers_legal.ensures
