-- `calls::power_up` meets its contract. Assumes nothing.
use mathlib.Core.Path.{refl, sym, ◌∙◌, ap}
use lib.ListN.{length}
use Rattle.state.specs.declared.Answer.{Answer}
use Rattle.rules.specs.Calls.{power_up_call}
use Rattle.form.proofs.Rows.{length_form}
use Rattle.calls.specs.Answers.{outcome}
use Rattle.calls.proofs.Refusals.{passes_so, not_opened, no_node}
use Rattle.calls.proofs.Answered.{answers_by}
use Rattle.calls.proofs.power_up.Goals as goal

pub returns-in-Err : goal.returns-in-Err
returns-in-Err c =
    let e = c.in-Err.ensures in
    let a = c.args in
    ap (λ (x : Answer). outcome x a.d.now a.output.now) c.refuse.ensures
    ∙ not_opened (power_up_call a.n) a.s a.d.now a.output.now refl (no_node a.n a.s a.d.now) e

pub power_up_in-given-requires : goal.power_up_in-given-requires
power_up_in-given-requires c =
    let own = c.form_of-state.ensures in (
      ap length own.0 ∙ length_form c.args.s own.1,
      passes_so (sym c.in_default.is ∙ c.powering.ensures),
    )

pub returns : goal.returns
returns c =
    rw c.with_state.ensures (answers_by (c.power_up_in-given.ensures c.args.s))
