-- `mapping::moves::moves_in` meets its contract: the words of the plan are its moves'. Assumes nothing.
use native.Mathlib.Omega.{arith}
use Rattle.mapping.proofs.Steps.{plan_is, begun}
use Rattle.mapping.proofs.PlanWords.{plan_words}
use Rattle.mapping.proofs.moves.moves_in.Goals as goal

pub overflow_cast-result : goal.overflow_cast-result
overflow_cast-result c = omega (arith, (begun c.requires c.plan_place-plan.ensures).few)

pub returns : goal.returns
returns c =
    let e = c.plan_place-plan.ensures in
    let r = begun c.requires e in
    record {
      in_bounds = (omega (arith, r.few, e, c.requires.whole, c.requires.number), omega (arith, r.few, e, c.requires.number));
      moves = rw (plan_is c.requires e) (plan_words c.plan_place-plan.result c.args.state.now r.few);
    }
