-- `mapping::ready::lay` meets its contract. Assumes nothing.
use native.Mathlib.Omega.{arith}
use mathlib.Core.Path.{◌∙◌, ap}
use lib.ListN.{length}
use Rattle.mapping.proofs.Laid.{plan_stays, long_zeroed, Whole, laid_whole}
use Rattle.mapping.proofs.ready.lay.Goals as goal

pub lay_values-end-requires : goal.lay_values-end-requires
lay_values-end-requires c =
    let a = c.args in
    let zeros = rw c.write4.ensures at c.write4-2.ensures in
    let same = plan_stays a.state.now a.frame a.plan c.requires.in_bounds.0 in
    let long = ap length zeros ∙ long_zeroed a.state.now a.frame in
    record {
      in_bounds = (omega (arith, c.requires.in_bounds.0), (omega (arith, long, c.requires.in_bounds.1.0), c.requires.in_bounds.1.1));
      moves_fit = (c.requires.moves_fit.0, rw (zeros, same) c.requires.moves_fit.1);
    }

-- what was laid, before its length
whole : (c : goal.After-slice_known-4-1) →
    let a = c.args in
    Whole a.d.now a.state.now c.lay_values-end.new.state a.frame a.plan c.lay_values-end.result
whole c =
    laid_whole _ _ _ _ c.requires.in_bounds.0 c.requires.moves_fit.1 _ _ _
    (rw c.write4.ensures at c.write4-2.ensures) (c.lay_values-end.ensures.laid, c.lay_values-end.ensures.end)

pub overflow_sub-state : goal.overflow_sub-state
overflow_sub-state c = (whole c).begun

pub overflow_cast-state : goal.overflow_cast-state
overflow_cast-state c = omega (arith, (whole c).few)

pub shape_of-state : goal.shape_of-state
shape_of-state c = (whole c).long

pub returns : goal.returns
returns c = (whole c).whole
