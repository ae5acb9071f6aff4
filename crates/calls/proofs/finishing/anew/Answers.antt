-- `calls::finishing::anew` meets its contract. Assumes nothing.
use mathlib.Core.Path.{◌∙◌, ap}
use Rattle.state.specs.declared.State.{State}
use Rattle.form.specs.Form.{state_of}
use Rattle.form.proofs.Holding.{held_state}
use Rattle.calls.proofs.Ends.{still_plannable}
use Rattle.calls.proofs.finishing.anew.Goals as goal

pub all_plans-requires : goal.all_plans-requires
all_plans-requires c =
    let made = rw (c.read_node.ensures, c.read_drive.ensures) at c.settle.ensures.0 in
    still_plannable (state_of c.args.state.now) _ _ made c.requires.plannable

pub renew_all-requires : goal.renew_all-requires
renew_all-requires c =
    let made = rw (c.read_node.ensures, c.read_drive.ensures) at c.settle.ensures.0 in
    let held = c.put_plans.ensures _ c.requires.own in (
      rw (held_state held) held,
      (
        still_plannable (state_of c.args.state.now) _ _ made c.requires.plannable,
        ap (λ (t : State). t.axis.plans) (held_state held) ∙ c.all_plans.ensures,
      ),
    )

pub returns : goal.returns
returns c =
    let planned = c.put_plans.ensures _ c.requires.own in
    let worked = rw (held_state planned) at c.renew_all.ensures.holds in
    let idle = c.put_paces.ensures _ worked in
    record {
      dictionary = rw (c.read_node.ensures, c.read_drive.ensures) at c.settle.ensures.0;
      state = rw c.all_plans.ensures at idle;
    }
