-- `mapping::ready::renew` meets its contract. Assumes nothing.
use Prim.Native.Nat.{◌+◌}
use native.Mathlib.Omega.{arith}
use mathlib.Core.Path.{sym, ◌∙◌}
use Rattle.rules_dictionary.specs.Table.{each_way}
use Rattle.form.proofs.Holding.{held_length}
use Rattle.form.proofs.OneForm.{plan_stands, ready_stands}
use Rattle.mapping.proofs.Laid.{ready_laid, read_back}
use Rattle.mapping.proofs.ready.renew.Goals as goal

pub lay-requires : goal.lay-requires
lay-requires c =
    let e = c.plan_place-plan.ensures in
    let i = c.requires.holds.1.1 in
    let long = held_length c.requires.holds.0 in
    record {
      in_bounds = (omega (arith, e), (omega (arith, e, long), omega (arith, e)));
      moves_fit = (c.requires.holds.1.0, rw (e, ← plan_stands c.args.state.now (each_way + c.args.t) (omega arith)) c.requires.moves_fit);
    }

pub read_frame-before-requires : goal.read_frame-before-requires
read_frame-before-requires c = omega (arith, held_length c.requires.holds.0, c.requires.holds.1.1)

pub read_frame-requires : goal.read_frame-requires
read_frame-requires c =
    omega (arith, c.lay.auto, held_length c.requires.holds.0, c.requires.holds.1.1)

pub returns : goal.returns
returns c =
    let a = c.args in
    let i = c.requires.holds.1.1 in
    let laid = rw c.plan_place-plan.ensures at c.lay.ensures in
    let was = c.read_frame-before.ensures ∙ sym (ready_stands a.state.now a.t i) in
    let is = c.read_frame.ensures ∙ read_back a.state.now a.d.now a.t i c.requires.holds.0 laid in
    record { after = ready_laid a.state.now a.d.now a.t i c.requires.holds.0 laid; change = rw (c.same_data.ensures, was, is) }
