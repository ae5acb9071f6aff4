use native.Mathlib.Omega.{arith}
use mathlib.Core.Path.{sym, ◌∙◌}
use Rattle.form.proofs.Holding.{held_length}
use Rattle.mapping.proofs.Renewed.{none_renewed, own_yet, fits_yet, one_renewed, all_renewed}
use Rattle.mapping.proofs.ready.renew_all.Goals as goal

pub loop-t-init : goal.loop-t-init
loop-t-init c = let p = c.requires in none_renewed p.0 p.1.0 p.1.1

pub renew-requires : goal.renew-requires
renew-requires c =
    let p = c.requires in
    let h = c.loop-t-test.true in
    record { holds = (own_yet p.0 p.1.0 p.1.1 c.loop-t.invariant h, (p.1.0.0, h)); moves_fit = fits_yet p.0 p.1.0 p.1.1 c.loop-t.invariant h }

pub loop-t-preserved : goal.loop-t-preserved
loop-t-preserved c =
    let p = c.requires in
    one_renewed p.0 p.1.0 p.1.1 c.loop-t.invariant c.loop-t-test.true (c.renew.ensures.after, c.renew.ensures.change)

pub returns : goal.returns
returns c =
    let p = c.requires in
    let r = all_renewed p.0 p.1.0 p.1.1 c.loop-t.invariant (omega arith) in record { holds = r.0; value = r.1 }

pub shape_of-state : goal.shape_of-state
shape_of-state c = held_length c.loop-t.invariant.holds ∙ sym (held_length c.requires.0)
