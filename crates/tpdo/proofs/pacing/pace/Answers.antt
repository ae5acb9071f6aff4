-- `tpdo::pacing::pace` meets its contract. Assumes nothing.
use mathlib.Core.Path.{sym, ◌∙◌}
use Rattle.tpdo.specs.Sending.{open_pace}
use Rattle.tpdo.proofs.pacing.pace.Goals as goal

pub returns-then-not-is_open : goal.returns-then-not-is_open
unfolding open_pace
returns-then-not-is_open c = c.paced.ensures ∙ rw (sym c.is_open.ensures ∙ c.if-not-is_open.true)

pub pace_of-requires : goal.pace_of-requires
pace_of-requires c =
    let on = sym c.is_open.ensures ∙ c.if-not-is_open.false in
    rw c.transmission_type.ensures (c.requires.1.1 on)

pub returns : goal.returns
unfolding open_pace
returns c =
    let on = sym c.is_open.ensures ∙ c.if-not-is_open.false in
    rw (on, ← c.transmission_type.ensures) c.pace_of.ensures
