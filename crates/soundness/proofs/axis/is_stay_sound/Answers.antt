-- `soundness::axis::is_stay_sound` meets its contract. Assumes nothing.
use mathlib.Core.Path.{◌∙◌, sym}
use borrow.Author.Tests.{eq-eqb, ne_eqb}
use Rattle.rules.specs.Sound.{stay_sound}
use borrow.Author.Rules.{rules}
use Rattle.soundness.proofs.axis.is_stay_sound.Goals as goal

pub read_stay-requires : goal.read_stay-requires
unfolding stay_sound
read_stay-requires c = search rules

pub returns-then-read_stay-eq0 : goal.returns-then-read_stay-eq0
unfolding stay_sound
returns-then-read_stay-eq0 c = rw (eq-eqb _ _ (sym c.read_stay.ensures ∙ c.if-read_stay-eq0.true))

pub is_position_inside-requires : goal.is_position_inside-requires
unfolding stay_sound
is_position_inside-requires c = search rules

pub returns : goal.returns
unfolding stay_sound
returns c = rw (ne_eqb _ _ (λ e. c.if-read_stay-eq0.false (c.read_stay.ensures ∙ e))) c.is_position_inside.ensures
