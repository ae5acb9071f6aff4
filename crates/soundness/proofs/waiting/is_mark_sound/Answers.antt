-- `soundness::waiting::is_mark_sound` meets its contract. Assumes nothing.
use mathlib.Core.Path.{sym, ◌∙◌}
use Rattle.rules.specs.Sound.{due_sound}
use Rattle.soundness.proofs.waiting.is_mark_sound.Goals as goal

pub returns-then-not-due : goal.returns-then-not-due
unfolding due_sound
returns-then-not-due c = rw c.if-not-due.true

pub returns-then-not-works : goal.returns-then-not-works
unfolding due_sound
returns-then-not-works c = rw (c.if-not-due.false, sym c.works.ensures ∙ c.if-not-works.true)

pub returns : goal.returns
unfolding due_sound
returns c =
    rw (c.if-not-due.false, sym c.works.ensures ∙ c.if-not-works.false, c.transmission_type.ensures)
