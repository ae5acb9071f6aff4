-- `soundness::are_pdos_clear` meets its contract. Assumes nothing.
use mathlib.Core.Path.{sym, ◌∙◌}
use Rattle.soundness.specs.Parts.{pdo_clauses}
use Rattle.soundness.proofs.are_pdos_clear.Goals as goal

pub returns-then-not-are_plans_kept : goal.returns-then-not-are_plans_kept
unfolding pdo_clauses
returns-then-not-are_plans_kept c = rw (sym c.are_plans_kept.ensures ∙ c.if-not-are_plans_kept.true)

pub are_frames_kept-requires : goal.are_frames_kept-requires
are_frames_kept-requires c =
    (c.requires.0, (c.requires.1, sym c.are_plans_kept.ensures ∙ c.if-not-are_plans_kept.false))

pub returns-then-not-are_frames_kept : goal.returns-then-not-are_frames_kept
unfolding pdo_clauses
returns-then-not-are_frames_kept c =
    rw (sym c.are_plans_kept.ensures ∙ c.if-not-are_plans_kept.false, sym c.are_frames_kept.ensures ∙ c.if-not-are_frames_kept.true)

pub is_waiting_sound-requires : goal.is_waiting_sound-requires
is_waiting_sound-requires c =
    (c.requires.0, (c.requires.1, sym c.are_plans_kept.ensures ∙ c.if-not-are_plans_kept.false))

pub returns : goal.returns
unfolding pdo_clauses
returns c =
    rw (sym c.are_plans_kept.ensures ∙ c.if-not-are_plans_kept.false, sym c.are_frames_kept.ensures ∙ c.if-not-are_frames_kept.false)
    c.is_waiting_sound.ensures
