-- `soundness::waiting::is_held_sound` meets its contract. Assumes nothing.
use mathlib.Core.Path.{sym, ◌∙◌}
use Rattle.soundness.proofs.Holding.{unheld}
use Rattle.soundness.proofs.waiting.is_held_sound.Goals as goal

pub returns-then-is_none_held : goal.returns-then-is_none_held
returns-then-is_none_held c = sym (unheld _ _ _ _ (sym c.is_none_held.ensures ∙ c.if-is_none_held.true))

pub is_frame_sound-requires : goal.is_frame_sound-requires
is_frame_sound-requires c =
    let q = c.requires in
    let e = sym c.is_none_held.ensures ∙ c.if-is_none_held.false in
    (q.0, (q.1.0, (q.1.1.0, (q.1.1.1, rw c.read_frame-frame.ensures e))))

pub returns : goal.returns
returns c = rw (← c.read_frame-frame.ensures) c.is_frame_sound.ensures
