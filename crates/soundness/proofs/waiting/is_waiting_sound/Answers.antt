-- `soundness::waiting::is_waiting_sound` meets its contract. Assumes nothing.
use mathlib.Core.Path.{sym, ◌∙◌}
use Rattle.soundness.proofs.Idle.{none_waits}
use Rattle.soundness.proofs.waiting.is_waiting_sound.Goals as goal

pub returns-then-is_none_waiting : goal.returns-then-is_none_waiting
returns-then-is_none_waiting c =
    let a = c.args in
    sym (none_waits a.state.now (sym c.is_none_waiting.ensures ∙ c.if-is_none_waiting.true) a.m a.d.now)
