-- Nothing runs, or both tests. Assumes nothing.
use mathlib.Core.Path.{refl, sym, ◌∙◌}
use borrow.Author.Rules.{rules}
use Rattle.rules.specs.Sound.{transfer_sound}
use Rattle.form.proofs.OneForm.{idle_none, idle_own}
use Rattle.soundness.specs.Transfers.{transfer_clear}
use Rattle.soundness.proofs.transfers.is_transfer_clear.Goals as goal

pub returns-then-is_idle : goal.returns-then-is_idle
unfolding transfer_clear transfer_sound
returns-then-is_idle c =
    let bs = c.args.state.now in
    let h = sym c.is_idle.ensures ∙ c.if-is_idle.true in
    rw (idle_own bs h, idle_none bs h) refl

pub is_idle-requires : goal.is_idle-requires
unfolding transfer_clear
is_idle-requires c = search rules

pub own_transfer-requires : goal.own_transfer-requires
unfolding transfer_clear
own_transfer-requires c = search rules

pub returns-then-not-own_transfer : goal.returns-then-not-own_transfer
unfolding transfer_clear
returns-then-not-own_transfer c = rw (sym c.own_transfer.ensures ∙ c.if-not-own_transfer.true)

pub is_transfer_sound-requires : goal.is_transfer_sound-requires
unfolding transfer_clear
is_transfer_sound-requires c = search rules

pub returns : goal.returns
unfolding transfer_clear
returns c = rw (sym c.own_transfer.ensures ∙ c.if-not-own_transfer.false) c.is_transfer_sound.ensures
