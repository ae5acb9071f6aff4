-- Both tests, the transfer's first. Assumes nothing.
use mathlib.Core.Path.{sym, ◌∙◌}
use Rattle.soundness.proofs.is_head_clear.Goals as goal

pub returns-then-not-is_transfer_clear : goal.returns-then-not-is_transfer_clear
returns-then-not-is_transfer_clear c = rw (sym c.is_transfer_clear.ensures ∙ c.if-not-is_transfer_clear.true)

pub returns : goal.returns
returns c = rw (sym c.is_transfer_clear.ensures ∙ c.if-not-is_transfer_clear.false) c.is_head_own.ensures
