-- `soundness::waiting::works` meets its contract. Assumes nothing.
use mathlib.Core.Path.{sym, ◌∙◌}
use Rattle.rules_services.specs.PdoTraffic.{works}
use Rattle.soundness.proofs.waiting.works.Goals as goal

pub returns-then-not-is_operational : goal.returns-then-not-is_operational
unfolding works
returns-then-not-is_operational c = rw (sym c.is_operational.ensures ∙ c.if-not-is_operational.true)

pub returns : goal.returns
unfolding works
returns c =
    rw (sym c.is_operational.ensures ∙ c.if-not-is_operational.false) c.is_open.ensures
