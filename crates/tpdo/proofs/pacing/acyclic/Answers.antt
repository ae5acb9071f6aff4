-- `tpdo::pacing::acyclic` meets its contract. Assumes nothing.
use mathlib.Core.Path.{◌∙◌}
use Rattle.rules_services.specs.PdoTraffic.{acyclic}
use Rattle.tpdo.proofs.pacing.acyclic.Goals as goal

pub returns-then-synced : goal.returns-then-synced
unfolding acyclic
returns-then-synced c = c.paced.ensures ∙ rw c.if-synced.true

pub returns : goal.returns
unfolding acyclic
returns c = c.paced-2.ensures ∙ rw c.if-synced.false
