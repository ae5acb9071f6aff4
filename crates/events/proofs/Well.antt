-- An event told well, as the rules say it.
-- Assumes nothing.
use Rattle.std.proofs.Common.{◌≡◌, refl, Bool, true, false}
use Rattle.std.specs.Bool.{then_some}
use Rattle.rules_services.specs.declared.Event.{Event}
use Rattle.rules_services.specs.Events.{provided}

pub then_provided : (well : Bool) (e : Event) → then_some well e ≡ provided well e
then_provided true e = refl
then_provided false e = refl
