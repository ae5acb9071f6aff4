-- `feeder::for_c::feeder_step` meets its contract. Assumes nothing.
use mathlib.Core.Path.{◌∙◌, ap}
use Rattle.feeder.specs.Feeder.{told}
use Rattle.feeder.proofs.Steps.{few}
use Rattle.feeder.proofs.for_c.feeder_step.Goals as goal

pub told-requires : goal.told-requires
told-requires c = rw c.step.ensures (few _ _ _)

pub returns : goal.returns
returns c = c.told.ensures ∙ ap told c.step.ensures
