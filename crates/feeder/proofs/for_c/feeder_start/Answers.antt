-- `feeder::for_c::feeder_start` meets its contract. Assumes nothing.
use mathlib.Core.Path.{◌∙◌, ap}
use Rattle.feeder.specs.Feeder.{refusal_number}
use Rattle.feeder.proofs.for_c.feeder_start.Goals as goal

pub returns : goal.returns
returns c = c.refusal_number.ensures.0 ∙ ap refusal_number c.start.ensures
