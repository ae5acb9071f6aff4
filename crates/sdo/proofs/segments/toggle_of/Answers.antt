-- By its bit. Assumes nothing.
use Rattle.sdo.proofs.Parts.{toggle_bit_set}
use Rattle.sdo.proofs.segments.toggle_of.Goals as goal

pub returns : goal.returns
returns c = toggle_bit_set _
