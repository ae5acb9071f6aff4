-- The rest of the name, seven characters at the most. Assumes nothing.
use Rattle.std.proofs.Common.{◌*◌, arith}
use Rattle.rules_dictionary.specs.DeviceName.{device_name}
use Rattle.rules_services.specs.Segments.{segment_size}
use Rattle.sdo.proofs.Parts.{part_length}
use Rattle.sdo.proofs.name_segments.carried_in.Goals as goal

pub returns : goal.returns
returns c =
    let long = part_length (c.args.k * segment_size) segment_size device_name in
    (omega (arith, long, c.min.ensures, c.saturating_sub.ensures, c.first_of.ensures), omega (arith, c.min.ensures))
