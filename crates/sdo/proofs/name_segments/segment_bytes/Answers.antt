-- The command byte, and seven characters of the name. Assumes nothing.
use Rattle.std.proofs.Common.{◌*◌}
use Rattle.rules_dictionary.specs.DeviceName.{device_name}
use Rattle.rules_services.specs.Segments.{segment_size, segment_byte}
use Rattle.sdo.proofs.Parts.{segment_made}
use Rattle.sdo.proofs.name_segments.segment_bytes.Goals as goal

pub returns : goal.returns
returns c =
    let k = c.args.k in
    rw (
      c.name_at-7.ensures,
      c.name_at-6.ensures,
      c.name_at-5.ensures,
      c.name_at-4.ensures,
      c.name_at-3.ensures,
      c.name_at-2.ensures,
      c.name_at.ensures,
      c.segment_byte.ensures,
      c.first_of-first.ensures,
    ) (segment_made (segment_byte k) (k * segment_size) device_name)
