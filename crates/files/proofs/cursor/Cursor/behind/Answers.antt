-- Nothing of the entry lies behind the end of the file, so no sum wraps.
-- Assumes nothing.
use Rattle.std.proofs.Common.{arith}
use Rattle.files.proofs.Heads.{all_inside}
use Rattle.files.proofs.cursor.Cursor.behind.Goals as goal

pub size_at-requires : goal.size_at-requires
size_at-requires c = omega (arith, all_inside c.args.self.at c.args.self.file.now c.requires)
