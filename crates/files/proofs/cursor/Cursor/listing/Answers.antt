-- Each part of the head, and the data behind it: all of it lies inside the file.
-- Assumes nothing.
use Rattle.std.proofs.Common.{arith}
use Rattle.files.proofs.Heads.{subindex_there, content_there, all_inside}
use Rattle.files.proofs.cursor.Cursor.listing.Goals as goal

pub size_at-size-requires : goal.size_at-size-requires
size_at-size-requires c = omega (arith, all_inside c.args.self.at c.args.self.file.now c.requires)

pub read2-requires : goal.read2-requires
read2-requires c = omega (arith, all_inside c.args.self.at c.args.self.file.now c.requires)

pub bounds-self-self : goal.bounds-self-self
bounds-self-self c = omega (arith, all_inside c.args.self.at c.args.self.file.now c.requires)

pub first_of-requires : goal.first_of-requires
first_of-requires c = omega (arith, all_inside c.args.self.at c.args.self.file.now c.requires)

pub returns : goal.returns
returns c =
    let a = c.args.self in
    cc (subindex_there a.at a.file.now, content_there a.at a.file.now c.size_at-size.result)
