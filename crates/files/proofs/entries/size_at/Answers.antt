-- Four bytes of the head.
-- Assumes nothing.
use Rattle.std.proofs.Common.{◌∙◌, sym}
use Rattle.files.proofs.Heads.{size_there}
use Rattle.files.proofs.entries.size_at.Goals as goal

pub returns : goal.returns
returns c =
    let a = c.args in
    c.read4.ensures ∙ sym (size_there a.at a.file.now)
