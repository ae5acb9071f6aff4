-- `output::send` meets its contract. Assumes nothing.
use Rattle.std.proofs.Common.{◌∙◌}
use Rattle.output.proofs.Frames.{laid_as, laid_is_sent}
use Rattle.output.proofs.send.Goals as goal

pub returns : goal.returns
returns c =
    let a = c.args in
    let head = c.copy_from_slice.ensures.after ∙ c.to_le_bytes.ensures in
    laid_as a.identifier a.content a.output.now _ _ c.requires.0 head c.copy_from_slice-2.ensures.after
    ∙ laid_is_sent a.identifier a.content a.output.now c.requires.1
