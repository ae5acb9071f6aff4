use Rattle.std.proofs.Common.{sym, ◌∙◌}
use Rattle.form.proofs.OneForm.{ready_stands}
use Rattle.form.proofs.pdos.read_ready_frame.Goals as goal

pub returns : goal.returns
returns c =
    let a = c.args in
    c.read_frame.ensures ∙ sym (ready_stands a.bytes.now a.t c.requires.1)
