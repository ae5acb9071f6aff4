use Rattle.std.proofs.Common.{sym, ◌∙◌}
use Rattle.form.proofs.OneForm.{held_stands}
use Rattle.form.proofs.pdos.read_held_frame.Goals as goal

pub returns : goal.returns
returns c =
    let a = c.args in
    c.read_frame.ensures ∙ sym (held_stands a.bytes.now a.p c.requires.1)
