use Rattle.std.proofs.Common.{◌∙◌}
use Rattle.form.proofs.Rows.{plan_written}
use Rattle.form.proofs.pdos.PlanPart.write.Goals as goal

pub returns : goal.returns
returns c =
    let w = c.write_row.ensures in
    let a = c.args in
    (w.0 ∙ plan_written a.bytes.now a.place a.self, record { moves = w.1 })
