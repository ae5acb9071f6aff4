use Rattle.std.proofs.Common.{rules, ◌∙◌}
use Rattle.form.specs.Typed.{SetPointTyped}
use Rattle.form.proofs.Rows.{set_point_written}
use Rattle.form.proofs.axis_drive.write_set_point.Goals as goal

pub returns : goal.returns
returns c =
    let a = c.args in
    let typed : SetPointTyped a.p =
    record { target = search rules; velocity = search rules; acceleration = search rules; deceleration = search rules } in
    let first = c.write4.ensures in
    let all = rw (c.write4-3.ensures, c.write4-2.ensures, first) at c.write4-4.ensures in
    (all ∙ set_point_written a.bytes.now a.place a.p, typed)
