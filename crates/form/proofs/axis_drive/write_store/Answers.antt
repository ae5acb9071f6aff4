use Rattle.form.specs.Form.{store_place}
use Rattle.form.proofs.Rows.{store_written}
use Rattle.form.proofs.axis_drive.write_store.Goals as goal

pub returns : goal.returns
returns c =
    let q = c.write_set_point-2.ensures in
    let p = c.write_set_point.ensures in
    let first = c.first_of.ensures in
    let second = c.second_of.ensures in (
      rw (q.0, p.0, c.store_kind.ensures, first, second) (store_written _ store_place _),
      record { first = rw first at p.1; second = rw second at q.1 },
    )
