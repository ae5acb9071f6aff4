use Rattle.std.proofs.Common.{[]}
use Rattle.form.specs.Form.{with_plans}
use Rattle.form.specs.Typed.{HeadTyped}
use Rattle.form.proofs.Rows.{head_written}
use Rattle.form.proofs.write_head.Goals as goal

pub returns : goal.returns
returns c =
    let a = c.args in
    let s = with_plans [] a.node a.transfer a.drive a.ready a.held a.paces in
    let typed : HeadTyped s =
    record {
      heartbeat = c.write_node.ensures.1;
      stay = c.write_drive.ensures.1.0;
      store = c.write_drive.ensures.1.1;
      ready = c.write_row.ensures.1;
      held = c.write_row-2.ensures.1;
      paces = c.write_row-3.ensures.1;
    } in record {
      bytes_after =
          rw (c.write_row-3.ensures.0, c.write_row-2.ensures.0, c.write_row.ensures.0)
          (rw (c.write_drive.ensures.0, c.write_transfer.ensures, c.write_node.ensures.0)
          (head_written a.bytes.now s c.requires typed));
      head_typed = typed;
    }
