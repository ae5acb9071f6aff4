-- `nmt::resets::reset_communication` meets its contract. Assumes nothing.
use mathlib.Core.Path.{refl}
use Rattle.rules_services.specs.Nmt.{commanded, left, voltage_disabled}
use Rattle.form.specs.Form.{state_of}
use Rattle.output.proofs.Left.{loud}
use Rattle.nmt.proofs.Commanding.{set_back}
use Rattle.nmt.proofs.resets.reset_communication.Goals as goal

pub write_communication_defaults-requires : goal.write_communication_defaults-requires
write_communication_defaults-requires c =
    let may = c.requires in
    let is = c.read_node-node.ensures in
    (may.lent.long, (rw is may.first, rw is may.lent.id))

pub returns : goal.returns
unfolding commanded left voltage_disabled
returns c =
    let s = state_of c.args.state.now in
    let is = c.read_node-node.ensures in
    let started = c.put_node.ensures s c.requires.lent.own in
    let holds = c.put_no_transfer.ensures _ (c.put_none_held.ensures _ (c.disable_voltage.ensures _ started)) in
    rw c.nothing_done.ensures (
      set_back s.node.id s _ _ _ _ _ (rw is at holds) (rw is at c.write_communication_defaults.ensures)
          (rw is at c.boot_up.ensures),
      loud s _ _ refl,
    )
