use Rattle.form.proofs.state_of.Goals as goal

pub returns : goal.returns
returns c =
    rw (c.read_node.ensures, c.read_transfer.ensures, c.read_drive.ensures)
    (rw (c.read_plans.ensures, c.read_ready.ensures)
    (rw (c.read_held.ensures, c.read_paces.ensures)))
