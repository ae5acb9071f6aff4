-- `soundness::rows::rows_legal` meets its contract. Assumes nothing.
use Rattle.soundness.specs.Rows.{row_tests}
use Rattle.soundness.proofs.rows.rows_legal.Goals as goal

pub returns : goal.returns
unfolding row_tests
returns c =
    rw (c.node_legal.ensures, c.communications_legal.ensures, c.communications_legal-2.ensures, c.drive_legal.ensures)
