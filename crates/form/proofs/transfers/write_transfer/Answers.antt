use Rattle.form.specs.Form.{receipt_form, transfer_form}
use Rattle.form.proofs.transfers.write_transfer.Goals as goal

pub returns : goal.returns
unfolding receipt_form transfer_form
returns c =
    rw (c.flag_number.ensures, c.transfer_kind.ensures, c.receipt_of-g.ensures)
