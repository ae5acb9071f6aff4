use Rattle.form.specs.Form.{receipt_at}
use Rattle.form.proofs.transfers.read_receipt.Goals as goal

pub returns : goal.returns
unfolding receipt_at
returns c = rw c.flag_of.ensures
