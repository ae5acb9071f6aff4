-- What is said, and the transfer that runs. Assumes nothing.
use Rattle.rules_services.specs.Sdo.{reply}
use Rattle.rules_services.specs.Segments.{download_begun}
use Rattle.sdo.proofs.receipts.begin.Goals as goal

pub returns : goal.returns
unfolding download_begun reply
returns c d =
    rw (c.nothing_yet.ensures, c.reply_to.ensures) at (c.answer.ensures d)
