-- By its bytes. Assumes nothing.
use Rattle.sdo.proofs.replies.abort.Goals as goal

pub returns : goal.returns
returns c = λ d. rw (c.reply_to.ensures, c.code.ensures) at (c.answer.ensures d)
