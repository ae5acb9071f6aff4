-- The command, the object, and the value low byte first. Assumes nothing.
use Rattle.std.proofs.Common.{rules}
use Rattle.sdo.proofs.Parts.{reply_made}
use Rattle.sdo.proofs.replies.reply_to.Goals as goal

pub returns : goal.returns
returns c = reply_made c.args.command c.args.v c.args.object _ (search rules) c.to_le_bytes.ensures
