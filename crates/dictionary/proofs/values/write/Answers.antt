-- By the size. Assumes nothing.
use Rattle.dictionary.proofs.Bytes.{bytes_low}
use Rattle.dictionary.proofs.values.write.Goals as goal

pub returns-in-1 : goal.returns-in-1
returns-in-1 c = cc (bytes_low 1 c.args.v)

pub returns-in-2 : goal.returns-in-2
returns-in-2 c = cc (bytes_low 2 c.args.v)
