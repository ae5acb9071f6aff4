-- The text has room for the answer to each record. Assumes nothing.
use Rattle.std.proofs.Common.{arith}
use Rattle.bench.proofs.batches.gather.Goals as goal

pub put_answer-requires : goal.put_answer-requires
put_answer-requires c = omega (arith, c.in-Ok.ensures.served)
