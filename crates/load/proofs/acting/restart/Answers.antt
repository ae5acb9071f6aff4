-- Where 1017h was written, or not. Assumes nothing.
use Rattle.load.proofs.acting.restart.Goals as goal

pub returns-then-written : goal.returns-then-written
returns-then-written c = λ s h. rw c.if-written.true (c.put_heartbeat.ensures s h)

pub returns-else-written : goal.returns-else-written
returns-else-written c = λ s h. rw c.if-written.false h
