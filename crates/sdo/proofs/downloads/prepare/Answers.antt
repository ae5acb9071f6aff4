-- By the place of 1017h. Assumes nothing.
use borrow.Author.Tests.{eq-eqb, ne_eqb}
use Rattle.rules_dictionary.specs.Table.{open_table}
use Rattle.rules_services.specs.Effects.{without_transfer}
use Rattle.sdo.proofs.downloads.prepare.Goals as goal

pub returns-then-place-eq-HEARTBEAT_TIME : goal.returns-then-place-eq-HEARTBEAT_TIME
unfolding open_table
returns-then-place-eq-HEARTBEAT_TIME c =
    λ s h. rw (eq-eqb _ _ c.if-place-eq-HEARTBEAT_TIME.true)
    (c.put_heartbeat.ensures (without_transfer s) (c.put_no_transfer.ensures s h))

pub returns-else-place-eq-HEARTBEAT_TIME : goal.returns-else-place-eq-HEARTBEAT_TIME
unfolding open_table
returns-else-place-eq-HEARTBEAT_TIME c = λ s h. rw (ne_eqb _ _ c.if-place-eq-HEARTBEAT_TIME.false) (c.put_no_transfer.ensures s h)
