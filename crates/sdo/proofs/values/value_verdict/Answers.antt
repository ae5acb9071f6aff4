-- The range first, then the role. Assumes nothing.
use borrow.Author.Tests.{lt-ltb, le-ltb}
use Rattle.rules_dictionary.specs.Aborts.{first_firing}
use Rattle.sdo.specs.Verdicts.{value_verdict_of}
use Rattle.sdo.proofs.values.value_verdict.Goals as goal

pub returns-then-v-e : goal.returns-then-v-e
unfolding value_verdict_of first_firing
returns-then-v-e c = rw (lt-ltb _ _ c.if-v-e.true)

pub returns-then-e-v : goal.returns-then-e-v
unfolding value_verdict_of first_firing
returns-then-e-v c = rw (le-ltb _ _ c.if-v-e.false, lt-ltb _ _ c.if-e-v.true)

pub returns : goal.returns
unfolding value_verdict_of first_firing
returns c = rw (le-ltb _ _ c.if-v-e.false, le-ltb _ _ c.if-e-v.false) c.role_verdict.ensures
