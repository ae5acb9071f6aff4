-- By what its callee promises. Assumes nothing.
use Rattle.rules_dictionary.specs.Aborts.{first_firing}
use Rattle.sdo.specs.Verdicts.{limits_verdict}
use Rattle.sdo.proofs.values.limits_verdict.Goals as goal

pub returns-then-is_at_most : goal.returns-then-is_at_most
unfolding limits_verdict first_firing
returns-then-is_at_most c = rw (← c.is_at_most.ensures, c.if-is_at_most.true)

pub returns : goal.returns
unfolding limits_verdict first_firing
returns c = rw (← c.is_at_most.ensures, c.if-is_at_most.false)
