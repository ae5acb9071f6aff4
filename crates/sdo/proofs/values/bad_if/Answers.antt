-- Good, or the one abort. Assumes nothing.
use Rattle.std.proofs.Common.{rules}
use Rattle.rules_dictionary.specs.Aborts.{first_firing}
use Rattle.sdo.specs.Verdicts.{bad_if}
use Rattle.sdo.proofs.values.bad_if.Goals as goal

pub returns-then-bad : goal.returns-then-bad
unfolding bad_if first_firing
returns-then-bad c = search rules

pub returns : goal.returns
unfolding bad_if first_firing
returns c = search rules
