-- By what each role asks. Assumes nothing.
use Rattle.std.proofs.Common.{◌≡◌, ℕ, List, Result, refl, rules}
use Rattle.rules_dictionary.specs.declared.Role.{Role}
use Rattle.rules_dictionary.specs.Aborts.{first_firing}
use Rattle.rules_dictionary.specs.Legal.{other_bad_value, swaps_limits, mapping_verdict}
use Rattle.std.specs.Prelude.{⊤}
use Rattle.sdo.specs.declared.aborts.Abort as declared
use Rattle.sdo.specs.Verdicts.{result_of, bad_if, limits_verdict, role_verdict}
use Rattle.sdo.proofs.values.role_verdict.Goals as goal

by : (d : List ℕ) (v : ℕ) {o k : Role} {r : Result ⊤ declared.Abort} → o ≡ k → r ≡ result_of (role_verdict d k v) → r ≡ result_of (role_verdict d o v)
by d v e h = rw e h

pub bad_identifier-requires : goal.bad_identifier-requires
bad_identifier-requires c = (search rules, rw c.in-PdoIdentifier.is at c.requires.1)

pub count_verdict-requires : goal.count_verdict-requires
count_verdict-requires c = (search rules, rw c.in-MappingCount.is at c.requires.1)

pub returns-in-Plain : goal.returns-in-Plain
unfolding role_verdict other_bad_value swaps_limits mapping_verdict first_firing bad_if limits_verdict
returns-in-Plain c = let a = c.args in by a.d.now a.v c.in-Plain.is refl

pub returns-in-ModeOfOperation : goal.returns-in-ModeOfOperation
unfolding role_verdict other_bad_value swaps_limits mapping_verdict first_firing bad_if limits_verdict
returns-in-ModeOfOperation c =
    let a = c.args in
    by a.d.now a.v c.in-ModeOfOperation.is (rw (← c.is_mode.ensures) c.bad_if.ensures)

pub returns-in-MinimumLimit : goal.returns-in-MinimumLimit
unfolding role_verdict other_bad_value swaps_limits mapping_verdict first_firing bad_if limits_verdict
returns-in-MinimumLimit c =
    let a = c.args in
    by a.d.now a.v c.in-MinimumLimit.is (rw (← c.maximum_position.ensures) c.limits_verdict.ensures)

pub returns-in-MaximumLimit : goal.returns-in-MaximumLimit
unfolding role_verdict other_bad_value swaps_limits mapping_verdict first_firing bad_if limits_verdict
returns-in-MaximumLimit c =
    let a = c.args in
    by a.d.now a.v c.in-MaximumLimit.is (rw (← c.minimum_position.ensures) c.limits_verdict-in-MaximumLimit.ensures)

pub returns-in-PdoIdentifier : goal.returns-in-PdoIdentifier
unfolding role_verdict other_bad_value swaps_limits mapping_verdict first_firing bad_if limits_verdict
returns-in-PdoIdentifier c =
    let a = c.args in
    by a.d.now a.v c.in-PdoIdentifier.is (rw (← c.bad_identifier.ensures) c.bad_if-in-PdoIdentifier.ensures)

pub returns-in-PdoType : goal.returns-in-PdoType
unfolding role_verdict other_bad_value swaps_limits mapping_verdict first_firing bad_if limits_verdict
returns-in-PdoType c =
    let a = c.args in
    by a.d.now a.v c.in-PdoType.is (rw (← c.is_type.ensures) c.bad_if-in-PdoType.ensures)

pub returns-in-MappingCount : goal.returns-in-MappingCount
unfolding role_verdict other_bad_value swaps_limits mapping_verdict first_firing bad_if limits_verdict
returns-in-MappingCount c =
    let a = c.args in
    by a.d.now a.v c.in-MappingCount.is c.count_verdict.ensures

pub returns-in-MappingEntry : goal.returns-in-MappingEntry
unfolding role_verdict other_bad_value swaps_limits mapping_verdict first_firing bad_if limits_verdict
returns-in-MappingEntry c =
    let a = c.args in
    by a.d.now a.v c.in-MappingEntry.is c.entry_verdict.ensures
