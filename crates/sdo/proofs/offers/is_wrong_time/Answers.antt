-- By what each role asks. Assumes nothing.
use Rattle.std.proofs.Common.{◌≡◌, ℕ, false, not, ap, ◌⊎◌, List, inl, inr, rules}
use Rattle.state.specs.declared.NmtState.{NmtState}
use Rattle.rules_dictionary.specs.declared.Role.{Role}
use Rattle.rules_dictionary.specs.declared.Role.TheVariants.{Plain, ModeOfOperation, MinimumLimit, MaximumLimit}
use Rattle.rules_services.specs.Sdo.{is_wrong_time}
use Rattle.sdo.proofs.offers.is_wrong_time.Goals as goal

module _ (nmt : NmtState) (d : List ℕ) {role : Role} where
  at_any_time : (role ≡ Plain) ⊎ ((role ≡ ModeOfOperation) ⊎ ((role ≡ MinimumLimit) ⊎ (role ≡ MaximumLimit))) → false ≡ is_wrong_time nmt d role
  unfolding is_wrong_time
  at_any_time (inl e) = rw e
  at_any_time (inr (inl e)) = rw e
  at_any_time (inr (inr (inl e))) = rw e
  at_any_time (inr (inr (inr e))) = rw e

pub is_mapping_shut-requires : goal.is_mapping_shut-requires
is_mapping_shut-requires c = (search rules, rw c.in-MappingCount.is at c.requires.1)

pub is_entry_shut-requires : goal.is_entry_shut-requires
is_entry_shut-requires c = (search rules, rw c.in-MappingEntry.is at c.requires.1)

pub returns-in-Plain : goal.returns-in-Plain
returns-in-Plain c = at_any_time c.args.nmt c.args.d.now c.in-Plain.is

pub returns-in-PdoIdentifier : goal.returns-in-PdoIdentifier
unfolding is_wrong_time
returns-in-PdoIdentifier c = rw c.in-PdoIdentifier.is (ap not c.is_pre_operational.ensures)

pub returns-in-PdoType : goal.returns-in-PdoType
unfolding is_wrong_time
returns-in-PdoType c = rw c.in-PdoType.is (ap not c.is_pre_operational-in-PdoType.ensures)

pub returns-in-MappingCount : goal.returns-in-MappingCount
unfolding is_wrong_time
returns-in-MappingCount c = rw c.in-MappingCount.is c.is_mapping_shut.ensures

pub returns-in-MappingEntry : goal.returns-in-MappingEntry
unfolding is_wrong_time
returns-in-MappingEntry c = rw c.in-MappingEntry.is c.is_entry_shut.ensures
