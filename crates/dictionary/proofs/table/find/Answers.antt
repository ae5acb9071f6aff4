-- The device name stands beside the table; the table in code is the definitions', by one computed test. Assumes nothing.
use Rattle.std.proofs.Common.{refl}
use Rattle.rules_dictionary.specs.Table.{table}
use Rattle.rules_dictionary.proofs.LookUp.{is_name, no_name, elsewhere}
use Rattle.dictionary.proofs.Spots.{tells}
use Rattle.dictionary.proofs.table.find.Goals as goal

pub found_in-requires : goal.found_in-requires
unfolding table
found_in-requires c = refl

pub returns-then-index-ne-NAME_INDEX : goal.returns-then-index-ne-NAME_INDEX
returns-then-index-ne-NAME_INDEX c = rw c.found_in.ensures (tells _ _ _ (elsewhere _ _ c.if-index-ne-NAME_INDEX.true))

pub returns-then-subindex-eq-NAME_SUBINDEX : goal.returns-then-subindex-eq-NAME_SUBINDEX
returns-then-subindex-eq-NAME_SUBINDEX c = is_name _ _ c.if-index-ne-NAME_INDEX.false c.if-subindex-eq-NAME_SUBINDEX.true

pub returns : goal.returns
returns c = no_name _ _ c.if-index-ne-NAME_INDEX.false c.if-subindex-eq-NAME_SUBINDEX.false
