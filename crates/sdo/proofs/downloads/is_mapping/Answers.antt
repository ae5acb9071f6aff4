-- By the variants: a role that is neither of the two named ones is of no mapping. Assumes nothing.
use Rattle.std.proofs.Common.{refl, ◌≡◌, ℕ}
use mathlib.Core.Bool.{false}
use Rattle.rules_dictionary.specs.declared.Role.TheVariants.{the_data, Plain, ModeOfOperation, MinimumLimit, MaximumLimit, PdoIdentifier, PdoType, MappingCount, MappingEntry}
use Rattle.output.specs.Leaves.{is_mapping}
use Rattle.sdo.proofs.downloads.is_mapping.Goals as goal

of_none : (r : the_data) → ((x : ℕ) → r ≡ MappingCount x → ⊥) → ((x : ℕ) → r ≡ MappingEntry x → ⊥) → false ≡ is_mapping r
of_none Plain n m = refl
of_none ModeOfOperation n m = refl
of_none MinimumLimit n m = refl
of_none MaximumLimit n m = refl
of_none (PdoIdentifier p) n m = refl
of_none (PdoType p) n m = refl
of_none (MappingCount p) n m = absurd (n p refl)
of_none (MappingEntry p) n m = absurd (m p refl)

pub returns-in_default : goal.returns-in_default
returns-in_default c = of_none c.args.role (search (c.in_default)) (search (c.in_default))
