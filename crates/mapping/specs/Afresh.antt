-- A dictionary from which plans and ready frames can be worked afresh, and what changes by it.
-- Assumes nothing.
use Rattle.std.specs.Prelude.{ℕ, ◌≤◌, ◌≡◌, List, map, Bool, true, not, length, get_or}
use Rattle.rules_dictionary.specs.declared.PdoData.{PdoData}
use Rattle.rules_dictionary.specs.Table.{dictionary_length, map_count, most_moves}
use Rattle.rules_dictionary.specs.Values.{read}
use Rattle.rules_services.specs.PdoTraffic.{no_data}
use Rattle.rules.specs.Outcome.{same_data, transmitters}
use Rattle.dictionary.specs.Sizes.{IsPdo}
use Rattle.mapping.specs.Words.{mapping_legal}

-- every mapping is one that gives a plan
abbrev pub MapsLegally : List ℕ → Type 0
MapsLegally d = (p : ℕ) → IsPdo p → (read d (map_count p) ≤ most_moves) × (mapping_legal d p ≡ true)

abbrev pub GivesPlans : List ℕ → Type 0
GivesPlans d = (length d ≡ dictionary_length) × MapsLegally d

-- which of the transmit PDOs' ready frames are no longer those that were kept
abbrev pub which_change : List PdoData → List PdoData → List Bool
which_change kept ready = map (λ t. not (same_data (get_or kept t no_data) (get_or ready t no_data))) transmitters
