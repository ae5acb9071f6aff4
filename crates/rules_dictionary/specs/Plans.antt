-- Document 01, 'PDO traffic': the plans and the ready frames, worked afresh from the dictionary.
-- Assumes nothing.
use Rattle.std.specs.Prelude.{ℕ, List, [], ◌∷◌, ◌++◌, map, length, take}
use Rattle.rules_dictionary.specs.declared.Move.{Move}
use Rattle.rules_dictionary.specs.declared.Plan.{Plan}
use Rattle.rules_dictionary.specs.declared.PdoData.{PdoData}
use Rattle.rules_dictionary.specs.Numbers.{padded}
use Rattle.rules_dictionary.specs.Table.{Row, size_of, place_of, map_count, most_moves, pdos, transmit_pdos, word_index, word_subindex, Found, found}
use Rattle.rules_dictionary.specs.Table.{the_name, no_object, no_subindex, lookup}
use Rattle.rules_dictionary.specs.Values.{read, field}
use Rattle.rules_dictionary.specs.Legal.{map_words}

-- the rows that mapping words name, in order
unfoldable pub and_then : Found → List Row → List Row
and_then (found x) xs = x ∷ xs
and_then the_name xs = xs
and_then no_object xs = xs
and_then no_subindex xs = xs

unfoldable pub targets : List ℕ → List Row
targets [] = []
targets (w ∷ ws) = and_then (lookup (word_index w) (word_subindex w)) (targets ws)

-- the rows that a PDO maps
unfoldable pub mapped : List ℕ → ℕ → List Row
mapped d p = targets (take (read d (map_count p)) (map_words d p))

-- "up to eight moves (place and size in the dictionary)"
abbrev pub move : Row → Move
move x = record { place = place_of x; size = size_of x }

abbrev pub no_move : Move
no_move = record { place = 0; size = 0 }

unfoldable pub plan_for : List Row → Plan
plan_for xs = record { count = length xs; moves = padded no_move most_moves (map move xs) }

unfoldable pub plans_of : List ℕ → List Plan
plans_of d = map (λ p. plan_for (mapped d p)) pdos

-- "the mapped bytes joined in order"
unfoldable pub joined : List ℕ → List Row → List ℕ
joined d [] = []
joined d (x ∷ xs) = field d x ++ joined d xs

-- "eight data bytes, unused ones zero"
abbrev pub most_bytes : ℕ
most_bytes = 8

unfoldable pub pdo_data : List ℕ → PdoData
pdo_data bs = record { length = length bs; bytes = padded 0 most_bytes bs }

unfoldable pub ready_for : List ℕ → ℕ → PdoData
ready_for d p = pdo_data (joined d (mapped d p))

unfoldable pub ready_of : List ℕ → List PdoData
ready_of d = map (ready_for d) transmit_pdos

-- opens every definition of this module, where a proof computes
unfoldable pub open_plans : Unit {0}
unfolding and_then targets mapped plan_for plans_of joined pdo_data ready_for ready_of
open_plans = tt
