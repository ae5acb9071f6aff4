-- The bytes that a plan's moves take out of the dictionary, joined in order.
-- Assumes nothing.
use Rattle.std.specs.Prelude.{ℕ, ◌+◌, ◌<◌, ◌≤◌, List, [], ◌∷◌, ◌++◌, map, take, get_or}
use Rattle.rules_dictionary.specs.declared.Move.{Move}
use Rattle.rules_dictionary.specs.declared.Plan.{Plan}
use Rattle.rules_dictionary.specs.declared.PdoData.{PdoData}
use Rattle.rules_dictionary.specs.Numbers.{part, sum}
use Rattle.rules_dictionary.specs.Table.{dictionary_length, most_moves}
use Rattle.rules_dictionary.specs.Plans.{no_move, pdo_data}
use Rattle.rules.specs.Outcome.{most_data}
use Rattle.dictionary.specs.Sizes.{IsSize}

-- the bytes of moves, one after another
unfoldable pub joined_moves : List ℕ → List Move → List ℕ
joined_moves d [] = []
joined_moves d (m ∷ ms) = part m.place m.size d ++ joined_moves d ms

-- the bytes of a plan's moves, and zeros
unfoldable pub ready_by : List ℕ → Plan → PdoData
ready_by d plan = pdo_data (joined_moves d (take plan.count plan.moves))

-- a value of the dictionary
pub record MoveFits (m : Move) : Type 0 where
  pub size : IsSize m.size
  pub inside : m.place + m.size ≤ dictionary_length

-- the first so many moves are values of the dictionary, eight bytes in all at the most
pub record MovesFit (ms : List Move) (n : ℕ) : Type 0 where
  pub few : n ≤ most_moves
  pub each : (i : ℕ) → i < n → MoveFits (get_or ms i no_move)
  pub room : sum (map (λ m. m.size) (take n ms)) ≤ most_data
