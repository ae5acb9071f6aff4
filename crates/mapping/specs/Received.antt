-- What a plan's moves do with the bytes of a received frame: each takes its own from the front, and leaves the rest to those behind it.
-- Assumes nothing.
use Rattle.std.specs.Prelude.{ℕ, ◌*◌, ◌<◌, ◌≤◌, ◌≡◌, List, [], ◌∷◌, map, Bool, true, cond, not, ◌&&◌, eqb, length, take, drop}
use Rattle.std.proofs.lemmas.List.Edits.{sets}
use Rattle.rules_dictionary.specs.declared.Move.{Move}
use Rattle.rules_dictionary.specs.declared.Plan.{Plan}
use Rattle.rules_dictionary.specs.Numbers.{value, bytes, any, sum}
use Rattle.rules_dictionary.specs.Table.{Row, receive, each_way, most_moves, place_of, mode, profile_acceleration, profile_deceleration}
use Rattle.rules_dictionary.specs.Legal.{is_mode}
use Rattle.form.specs.Form.{state_length, plan_in}
use Rattle.mapping.specs.Words.{mappables}
use Rattle.rules_dictionary.specs.Members.{In}
use Rattle.rules_dictionary.specs.Plans.{plan_for}
use Rattle.mapping.specs.Moves.{MovesFit}

-- a plan's moves, without its spare slots
abbrev pub moves_of : Plan → List Move
moves_of plan = take plan.count plan.moves

-- the plan of PDO p stands in a state's bytes, and its moves are values of the dictionary
pub record PlanFits (bs : List ℕ) (p : ℕ) : Type 0 where
  pub whole : length bs ≡ state_length
  pub number : p < 2 * each_way
  pub fits : MovesFit (plan_in bs p).moves (plan_in bs p).count

-- how many bytes the moves are
abbrev pub sizes : List Move → ℕ
sizes ms = sum (map (λ m. m.size) ms)

-- a move of that place is among them
abbrev pub has_place : ℕ → List Move → Bool
has_place place ms = any (λ m. eqb m.place place) ms

-- of the objects that may be received, 6060h must be a mode, 6083h and 6084h not zero; the others are free
abbrev pub is_legal : ℕ → ℕ → Bool
is_legal place v =
    cond (eqb place (place_of mode)) (is_mode v)
    (cond (eqb place (place_of profile_acceleration)) (not (eqb v 0)) (cond (eqb place (place_of profile_deceleration)) (not (eqb v 0)) true))

-- every value packed in the bytes may be received
unfoldable pub moves_legal : List Move → List ℕ → Bool
moves_legal [] bs = true
moves_legal (m ∷ ms) bs = is_legal m.place (value (take m.size bs)) && moves_legal ms (drop m.size bs)

-- the dictionary with every value packed in the bytes, stored in order
unfoldable pub stored_moves : List Move → List ℕ → List ℕ → List ℕ
stored_moves [] bs d = d
stored_moves (m ∷ ms) bs d = stored_moves ms (drop m.size bs) (sets d m.place (bytes m.size (value (take m.size bs))))

-- ---- a plan and the rows that it is for

-- every row may be mapped to receive
abbrev pub Received : List Row → Type 0
Received xs = (x : Row) → In x xs → In x (mappables receive)

-- the plan of a receive PDO that maps these rows
pub record Receives (plan : Plan) (xs : List Row) : Type 0 where
  pub fresh : plan ≡ plan_for xs
  pub few : length xs ≤ most_moves
  pub received : Received xs
  pub fits : MovesFit plan.moves plan.count
