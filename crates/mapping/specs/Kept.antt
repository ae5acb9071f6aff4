-- What a state's bytes keep of a PDO's mapping: its plan, and of a transmit PDO its ready frame.
-- Assumes nothing.
use Rattle.std.specs.Prelude.{ℕ, ◌+◌, ◌-◌, ◌*◌, List, [], ◌∷◌, Bool, true, false, ◌&&◌, ◌||◌, eqb, leb, get_or}
use Rattle.rules_dictionary.specs.Table.{Direction, map_count, most_moves}
use Rattle.rules_dictionary.specs.Values.{read}
use Rattle.rules_dictionary.specs.Plans.{mapped, plan_for}
use Rattle.rules.specs.Outcome.{same_plan, same_data, most_data}
use Rattle.form.specs.Form.{word_length, move_of, plan_at, plan_place, data_at, data_length, ready_place}
use Rattle.form.specs.Own.{plan_own, is_zero, every_word}
use Rattle.mapping.specs.Words.{kept_word, names_one, mapping_legal}
use Rattle.mapping.specs.Slots.{words_from}
use Rattle.mapping.specs.Moves.{ready_by}

-- ---- mapping words beside the words that are kept for them

-- a word within the count: it names an object, and the kept word is that of the object's move
abbrev pub maps_kept : Direction → ℕ → ℕ → Bool
maps_kept way w k = names_one way w && eqb k (kept_word way w)

-- a word past the count: it is legal, and nothing is kept for it
abbrev pub spares_kept : Direction → ℕ → ℕ → Bool
spares_kept way w k = eqb k 0 && (eqb w 0 || names_one way w)

-- the words within the count from here on, with so many bytes before them: eight bytes are the most
unfoldable pub mapped_kept : Direction → ℕ → List ℕ → List ℕ → Bool
mapped_kept way used [] [] = leb used most_data
mapped_kept way used [] (k ∷ ks) = false
mapped_kept way used (w ∷ ws) [] = false
mapped_kept way used (w ∷ ws) (k ∷ ks) = maps_kept way w k && mapped_kept way (used + (move_of k).size) ws ks

-- the words past the count
unfoldable pub spare_kept : Direction → List ℕ → List ℕ → Bool
spare_kept way [] [] = true
spare_kept way [] (k ∷ ks) = false
spare_kept way (w ∷ ws) [] = false
spare_kept way (w ∷ ws) (k ∷ ks) = spares_kept way w k && spare_kept way ws ks

-- so many words, four to eight, are zero: read from both ends
unfoldable pub ends_empty : ℕ → ℕ → List ℕ → Bool
ends_empty n place bs = every_word is_zero 4 place bs && every_word is_zero 4 (place + 4 * (n - 4)) bs

-- ---- the plan and the ready frame

-- its bytes are a plan's form, its mapping is legal with a count of eight at most, and the plan is the one that the mapping gives
unfoldable pub plan_kept_in : List ℕ → List ℕ → ℕ → Bool
plan_kept_in bs d p =
    plan_own (plan_place p) bs
    && (leb (read d (map_count p)) most_moves && (mapping_legal d p && same_plan (plan_at (plan_place p) bs) (plan_for (mapped d p))))

-- the bytes of a mapping record: its count and eight words
abbrev pub record_length : ℕ
record_length = 1 + most_moves * word_length

-- the same by places, as it is tested: the count of the mapping record, the plan's count, then the words within the count and those past it
unfoldable pub plan_kept_at : Direction → ℕ → ℕ → List ℕ → List ℕ → Bool
plan_kept_at way plan map bs d =
    let count = get_or d map 0 in
    leb count most_moves && (eqb (get_or bs plan 0) count
    && (mapped_kept way 0 (words_from count (map + 1) d) (words_from count (plan + 1) bs)
    && spare_kept way (words_from (most_moves - count) (map + 1 + word_length * count) d)
    (words_from (most_moves - count) (plan + 1 + word_length * count) bs)))

-- where a transmit PDO's ready frame stands
abbrev pub frame_place : ℕ → ℕ
frame_place t = ready_place + data_length * t

-- the frame at a place is the one that the plan at a place gives
abbrev pub frame_kept_at : ℕ → ℕ → List ℕ → List ℕ → Bool
frame_kept_at frame plan bs d = same_data (data_at frame bs) (ready_by d (plan_at plan bs))
