-- Document 01, 'PDO traffic': the move that a mapping word names, out of the objects that may be mapped.
-- Assumes nothing.
use Rattle.std.specs.Prelude.{ℕ, ◌+◌, ◌*◌, ◌/◌, ◌%◌, ◌^◌, Bool, cond, not, ◌&&◌, eqb}
use mathlib.Core.List.{List, [], ◌∷◌, flat_map}
use Rattle.rules_dictionary.specs.declared.Move.{Move}
use Rattle.rules_dictionary.specs.Table.{Row, Direction, receive, transmit, mapping_word, map_count}
use Rattle.rules_dictionary.specs.Table.{error_register, error_code, status_word, mode_display, position, velocity, control_word, mode}
use Rattle.rules_dictionary.specs.Table.{target_position, profile_velocity, profile_acceleration, profile_deceleration, target_velocity, open_table}
use Rattle.rules_dictionary.specs.Numbers.{all}
use Rattle.rules_dictionary.specs.Values.{read}
use Rattle.rules_dictionary.specs.Aborts.{is_good}
use Rattle.rules_dictionary.specs.Legal.{map_words, entry_verdict, count_verdict}
use Rattle.rules_dictionary.specs.Plans.{move, no_move}
use Rattle.form.specs.Form.{half, each}

-- the objects of the table that may be mapped that way
abbrev pub mappables : Direction → List Row
mappables receive =
    control_word ∷ mode ∷ target_position ∷ profile_velocity ∷ profile_acceleration ∷ profile_deceleration ∷ target_velocity ∷ []
mappables transmit = error_register ∷ error_code ∷ status_word ∷ mode_display ∷ position ∷ velocity ∷ []

-- the move of the first row that has that mapping word
unfoldable pub named : ℕ → List Row → Move
named w [] = no_move
named w (x ∷ xs) = cond (eqb w (mapping_word x)) (move x) (named w xs)

-- the move that a mapping word of 32 bits names that way; of no size where it names none
unfoldable pub word_move : Direction → ℕ → Move
word_move way w = named (w % 2 ^ 32) (mappables way)

-- "mappings .. legal": all eight words of a PDO, and their count
unfoldable pub mapping_legal : List ℕ → ℕ → Bool
mapping_legal d p =
    let ws = map_words d p in
    all (λ w. is_good (entry_verdict p w)) ws && is_good (count_verdict ws (read d (map_count p)))

abbrev pub way_of : Bool → Direction
way_of transmits = cond transmits transmit receive

-- the word names an object
abbrev pub names_one : Direction → ℕ → Bool
names_one way w = not (eqb (word_move way w).size 0)

-- a move's word: its place in the low half, above it its size
abbrev pub move_word : Move → ℕ
move_word m = m.place + half * m.size

-- the word that a state keeps for that move
unfoldable pub kept_word : Direction → ℕ → ℕ
kept_word way w = move_word (word_move way w)

-- ---- the objects that may be mapped, each at the slot of its mapping word

-- the slots of a direction, and the numbers that a slot holds: a mapping word, and the word of the move that it names
abbrev pub slots : ℕ
slots = 8

abbrev pub slot_length : ℕ
slot_length = 2

-- a mapping word's slot, out of its index; by this multiplier no two objects of a direction have the same
abbrev pub multiplier : ℕ
multiplier = 655

unfoldable pub slot_of : ℕ → ℕ
slot_of w = w / half * multiplier / 2 ^ 8 % slots

-- what a slot holds: the first of the objects whose slot it is; zeros where it is none's
unfoldable pub slotted : List Row → ℕ → List ℕ
unfolding slot_of
slotted [] i = 0 ∷ 0 ∷ []
slotted (x ∷ xs) i = cond (eqb (slot_of (mapping_word x)) i) (mapping_word x ∷ move_word (move x) ∷ []) (slotted xs i)

-- what the slots of a direction hold, one after another
unfoldable pub named_for : Direction → List ℕ
unfolding slotted flat_map open_table
named_for way = flat_map (slotted (mappables way)) (each slots 0 1 (λ i. i))
