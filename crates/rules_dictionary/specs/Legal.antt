-- Document 01, 'SDO', and ticket 5: what value a row may hold in a dictionary. An SDO write, a received frame and soundness all go by it.
-- Assumes nothing.
use Rattle.std.specs.Prelude.{ℕ, ◌*◌, List, [], ◌∷◌, map, Bool, true, false, not, ◌&&◌, ◌||◌, eqb, leb, ltb, take, drop, get_or}
use Rattle.std.specs.Bool.{beq}
use Rattle.std.specs.Int.Signed.{le_z}
use Rattle.rules_dictionary.specs.declared.Mode.{Mode}
use Rattle.rules_dictionary.specs.declared.Mode.TheVariants.{NoMode, ProfilePosition, ProfileVelocity}
use Rattle.rules_dictionary.specs.Numbers.{bit, bits, integer, between, any, sum}
use Rattle.rules_dictionary.specs.declared.Role.{Role}
use Rattle.rules_dictionary.specs.declared.Role.TheVariants.{Plain, ModeOfOperation, MinimumLimit, MaximumLimit, PdoIdentifier, PdoType}
use Rattle.rules_dictionary.specs.declared.Role.TheVariants.{MappingCount, MappingEntry}
use Rattle.rules_dictionary.specs.Table.{Row, Mappable, unmappable, to_receive, to_transmit, Direction, receive, transmit, direction_of, pdos}
use Rattle.rules_dictionary.specs.Table.{identifier, map_entry, map_slots, words_place, word_index, word_subindex, word_length, size_of, Found, found}
use Rattle.rules_dictionary.specs.Table.{the_name, no_object as missing, no_subindex as missing_subindex, lookup, minimum_position, maximum_position}
use Rattle.rules_dictionary.specs.Values.{read, unpacked}
use Rattle.rules_dictionary.specs.Aborts.{Verdict, good, bad, is_good, test, first_firing, no_object, no_subindex}
use Rattle.rules_dictionary.specs.Aborts.{below_range, above_range, bad_value, limits_swapped, not_mappable, over_length}

-- ---- modes: "Mode must be 0, 1 or 3"

abbrev pub mode_number : Mode → ℕ
mode_number NoMode = 0
mode_number ProfilePosition = 1
mode_number ProfileVelocity = 3

abbrev pub modes : List Mode
modes = NoMode ∷ ProfilePosition ∷ ProfileVelocity ∷ []

abbrev pub is_mode : ℕ → Bool
is_mode v = any (λ m. eqb v (mode_number m)) modes

-- ---- transmission types: "Types 0..240, 254, 255"

abbrev pub last_synchronous : ℕ
last_synchronous = 240

abbrev pub first_event_driven : ℕ
first_event_driven = 254

-- 0..240 wait for SYNC
abbrev pub is_synchronous : ℕ → Bool
is_synchronous t = leb t last_synchronous

-- 1..240: each so many SYNCs
abbrev pub is_cyclic : ℕ → Bool
is_cyclic t = between 1 last_synchronous t

-- 254 and 255 go at once
abbrev pub is_event_driven : ℕ → Bool
is_event_driven t = leb first_event_driven t

abbrev pub is_type : ℕ → Bool
is_type t = is_synchronous t || is_event_driven t

-- ---- PDO identifiers: "bit 31 invalid; bit 30 is 1 for transmit, 0 for receive; 29-11 zero; a valid one lies in 181h..57Fh
-- and differs from every other valid PDO; valid to a different valid word is bad"

abbrev pub invalid_bit : ℕ
invalid_bit = 31

abbrev pub transmit_bit : ℕ
transmit_bit = 30

abbrev pub identifier_bits : ℕ
identifier_bits = 11

abbrev pub first_identifier : ℕ
first_identifier = 0x181

abbrev pub last_identifier : ℕ
last_identifier = 0x57F

abbrev pub is_valid : ℕ → Bool
is_valid w = not (bit invalid_bit w)

abbrev pub frame_identifier : ℕ → ℕ
frame_identifier w = bits 0 identifier_bits w

abbrev pub reserved_bits : ℕ → ℕ
reserved_bits w = bits identifier_bits transmit_bit w

abbrev pub transmits : Direction → Bool
transmits receive = false
transmits transmit = true

-- the identifier words of the eight PDOs
unfoldable pub identifiers : List ℕ → List ℕ
identifiers d = map (λ p. read d (identifier p)) pdos

-- another PDO is valid and has this word's eleven bits; `ws` are the present words
unfoldable pub clashes : List ℕ → ℕ → ℕ → ℕ → Bool
clashes ws p w q =
    not (eqb q p) && is_valid (get_or ws q 0) && eqb (frame_identifier w) (frame_identifier (get_or ws q 0))

unfoldable pub bad_identifier : List ℕ → ℕ → ℕ → Bool
bad_identifier ws p w =
    not (beq (bit transmit_bit w) (transmits (direction_of p)))
    || not (eqb (reserved_bits w) 0)
    || (is_valid w && not (between first_identifier last_identifier (frame_identifier w)))
    || (is_valid w && any (clashes ws p w) pdos)
    || (is_valid w && is_valid (get_or ws p 0) && not (eqb w (get_or ws p 0)))

-- ---- the software limits, by ticket 5: "A write to 607Dh:1 or :2 that would leave minimum above maximum is now refused"

-- the words as signed integers; "equal limits are accepted"
abbrev pub in_order : ℕ → ℕ → Bool
in_order minimum maximum = le_z (integer minimum) (integer maximum)

-- a limit beside the other one as it stands in the dictionary
unfoldable pub swaps_limits : List ℕ → Role → ℕ → Bool
swaps_limits d Plain v = false
swaps_limits d ModeOfOperation v = false
swaps_limits d MinimumLimit v = not (in_order v (read d maximum_position))
swaps_limits d MaximumLimit v = not (in_order (read d minimum_position) v)
swaps_limits d (PdoIdentifier p) v = false
swaps_limits d (PdoType p) v = false
swaps_limits d (MappingCount p) v = false
swaps_limits d (MappingEntry p) v = false

-- ---- mapping words: "0 or index, subindex, bit length"

abbrev pub suits : Direction → Mappable → Bool
suits receive unmappable = false
suits receive to_receive = true
suits receive to_transmit = false
suits transmit unmappable = false
suits transmit to_receive = false
suits transmit to_transmit = true

-- "A missing target gives 06020000h or 06090011h; wrong direction or length 06040041h"
unfoldable pub target_verdict : Direction → ℕ → Found → Verdict
target_verdict way w (found x) =
    first_firing (test (not (suits way x.mappable) || not (eqb (word_length w) (8 * size_of x))) not_mappable ∷ []) good
target_verdict way w the_name = bad not_mappable
target_verdict way w missing = bad no_object
target_verdict way w missing_subindex = bad no_subindex

unfoldable pub entry_verdict : ℕ → ℕ → Verdict
entry_verdict p w =
    elim (eqb w 0) [ true ↦ good | false ↦ target_verdict (direction_of p) w (lookup (word_index w) (word_subindex w)) ]

-- the eight mapping words of a PDO, which stand one after another
unfoldable pub map_words : List ℕ → ℕ → List ℕ
map_words d p = map (λ w. w.value) (unpacked (map (map_entry p) map_slots) (drop (words_place p) d))

abbrev pub most_bits : ℕ
most_bits = 64

-- "a zero among the first n gives 06040041h, over 64 bits 06040042h"
unfoldable pub count_verdict : List ℕ → ℕ → Verdict
count_verdict words n =
    let ws = take n words in
    first_firing (test (any (eqb 0) ws) not_mappable ∷ test (ltb most_bits (sum (map word_length ws))) over_length ∷ []) good

-- ---- a value for a row, "in order: below range 06090032h, above 06090031h; other bad value 06090030h; mapping faults"; the limits' order
-- "06040043h, after the range aborts and before mapping faults"

-- a bad mode or transmission type
abbrev pub bad_choice : Role → ℕ → Bool
bad_choice Plain v = false
bad_choice ModeOfOperation v = not (is_mode v)
bad_choice MinimumLimit v = false
bad_choice MaximumLimit v = false
bad_choice (PdoIdentifier p) v = false
bad_choice (PdoType p) v = not (is_type v)
bad_choice (MappingCount p) v = false
bad_choice (MappingEntry p) v = false

unfoldable pub other_bad_value : List ℕ → Role → ℕ → Bool
other_bad_value d Plain v = false
other_bad_value d ModeOfOperation v = bad_choice ModeOfOperation v
other_bad_value d MinimumLimit v = false
other_bad_value d MaximumLimit v = false
other_bad_value d (PdoIdentifier p) v = bad_identifier (identifiers d) p v
other_bad_value d (PdoType p) v = bad_choice (PdoType p) v
other_bad_value d (MappingCount p) v = false
other_bad_value d (MappingEntry p) v = false

unfoldable pub mapping_verdict : List ℕ → Role → ℕ → Verdict
mapping_verdict d Plain v = good
mapping_verdict d ModeOfOperation v = good
mapping_verdict d MinimumLimit v = good
mapping_verdict d MaximumLimit v = good
mapping_verdict d (PdoIdentifier p) v = good
mapping_verdict d (PdoType p) v = good
mapping_verdict d (MappingCount p) v = count_verdict (map_words d p) v
mapping_verdict d (MappingEntry p) v = entry_verdict p v

abbrev pub is_below : Row → ℕ → Bool
is_below x v = ltb v x.range.least

abbrev pub is_above : Row → ℕ → Bool
is_above x v = ltb x.range.greatest v

unfoldable pub value_verdict : List ℕ → Row → ℕ → Verdict
value_verdict d x v =
    first_firing
    (test (is_below x v) below_range
    ∷ test (is_above x v) above_range
    ∷ test (other_bad_value d x.role v) bad_value
    ∷ test (swaps_limits d x.role v) limits_swapped
    ∷ [])
    (mapping_verdict d x.role v)

-- the row may hold that value in this dictionary
abbrev pub may_hold : List ℕ → Row → ℕ → Bool
may_hold d x v = is_good (value_verdict d x v)

-- opens every definition of this module, where a proof computes
unfoldable pub open_legal : Unit {0}
unfolding identifiers clashes bad_identifier swaps_limits target_verdict entry_verdict map_words count_verdict
    other_bad_value mapping_verdict value_verdict
open_legal = tt
