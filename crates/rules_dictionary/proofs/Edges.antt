-- The edges of 'The dictionary' and of the values that SDO takes, by computation: the last legal value and the first that is not,
-- each abort code, each default word. They are what a wrong range, place, code or default breaks.
-- Assumes nothing.
use Prim.Native.Nat.{ℕ}
use mathlib.Core.Path.{◌≡◌, refl}
use mathlib.Core.Bool.{true, false}
use mathlib.Core.List.{List, [], ◌∷◌, map}
use lib.ListN.{get_or}
use Rattle.rules_dictionary.specs.declared.Plan.{Plan}
use Rattle.rules_dictionary.specs.declared.PdoData.{PdoData}
use Rattle.rules_dictionary.specs.Numbers.{value, bytes, open_numbers}
use Rattle.rules_dictionary.specs.Table.{Row, table, lookup, found, no_object, no_subindex, position_window, profile_acceleration, mode}
use Rattle.rules_dictionary.specs.Table.{transmission_type, identifier, map_count, map_entry, mapping_word, target_position, velocity, position}
use Rattle.rules_dictionary.specs.Table.{mode_display, control_word, status_word, emergency_identifier, pdos, entries, place_of, dictionary_length}
use Rattle.rules_dictionary.specs.Table.{device_type, error_register, error_code, is_reset, open_table}
use Rattle.rules_dictionary.specs.Values.{read, store, stored, write, default_of, open_values, packed_defaults}
use Rattle.rules_dictionary.specs.Aborts.{Verdict, good, bad, below_range, above_range, bad_value, not_mappable, over_length, no_object as absent}
use Rattle.rules_dictionary.specs.Aborts.{no_subindex as absent_sub, open_aborts}
use Rattle.rules_dictionary.specs.Legal.{value_verdict, map_words, open_legal}
use Rattle.rules_dictionary.specs.Plans.{plans_of, plan_for, ready_of, pdo_data, open_plans}

-- node 5 after power-up, before 6041h is made
pub fresh : List ℕ
fresh = packed_defaults 5 table

unfoldable pub open_edges : Unit {0}
unfolding fresh packed_defaults open_numbers open_table open_values open_aborts open_legal open_plans
open_edges = tt

-- ---- bytes, signs, places

little_endian : bytes 4 0x12345678 ≡ 0x78 ∷ 0x56 ∷ 0x34 ∷ 0x12 ∷ []
unfolding open_edges
little_endian = refl

back_again : value (0x78 ∷ 0x56 ∷ 0x34 ∷ 0x12 ∷ []) ≡ 0x12345678
unfolding open_edges
back_again = refl

-- ticket 2: "01's length is 391, its entries 123": what follows from the rows is what the document says
as_counted : (entries ≡ 123) × (dictionary_length ≡ 391)
unfolding open_edges
as_counted = (refl, refl)

-- 1000h is the first, 6502h the last; 6040h and 607Ah stand where the packed sizes put them
in_place : map (λ x. read fresh x) (mode ∷ control_word ∷ profile_acceleration ∷ emergency_identifier ∷ []) ≡ 0 ∷ 0 ∷ 1 ∷ 0x85 ∷ []
unfolding open_edges
in_place = refl

-- "Default maps (001)": of receive 3 and transmit 4, as words
default_words : map (λ p. map_words fresh p) (2 ∷ 7 ∷ [])
    ≡ (0x60400010 ∷ 0x607A0020 ∷ 0 ∷ 0 ∷ 0 ∷ 0 ∷ 0 ∷ 0 ∷ []) ∷ (0x60410010 ∷ 0x606C0020 ∷ 0 ∷ 0 ∷ 0 ∷ 0 ∷ 0 ∷ 0 ∷ []) ∷ []
unfolding open_edges
default_words = refl

-- "200h-500h and, with bit 30, 180h-480h, in steps of 100h, plus N"
default_identifiers : map (λ p. default_of 5 (identifier p)) pdos
    ≡ 0x205 ∷ 0x305 ∷ 0x405 ∷ 0x505 ∷ 0x40000185 ∷ 0x40000285 ∷ 0x40000385 ∷ 0x40000485 ∷ []
unfolding open_edges
default_identifiers = refl

-- a missing index, a missing subindex, the last row
looked_up : (lookup 0x1002 0 ≡ no_object) × (lookup 0x1018 2 ≡ no_subindex) × (lookup 0x607A 0 ≡ found target_position)
unfolding open_edges
looked_up = (refl, refl, refl)

-- 82h sets back the first communication object and the last; 1001h stays, and the drive's first
set_back : map is_reset (device_type ∷ map_entry 7 8 ∷ error_register ∷ error_code ∷ []) ≡ true ∷ true ∷ false ∷ false ∷ []
unfolding open_edges
set_back = refl

-- ---- ranges: the ends are legal

verdicts : Row → List ℕ → List Verdict
verdicts x vs = map (value_verdict fresh x) vs

window_range : verdicts position_window (0 ∷ 0x7FFFFFFF ∷ 0x80000000 ∷ []) ≡ good ∷ good ∷ bad above_range ∷ []
unfolding verdicts open_edges
window_range = refl

acceleration_range : verdicts profile_acceleration (0 ∷ 1 ∷ 0xFFFFFFFF ∷ []) ≡ bad below_range ∷ good ∷ good ∷ []
unfolding verdicts open_edges
acceleration_range = refl

mode_choice : verdicts mode (0 ∷ 1 ∷ 2 ∷ 3 ∷ 4 ∷ 255 ∷ []) ≡ good ∷ good ∷ bad bad_value ∷ good ∷ bad bad_value ∷ bad bad_value ∷ []
unfolding verdicts open_edges
mode_choice = refl

type_choice : verdicts (transmission_type 0) (0 ∷ 240 ∷ 241 ∷ 253 ∷ 254 ∷ 255 ∷ []) ≡ good ∷ good ∷ bad bad_value ∷ bad bad_value ∷ good ∷ good ∷ []
unfolding verdicts open_edges
type_choice = refl

-- ---- PDO identifiers

-- receive 1 made invalid, and then asked for: the ends of 181h..57Fh, bit 30, bits 29-11, another's identifier, an invalid word
off : List ℕ
off = store (identifier 0) 0x80000205 fresh

identifier_choice : map (value_verdict off (identifier 0))
    (0x180 ∷ 0x181 ∷ 0x57F ∷ 0x580 ∷ 0x40000205 ∷ 0x20000205 ∷ 0xA05 ∷ 0x305 ∷ 0x185 ∷ 0x80000000 ∷ 0x80000185 ∷ [])
    ≡ bad bad_value ∷ good ∷ good ∷ bad bad_value ∷ bad bad_value ∷ bad bad_value ∷ bad bad_value ∷ bad bad_value ∷ bad bad_value ∷ good ∷ good ∷ []
unfolding off open_edges
identifier_choice = refl

-- "valid to a different valid word is bad", the same word is not
identifier_kept : verdicts (identifier 4) (0x40000185 ∷ 0x40000186 ∷ 0xC0000186 ∷ 0x185 ∷ []) ≡ good ∷ bad bad_value ∷ good ∷ bad bad_value ∷ []
unfolding verdicts open_edges
identifier_kept = refl

-- ---- mappings

-- zero; the object; a missing object and subindex; the other direction; no mappable object; another length; 0005h is missing too
entry_choice : verdicts (map_entry 0 1) (0 ∷ 0x60400010 ∷ 0x60020010 ∷ 0x60400110 ∷ 0x60410010 ∷ 0x60670020 ∷ 0x60400008 ∷ 0x00050008 ∷ [])
    ≡ good ∷ good ∷ bad absent ∷ bad absent_sub ∷ bad not_mappable ∷ bad not_mappable ∷ bad not_mappable ∷ bad absent ∷ []
unfolding verdicts open_edges
entry_choice = refl

-- 6064h, 606Ch and 6061h: 8 bytes and 9; then a zero; more than eight
wide : List ℕ
wide =
    stored
    (write (map_entry 4 1) (mapping_word position) ∷ write (map_entry 4 2) (mapping_word velocity)
    ∷ write (map_entry 4 3) (mapping_word mode_display) ∷ [])
    fresh

count_choice : map (value_verdict wide (map_count 4)) (0 ∷ 2 ∷ 3 ∷ 4 ∷ 8 ∷ 9 ∷ [])
    ≡ good ∷ good ∷ bad over_length ∷ bad not_mappable ∷ bad not_mappable ∷ bad above_range ∷ []
unfolding wide open_edges
count_choice = refl

-- the plan of receive 3, its spare slots zero; and the ready frame of transmit 2, its spare bytes zero
plan_at : ℕ → Plan
plan_at p = get_or (plans_of fresh) p (plan_for [])

plan_places : map (λ m. m.place) (plan_at 2).moves ≡ place_of control_word ∷ place_of target_position ∷ 0 ∷ 0 ∷ 0 ∷ 0 ∷ 0 ∷ 0 ∷ []
unfolding plan_at open_edges
plan_places = refl

plan_sizes : map (λ m. m.size) (plan_at 2).moves ≡ 2 ∷ 4 ∷ 0 ∷ 0 ∷ 0 ∷ 0 ∷ 0 ∷ 0 ∷ []
unfolding plan_at open_edges
plan_sizes = refl

ready_at : ℕ → PdoData
ready_at t = get_or (ready_of (store status_word 0x1237 fresh)) t (pdo_data [])

ready_bytes : ((ready_at 1).length ≡ 3) × ((ready_at 1).bytes ≡ 0x37 ∷ 0x12 ∷ 0 ∷ 0 ∷ 0 ∷ 0 ∷ 0 ∷ 0 ∷ [])
unfolding ready_at open_edges
ready_bytes = (refl, refl)
