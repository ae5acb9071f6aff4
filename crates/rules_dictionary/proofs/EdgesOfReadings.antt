-- How the definitions read a number, and where a PDO's records stand: bits, signs, node-IDs, modes, types, words, as the paper has them.
-- Assumes nothing.
use Prim.Native.Nat.{ℕ}
use mathlib.Core.Path.{◌≡◌, refl}
use mathlib.Core.Bool.{true, false}
use mathlib.Core.List.{List, [], ◌∷◌, ◌++◌, map}
use lib.ListN.{take, drop}
use lib.IntN.{pos, negsuc}
use Rattle.rules_dictionary.specs.declared.Access.TheVariants.{Constant, NodeWritten, Writable}
use Rattle.rules_dictionary.specs.declared.Mode.TheVariants.{NoMode, ProfilePosition, ProfileVelocity}
use Rattle.rules_dictionary.specs.Numbers.{value, bytes, is_byte, part, bit, bits, integer, between, padded, sum}
use Rattle.rules_dictionary.specs.TheNode.{is_node_id}
use Rattle.rules_dictionary.specs.Table.{is_constant, is_writable, u8, row, unmappable, fixed, receive_pdos, transmit_pdos, pdos, direction_of}
use Rattle.rules_dictionary.specs.Table.{receive, transmit, communication_index, mapping_index, map_slots, word_index, word_subindex, word_length}
use Rattle.rules_dictionary.specs.Table.{mapping_word, maximum_position, control_word, mode, target_position, error_register, is_reset, key}
use Rattle.rules_dictionary.specs.Table.{communication_place, mapping_place, words_place, communication_length}
use Rattle.rules_dictionary.specs.Table.{mapping_length, record_place, identifier, transmission_type, place_of, row_at}
use Rattle.rules_dictionary.specs.Values.{read, store, stored, write, unpacked}
use Rattle.rules_dictionary.specs.Legal.{mode_number, modes, is_mode, is_synchronous, is_cyclic, is_event_driven, is_type, is_valid, frame_identifier}
use Rattle.rules_dictionary.specs.Legal.{reserved_bits, transmits, identifiers, map_words}
use Rattle.rules_dictionary.proofs.Edges.{fresh, open_edges}
use Rattle.rules_dictionary.proofs.EdgesOfVerdicts.{times}

-- ---- numbers

-- bits count from 0, the lowest
bits_told : map (λ k. bit k 0x91) (0 ∷ 1 ∷ 4 ∷ 7 ∷ 8 ∷ []) ++ map (λ k. bit k 0x80000000) (30 ∷ 31 ∷ [])
    ≡ true ∷ false ∷ true ∷ true ∷ false ∷ false ∷ true ∷ []
bits_told = refl

parts_told : bits 0 4 0xABCD ∷ bits 4 12 0xABCD ∷ bits 12 16 0xABCD ∷ [] ≡ 0xD ∷ 0xBC ∷ 0xA ∷ []
parts_told = refl

-- "i32": from -2^31 (negsuc k is -1 - k) to 2^31-1
signs : map integer (0 ∷ 1 ∷ 0x7FFFFFFF ∷ 0x80000000 ∷ 0x80000001 ∷ 0xFFFFFFFF ∷ [])
    ≡ pos 0 ∷ pos 1 ∷ pos 0x7FFFFFFF ∷ negsuc 0x7FFFFFFF ∷ negsuc 0x7FFFFFFE ∷ negsuc 0 ∷ []
signs = refl

ends_included : map (between 3 5) (2 ∷ 3 ∷ 4 ∷ 5 ∷ 6 ∷ []) ≡ false ∷ true ∷ true ∷ true ∷ false ∷ []
ends_included = refl

byte_ends : map is_byte (0 ∷ 255 ∷ 256 ∷ []) ≡ true ∷ true ∷ false ∷ []
byte_ends = refl

filled_up : (padded {A = ℕ} 9 4 (1 ∷ 2 ∷ []) ≡ 1 ∷ 2 ∷ 9 ∷ 9 ∷ []) × (padded {A = ℕ} 9 2 (1 ∷ 2 ∷ 3 ∷ []) ≡ 1 ∷ 2 ∷ [])
filled_up = (refl, refl)

added_up : (sum (1 ∷ 20 ∷ 300 ∷ []) ≡ 321) × (part 1 2 (5 ∷ 6 ∷ 7 ∷ 8 ∷ []) ≡ 6 ∷ 7 ∷ [])
added_up = (refl, refl)

-- "values little-endian", of 1 and 2 bytes too
short_values : (bytes 1 0x12 ++ bytes 2 0x1234 ≡ 0x12 ∷ 0x34 ∷ 0x12 ∷ []) × (value (0x34 ∷ 0x12 ∷ []) ≡ 0x1234)
unfolding open_edges
short_values = (refl, refl)

-- "node-ID N 1 to 127"
node_ids : map is_node_id (0 ∷ 1 ∷ 2 ∷ 126 ∷ 127 ∷ 128 ∷ 255 ∷ []) ≡ false ∷ true ∷ true ∷ true ∷ true ∷ false ∷ false ∷ []
node_ids = refl

-- ---- access, modes, types

-- "(c) constant, (o) node-written, (w) writable"
accesses : (map is_constant (Constant ∷ NodeWritten ∷ Writable ∷ []) ≡ true ∷ false ∷ false ∷ [])
    × (map is_writable (Constant ∷ NodeWritten ∷ Writable ∷ []) ≡ false ∷ false ∷ true ∷ [])
accesses = (refl, refl)

-- "modes 0, 1 (profile position) and 3 (profile velocity)"
mode_numbers : (map mode_number (NoMode ∷ ProfilePosition ∷ ProfileVelocity ∷ []) ≡ 0 ∷ 1 ∷ 3 ∷ []) × (map mode_number modes ≡ 0 ∷ 1 ∷ 3 ∷ [])
mode_numbers = (refl, refl)

mode_tests : map is_mode (0 ∷ 1 ∷ 2 ∷ 3 ∷ 4 ∷ 255 ∷ []) ≡ true ∷ true ∷ false ∷ true ∷ false ∷ false ∷ []
mode_tests = refl

-- "Types 254, 255 apply at once; others are held .. until SYNC"; "Type 1..240: each n-th SYNC"; "Type 0"
abbrev edge_types : List ℕ
edge_types = 0 ∷ 1 ∷ 2 ∷ 240 ∷ 241 ∷ 253 ∷ 254 ∷ 255 ∷ []

held_types : map is_synchronous edge_types ≡ times 4 true ++ times 4 false
held_types = refl

cyclic_types : map is_cyclic edge_types ≡ false ∷ times 3 true ++ times 4 false
cyclic_types = refl

event_types : map is_event_driven edge_types ≡ times 6 false ++ times 2 true
event_types = refl

all_types : map is_type edge_types ≡ times 4 true ++ times 2 false ++ times 2 true
all_types = refl

-- ---- PDOs

-- "four receive and four transmit PDOs"
eight_pdos : (receive_pdos ≡ 0 ∷ 1 ∷ 2 ∷ 3 ∷ []) × ((transmit_pdos ≡ 4 ∷ 5 ∷ 6 ∷ 7 ∷ []) × (pdos ≡ 0 ∷ 1 ∷ 2 ∷ 3 ∷ 4 ∷ 5 ∷ 6 ∷ 7 ∷ []))
eight_pdos = (refl, (refl, refl))

directions : map direction_of (0 ∷ 1 ∷ 2 ∷ 3 ∷ 4 ∷ 5 ∷ 6 ∷ 7 ∷ []) ≡ times 4 receive ++ times 4 transmit
directions = refl

-- "1400-1403 and 1800-1803", "1600-1603 and 1A00-1A03", ":1-:8"
indices : (map communication_index pdos ≡ 0x1400 ∷ 0x1401 ∷ 0x1402 ∷ 0x1403 ∷ 0x1800 ∷ 0x1801 ∷ 0x1802 ∷ 0x1803 ∷ [])
    × ((map mapping_index pdos ≡ 0x1600 ∷ 0x1601 ∷ 0x1602 ∷ 0x1603 ∷ 0x1A00 ∷ 0x1A01 ∷ 0x1A02 ∷ 0x1A03 ∷ [])
    × (map_slots ≡ 1 ∷ 2 ∷ 3 ∷ 4 ∷ 5 ∷ 6 ∷ 7 ∷ 8 ∷ []))
indices = (refl, (refl, refl))

-- a communication record has 1 + 4 + 1 bytes, a mapping 1 + 8 * 4
record_lengths : map communication_length pdos ++ map mapping_length pdos ≡ times 8 6 ++ times 8 33
unfolding open_edges
record_lengths = refl

-- behind the 20 bytes of 1000h to 1018h: four of 6, four of 33, four of 6, four of 33; then 332, where 603Fh stands
record_places : (map communication_place pdos ≡ 20 ∷ 26 ∷ 32 ∷ 38 ∷ 176 ∷ 182 ∷ 188 ∷ 194 ∷ [])
    × ((map mapping_place pdos ≡ 44 ∷ 77 ∷ 110 ∷ 143 ∷ 200 ∷ 233 ∷ 266 ∷ 299 ∷ [])
    × (map words_place pdos ≡ 45 ∷ 78 ∷ 111 ∷ 144 ∷ 201 ∷ 234 ∷ 267 ∷ 300 ∷ []))
unfolding open_edges
record_places = (refl, (refl, refl))

-- .. and so many on from the first of its direction
places_by_record : (map (record_place communication_place communication_length) pdos ≡ 20 ∷ 26 ∷ 32 ∷ 38 ∷ 176 ∷ 182 ∷ 188 ∷ 194 ∷ [])
    × (map (record_place mapping_place mapping_length) pdos ≡ 44 ∷ 77 ∷ 110 ∷ 143 ∷ 200 ∷ 233 ∷ 266 ∷ 299 ∷ [])
unfolding open_edges
places_by_record = (refl, refl)

identifier_places : (map (λ p. place_of (identifier p)) pdos ≡ 21 ∷ 27 ∷ 33 ∷ 39 ∷ 177 ∷ 183 ∷ 189 ∷ 195 ∷ [])
    × (map (λ p. place_of (transmission_type p)) pdos ≡ 25 ∷ 31 ∷ 37 ∷ 43 ∷ 181 ∷ 187 ∷ 193 ∷ 199 ∷ [])
unfolding open_edges
identifier_places = (refl, refl)

-- "bit 31 invalid; bit 30 is 1 for transmit, 0 for receive; 29-11 zero": the parts of an identifier word
identifier_parts : map is_valid (0 ∷ 0x7FFFFFFF ∷ 0x80000000 ∷ 0xFFFFFFFF ∷ []) ≡ true ∷ true ∷ false ∷ false ∷ []
identifier_parts = refl

identifier_numbers : (map frame_identifier (0x40000185 ∷ 0x7FF ∷ 0x800 ∷ 0xFFFFFFFF ∷ []) ≡ 0x185 ∷ 0x7FF ∷ 0 ∷ 0x7FF ∷ [])
    × (map reserved_bits (0xC00007FF ∷ 0x800 ∷ 0x20000000 ∷ 0x3FFFF800 ∷ []) ≡ 0 ∷ 1 ∷ 0x40000 ∷ 0x7FFFF ∷ [])
identifier_numbers = (refl, refl)

who_transmits : map transmits (receive ∷ transmit ∷ []) ≡ false ∷ true ∷ []
who_transmits = refl

-- "index, subindex, bit length"
word_parts :
    word_index 0xFEDCBA98 ∷ word_subindex 0xFEDCBA98 ∷ word_length 0xFEDCBA98 ∷ mapping_word maximum_position
    ∷ mapping_word error_register ∷ []
    ≡ 0xFEDC ∷ 0xBA ∷ 0x98 ∷ 0x607D0220 ∷ 0x10010008 ∷ []
word_parts = refl

-- "Default maps (001)", as words: all eight
default_maps_lem : map (map_words fresh) pdos
    ≡ (0x60400010 ∷ times 7 0) ∷ (0x60400010 ∷ 0x60600008 ∷ times 6 0) ∷ (0x60400010 ∷ 0x607A0020 ∷ times 6 0)
    ∷ (0x60400010 ∷ 0x60FF0020 ∷ times 6 0) ∷ (0x60410010 ∷ times 7 0) ∷ (0x60410010 ∷ 0x60610008 ∷ times 6 0)
    ∷ (0x60410010 ∷ 0x60640020 ∷ times 6 0) ∷ (0x60410010 ∷ 0x606C0020 ∷ times 6 0) ∷ []
unfolding open_edges
default_maps_lem = refl

stored_identifiers : identifiers fresh ≡ 0x205 ∷ 0x305 ∷ 0x405 ∷ 0x505 ∷ 0x40000185 ∷ 0x40000285 ∷ 0x40000385 ∷ 0x40000485 ∷ []
unfolding open_edges
stored_identifiers = refl

-- ---- the dictionary's bytes

-- 1000h, 1001h, 1005h, 1014h, 1017h, 1018h:0 and :1, then 1400h: "packed"
first_bytes_lem : take 26 fresh
    ≡ 0x92 ∷ 0x01 ∷ 0x02 ∷ 0x00 ∷ 0x00 ∷ 0x80 ∷ 0x00 ∷ 0x00 ∷ 0x00 ∷ 0x85 ∷ 0x00 ∷ 0x00 ∷ 0x00 ∷ 0x00 ∷ 0x00 ∷ 0x01 ∷ 0x00 ∷ 0x00 ∷ 0x00 ∷ 0x00
    ∷ 0x02 ∷ 0x05 ∷ 0x02 ∷ 0x00 ∷ 0x00 ∷ 0xFF ∷ []
unfolding open_edges
first_bytes_lem = refl

-- 607Dh:0, :1, :2, 6081h, 6083h, 6084h, 60FFh, 6502h
last_bytes : drop 362 fresh
    ≡ 0x02 ∷ 0x00 ∷ 0x00 ∷ 0x00 ∷ 0x80 ∷ 0xFF ∷ 0xFF ∷ 0xFF ∷ 0x7F ∷ 0x00 ∷ 0x00 ∷ 0x00 ∷ 0x00 ∷ 0x01 ∷ 0x00 ∷ 0x00 ∷ 0x00 ∷ 0x01 ∷ 0x00 ∷ 0x00
    ∷ 0x00 ∷ 0x00 ∷ 0x00 ∷ 0x00 ∷ 0x00 ∷ 0x05 ∷ 0x00 ∷ 0x00 ∷ 0x00 ∷ []
unfolding open_edges
last_bytes = refl

ranks : map (λ i. key (row_at i)) (0 ∷ 7 ∷ 19 ∷ 55 ∷ 67 ∷ 103 ∷ 122 ∷ [])
    ≡ 0x100000 ∷ 0x140000 ∷ 0x160000 ∷ 0x180000 ∷ 0x1A0000 ∷ 0x603F00 ∷ 0x650200 ∷ []
unfolding open_edges
ranks = refl

-- 6040h stored at 334, low byte first; what is written twice keeps the last
stored_in_place : part 332 6 (store control_word 0xABCD fresh) ≡ 0 ∷ 0 ∷ 0xCD ∷ 0xAB ∷ 0 ∷ 0 ∷ []
unfolding open_edges
stored_in_place = refl

last_kept : read (stored (write control_word 6 ∷ write control_word 15 ∷ []) fresh) control_word ≡ 15
unfolding open_edges
last_kept = refl

-- the values of a frame, one behind another
taken_apart : map (λ w. w.value) (unpacked (control_word ∷ mode ∷ target_position ∷ []) (0x0F ∷ 0x01 ∷ 0x03 ∷ 0x78 ∷ 0x56 ∷ 0x34 ∷ 0x12 ∷ []))
    ≡ 0x010F ∷ 3 ∷ 0x12345678 ∷ []
unfolding open_edges
taken_apart = refl

-- "objects 1000h-1FFFh to default": the ends, of objects that the table may come to hold
reset_ends : map (λ i. is_reset (row i 0 u8 Writable unmappable (fixed 0))) (0xFFF ∷ 0x1000 ∷ 0x1001 ∷ 0x1002 ∷ 0x1FFF ∷ 0x2000 ∷ [])
    ≡ false ∷ true ∷ false ∷ true ∷ true ∷ false ∷ []
unfolding open_edges
reset_ends = refl
