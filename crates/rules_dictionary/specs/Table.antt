-- Document 01, 'The dictionary', and 6068h of ticket 2: the 123 rows, each with a name, and the table of them all.
-- Assumes nothing.
use Rattle.std.specs.Prelude.{ℕ, ◌+◌, ◌-◌, ◌*◌, ◌%◌, ◌^◌, Bool, true, false, cond, not, ◌&&◌, eqb, ltb, length, get_or}
use mathlib.Core.List.{List, [], ◌∷◌, ◌++◌, map, flat_map}
use Rattle.rules_dictionary.specs.declared.Access.{Access}
use Rattle.rules_dictionary.specs.declared.Access.TheVariants.{Constant, NodeWritten, Writable}
use Rattle.rules_dictionary.specs.declared.Role.{Role}
use Rattle.rules_dictionary.specs.declared.Role.TheVariants.{Plain, ModeOfOperation, MinimumLimit, MaximumLimit, PdoIdentifier, PdoType}
use Rattle.rules_dictionary.specs.declared.Role.TheVariants.{MappingCount, MappingEntry}
use Rattle.rules_dictionary.specs.Numbers.{bits, between}
use Rattle.rules_dictionary.specs.DeviceName.{name_index, name_subindex}

-- ---- the columns of a row

pub data ValueType : Type 0 where
  u8 u16 u32 i8 i32 : ValueType

-- in bytes
abbrev pub size : ValueType → ℕ
size u8 = 1
size u16 = 2
size u32 = 4
size i8 = 1
size i32 = 4

-- R or T: mappable to receive or transmit
pub data Mappable : Type 0 where
  unmappable to_receive to_transmit : Mappable

-- a default is the same for every node, or counts up from the node-ID
pub data Default : Type 0 where
  fixed plus_node : ℕ → Default

-- the least and the greatest value, both legal, of the value's bits read as unsigned
pub record Range : Type 0 where
  pub least : ℕ
  pub greatest : ℕ

abbrev pub largest : ValueType → ℕ
largest t = 256 ^ size t - 1

abbrev pub whole : ValueType → Range
whole t = record { least = 0; greatest = largest t }

abbrev pub from : ℕ → ValueType → Range
from low t = record { least = low; greatest = largest t }

abbrev pub up_to : ℕ → Range
up_to high = record { least = 0; greatest = high }

pub record Row : Type 0 where
  pub index : ℕ
  pub subindex : ℕ
  pub type : ValueType
  -- (c) constant, (o) node-written, (w) writable
  pub access : Access
  pub mappable : Mappable
  pub range : Range
  pub default : Default
  pub role : Role

-- a row that holds any value of its type, in the document's order
abbrev pub row : (index subindex : ℕ) → ValueType → Access → Mappable → Default → Row
row index subindex type access mappable default =
    record {
      index = index;
      subindex = subindex;
      type = type;
      access = access;
      mappable = mappable;
      range = whole type;
      default = default;
      role = Plain;
    }

-- the row, and what narrows its values: a range, a further rule
abbrev pub ranging : Range → Row → Row
ranging r x =
    record {
      index = x.index;
      subindex = x.subindex;
      type = x.type;
      access = x.access;
      mappable = x.mappable;
      range = r;
      default = x.default;
      role = x.role;
    }

abbrev pub obeying : Role → Row → Row
obeying o x =
    record {
      index = x.index;
      subindex = x.subindex;
      type = x.type;
      access = x.access;
      mappable = x.mappable;
      range = x.range;
      default = x.default;
      role = o;
    }

abbrev pub size_of : Row → ℕ
size_of x = size x.type

-- the same index and subindex
abbrev pub same : Row → Row → Bool
same x y = eqb x.index y.index && eqb x.subindex y.subindex

-- index and subindex as one number
abbrev pub key : Row → ℕ
key x = x.index * 256 + x.subindex

abbrev pub is_constant : Access → Bool
is_constant Constant = true
is_constant NodeWritten = false
is_constant Writable = false

abbrev pub is_writable : Access → Bool
is_writable Constant = false
is_writable NodeWritten = false
is_writable Writable = true

-- ---- the node's rows: index, subindex, type, access, mappable, default

abbrev pub device_type : Row
device_type = row 0x1000 0 u32 Constant unmappable (fixed 0x00020192)

abbrev pub error_register : Row
error_register = row 0x1001 0 u8 NodeWritten to_transmit (fixed 0)

abbrev pub sync_identifier : Row
sync_identifier = row 0x1005 0 u32 Constant unmappable (fixed 0x80)

abbrev pub emergency_identifier : Row
emergency_identifier = row 0x1014 0 u32 Constant unmappable (plus_node 0x80)

abbrev pub heartbeat_time : Row
heartbeat_time = row 0x1017 0 u16 Writable unmappable (fixed 0)

abbrev pub identity_count : Row
identity_count = row 0x1018 0 u8 Constant unmappable (fixed 1)

abbrev pub vendor : Row
vendor = row 0x1018 1 u32 Constant unmappable (fixed 0)

-- ---- the drive's rows

abbrev pub error_code : Row
error_code = row 0x603F 0 u16 NodeWritten to_transmit (fixed 0)

abbrev pub control_word : Row
control_word = row 0x6040 0 u16 Writable to_receive (fixed 0)

abbrev pub status_word : Row
status_word = row 0x6041 0 u16 NodeWritten to_transmit (fixed 0)

abbrev pub mode : Row
mode = obeying ModeOfOperation (row 0x6060 0 i8 Writable to_receive (fixed 0))

abbrev pub mode_display : Row
mode_display = row 0x6061 0 i8 NodeWritten to_transmit (fixed 0)

abbrev pub position : Row
position = row 0x6064 0 i32 NodeWritten to_transmit (fixed 0)

abbrev pub position_window : Row
position_window = ranging (up_to 0x7FFFFFFF) (row 0x6067 0 u32 Writable unmappable (fixed 0))

-- ticket 2: "6068h (u16, ms, default 0, writable)"
abbrev pub window_time : Row
window_time = row 0x6068 0 u16 Writable unmappable (fixed 0)

abbrev pub velocity : Row
velocity = row 0x606C 0 i32 NodeWritten to_transmit (fixed 0)

abbrev pub velocity_window : Row
velocity_window = row 0x606D 0 u16 Writable unmappable (fixed 0)

abbrev pub velocity_threshold : Row
velocity_threshold = row 0x606F 0 u16 Writable unmappable (fixed 0)

abbrev pub target_position : Row
target_position = row 0x607A 0 i32 Writable to_receive (fixed 0)

abbrev pub limit_count : Row
limit_count = row 0x607D 0 u8 Constant unmappable (fixed 2)

-- -2^31 and 2^31-1, in their words
abbrev pub minimum_position : Row
minimum_position = obeying MinimumLimit (row 0x607D 1 i32 Writable unmappable (fixed 0x80000000))

abbrev pub maximum_position : Row
maximum_position = obeying MaximumLimit (row 0x607D 2 i32 Writable unmappable (fixed 0x7FFFFFFF))

abbrev pub profile_velocity : Row
profile_velocity = row 0x6081 0 u32 Writable to_receive (fixed 0)

abbrev pub profile_acceleration : Row
profile_acceleration = ranging (from 1 u32) (row 0x6083 0 u32 Writable to_receive (fixed 1))

abbrev pub profile_deceleration : Row
profile_deceleration = ranging (from 1 u32) (row 0x6084 0 u32 Writable to_receive (fixed 1))

abbrev pub target_velocity : Row
target_velocity = row 0x60FF 0 i32 Writable to_receive (fixed 0)

abbrev pub supported_modes : Row
supported_modes = row 0x6502 0 u32 Constant unmappable (fixed 5)

-- ---- the PDOs: 0 to 3 receive, 4 to 7 transmit

pub data Direction : Type 0 where
  receive transmit : Direction

abbrev pub each_way : ℕ
each_way = 4

abbrev pub receive_pdos : List ℕ
receive_pdos = 0 ∷ 1 ∷ 2 ∷ 3 ∷ []

abbrev pub transmit_pdos : List ℕ
transmit_pdos = 4 ∷ 5 ∷ 6 ∷ 7 ∷ []

abbrev pub pdos : List ℕ
pdos = receive_pdos ++ transmit_pdos

abbrev pub direction_of : ℕ → Direction
direction_of p = cond (ltb p each_way) receive transmit

abbrev pub by_direction {ℓ} : {A : Type ℓ} → Direction → A → A → A
by_direction receive r t = r
by_direction transmit r t = t

-- the first of its direction's records, and how far each next one is on
abbrev pub of_pdo : ℕ → ℕ → ℕ → ℕ → ℕ
of_pdo p of_receive of_transmit step = by_direction (direction_of p) of_receive of_transmit + step * (p % each_way)

-- 1400h to 1403h and 1800h to 1803h: three rows
abbrev pub communication_index : ℕ → ℕ
communication_index p = of_pdo p 0x1400 0x1800 1

abbrev pub communication_count : ℕ → Row
communication_count p = row (communication_index p) 0 u8 Constant unmappable (fixed 2)

-- "PDO identifiers default to 200h-500h and, with bit 30, 180h-480h, in steps of 100h, plus N"
abbrev pub identifier : ℕ → Row
identifier p = obeying (PdoIdentifier p) (row (communication_index p) 1 u32 Writable unmappable (plus_node (of_pdo p 0x200 (2 ^ 30 + 0x180) 0x100)))

abbrev pub transmission_type : ℕ → Row
transmission_type p = obeying (PdoType p) (row (communication_index p) 2 u8 Writable unmappable (fixed 255))

-- "Default maps: receive 6040; 6040+6060; 6040+607A; 6040+60FF; transmit 6041; 6041+6061; 6041+6064; 6041+606C"
abbrev pub default_maps : List (List Row)
default_maps =
    (control_word ∷ [])
    ∷ (control_word ∷ mode ∷ [])
    ∷ (control_word ∷ target_position ∷ [])
    ∷ (control_word ∷ target_velocity ∷ [])
    ∷ (status_word ∷ [])
    ∷ (status_word ∷ mode_display ∷ [])
    ∷ (status_word ∷ position ∷ [])
    ∷ (status_word ∷ velocity ∷ [])
    ∷ []

abbrev pub default_map : ℕ → List Row
default_map p = get_or default_maps p []

-- a mapping word: index, subindex, bit length
abbrev pub mapping_word : Row → ℕ
mapping_word x = x.index * 2 ^ 16 + x.subindex * 2 ^ 8 + 8 * size_of x

abbrev pub word_index : ℕ → ℕ
word_index w = bits 16 32 w

abbrev pub word_subindex : ℕ → ℕ
word_subindex w = bits 8 16 w

abbrev pub word_length : ℕ → ℕ
word_length w = bits 0 8 w

-- 1600h to 1603h and 1A00h to 1A03h: the count and eight entries
abbrev pub most_moves : ℕ
most_moves = 8

abbrev pub mapping_index : ℕ → ℕ
mapping_index p = of_pdo p 0x1600 0x1A00 1

abbrev pub map_count : ℕ → Row
map_count p = obeying (MappingCount p) (ranging (up_to most_moves) (row (mapping_index p) 0 u8 Writable unmappable (fixed (length (default_map p)))))

-- entry 1 to 8
abbrev pub map_entry : ℕ → ℕ → Row
map_entry p k =
    obeying (MappingEntry p)
    (row (mapping_index p) k u32 Writable unmappable (fixed (get_or (map mapping_word (default_map p)) (k - 1) 0)))

abbrev pub map_slots : List ℕ
map_slots = 1 ∷ 2 ∷ 3 ∷ 4 ∷ 5 ∷ 6 ∷ 7 ∷ 8 ∷ []

unfoldable pub communication_rows : ℕ → List Row
communication_rows p = communication_count p ∷ identifier p ∷ transmission_type p ∷ []

unfoldable pub mapping_rows : ℕ → List Row
mapping_rows p = map_count p ∷ map (map_entry p) map_slots

-- ---- the table, "in rising order of index and subindex"

abbrev pub node_rows : List Row
node_rows = device_type ∷ error_register ∷ sync_identifier ∷ emergency_identifier ∷ heartbeat_time ∷ identity_count ∷ vendor ∷ []

abbrev pub drive_rows : List Row
drive_rows =
    error_code ∷ control_word ∷ status_word ∷ mode ∷ mode_display ∷ position ∷ position_window ∷ window_time ∷ velocity
    ∷ velocity_window ∷ velocity_threshold ∷ target_position ∷ limit_count ∷ minimum_position ∷ maximum_position ∷ profile_velocity
    ∷ profile_acceleration ∷ profile_deceleration ∷ target_velocity ∷ supported_modes ∷ []

unfoldable pub table : List Row
unfolding communication_rows mapping_rows flat_map
table =
    node_rows
    ++ flat_map communication_rows receive_pdos
    ++ flat_map mapping_rows receive_pdos
    ++ flat_map communication_rows transmit_pdos
    ++ flat_map mapping_rows transmit_pdos
    ++ drive_rows

-- ticket 2: "its entries 123"
unfoldable pub entries : ℕ
entries = length table

-- the row of that rank, from 0
abbrev pub row_at : ℕ → Row
row_at i = get_or table i device_type

-- ---- places, "packed": each row stands behind those before it

-- the bytes of rows
abbrev pub total : List Row → ℕ
total [] = 0
total (x ∷ xs) = size_of x + total xs

-- the bytes of the rows before that one
unfoldable pub bytes_before : Row → List Row → ℕ
bytes_before x [] = 0
bytes_before x (y ∷ ys) = elim (same x y) [ true ↦ 0 | false ↦ size_of y + bytes_before x ys ]

-- where the row's value begins
unfoldable pub place_of : Row → ℕ
place_of x = bytes_before x table

-- the bytes of them all: ticket 2, "01's length is 391"
unfoldable pub dictionary_length : ℕ
dictionary_length = total table

-- where a PDO's records stand, and its mapping words in theirs
abbrev pub communication_place : ℕ → ℕ
communication_place p = place_of (communication_count p)

abbrev pub mapping_place : ℕ → ℕ
mapping_place p = place_of (map_count p)

abbrev pub words_place : ℕ → ℕ
words_place p = place_of (map_entry p 1)

-- the bytes of a PDO's records, and so how far the next PDO's are on
unfoldable pub communication_length : ℕ → ℕ
communication_length p = total (communication_rows p)

unfoldable pub mapping_length : ℕ → ℕ
mapping_length p = total (mapping_rows p)

-- so many records of its direction on from the first one, by the first's place and length
abbrev pub record_place : (ℕ → ℕ) → (ℕ → ℕ) → ℕ → ℕ
record_place place size p = let first = by_direction (direction_of p) 0 each_way in place first + size first * (p % each_way)

-- ---- the communication objects

abbrev pub first_communication : ℕ
first_communication = 0x1000

abbrev pub last_communication : ℕ
last_communication = 0x1FFF

-- what 82h sets back: "objects 1000h-1FFFh .. except that 1001h stays"
unfoldable pub is_reset : Row → Bool
is_reset x = between first_communication last_communication x.index && not (same x error_register)

-- ---- the look-up

-- a row, the device name, which has none, or nothing
pub data Found : Type 0 where
  found : Row → Found
  the_name no_object no_subindex : Found

-- the row of that index and subindex; without one, whether the index was seen
unfoldable pub search : Bool → ℕ → ℕ → List Row → Found
search seen i s [] = elim seen [ true ↦ no_subindex | false ↦ no_object ]
search seen i s (x ∷ xs) =
    elim (eqb x.index i)
    [ true ↦ elim (eqb x.subindex s) [ true ↦ found x | false ↦ search true i s xs ] | false ↦ search seen i s xs ]

unfoldable pub row_of : ℕ → ℕ → Found
row_of i s = search false i s table

-- 1008h stands beside the table, at one subindex
unfoldable pub lookup : ℕ → ℕ → Found
lookup i s = cond (eqb i name_index) (cond (eqb s name_subindex) the_name no_subindex) (row_of i s)

-- opens every definition of this module, where a proof computes
unfoldable pub open_table : Unit {0}
unfolding communication_rows mapping_rows table entries bytes_before place_of dictionary_length communication_length
    mapping_length is_reset search row_of lookup
open_table = tt
