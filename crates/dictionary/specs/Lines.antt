-- The lines of the flat table: what a line holds of its row, and what the regular structure of the table tells of it.
-- Assumes nothing.
use Rattle.std.specs.Prelude.{ℕ, zero, suc, ◌+◌, ◌-◌, ◌*◌, ◌/◌, ◌%◌, ◌<◌, ◌≤◌, List, cond, eqb, ltb, length, get_or}
use Rattle.rules_dictionary.specs.Table as rows
use Rattle.rules_dictionary.specs.declared.Access.{Access}
use Rattle.rules_dictionary.specs.declared.Access.TheVariants.{Constant, NodeWritten, Writable}
use Rattle.rules_dictionary.specs.declared.Role.{Role}
use Rattle.rules_dictionary.specs.declared.Role.TheVariants.{Plain, ModeOfOperation, MinimumLimit, MaximumLimit, PdoIdentifier, PdoType}
use Rattle.rules_dictionary.specs.declared.Role.TheVariants.{MappingCount, MappingEntry}
use Rattle.dictionary.specs.declared.Entry.{Entry}
use Rattle.dictionary.specs.declared.table.Room.{Room}
use Rattle.dictionary.specs.declared.table.Room.TheVariants.{Node, Communication, Mapping, Drive}
use Rattle.dictionary.specs.Sizes.{IsPdo}

-- ---- a row in one number

-- the size in bytes, and 8 for a sign
abbrev pub type_code : rows.ValueType → ℕ
type_code rows.u8 = 1
type_code rows.u16 = 2
type_code rows.u32 = 4
type_code rows.i8 = 9
type_code rows.i32 = 12

abbrev pub access_code : Access → ℕ
access_code Constant = 0
access_code NodeWritten = 1
access_code Writable = 2

-- 0 is the whole of the type
abbrev pub range_code : rows.Range → ℕ
range_code r = cond (eqb r.least 1) 1 (cond (eqb r.greatest rows.most_moves) 2 (cond (eqb r.greatest 0x7FFFFFFF) 3 0))

abbrev pub line_of : rows.Row → ℕ
line_of x = rows.key x * 256 + type_code x.type + 16 * access_code x.access + 64 * range_code x.range

abbrev pub index_in : ℕ → ℕ
index_in line = line / 256 / 256 % 65536

abbrev pub subindex_in : ℕ → ℕ
subindex_in line = line / 256 % 256

abbrev pub access_in : ℕ → Access
access_in code = cond (eqb code 0) Constant (cond (eqb code 1) NodeWritten Writable)

abbrev pub least_in : ℕ → ℕ
least_in range = cond (eqb range 1) 1 0

abbrev pub greatest_in : ℕ → ℕ → ℕ
greatest_in range size =
    cond (eqb range 2) 8 (cond (eqb range 3) 0x7FFFFFFF (cond (eqb size 1) 0xFF (cond (eqb size 2) 0xFFFF 0xFFFFFFFF)))

-- ---- the regular structure

-- the first index of four records in a row
abbrev pub first_index : ℕ → ℕ
first_index index = index - index % rows.each_way

-- four records of each kind and direction
abbrev pub room_of : ℕ → Room
room_of index =
    cond (ltb rows.last_communication index) Drive
    (cond (eqb (first_index index) (rows.communication_index 0)) (Communication (index % rows.each_way))
    (cond (eqb (first_index index) (rows.mapping_index 0)) (Mapping (index % rows.each_way))
    (cond (eqb (first_index index) (rows.communication_index rows.each_way)) (Communication (index % rows.each_way + rows.each_way))
    (cond (eqb (first_index index) (rows.mapping_index rows.each_way)) (Mapping (index % rows.each_way + rows.each_way)) Node))))

-- a record's PDO is one
abbrev pub PdoIn : Room → Type 0
PdoIn Node = Unit
PdoIn (Communication p) = IsPdo p
PdoIn (Mapping p) = IsPdo p
PdoIn Drive = Unit

-- of the drive's rows the mode of operation and the software limits have a role
unfoldable pub drive_role : ℕ → ℕ → Role
drive_role index subindex =
    cond (eqb index (rows.mode).index) ModeOfOperation
    (cond (eqb index (rows.limit_count).index)
    (cond (eqb subindex (rows.minimum_position).subindex) MinimumLimit (cond (eqb subindex (rows.maximum_position).subindex) MaximumLimit Plain))
    Plain)

unfoldable pub role_in : Room → ℕ → ℕ → Role
role_in Node index subindex = Plain
role_in (Communication p) index subindex = cond (eqb subindex 1) (PdoIdentifier p) (cond (eqb subindex 2) (PdoType p) Plain)
role_in (Mapping p) index subindex = cond (eqb subindex 0) (MappingCount p) (MappingEntry p)
role_in Drive index subindex = drive_role index subindex

-- how far behind its record's place a row stands
unfoldable pub communication_offset : ℕ → ℕ
communication_offset subindex =
    cond (eqb subindex 1) (rows.size_of (rows.communication_count 0))
    (cond (eqb subindex 2) (rows.size_of (rows.communication_count 0) + rows.size_of (rows.identifier 0)) 0)

unfoldable pub mapping_offset : ℕ → ℕ
mapping_offset subindex =
    cond (eqb subindex 0) 0 (rows.size_of (rows.map_count 0) + rows.size_of (rows.map_entry 0 1) * (subindex - 1))

-- the bytes of so many rows from a rank on
unfoldable pub sizes_from : List ℕ → ℕ → ℕ → ℕ
sizes_from lines rank zero = 0
sizes_from lines rank (suc n) = get_or lines rank 0 % 8 + sizes_from lines (suc rank) n

-- how many rows stand before the drive's
unfoldable pub drive_rank : ℕ
drive_rank = rows.entries - length rows.drive_rows

-- from this rank on, the dictionary's end is nearer than the drive's first place
unfoldable pub middle_rank : ℕ
middle_rank = (drive_rank + rows.entries - 1) / 2

-- behind the rows before it, or in front of those from it to the end
unfoldable pub drive_place : List ℕ → ℕ → ℕ
drive_place lines rank =
    cond (ltb rank middle_rank)
    (rows.place_of rows.error_code + sizes_from lines drive_rank (rank - drive_rank))
    (rows.dictionary_length - sizes_from lines rank (rows.entries - rank))

unfoldable pub place_in : List ℕ → Room → ℕ → ℕ → ℕ
place_in lines Node rank subindex = sizes_from lines 0 rank
place_in lines (Communication p) rank subindex = rows.communication_place p + communication_offset subindex
place_in lines (Mapping p) rank subindex = rows.mapping_place p + mapping_offset subindex
place_in lines Drive rank subindex = drive_place lines rank

-- the entry of a line with that place
unfoldable pub entry_in : ℕ → ℕ → Entry
entry_in line place =
    record {
      place = place;
      size = line % 8;
      access = access_in (line / 16 % 4);
      least = least_in (line / 64 % 4);
      greatest = greatest_in (line / 64 % 4) (line % 8);
      role = role_in (room_of (index_in line)) (index_in line) (subindex_in line);
    }

-- ---- the look-up

-- the rank of the last row whose key is not above that one; the first where there is none
pub record LastUpTo (k rank : ℕ) : Type 0 where
  pub listed : rank < rows.entries
  pub low : 0 < rank → rows.key (rows.row_at rank) ≤ k
  pub high : suc rank < rows.entries → k < rows.key (rows.row_at (suc rank))
