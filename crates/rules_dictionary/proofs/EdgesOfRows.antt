-- Document 01, 'The dictionary', row by row as the paper prints it, and what the table makes of it: one fact over all 123 rows.
-- The lists below are written from the paper, not from the definitions: a changed number of a row makes them fall.
-- Assumes nothing.
use Prim.Native.Nat.{ℕ}
use mathlib.Core.Path.{◌≡◌, refl}
use mathlib.Core.Bool.{not}
use mathlib.Core.List.{List, [], ◌∷◌, ◌++◌, map}
use lib.ListN.{length}
use Rattle.rules_dictionary.specs.declared.Access.{Access}
use Rattle.rules_dictionary.specs.declared.Access.TheVariants.{Constant, NodeWritten, Writable}
use Rattle.rules_dictionary.specs.declared.Role.{Role}
use Rattle.rules_dictionary.specs.declared.Role.TheVariants.{Plain, ModeOfOperation, MinimumLimit, MaximumLimit, PdoIdentifier, PdoType}
use Rattle.rules_dictionary.specs.declared.Role.TheVariants.{MappingCount, MappingEntry}
use Rattle.rules_dictionary.specs.Numbers.{filter}
use Rattle.rules_dictionary.specs.Table.{ValueType, u8, u16, u32, i8, i32, size, Mappable, unmappable, to_receive, to_transmit, Row, key, table}
use Rattle.rules_dictionary.specs.Table.{place_of, is_reset}
use Rattle.rules_dictionary.specs.Values.{default_of}
use Rattle.rules_dictionary.proofs.Edges.{open_edges}
use Rattle.rules_dictionary.proofs.EdgesOfVerdicts.{times}

-- what the paper says of a row; the place follows from the sizes of the rows before it, the defaults are those of nodes 5 and 127
record Entry : Type 0 where
  place : ℕ
  index : ℕ
  subindex : ℕ
  type : ValueType
  access : Access
  mappable : Mappable
  least : ℕ
  greatest : ℕ
  on_node5 : ℕ
  on_node127 : ℕ

abbrev printed : (place index subindex : ℕ) → ValueType → Access → Mappable → (least greatest on_node5 on_node127 : ℕ) → Entry
printed place index subindex type access mappable least greatest on_node5 on_node127 =
    record {
      place = place;
      index = index;
      subindex = subindex;
      type = type;
      access = access;
      mappable = mappable;
      least = least;
      greatest = greatest;
      on_node5 = on_node5;
      on_node127 = on_node127;
    }

abbrev as_printed : Row → Entry
as_printed x =
    printed (place_of x) x.index x.subindex x.type x.access x.mappable x.range.least x.range.greatest (default_of 5 x)
    (default_of 127 x)

-- "(c) constant, (o) node-written, (w) writable, R or T mappable to receive or transmit"
abbrev c : Access
c = Constant

abbrev o : Access
o = NodeWritten

abbrev w : Access
w = Writable

abbrev none : Mappable
none = unmappable

abbrev R : Mappable
R = to_receive

abbrev T : Mappable
T = to_transmit

-- "1000 u32 c 00020192h; 1001 u8 o T; 1005 u32 c 80h; 1014 u32 c 80h+N; 1017 u16 w 0; 1018:0 u8 c 1, :1 u32 c 0"
node : List Entry
node =
    printed 0 0x1000 0 u32 c none 0 0xFFFFFFFF 0x20192 0x20192
    ∷ printed 4 0x1001 0 u8 o T 0 0xFF 0 0
    ∷ printed 5 0x1005 0 u32 c none 0 0xFFFFFFFF 0x80 0x80
    ∷ printed 9 0x1014 0 u32 c none 0 0xFFFFFFFF 0x85 0xFF
    ∷ printed 13 0x1017 0 u16 w none 0 0xFFFF 0 0
    ∷ printed 15 0x1018 0 u8 c none 0 0xFF 1 1
    ∷ printed 16 0x1018 1 u32 c none 0 0xFFFFFFFF 0 0
    ∷ []

-- "1400-1403 ..: :0 u8 c 2, :1 u32 w, :2 u8 w 255"; "200h-500h .. in steps of 100h, plus N"
receive_communication : List Entry
receive_communication =
    printed 20 0x1400 0 u8 c none 0 0xFF 2 2
    ∷ printed 21 0x1400 1 u32 w none 0 0xFFFFFFFF 0x205 0x27F
    ∷ printed 25 0x1400 2 u8 w none 0 0xFF 0xFF 0xFF
    ∷ printed 26 0x1401 0 u8 c none 0 0xFF 2 2
    ∷ printed 27 0x1401 1 u32 w none 0 0xFFFFFFFF 0x305 0x37F
    ∷ printed 31 0x1401 2 u8 w none 0 0xFF 0xFF 0xFF
    ∷ printed 32 0x1402 0 u8 c none 0 0xFF 2 2
    ∷ printed 33 0x1402 1 u32 w none 0 0xFFFFFFFF 0x405 0x47F
    ∷ printed 37 0x1402 2 u8 w none 0 0xFF 0xFF 0xFF
    ∷ printed 38 0x1403 0 u8 c none 0 0xFF 2 2
    ∷ printed 39 0x1403 1 u32 w none 0 0xFFFFFFFF 0x505 0x57F
    ∷ printed 43 0x1403 2 u8 w none 0 0xFF 0xFF 0xFF
    ∷ []

-- "1600-1603 ..: :0 u8 w, :1-:8 u32 w"; ":0 has the range 0..8"; "receive 6040; 6040+6060; 6040+607A; 6040+60FF"
receive_maps : List Entry
receive_maps =
    printed 44 0x1600 0 u8 w none 0 8 1 1
    ∷ printed 45 0x1600 1 u32 w none 0 0xFFFFFFFF 0x60400010 0x60400010
    ∷ printed 49 0x1600 2 u32 w none 0 0xFFFFFFFF 0 0
    ∷ printed 53 0x1600 3 u32 w none 0 0xFFFFFFFF 0 0
    ∷ printed 57 0x1600 4 u32 w none 0 0xFFFFFFFF 0 0
    ∷ printed 61 0x1600 5 u32 w none 0 0xFFFFFFFF 0 0
    ∷ printed 65 0x1600 6 u32 w none 0 0xFFFFFFFF 0 0
    ∷ printed 69 0x1600 7 u32 w none 0 0xFFFFFFFF 0 0
    ∷ printed 73 0x1600 8 u32 w none 0 0xFFFFFFFF 0 0
    ∷ printed 77 0x1601 0 u8 w none 0 8 2 2
    ∷ printed 78 0x1601 1 u32 w none 0 0xFFFFFFFF 0x60400010 0x60400010
    ∷ printed 82 0x1601 2 u32 w none 0 0xFFFFFFFF 0x60600008 0x60600008
    ∷ printed 86 0x1601 3 u32 w none 0 0xFFFFFFFF 0 0
    ∷ printed 90 0x1601 4 u32 w none 0 0xFFFFFFFF 0 0
    ∷ printed 94 0x1601 5 u32 w none 0 0xFFFFFFFF 0 0
    ∷ printed 98 0x1601 6 u32 w none 0 0xFFFFFFFF 0 0
    ∷ printed 102 0x1601 7 u32 w none 0 0xFFFFFFFF 0 0
    ∷ printed 106 0x1601 8 u32 w none 0 0xFFFFFFFF 0 0
    ∷ printed 110 0x1602 0 u8 w none 0 8 2 2
    ∷ printed 111 0x1602 1 u32 w none 0 0xFFFFFFFF 0x60400010 0x60400010
    ∷ printed 115 0x1602 2 u32 w none 0 0xFFFFFFFF 0x607A0020 0x607A0020
    ∷ printed 119 0x1602 3 u32 w none 0 0xFFFFFFFF 0 0
    ∷ printed 123 0x1602 4 u32 w none 0 0xFFFFFFFF 0 0
    ∷ printed 127 0x1602 5 u32 w none 0 0xFFFFFFFF 0 0
    ∷ printed 131 0x1602 6 u32 w none 0 0xFFFFFFFF 0 0
    ∷ printed 135 0x1602 7 u32 w none 0 0xFFFFFFFF 0 0
    ∷ printed 139 0x1602 8 u32 w none 0 0xFFFFFFFF 0 0
    ∷ printed 143 0x1603 0 u8 w none 0 8 2 2
    ∷ printed 144 0x1603 1 u32 w none 0 0xFFFFFFFF 0x60400010 0x60400010
    ∷ printed 148 0x1603 2 u32 w none 0 0xFFFFFFFF 0x60FF0020 0x60FF0020
    ∷ printed 152 0x1603 3 u32 w none 0 0xFFFFFFFF 0 0
    ∷ printed 156 0x1603 4 u32 w none 0 0xFFFFFFFF 0 0
    ∷ printed 160 0x1603 5 u32 w none 0 0xFFFFFFFF 0 0
    ∷ printed 164 0x1603 6 u32 w none 0 0xFFFFFFFF 0 0
    ∷ printed 168 0x1603 7 u32 w none 0 0xFFFFFFFF 0 0
    ∷ printed 172 0x1603 8 u32 w none 0 0xFFFFFFFF 0 0
    ∷ []

-- ".. and 1800-1803: :0 u8 c 2, :1 u32 w, :2 u8 w 255"; "with bit 30, 180h-480h, in steps of 100h, plus N"
transmit_communication : List Entry
transmit_communication =
    printed 176 0x1800 0 u8 c none 0 0xFF 2 2
    ∷ printed 177 0x1800 1 u32 w none 0 0xFFFFFFFF 0x40000185 0x400001FF
    ∷ printed 181 0x1800 2 u8 w none 0 0xFF 0xFF 0xFF
    ∷ printed 182 0x1801 0 u8 c none 0 0xFF 2 2
    ∷ printed 183 0x1801 1 u32 w none 0 0xFFFFFFFF 0x40000285 0x400002FF
    ∷ printed 187 0x1801 2 u8 w none 0 0xFF 0xFF 0xFF
    ∷ printed 188 0x1802 0 u8 c none 0 0xFF 2 2
    ∷ printed 189 0x1802 1 u32 w none 0 0xFFFFFFFF 0x40000385 0x400003FF
    ∷ printed 193 0x1802 2 u8 w none 0 0xFF 0xFF 0xFF
    ∷ printed 194 0x1803 0 u8 c none 0 0xFF 2 2
    ∷ printed 195 0x1803 1 u32 w none 0 0xFFFFFFFF 0x40000485 0x400004FF
    ∷ printed 199 0x1803 2 u8 w none 0 0xFF 0xFF 0xFF
    ∷ []

-- ".. and 1A00-1A03: :0 u8 w, :1-:8 u32 w"; "transmit 6041; 6041+6061; 6041+6064; 6041+606C"
transmit_maps : List Entry
transmit_maps =
    printed 200 0x1A00 0 u8 w none 0 8 1 1
    ∷ printed 201 0x1A00 1 u32 w none 0 0xFFFFFFFF 0x60410010 0x60410010
    ∷ printed 205 0x1A00 2 u32 w none 0 0xFFFFFFFF 0 0
    ∷ printed 209 0x1A00 3 u32 w none 0 0xFFFFFFFF 0 0
    ∷ printed 213 0x1A00 4 u32 w none 0 0xFFFFFFFF 0 0
    ∷ printed 217 0x1A00 5 u32 w none 0 0xFFFFFFFF 0 0
    ∷ printed 221 0x1A00 6 u32 w none 0 0xFFFFFFFF 0 0
    ∷ printed 225 0x1A00 7 u32 w none 0 0xFFFFFFFF 0 0
    ∷ printed 229 0x1A00 8 u32 w none 0 0xFFFFFFFF 0 0
    ∷ printed 233 0x1A01 0 u8 w none 0 8 2 2
    ∷ printed 234 0x1A01 1 u32 w none 0 0xFFFFFFFF 0x60410010 0x60410010
    ∷ printed 238 0x1A01 2 u32 w none 0 0xFFFFFFFF 0x60610008 0x60610008
    ∷ printed 242 0x1A01 3 u32 w none 0 0xFFFFFFFF 0 0
    ∷ printed 246 0x1A01 4 u32 w none 0 0xFFFFFFFF 0 0
    ∷ printed 250 0x1A01 5 u32 w none 0 0xFFFFFFFF 0 0
    ∷ printed 254 0x1A01 6 u32 w none 0 0xFFFFFFFF 0 0
    ∷ printed 258 0x1A01 7 u32 w none 0 0xFFFFFFFF 0 0
    ∷ printed 262 0x1A01 8 u32 w none 0 0xFFFFFFFF 0 0
    ∷ printed 266 0x1A02 0 u8 w none 0 8 2 2
    ∷ printed 267 0x1A02 1 u32 w none 0 0xFFFFFFFF 0x60410010 0x60410010
    ∷ printed 271 0x1A02 2 u32 w none 0 0xFFFFFFFF 0x60640020 0x60640020
    ∷ printed 275 0x1A02 3 u32 w none 0 0xFFFFFFFF 0 0
    ∷ printed 279 0x1A02 4 u32 w none 0 0xFFFFFFFF 0 0
    ∷ printed 283 0x1A02 5 u32 w none 0 0xFFFFFFFF 0 0
    ∷ printed 287 0x1A02 6 u32 w none 0 0xFFFFFFFF 0 0
    ∷ printed 291 0x1A02 7 u32 w none 0 0xFFFFFFFF 0 0
    ∷ printed 295 0x1A02 8 u32 w none 0 0xFFFFFFFF 0 0
    ∷ printed 299 0x1A03 0 u8 w none 0 8 2 2
    ∷ printed 300 0x1A03 1 u32 w none 0 0xFFFFFFFF 0x60410010 0x60410010
    ∷ printed 304 0x1A03 2 u32 w none 0 0xFFFFFFFF 0x606C0020 0x606C0020
    ∷ printed 308 0x1A03 3 u32 w none 0 0xFFFFFFFF 0 0
    ∷ printed 312 0x1A03 4 u32 w none 0 0xFFFFFFFF 0 0
    ∷ printed 316 0x1A03 5 u32 w none 0 0xFFFFFFFF 0 0
    ∷ printed 320 0x1A03 6 u32 w none 0 0xFFFFFFFF 0 0
    ∷ printed 324 0x1A03 7 u32 w none 0 0xFFFFFFFF 0 0
    ∷ printed 328 0x1A03 8 u32 w none 0 0xFFFFFFFF 0 0
    ∷ []

-- "603F u16 o T; 6040 u16 w R; 6041 u16 o T; 6060 i8 w R; 6061 i8 o T; 6064 i32 o T; 6067 u32 w 0..7FFFFFFFh; 606C i32 o T;
-- 606D, 606F u16 w; 607A i32 w R; 607D:0 u8 c 2, :1 i32 w -2^31, :2 i32 w 2^31-1; 6081 u32 w R;
-- 6083, 6084 u32 w R default 1, least 1; 60FF i32 w R; 6502 u32 c 5"; "Other defaults 0"; ticket 2: "6068h (u16, ms, default 0, writable)"
drive : List Entry
drive =
    printed 332 0x603F 0 u16 o T 0 0xFFFF 0 0
    ∷ printed 334 0x6040 0 u16 w R 0 0xFFFF 0 0
    ∷ printed 336 0x6041 0 u16 o T 0 0xFFFF 0 0
    ∷ printed 338 0x6060 0 i8 w R 0 0xFF 0 0
    ∷ printed 339 0x6061 0 i8 o T 0 0xFF 0 0
    ∷ printed 340 0x6064 0 i32 o T 0 0xFFFFFFFF 0 0
    ∷ printed 344 0x6067 0 u32 w none 0 0x7FFFFFFF 0 0
    ∷ printed 348 0x6068 0 u16 w none 0 0xFFFF 0 0
    ∷ printed 350 0x606C 0 i32 o T 0 0xFFFFFFFF 0 0
    ∷ printed 354 0x606D 0 u16 w none 0 0xFFFF 0 0
    ∷ printed 356 0x606F 0 u16 w none 0 0xFFFF 0 0
    ∷ printed 358 0x607A 0 i32 w R 0 0xFFFFFFFF 0 0
    ∷ printed 362 0x607D 0 u8 c none 0 0xFF 2 2
    ∷ printed 363 0x607D 1 i32 w none 0 0xFFFFFFFF 0x80000000 0x80000000
    ∷ printed 367 0x607D 2 i32 w none 0 0xFFFFFFFF 0x7FFFFFFF 0x7FFFFFFF
    ∷ printed 371 0x6081 0 u32 w R 0 0xFFFFFFFF 0 0
    ∷ printed 375 0x6083 0 u32 w R 1 0xFFFFFFFF 1 1
    ∷ printed 379 0x6084 0 u32 w R 1 0xFFFFFFFF 1 1
    ∷ printed 383 0x60FF 0 i32 w R 0 0xFFFFFFFF 0 0
    ∷ printed 387 0x6502 0 u32 c none 0 0xFFFFFFFF 5 5
    ∷ []

-- ALL 123 ROWS, in the paper's order
as_printed_lem : map as_printed table ≡ node ++ receive_communication ++ receive_maps ++ transmit_communication ++ transmit_maps ++ drive
unfolding node receive_communication receive_maps transmit_communication transmit_maps drive open_edges
as_printed_lem = refl

-- "u8", "u16", "u32", "i8", "i32": the bytes of each
bytes_of_types : map size (u8 ∷ u16 ∷ u32 ∷ i8 ∷ i32 ∷ []) ≡ 1 ∷ 2 ∷ 4 ∷ 1 ∷ 4 ∷ []
bytes_of_types = refl

-- which rows have a rule of their own: of each PDO the identifier, the type, :0 and the eight entries; 6060h, "Mode must be 0, 1 or 3";
-- and 607Dh:1 and :2
abbrev of_communication : ℕ → List Role
of_communication p = Plain ∷ PdoIdentifier p ∷ PdoType p ∷ []

abbrev of_mapping : ℕ → List Role
of_mapping p = MappingCount p ∷ times 8 (MappingEntry p)

roles : map (λ x. x.role) table
    ≡ times 7 Plain ++ of_communication 0 ++ of_communication 1 ++ of_communication 2 ++ of_communication 3 ++ of_mapping 0 ++ of_mapping 1
    ++ of_mapping 2 ++ of_mapping 3 ++ of_communication 4 ++ of_communication 5 ++ of_communication 6 ++ of_communication 7 ++ of_mapping 4
    ++ of_mapping 5 ++ of_mapping 6 ++ of_mapping 7 ++ times 3 Plain ++ ModeOfOperation ∷ times 9 Plain ++ MinimumLimit ∷ MaximumLimit
    ∷ times 5 Plain
unfolding open_edges
roles = refl

-- "82h objects 1000h-1FFFh to default except that 1001h stays": what stays, index and subindex as one number; the other 102 go back
stays_at_82h : map key (filter (λ x. not (is_reset x)) table)
    ≡ 0x100100 ∷ 0x603F00 ∷ 0x604000 ∷ 0x604100 ∷ 0x606000 ∷ 0x606100 ∷ 0x606400 ∷ 0x606700 ∷ 0x606800 ∷ 0x606C00 ∷ 0x606D00 ∷ 0x606F00
    ∷ 0x607A00 ∷ 0x607D00 ∷ 0x607D01 ∷ 0x607D02 ∷ 0x608100 ∷ 0x608300 ∷ 0x608400 ∷ 0x60FF00 ∷ 0x650200 ∷ []
unfolding open_edges
stays_at_82h = refl

back_at_82h : length (filter is_reset table) ≡ 102
unfolding open_edges
back_at_82h = refl
