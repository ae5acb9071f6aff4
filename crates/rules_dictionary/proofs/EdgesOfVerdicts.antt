-- Document 01, 'SDO', as numbers: each abort code, and the code that each value gets; 0 where it is taken.
-- The numbers are written from the paper: a changed code, bound, comparison or order makes one of them fall.
-- Assumes nothing.
use Prim.Native.Nat.{ℕ, zero, suc, ◌+◌, ◌-◌}
use mathlib.Core.Path.{◌≡◌, refl}
use mathlib.Core.Bool.{Bool, true, false, not, ◌&&◌, ◌||◌}
use mathlib.Core.List.{List, [], ◌∷◌, ◌++◌, map}
use lib.Dec.{eqb}
use Rattle.rules_dictionary.specs.Numbers.{all}
use lib.ListN.{length}
use Rattle.rules_dictionary.specs.DeviceName.{device_name, is_name}
use Rattle.rules_dictionary.specs.Table.{Row, u32, from, up_to, ranging, table, Found}
use Rattle.rules_dictionary.specs.Table.{found, the_name, no_object as missing, no_subindex as missing_sub, lookup}
use Rattle.rules_dictionary.specs.Table.{error_register, heartbeat_time, error_code, control_word, status_word, mode, mode_display, position, key}
use Rattle.rules_dictionary.specs.Table.{position_window, velocity, velocity_window, velocity_threshold, target_position, minimum_position}
use Rattle.rules_dictionary.specs.Table.{maximum_position, profile_velocity, profile_acceleration, profile_deceleration, target_velocity, pdos}
use Rattle.rules_dictionary.specs.Table.{transmission_type, map_count, map_entry, window_time}
use Rattle.rules_dictionary.specs.Aborts.{abort_code, unknown_command, wrong_toggle, no_object, no_subindex, no_writing, too_long}
use Rattle.rules_dictionary.specs.Aborts.{too_short, wrong_time}
use Rattle.rules_dictionary.specs.Aborts.{below_range, above_range, bad_value, limits_swapped, not_mappable, over_length, Verdict, good, bad}
use Rattle.rules_dictionary.specs.Aborts.{is_good, test, first_firing}
use Rattle.rules_dictionary.specs.Legal.{is_below, is_above, value_verdict}
use Rattle.rules_dictionary.proofs.Edges.{fresh, open_edges}

-- "05040001h"; "wrong toggle 05030000h"; "no object 06020000h; no subindex 06090011h; download to c or o 06010002h; longer 06070012h, shorter
-- 06070013h; wrong time 08000022h; below range 06090032h, above 06090031h; other bad value 06090030h"; "wrong direction or length 06040041h"; "over
-- 64 bits 06040042h"; ticket 5, "06040043h"
abort_codes : map abort_code
    (unknown_command ∷ wrong_toggle ∷ no_object ∷ no_subindex ∷ no_writing ∷ too_long ∷ too_short ∷ wrong_time ∷ below_range ∷ above_range ∷ bad_value
    ∷ limits_swapped ∷ not_mappable ∷ over_length ∷ [])
    ≡ 0x05040001 ∷ 0x05030000 ∷ 0x06020000 ∷ 0x06090011 ∷ 0x06010002 ∷ 0x06070012 ∷ 0x06070013 ∷ 0x08000022 ∷ 0x06090032 ∷ 0x06090031 ∷ 0x06090030
    ∷ 0x06040043 ∷ 0x06040041 ∷ 0x06040042 ∷ []
abort_codes = refl

-- the code of a verdict, 0 for good
abbrev pub code : Verdict → ℕ
code good = 0
code (bad a) = abort_code a

-- the codes that values for a row get
abbrev pub answers : List ℕ → Row → List ℕ → List ℕ
answers d x vs = map (λ v. code (value_verdict d x v)) vs

-- the same so many times
abbrev pub times {ℓ} : {A : Type ℓ} → ℕ → A → List A
times zero x = []
times (suc n) x = x ∷ times n x

-- "Then, in order": the first that fires, and behind them all the rest
in_order : map (λ b. code (first_firing (test false wrong_time ∷ test b too_long ∷ test true too_short ∷ []) good)) (true ∷ false ∷ [])
    ≡ 0x06070012 ∷ 0x06070013 ∷ []
unfolding open_edges
in_order = refl

good_alone : map is_good (good ∷ bad bad_value ∷ []) ≡ true ∷ false ∷ []
good_alone = refl

-- ---- the look-up: "no object", "no subindex"

-- each row is found by its index and subindex
is_found : Row → Found → Bool
is_found x (found y) = eqb (key x) (key y)
is_found x the_name = false
is_found x missing = false
is_found x missing_sub = false

all_found : all (λ x. is_found x (lookup x.index x.subindex)) table ≡ true
unfolding is_found open_edges
all_found = refl

no_objects : map (λ i. lookup i 0) (0 ∷ 5 ∷ 0xFFF ∷ 0x1002 ∷ 0x1404 ∷ 0x1604 ∷ 0x1804 ∷ 0x1A04 ∷ 0x603E ∷ 0x6042 ∷ 0x607B ∷ 0x6503 ∷ 0xFFFF ∷ [])
    ≡ times 13 missing
unfolding open_edges
no_objects = refl

no_subindices : lookup 0x1000 1 ∷ lookup 0x1018 2 ∷ lookup 0x1403 3 ∷ lookup 0x1600 9 ∷ lookup 0x1800 255 ∷ lookup 0x607D 3 ∷ lookup 0x6502 1 ∷ []
    ≡ times 7 missing_sub
unfolding open_edges
no_subindices = refl

-- 1008h:0 is the device name, and has no other subindex; no row stands there
the_name_lem : (lookup 0x1008 0 ≡ the_name) × (lookup 0x1008 1 ≡ missing_sub) × (lookup 0x1008 255 ≡ missing_sub) × (lookup 0x1007 0 ≡ missing)
    × (lookup 0x1009 0 ≡ missing) × (all (λ x. not (eqb x.index 0x1008)) table ≡ true)
unfolding open_edges
the_name_lem = (refl, refl, refl, refl, refl, refl)

-- "a constant visible string of 5 to 32 characters": nineteen, as they are printed
the_name_stands : (is_name device_name ≡ true) × (length device_name ≡ 19)
    × (device_name
    ≡ 67 ∷ 101 ∷ 110 ∷ 100 ∷ 117 ∷ 114 ∷ 97 ∷ 107 ∷ 32 ∷ 115 ∷ 101 ∷ 114 ∷ 118 ∷ 111 ∷ 32 ∷ 110 ∷ 111 ∷ 100 ∷ 101 ∷ [])
the_name_stands = (refl, refl, refl)

-- four characters are too few, five and 32 are not, 33 are too many; a control character is no character
name_bounds : map (λ n. is_name (times n 0x41)) (4 ∷ 5 ∷ 32 ∷ 33 ∷ []) ++ map (λ b. is_name (times 5 b)) (0x1F ∷ 0x20 ∷ 0x7E ∷ 0x7F ∷ [])
    ≡ false ∷ true ∷ true ∷ false ∷ false ∷ true ∷ true ∷ false ∷ []
name_bounds = refl

-- ticket 2: 6068h is there, and has no other subindex; 6069h is not
the_window_time : (lookup 0x6068 0 ≡ found window_time) × (map (lookup 0x6068) (1 ∷ 255 ∷ []) ≡ times 2 missing_sub) × (lookup 0x6069 0 ≡ missing)
unfolding open_edges
the_window_time = (refl, refl, refl)

-- ---- ranges: the ends are legal, what lies behind them is not

past_ends : Row → Bool
past_ends x =
    not (is_below x x.range.least) && not (is_above x x.range.greatest) && is_above x (x.range.greatest + 1)
    && (eqb x.range.least 0 || is_below x (x.range.least - 1))

all_ends : all past_ends table ≡ true
unfolding past_ends open_edges
all_ends = refl

ends_of_bytes : map (λ x. answers fresh x (0 ∷ 0xFF ∷ 0x100 ∷ [])) (error_register ∷ mode_display ∷ []) ≡ times 2 (0 ∷ 0 ∷ 0x06090031 ∷ [])
unfolding open_edges
ends_of_bytes = refl

ends_of_u16 : map (λ x. answers fresh x (0 ∷ 0xFFFF ∷ 0x10000 ∷ []))
    (heartbeat_time ∷ error_code ∷ control_word ∷ status_word ∷ window_time ∷ velocity_window ∷ velocity_threshold ∷ [])
    ≡ times 7 (0 ∷ 0 ∷ 0x06090031 ∷ [])
unfolding open_edges
ends_of_u16 = refl

ends_of_32 : map (λ x. answers fresh x (0 ∷ 0x7FFFFFFF ∷ 0x80000000 ∷ 0xFFFFFFFF ∷ 0x100000000 ∷ []))
    (position ∷ velocity ∷ target_position ∷ minimum_position ∷ maximum_position ∷ profile_velocity ∷ target_velocity ∷ [])
    ≡ times 7 (0 ∷ 0 ∷ 0 ∷ 0 ∷ 0x06090031 ∷ [])
unfolding open_edges
ends_of_32 = refl

-- "6067 u32 w 0..7FFFFFFFh"
ends_of_window : answers fresh position_window (0 ∷ 1 ∷ 0x7FFFFFFE ∷ 0x7FFFFFFF ∷ 0x80000000 ∷ 0xFFFFFFFF ∷ [])
    ≡ 0 ∷ 0 ∷ 0 ∷ 0 ∷ 0x06090031 ∷ 0x06090031 ∷ []
unfolding open_edges
ends_of_window = refl

-- "6083, 6084 .. least 1"
ends_of_ramps : map (λ x. answers fresh x (0 ∷ 1 ∷ 2 ∷ 0xFFFFFFFF ∷ 0x100000000 ∷ [])) (profile_acceleration ∷ profile_deceleration ∷ [])
    ≡ times 2 (0x06090032 ∷ 0 ∷ 0 ∷ 0 ∷ 0x06090031 ∷ [])
unfolding open_edges
ends_of_ramps = refl

-- "below range 06090032h, above 06090031h; other bad value 06090030h", in this order: modes of a narrower range, and one that no value fits
below_before_bad : answers fresh (ranging (from 3 u32) mode) (0 ∷ 2 ∷ 3 ∷ 4 ∷ []) ≡ 0x06090032 ∷ 0x06090032 ∷ 0 ∷ 0x06090030 ∷ []
unfolding open_edges
below_before_bad = refl

above_before_bad : answers fresh (ranging (up_to 2) mode) (1 ∷ 2 ∷ 3 ∷ 4 ∷ []) ≡ 0 ∷ 0x06090030 ∷ 0x06090031 ∷ 0x06090031 ∷ []
unfolding open_edges
above_before_bad = refl

below_before_above : answers fresh (ranging (record { least = 5; greatest = 3 }) control_word) (3 ∷ 4 ∷ 5 ∷ [])
    ≡ 0x06090032 ∷ 0x06090032 ∷ 0x06090031 ∷ []
unfolding open_edges
below_before_above = refl

-- ".. mapping faults" behind them all: counts from 5 over one mapped object, and entries up to 5
range_before_mapping : answers fresh (ranging (from 5 u32) (map_count 0)) (1 ∷ 2 ∷ 5 ∷ [])
    ++ answers fresh (ranging (up_to 5) (map_entry 0 1)) (0 ∷ 5 ∷ 6 ∷ [])
    ≡ 0x06090032 ∷ 0x06090032 ∷ 0x06040041 ∷ 0 ∷ 0x06020000 ∷ 0x06090031 ∷ []
unfolding open_edges
range_before_mapping = refl

-- ---- "Mode must be 0, 1 or 3", "Types 0..240, 254, 255", "06090030h"

modes_taken : answers fresh mode (0 ∷ 1 ∷ 2 ∷ 3 ∷ 4 ∷ 6 ∷ 7 ∷ 8 ∷ 127 ∷ 128 ∷ 255 ∷ 256 ∷ [])
    ≡ 0 ∷ 0 ∷ 0x06090030 ∷ 0 ∷ times 7 0x06090030 ++ 0x06090031 ∷ []
unfolding open_edges
modes_taken = refl

types_taken : map (λ p. answers fresh (transmission_type p) (0 ∷ 1 ∷ 239 ∷ 240 ∷ 241 ∷ 253 ∷ 254 ∷ 255 ∷ 256 ∷ [])) pdos
    ≡ times 8 (0 ∷ 0 ∷ 0 ∷ 0 ∷ 0x06090030 ∷ 0x06090030 ∷ 0 ∷ 0 ∷ 0x06090031 ∷ [])
unfolding open_edges
types_taken = refl
