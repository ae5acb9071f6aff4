-- Laws of the defaults: the default bytes, and the identifiers that count up from the node-ID.
-- Assumes nothing.
use Prim.Native.Nat.{ℕ, zero, suc, ◌+◌, ◌*◌, ◌≤◌}
use mathlib.Core.Path.{◌≡◌, refl, sym, ◌∙◌, ap}
use mathlib.Core.List.{List, [], ◌∷◌, ◌++◌, append-nil}
use native.Mathlib.Nat.{zero-add, add-zero, add-suc, suc-add}
use native.Mathlib.Numerals.{add-one}
use native.Mathlib.Omega.{arith}
use lib.ListN.{length, get_or, drop, set, drop_of_length-le}
use lib.Seq.{paste, take_all, drop-cons}
use Rattle.rules_dictionary.specs.Numbers.{bytes, filter}
use Rattle.rules_dictionary.specs.Table.{table, error_code, error_register, emergency_identifier, each_way, place_of, dictionary_length, is_reset}
use Rattle.rules_dictionary.specs.Table.{identifier, open_table}
use Rattle.rules_dictionary.specs.Values.{store, stored, to_defaults, packed_defaults}
use Rattle.rules_dictionary.proofs.Defaults.{all_defaults}
use Rattle.rules_dictionary.specs.Members.{In}
use Rattle.rules_dictionary.proofs.LookUp.{found_in}
use Rattle.rules_dictionary.proofs.Packing.{within}
use Rattle.dictionary.specs.Identifiers.{four_from, node_identifiers}

length_defaults : length (packed_defaults 0 table) ≡ dictionary_length
unfolding packed_defaults table bytes dictionary_length
length_defaults = refl

-- 1014h, then the identifiers of either direction
pub by_direction_lem : (n : ℕ) (d : List ℕ) →
    four_from each_way 0x40000180 n (four_from 0 0x200 n (store emergency_identifier (0x80 + n) d)) ≡ stored (to_defaults n node_identifiers) d
unfolding four_from stored
by_direction_lem n d = refl

node_bytes : (n : ℕ) → stored (to_defaults n node_identifiers) (packed_defaults 0 table) ≡ packed_defaults n table
unfolding stored store packed_defaults open_table bytes
node_bytes n = refl

-- THE LAW: with the identifiers for the node, the default bytes are the node's
pub for_node : (n : ℕ) (d : List ℕ) → length d ≡ dictionary_length →
    stored (to_defaults n node_identifiers) (paste d 0 (packed_defaults 0 table) dictionary_length) ≡ stored (to_defaults n table) d
for_node n d h =
    let all = take_all dictionary_length (packed_defaults 0 table) (omega (arith, length_defaults)) in
    rw (zero-add, all, drop_of_length-le d {i = dictionary_length} (omega arith), append-nil)
    (node_bytes n ∙ sym (all_defaults n d h))

-- ---- the communication objects

-- so many bytes from a place on, one by one
abbrev spread : ℕ → ℕ → List ℕ → List ℕ
spread i zero d = []
spread i (suc k) d = get_or d i 0 ∷ spread (suc i) k d

spread_is : (d : List ℕ) (i k : ℕ) → i + k ≤ length d → spread i k d ++ drop (i + k) d ≡ drop i d
spread_is d i zero h = rw add-zero
spread_is d i (suc k) h =
    rw (drop-cons d i 0 (omega arith))
    (ap (λ (l : List ℕ). get_or d i 0 ∷ l) (rw (add-suc, ← suc-add) (spread_is d (suc i) k (omega arith))))

-- the bytes that a call of 82h leaves, in the order of the code
abbrev pub communication_bytes : ℕ → List ℕ → List ℕ
communication_bytes n d =
    stored (to_defaults n node_identifiers)
    (set (paste d 0 (packed_defaults 0 table) (place_of error_code)) (place_of error_register) (get_or d (place_of error_register) 0))

computed : (n : ℕ) (d : List ℕ) →
    communication_bytes n d ≡ stored (to_defaults n (filter is_reset table)) (spread 0 (place_of error_code) d ++ drop (place_of error_code) d)
unfolding stored store packed_defaults open_table bytes
computed n d = refl

code_in : In error_code table
unfolding open_table
code_in = found_in error_code.index error_code.subindex refl

-- THE LAW: the default bytes in front of the drive's, with 1001h put back and the identifiers for the node
pub communication_for_node : (n : ℕ) (d : List ℕ) → length d ≡ dictionary_length →
    communication_bytes n d ≡ stored (to_defaults n (filter is_reset table)) d
communication_for_node n d h =
    let whole = rw zero-add at (spread_is d 0 (place_of error_code) (omega (arith, within code_in))) in
    computed n d ∙ ap (λ (l : List ℕ). stored (to_defaults n (filter is_reset table)) l) whole

-- ---- the identifiers of four PDOs, one by one

-- those of so many of them
unfoldable pub some_from : ℕ → ℕ → ℕ → ℕ → List ℕ → List ℕ
some_from zero p first n d = d
some_from (suc k) p first n d = store (identifier (p + k)) (first + 0x100 * k + n) (some_from k p first n d)

pub none_from : (p first n : ℕ) (d : List ℕ) → d ≡ some_from 0 p first n d
unfolding some_from
none_from p first n d = refl

pub one_more_from : (k p first n : ℕ) (d : List ℕ) →
    store (identifier (p + k)) (first + 0x100 * k + n) (some_from k p first n d) ≡ some_from (k + 1) p first n d
unfolding some_from
one_more_from k p first n d = rw add-one refl

pub four_is : (p first n : ℕ) (d : List ℕ) → some_from 4 p first n d ≡ four_from p first n d
unfolding some_from four_from
four_is p first n d = simp add-zero
