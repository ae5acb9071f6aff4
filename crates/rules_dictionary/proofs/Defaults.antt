-- What stands in the dictionary once every row is written with its default: nothing of what was there before.
-- Assumes nothing.
use Prim.Native.Nat.{ℕ, zero, suc, ◌+◌, ◌≤◌, ◌/◌}
use native.Mathlib.Omega.{arith}
use mathlib.Core.Path.{◌≡◌, refl, ◌∙◌, ap}
use mathlib.Core.Bool.{Bool, true, not, ◌&&◌}
use mathlib.Core.List.{List, [], ◌∷◌, ◌++◌, append_assoc, append-nil}
use borrow.Author.Tests.{eqb-true}
use lib.Dec.{eqb}
use lib.ListN.{length, drop, length-append, length-drop, drop_of_length-le}
use lib.Seq.{sets, sets-eq, take_at, drop-append-add, drop-drop}
use Rattle.rules_dictionary.specs.Numbers.{bytes, all}
use Rattle.rules_dictionary.specs.TheNode.{last_node, is_node_id}
use Rattle.rules_dictionary.specs.Table.{Row, table, size_of, total, bytes_before, place_of, dictionary_length}
use Rattle.rules_dictionary.specs.Values.{store, stored, to_defaults, default_of, packed_defaults}
use Rattle.rules_dictionary.specs.Legal.{is_below, is_above, bad_choice}
use Rattle.rules_dictionary.specs.Members.{In}
use Rattle.rules_dictionary.proofs.Tests.{and_left, and_right, all_below, on_nodes, all_in}

pub length_bytes : (size v : ℕ) → length (bytes size v) ≡ size
unfolding bytes
length_bytes zero v = refl
length_bytes (suc size) v = ap suc (length_bytes size (v / 256))

-- each row begins where the one before ends
abbrev pub packed_from : ℕ → List Row → Bool
packed_from place [] = true
packed_from place (x ∷ xs) = eqb (place_of x) place && packed_from (place + size_of x) xs

sets_behind : (before d bs : List ℕ) → length bs ≤ length d → sets (before ++ d) (length before) bs ≡ (before ++ bs) ++ drop (length bs) d
sets_behind before d bs h =
    sets-eq bs (before ++ d) (length before) (rw length-append (omega arith))
    ∙ rw (take_at before d (length before) refl, drop-append-add)

-- the rows behind what is written already
filled_behind : (n : ℕ) (xs : List Row) (before d : List ℕ) → packed_from (length before) xs ≡ true → total xs ≤ length d →
    stored (to_defaults n xs) (before ++ d) ≡ before ++ (packed_defaults n xs ++ drop (total xs) d)
unfolding stored packed_defaults store
filled_behind n [] before d p h = refl
filled_behind n (x ∷ xs) before d p h =
    let bs = bytes (size_of x) (default_of n x) in
    let l : length bs ≡ size_of x = length_bytes (size_of x) (default_of n x) in
    let e : place_of x ≡ length before = eqb-true _ _ (and_left (eqb (place_of x) (length before)) (packed_from (length before + size_of x) xs) p) in
    let q : length (before ++ bs) ≡ length before + size_of x = length-append before bs ∙ ap (λ (k : ℕ). length before + k) l in
    let stands : sets (before ++ d) (place_of x) bs ≡ (before ++ bs) ++ drop (size_of x) d =
    ap (λ (k : ℕ). sets (before ++ d) k bs) e ∙ sets_behind before d bs (omega arith) ∙ ap (λ (k : ℕ). (before ++ bs) ++ drop k d) l in
    ap (λ (y : List ℕ). stored (to_defaults n xs) y) stands
    ∙ filled_behind n xs (before ++ bs) (drop (size_of x) d)
    (ap (λ (k : ℕ). packed_from k xs) q ∙ and_right (eqb (place_of x) (length before)) (packed_from (length before + size_of x) xs) p)
    (rw length-drop (omega arith))
    ∙ rw drop-drop (simp append_assoc)

pub table_packed : packed_from 0 table ≡ true
unfolding table bytes_before place_of
table_packed = refl

table_total : total table ≡ dictionary_length
unfolding dictionary_length
table_total = refl

-- THE LAW: whatever the dictionary held, it holds the defaults
pub all_defaults : (n : ℕ) (d : List ℕ) → length d ≡ dictionary_length → stored (to_defaults n table) d ≡ packed_defaults n table
all_defaults n d h =
    filled_behind n table [] d table_packed (omega (arith, table_total))
    ∙ rw (drop_of_length-le d {i = total table} (omega (arith, table_total))) (append-nil (packed_defaults n table))

-- ---- "defaults legal": of every row, on every node

default_in_range : ℕ → Row → Bool
default_in_range n x = not (is_below x (default_of n x)) && not (is_above x (default_of n x)) && not (bad_choice x.role (default_of n x))

defaults_test : all_below (λ k. all (default_in_range (suc k)) table) last_node ≡ true
unfolding default_in_range table
defaults_test = refl

pub defaults_in_range : (n : ℕ) (x : Row) → is_node_id n ≡ true → In x table →
    (not (is_below x (default_of n x)) && not (is_above x (default_of n x)) && not (bad_choice x.role (default_of n x))) ≡ true
unfolding default_in_range
defaults_in_range n x p i = all_in (default_in_range n) i (on_nodes (λ n. all (default_in_range n) table) defaults_test n p)
