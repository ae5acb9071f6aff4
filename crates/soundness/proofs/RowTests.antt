-- The rows' clauses of soundness are the tests that bytes can fail, row by row and record by record.
-- Assumes nothing.
use Prim.Native.Nat.{ℕ, suc, ◌^◌, ◌<◌}
use native.Mathlib.Omega.{arith}
use mathlib.Core.Path.{◌≡◌, refl, sym, ◌∙◌, ap, ap₂}
use mathlib.Core.Bool.{Bool, true, false, not, ◌&&◌, ◌||◌, and-true, and_assoc, and_comm, not-not}
use mathlib.Core.List.{List, [], ◌∷◌, ◌++◌, map, flat_map}
use borrow.Author.Tests.{eqb-true, leb-true, leb-false, le-ltb, lt-ltb}
use lib.Dec.{eqb, leb, ltb}
use lib.ListN.{length}
use Rattle.rules_dictionary.specs.Numbers.{all, are_bytes}
use Rattle.rules_dictionary.specs.Table.{Row, table, node_rows, drive_rows, receive_pdos, transmit_pdos, pdos, communication_rows, mapping_rows, each_way}
use Rattle.rules_dictionary.specs.Table.{size_of, largest, dictionary_length}
use Rattle.rules_dictionary.specs.Values.{Write, write, read, unpacked}
use Rattle.rules_dictionary.specs.Legal.{is_below, is_above, bad_choice}
use Rattle.rules_dictionary.specs.Members.{In, here, there}
use Rattle.rules_dictionary.proofs.Packing.{within}
use Rattle.rules_dictionary.proofs.Rows.{read_fits}
use Rattle.rules_dictionary.proofs.Members.{unpacked_table}
use Rattle.rules.specs.Sound.{constants_as_listed}
use Rattle.theorems.proofs.GoodValues.{in_range}
use Rattle.theorems.proofs.Dictionary.{listed}
use Rattle.mapping.proofs.Orders.{swap, beside}
use Rattle.soundness.specs.Rows.{tests_of, tests, communication_tests, row_tests, few_moves}

-- ---- a row

at_least : (k v : ℕ) → not (ltb v k) ≡ (eqb k 0 || leb k v)
at_least k v = go (eqb k 0) (leb k v) refl refl
  where
    go : (b c : Bool) → eqb k 0 ≡ b → leb k v ≡ c → not (ltb v k) ≡ (b || c)
    go true c e f = rw (le-ltb v k (omega (arith, eqb-true k 0 e)))
    go false true e f = rw (le-ltb v k (leb-true k v f))
    go false false e f = rw (lt-ltb v k (leb-false k v f))

at_most : (k v most : ℕ) → v < suc most → not (ltb k v) ≡ (eqb k most || leb v k)
at_most k v most h = go (eqb k most) (leb v k) refl refl
  where
    go : (b c : Bool) → eqb k most ≡ b → leb v k ≡ c → not (ltb k v) ≡ (b || c)
    go true c e f = rw (le-ltb k v (omega (arith, eqb-true k most e)))
    go false true e f = rw (le-ltb k v (leb-true v k f))
    go false false e f = rw (lt-ltb k v (leb-false v k f))

-- ---- rows

-- what is asked of a value by itself
unfoldable pub ranged : Write → Bool
ranged w = in_range w.row w.value

in_a_row : (l a b c rest : Bool) → ((l && ((a && b) && c)) && rest) ≡ (l && (a && (b && (c && rest))))
in_a_row l a b c rest = simp and_assoc

row_tests_lem : (n : ℕ) (x : Row) (v : ℕ) (rest : Bool) → v < 256 ^ size_of x → ((listed n (write x v) && ranged (write x v)) && rest) ≡ tests_of n x v rest
unfolding listed ranged in_range
row_tests_lem n x v rest h =
    let l = listed n (write x v) in
    let c = not (bad_choice x.role v) in
    in_a_row l (not (is_below x v)) (not (is_above x v)) c rest
    ∙ ap₂ (λ (a b : Bool). l && (a && (b && (c && rest)))) (at_least x.range.least v)
    (at_most x.range.greatest v (largest x.type) (omega arith))

rows_tests : (n : ℕ) (d : List ℕ) (xs : List Row) → ((x : Row) → In x xs → read d x < 256 ^ size_of x) →
    (all (listed n) (map (λ x. write x (read d x)) xs) && all ranged (map (λ x. write x (read d x)) xs)) ≡ tests n d xs
unfolding tests
rows_tests n d [] h = refl
rows_tests n d (x ∷ xs) h =
    let w = write x (read d x) in
    let ws = map (λ x. write x (read d x)) xs in
    beside (listed n w) (all (listed n) ws) (ranged w) (all ranged ws)
    ∙ ap (λ (b : Bool). (listed n w && ranged w) && b) (rows_tests n d xs (λ y i. h y (there i)))
    ∙ row_tests_lem n x (read d x) (tests n d xs) (h x here)

-- ---- the table, by record

tests_append : (n : ℕ) (d : List ℕ) (xs ys : List Row) → tests n d (xs ++ ys) ≡ (tests n d xs && tests n d ys)
unfolding tests
tests_append n d [] ys = refl
tests_append n d (x ∷ xs) ys = rw (tests_append n d xs ys) (simp and_assoc)

tests_joined : (n : ℕ) (d : List ℕ) (xss : List (List Row)) → tests n d (flat_map (λ xs. xs) xss) ≡ all (tests n d) xss
unfolding tests flat_map
tests_joined n d [] = refl
tests_joined n d (xs ∷ xss) = tests_append n d xs (flat_map (λ xs. xs) xss) ∙ ap (λ (b : Bool). tests n d xs && b) (tests_joined n d xss)

parts : List (List Row)
parts =
    node_rows
    ∷ flat_map communication_rows receive_pdos
    ∷ flat_map mapping_rows receive_pdos
    ∷ flat_map communication_rows transmit_pdos
    ∷ flat_map mapping_rows transmit_pdos
    ∷ drive_rows
    ∷ []

parts_table : flat_map (λ xs. xs) parts ≡ table
unfolding parts table flat_map
parts_table = refl

communications : (n : ℕ) (d : List ℕ) →
    (tests n d (flat_map communication_rows receive_pdos) ≡ communication_tests d 0)
    × (tests n d (flat_map communication_rows transmit_pdos) ≡ communication_tests d each_way)
unfolding tests communication_rows flat_map
communications n d = (simp (and-true, and_assoc, not-not), simp (and-true, and_assoc, not-not))

counts : (n : ℕ) (d : List ℕ) →
    (tests n d (flat_map mapping_rows receive_pdos) && tests n d (flat_map mapping_rows transmit_pdos)) ≡ all (few_moves d) pdos
unfolding tests mapping_rows flat_map
counts n d = simp (and-true, and_assoc)

-- the counts of the mappings last
counts_last : (n r m t k v : Bool) → (n && (r && (m && (t && (k && (v && true)))))) ≡ ((n && (r && (t && v))) && (m && k))
counts_last n r m t k v = simp (and-true, and_assoc, and_comm, swap)

-- THE LAW: constants as listed and each value by itself, by record; the counts of the mappings apart
pub rows_tested : (n : ℕ) (d : List ℕ) → length d ≡ dictionary_length → are_bytes d ≡ true →
    (constants_as_listed n d && all ranged (unpacked table d)) ≡ (row_tests n d && all (few_moves d) pdos)
unfolding constants_as_listed row_tests listed ranged parts
rows_tested n d long bytes =
    rw (unpacked_table d)
    (rows_tests n d table (λ x i. read_fits x d bytes (omega (arith, within i)))
    ∙ ap (tests n d) (sym parts_table)
    ∙ tests_joined n d parts
    ∙ counts_last (tests n d node_rows) (tests n d (flat_map communication_rows receive_pdos)) (tests n d (flat_map mapping_rows receive_pdos))
    (tests n d (flat_map communication_rows transmit_pdos)) (tests n d (flat_map mapping_rows transmit_pdos)) (tests n d drive_rows)
    ∙ rw ((communications n d).0, (communications n d).1, counts n d))
