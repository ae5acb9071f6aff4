-- The table's rules, each by one computed test over its rows, and the laws that follow.
-- Assumes nothing.
use Prim.Native.Nat.{ℕ, zero, suc, ◌+◌, ◌-◌, ◌^◌, ◌<◌, ◌≤◌}
use mathlib.Core.Path.{◌≡◌, refl, ◌∙◌}
use mathlib.Core.Bool.{Bool, true, false, not, ◌&&◌, ◌||◌, false≢true}
use mathlib.Core.Logic.{◌⊎◌, inl, inr}
use mathlib.Core.List.{List, [], ◌∷◌}
use native.Mathlib.Omega.{arith}
use borrow.Author.Tests.{ltb-true, le-leb}
use lib.Dec.{leb, ltb}
use lib.ListN.{length, get_or}
use Rattle.rules_dictionary.specs.Numbers.{all}
use Rattle.rules_dictionary.specs.Table.{Row, device_type, table, row_at, key, same, size_of, total, bytes_before, place_of, dictionary_length}
use Rattle.rules_dictionary.specs.Table.{entries, pdos, communication_count, identifier, transmission_type, map_count, communication_place}
use Rattle.rules_dictionary.specs.Table.{mapping_place, words_place, communication_length, mapping_length, record_place, open_table}
use Rattle.rules_dictionary.specs.Members.{In, here, there}
use Rattle.rules_dictionary.proofs.Members.{map_in}
use Rattle.rules_dictionary.proofs.Tests.{and_left, and_right, and_both, or_left, or_right, eqb_self, all_below, below, all_in, get_or_in}

-- ---- by rank

-- "in rising order of index and subindex"
rising_at : ℕ → Bool
rising_at i = ltb (key (row_at i)) (key (row_at (suc i)))

rising_test : all_below rising_at (entries - 1) ≡ true
unfolding rising_at table entries
rising_test = refl

pub rising : (i : ℕ) → suc i < entries → key (row_at i) < key (row_at (suc i))
unfolding rising_at
rising i h = ltb-true _ _ (below rising_at (entries - 1) i rising_test (omega arith))

-- ---- rows that stand one after another, of which no two have the same index and subindex

abbrev pub all_differ : List Row → Bool
all_differ [] = true
all_differ (x ∷ xs) = all (λ y. not (same y x)) xs && all_differ xs

differ_test : all_differ table ≡ true
unfolding table
differ_test = refl

pub same_self : (x : Row) → same x x ≡ true
same_self x = and_both _ _ (eqb_self x.index) (eqb_self x.subindex)

-- the first stands in front
first_before : (x : Row) (xs : List Row) → bytes_before x (x ∷ xs) ≡ 0
unfolding bytes_before
first_before x xs = rw (same_self x, bytes_before) refl

-- another stands behind the first
rest_before : (y : Row) (xs : List Row) {x : Row} → all (λ z. not (same z y)) xs ≡ true → In x xs →
    bytes_before x (y ∷ xs) ≡ size_of y + bytes_before x xs
unfolding bytes_before
rest_before y xs {x} h i = go (same x y) (all_in (λ z. not (same z y)) i h)
  where
    go : (b : Bool) → not b ≡ true → (elim b [ true ↦ 0 | false ↦ size_of y + bytes_before x xs ]) ≡ size_of y + bytes_before x xs
    go true e = absurd (false≢true e)
    go false e = refl

-- each ends within their bytes
ends_within : (xs : List Row) {x : Row} → all_differ xs ≡ true → In x xs → bytes_before x xs + size_of x ≤ total xs
ends_within [] h i = elim i [ ]
ends_within (x ∷ xs) h here = rw (first_before x xs) (omega arith)
ends_within (y ∷ xs) {x} h (there i) =
    let before = rest_before y xs (and_left (all (λ z. not (same z y)) xs) (all_differ xs) h) i in
    omega (arith, ends_within xs (and_right (all (λ z. not (same z y)) xs) (all_differ xs) h) i)

-- each begins where the one before ends
follows : (xs : List Row) (i : ℕ) (e : Row) → all_differ xs ≡ true → suc i < length xs →
    bytes_before (get_or xs (suc i) e) xs ≡ bytes_before (get_or xs i e) xs + size_of (get_or xs i e)
follows [] i e h l = absurd (omega arith)
follows (x ∷ []) i e h l = absurd (omega arith)
follows (x ∷ y ∷ xs) zero e h l =
    rest_before x (y ∷ xs) (and_left (all (λ z. not (same z x)) (y ∷ xs)) (all_differ (y ∷ xs)) h) here
    ∙ rw (first_before y xs, first_before x (y ∷ xs)) (omega arith)
follows (x ∷ y ∷ xs) (suc i) e h l =
    let others = and_left (all (λ z. not (same z x)) (y ∷ xs)) (all_differ (y ∷ xs)) h in
    let next = rest_before x (y ∷ xs) others (get_or_in (y ∷ xs) (suc i) e (omega arith)) in
    let this = rest_before x (y ∷ xs) others (get_or_in (y ∷ xs) i e (omega arith)) in
    omega (arith, follows (y ∷ xs) i e (and_right (all (λ z. not (same z x)) (y ∷ xs)) (all_differ (y ∷ xs)) h) (omega arith))

-- one lies before the other
abbrev Apart : List Row → Row → Row → Type 0
Apart xs x y = (bytes_before x xs + size_of x ≤ bytes_before y xs) ⊎ (bytes_before y xs + size_of y ≤ bytes_before x xs)

-- any two are one, or apart
one_or_apart : (xs : List Row) {x y : Row} → all_differ xs ≡ true → In x xs → In y xs → (x ≡ y) ⊎ Apart xs x y
one_or_apart [] h i j = elim i [ ]
one_or_apart (x ∷ xs) h here here = inl refl
one_or_apart (x ∷ xs) {y = y} h here (there j) =
    let before = rest_before x xs (and_left (all (λ z. not (same z x)) xs) (all_differ xs) h) j in
    inr (inl (rw (first_before x xs) (omega arith)))
one_or_apart (y ∷ xs) {x = x} h (there i) here =
    let before = rest_before y xs (and_left (all (λ z. not (same z y)) xs) (all_differ xs) h) i in
    inr (inr (rw (first_before y xs) (omega arith)))
one_or_apart (z ∷ xs) {x} {y} h (there i) (there j) =
    go (one_or_apart xs (and_right (all (λ w. not (same w z)) xs) (all_differ xs) h) i j)
  where
    others : all (λ w. not (same w z)) xs ≡ true
    others = and_left (all (λ w. not (same w z)) xs) (all_differ xs) h

    go : (x ≡ y) ⊎ Apart xs x y → (x ≡ y) ⊎ Apart (z ∷ xs) x y
    go (inl e) = inl e
    go (inr (inl l)) = inr (inl (rw (rest_before z xs others i, rest_before z xs others j) (omega arith)))
    go (inr (inr l)) = inr (inr (rw (rest_before z xs others i, rest_before z xs others j) (omega arith)))

-- ---- places

-- every row lies within the dictionary
pub within : {x : Row} → In x table → place_of x + size_of x ≤ dictionary_length
unfolding place_of dictionary_length
within i = ends_within table differ_test i

-- "packed": in the table's order, each row begins where the one before ends, and the first at 0
pub packed : (i : ℕ) → suc i < entries → place_of (row_at (suc i)) ≡ place_of (row_at i) + size_of (row_at i)
unfolding place_of entries
packed i h = follows table i device_type differ_test h

pub first_place : place_of (row_at 0) ≡ 0
unfolding place_of bytes_before table
first_place = refl

-- .. and the last ends with the dictionary
pub last_end : place_of (row_at (entries - 1)) + size_of (row_at (entries - 1)) ≡ dictionary_length
unfolding place_of bytes_before table entries dictionary_length
last_end = refl

-- a place is a number of 16 bits, and none of the greatest three
pub short : dictionary_length < 2 ^ 16 - 3
unfolding dictionary_length table
short = ltb-true _ _ refl

-- no byte is in both
abbrev pub apart : Row → Row → Bool
apart x y = leb (place_of x + size_of x) (place_of y) || leb (place_of y + size_of y) (place_of x)

-- any two rows are one, or share no byte
pub same_or_apart : {x y : Row} → In x table → In y table → (x ≡ y) ⊎ (apart x y ≡ true)
unfolding place_of
same_or_apart {x} {y} i j = go (one_or_apart table differ_test i j)
  where
    go : (x ≡ y) ⊎ Apart table x y → (x ≡ y) ⊎ (apart x y ≡ true)
    go (inl e) = inl e
    go (inr (inl l)) = inr (or_left (leb (place_of x + size_of x) (place_of y)) _ (le-leb _ _ l))
    go (inr (inr l)) = inr (or_right (leb (place_of x + size_of x) (place_of y)) _ (le-leb _ _ l))

-- ---- the PDOs' records: each stands so many on from the first of its direction, its rows one behind another

pub record Regular (p : ℕ) : Type 0 where
  pub communication : communication_place p ≡ record_place communication_place communication_length p
  pub mapping : mapping_place p ≡ record_place mapping_place mapping_length p
  pub identifies : place_of (identifier p) ≡ communication_place p + size_of (communication_count p)
  pub types : place_of (transmission_type p) ≡ place_of (identifier p) + size_of (identifier p)
  pub words : words_place p ≡ mapping_place p + size_of (map_count p)

pub regular : {p : ℕ} → In p pdos → Regular p
unfolding open_table
regular i =
    record {
      communication = map_in communication_place (record_place communication_place communication_length) i refl;
      mapping = map_in mapping_place (record_place mapping_place mapping_length) i refl;
      identifies = map_in (λ p. place_of (identifier p)) (λ p. communication_place p + size_of (communication_count p)) i refl;
      types = map_in (λ p. place_of (transmission_type p)) (λ p. place_of (identifier p) + size_of (identifier p)) i refl;
      words = map_in words_place (λ p. mapping_place p + size_of (map_count p)) i refl;
    }
