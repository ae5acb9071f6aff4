-- Which rows stand in the table, and that values unpacked in order are those read row by row.
-- Assumes nothing.
use Prim.Native.Nat.{ℕ, ◌+◌, ◌*◌, ◌<◌}
use mathlib.Core.Path.{◌≡◌, refl, sym, ◌∙◌, ap, ap₂, subst}
use mathlib.Core.Logic.{◌⊎◌, inl, inr}
use mathlib.Core.Bool.{Bool, true, false, false≢true}
use mathlib.Core.List.{List, [], ◌∷◌, ◌++◌, map, flat_map}
use borrow.Author.Tests.{eqb-true}
use lib.Dec.{eqb}
use lib.ListN.{take, drop, get_or}
use lib.Seq.{drop-drop}
use Rattle.rules_dictionary.specs.Numbers.{value, all, filter}
use Rattle.rules_dictionary.specs.Table.{Row, table, node_rows, drive_rows, size_of, place_of, each_way, pdos, receive_pdos, transmit_pdos}
use Rattle.rules_dictionary.specs.Table.{communication_rows, mapping_rows, communication_count, identifier, transmission_type, map_count, map_entry}
use Rattle.rules_dictionary.specs.Table.{map_slots, words_place, open_table}
use Rattle.rules_dictionary.specs.Values.{write, read, unpacked}
use Rattle.rules_dictionary.specs.Legal.{map_words}
use Rattle.rules_dictionary.specs.Members.{In, here, there}
use Rattle.rules_dictionary.proofs.Tests.{and_left, and_right, all_in, get_or_in, below, none_in}
use Rattle.rules_dictionary.proofs.Defaults.{packed_from, table_packed}

-- ---- membership

module _ {ℓ} {A : Type ℓ} where
  pub in_left : {x : A} {xs : List A} (ys : List A) → In x xs → In x (xs ++ ys)
  in_left ys here = here
  in_left ys (there i) = there (in_left ys i)

  pub in_right : {x : A} (xs : List A) {ys : List A} → In x ys → In x (xs ++ ys)
  in_right [] i = i
  in_right (z ∷ zs) i = there (in_right zs i)

  pub in_append : {x : A} (xs : List A) {ys : List A} → In x (xs ++ ys) → In x xs ⊎ In x ys
  in_append [] i = inr i
  in_append (z ∷ zs) here = inl here
  in_append {x} (z ∷ zs) {ys} (there i) = go (in_append zs i)
    where
      go : In x zs ⊎ In x ys → In x (z ∷ zs) ⊎ In x ys
      go (inl j) = inl (there j)
      go (inr j) = inr j

  -- a test of every element, from each
  pub all_of : (f : A → Bool) (xs : List A) → ((x : A) → In x xs → f x ≡ true) → all f xs ≡ true
  all_of f [] h = refl
  all_of f (x ∷ xs) h = rw (h x here) (all_of f xs (λ y i. h y (there i)))

pub in_map {ℓ κ} : {A : Type ℓ} {B : Type κ} (f : A → B) {x : A} {xs : List A} → In x xs → In (f x) (map f xs)
in_map f here = here
in_map f (there i) = there (in_map f i)

-- what two functions make alike of a list, they make alike of each of it
pub map_in {ℓ κ} : {A : Type ℓ} {B : Type κ} (f g : A → B) {x : A} {xs : List A} → In x xs → map f xs ≡ map g xs → f x ≡ g x
map_in f g here h = cc
map_in f g (there i) h = map_in f g i (cc)

pub in_cons {ℓ} : {A : Type ℓ} {x y : A} {ys : List A} → In x (y ∷ ys) → (x ≡ y) ⊎ In x ys
in_cons here = inl refl
in_cons (there i) = inr i

pub filtered {ℓ} : {A : Type ℓ} (f : A → Bool) {x : A} (xs : List A) → In x (filter f xs) → In x xs × (f x ≡ true)
filtered f [] i = absurd (none_in i)
filtered f {x} (y ∷ ys) i = go (f y) refl i (λ j. filtered f ys j)
  where
    head : f y ≡ true → (In x (filter f ys) → In x ys × (f x ≡ true)) → (x ≡ y) ⊎ In x (filter f ys) → In x (y ∷ ys) × (f x ≡ true)
    head e rest (inl q) = (subst (λ z. In x (z ∷ ys)) q here, ap f q ∙ e)
    head e rest (inr j) = let r = rest j in (there r.0, r.1)

    go : (b : Bool) → f y ≡ b → In x (elim b [ true ↦ y ∷ filter f ys | false ↦ filter f ys ]) →
        (In x (filter f ys) → In x ys × (f x ≡ true)) → In x (y ∷ ys) × (f x ≡ true)
    go true e j rest = head e rest (in_cons j)
    go false e j rest = let r = rest j in (there r.0, r.1)

pub filter_in {ℓ} : {A : Type ℓ} (f : A → Bool) {x : A} {xs : List A} → In x xs → f x ≡ true → In x (filter f xs)
filter_in f {x} (here {xs = ys}) h = go (f x) h
  where
    go : (b : Bool) → b ≡ true → In x (elim b [ true ↦ x ∷ filter f ys | false ↦ filter f ys ])
    go true e = here
    go false e = absurd (false≢true e)
filter_in f {x} (there {y = y} {xs = ys} i) h = go (f y) (filter_in f i h)
  where
    go : (b : Bool) → In x (filter f ys) → In x (elim b [ true ↦ y ∷ filter f ys | false ↦ filter f ys ])
    go true j = there j
    go false j = j

in_flat_map {ℓ} : {A B : Type ℓ} (f : A → List B) {x : A} {xs : List A} {y : B} → In y (f x) → In x xs → In y (flat_map f xs)
unfolding flat_map
in_flat_map f {x} j (here {xs = zs}) = in_left (flat_map f zs) j
in_flat_map f j (there {y = z} i) = in_right (f z) (in_flat_map f j i)

-- ---- the rows of the PDOs

-- a number below theirs is a PDO's
pub pdo_in : (p : ℕ) → p < 2 * each_way → In p pdos
pdo_in p h = subst (λ (q : ℕ). In q pdos) (eqb-true _ _ (below (λ i. eqb (get_or pdos i 0) i) (2 * each_way) p refl h)) (get_or_in pdos p 0 h)

communications : {p : ℕ} {x : Row} → In p pdos → In x (communication_rows p) → In x table
unfolding table
communications {p} {x} i j = go (in_append receive_pdos i)
  where
    go : In p receive_pdos ⊎ In p transmit_pdos → In x table
    go (inl r) =
        in_left drive_rows
        (in_left (flat_map mapping_rows transmit_pdos)
        (in_left (flat_map communication_rows transmit_pdos)
        (in_left (flat_map mapping_rows receive_pdos) (in_right node_rows (in_flat_map communication_rows j r)))))
    go (inr t) =
        in_left drive_rows
        (in_left (flat_map mapping_rows transmit_pdos)
        (in_right (node_rows ++ flat_map communication_rows receive_pdos ++ flat_map mapping_rows receive_pdos) (in_flat_map communication_rows j t)))

mappings : {p : ℕ} {x : Row} → In p pdos → In x (mapping_rows p) → In x table
unfolding table
mappings {p} {x} i j = go (in_append receive_pdos i)
  where
    go : In p receive_pdos ⊎ In p transmit_pdos → In x table
    go (inl r) =
        in_left drive_rows
        (in_left (flat_map mapping_rows transmit_pdos)
        (in_left (flat_map communication_rows transmit_pdos)
        (in_right (node_rows ++ flat_map communication_rows receive_pdos) (in_flat_map mapping_rows j r))))
    go (inr t) =
        in_left drive_rows
        (in_right
        (node_rows ++ flat_map communication_rows receive_pdos ++ flat_map mapping_rows receive_pdos
        ++ flat_map communication_rows transmit_pdos)
        (in_flat_map mapping_rows j t))

pub communication_in : {p : ℕ} → In p pdos → In (communication_count p) table
unfolding communication_rows
communication_in i = communications i here

pub identifier_in : {p : ℕ} → In p pdos → In (identifier p) table
unfolding communication_rows
identifier_in i = communications i (there here)

pub type_in : {p : ℕ} → In p pdos → In (transmission_type p) table
unfolding communication_rows
type_in i = communications i (there (there here))

pub count_in_lem : {p : ℕ} → In p pdos → In (map_count p) table
unfolding mapping_rows
count_in_lem i = mappings i here

pub entry_in : {p k : ℕ} → In p pdos → In k map_slots → In (map_entry p k) table
unfolding mapping_rows
entry_in {p} i j = mappings i (there (in_map (map_entry p) j))

-- ---- unpacked in order, or read row by row

pub unpacked_read : (xs : List Row) (place : ℕ) (d : List ℕ) → packed_from place xs ≡ true →
    unpacked xs (drop place d) ≡ map (λ x. write x (read d x)) xs
unfolding unpacked read
unpacked_read [] place d h = refl
unpacked_read (x ∷ xs) place d h =
    let e : place_of x ≡ place = eqb-true _ _ (and_left (eqb (place_of x) place) (packed_from (place + size_of x) xs) h) in
    ap₂ ◌∷◌ (ap (λ (k : ℕ). write x (value (take (size_of x) (drop k d)))) (sym e))
    (ap (unpacked xs) (drop-drop (size_of x) place d)
    ∙ unpacked_read xs (place + size_of x) d (and_right (eqb (place_of x) place) (packed_from (place + size_of x) xs) h))

pub unpacked_table : (d : List ℕ) → unpacked table d ≡ map (λ x. write x (read d x)) table
unpacked_table d = unpacked_read table 0 d table_packed

entries-packed : all (λ p. packed_from (words_place p) (map (map_entry p) map_slots)) pdos ≡ true
unfolding open_table
entries-packed = refl

pub words_read : {p : ℕ} (d : List ℕ) → In p pdos → map_words d p ≡ map (λ k. read d (map_entry p k)) map_slots
unfolding map_words
words_read {p} d i =
    ap (map (λ w. w.value))
    (unpacked_read (map (map_entry p) map_slots) (words_place p) d
    (all_in (λ p. packed_from (words_place p) (map (map_entry p) map_slots)) i entries-packed))
