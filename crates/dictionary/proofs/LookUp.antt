-- The last row whose index and subindex are not above those of a look-up tells what is found.
-- Assumes nothing.
use Prim.Native.Nat.{ℕ, zero, suc, ◌+◌, ◌*◌, ◌/◌, ◌<◌, ◌≤◌}
use native.Mathlib.Omega.{arith}
use native.Mathlib.Decide.{ℕ_discrete}
use mathlib.Core.Path.{◌≡◌, refl, sym, ◌∙◌, ap}
use mathlib.Core.Bool.{Bool, true, false, ◌&&◌, ◌||◌, false≢true}
use mathlib.Core.Logic.{◌⊎◌, inl, inr}
use mathlib.Core.List.{List, [], ◌∷◌}
use borrow.Author.Tests.{eqb-true, ltb-true, ltb-false}
use lib.Dec.{eqb, ltb}
use lib.ListN.{length, get_or}
use Rattle.rules_dictionary.specs.Members.{In, here, there}
use Rattle.rules_dictionary.specs.Numbers.{all, any}
use Rattle.rules_dictionary.specs.Table.{Row, device_type, table, entries, row_at, key, Found, found, the_name, no_object, no_subindex, row_of}
use Rattle.rules_dictionary.proofs.Tests.{and_left, and_right, all_in, get_or_in}
use Rattle.rules_dictionary.proofs.Packing.{rising}
use Rattle.rules_dictionary.proofs.LookUp.{Tells, told}
use Rattle.dictionary.specs.Lines.{LastUpTo}

any_some {ℓ} : {A : Type ℓ} (f : A → Bool) (xs : List A) → any f xs ≡ true → (x : A) × (In x xs × (f x ≡ true))
any_some f [] h = absurd (false≢true h)
any_some f (x ∷ xs) h = go (f x) refl h (λ k. any_some f xs k)
  where
    go : (b : Bool) → f x ≡ b → (b || any f xs) ≡ true →
        (any f xs ≡ true → (y : _) × (In y xs × (f y ≡ true))) → (y : _) × (In y (x ∷ xs) × (f y ≡ true))
    go true e k rest = (x, (here, e))
    go false e k rest = let y = rest k in (y.0, (there y.1.0, y.1.1))

-- a row's rank
rank : {x : Row} {xs : List Row} → In x xs → (j : ℕ) × ((j < length xs) × (get_or xs j device_type ≡ x))
rank here = (0, (omega arith, refl))
rank (there i) = let r = rank i in (suc r.0, (omega (arith, r.1.0), r.1.1))

above : (j l : ℕ) → j < l → l < entries → key (row_at j) < key (row_at l)
above j zero h m = absurd (omega arith)
above j (suc l) h m = go (ℕ_discrete j l) (λ k. above j l k (omega arith))
  where
    go : Dec (j ≡ l) → (j < l → key (row_at j) < key (row_at l)) → key (row_at j) < key (row_at (suc l))
    go (yes e) rest = rw e (rising l m)
    go (no n) rest = omega (arith, rest (omega arith), rising l m)

-- a subindex is a byte, and the object has one of 0
begins : Row → Bool
begins x = ltb x.subindex 256 && any (λ y. eqb (key y) (x.index * 256)) table

objects_test : all begins table ≡ true
unfolding begins table
objects_test = refl

module _ {x : Row} (l : In x table) where
  byte : x.subindex < 256
  unfolding begins
  byte = ltb-true _ _ (and_left (ltb x.subindex 256) _ (all_in begins l objects_test))

  first : (y : Row) × (In y table × (key y ≡ x.index * 256))
  unfolding begins
  first =
      let y = any_some (λ y. eqb (key y) (x.index * 256)) table (and_right (ltb x.subindex 256) _ (all_in begins l objects_test)) in
      (y.0, (y.1.0, eqb-true _ _ y.1.1))

-- THE LAW: the last row whose key is not above that of the look-up tells what is found
module _ (i s r : ℕ) (small : s < 256) (l : LastUpTo (i * 256 + s) r) where
  in_table : In (row_at r) table
  unfolding entries
  in_table = get_or_in table r device_type l.listed

  behind : (j : ℕ) → r < j → j < entries → i * 256 + s < key (row_at j)
  behind j g h = go (ℕ_discrete (suc r) j)
    where
      go : Dec (suc r ≡ j) → i * 256 + s < key (row_at j)
      go (yes e) = rw (← e) (l.high (omega arith))
      go (no n) = omega (arith, above (suc r) j (omega arith) h, l.high (omega arith))

  -- where another stands
  another : {y : Row} → In y table → (y ≡ row_at r) ⊎ (((key y < key (row_at r)) × (key (row_at r) ≤ i * 256 + s)) ⊎ (i * 256 + s < key y))
  unfolding entries
  another {y} m = let j = rank m in go j.0 j.1.0 j.1.1 (ℕ_discrete j.0 r) (ltb j.0 r) refl
    where
      go : (j : ℕ) → j < length table → row_at j ≡ y → Dec (j ≡ r) → (b : Bool) → ltb j r ≡ b →
          (y ≡ row_at r) ⊎ (((key y < key (row_at r)) × (key (row_at r) ≤ i * 256 + s)) ⊎ (i * 256 + s < key y))
      go j h e (yes q) b f = inl (sym e ∙ ap row_at q)
      go j h e (no q) true f = let g = ltb-true j r f in inr (inl (rw (← e) (above j r g l.listed), l.low (omega arith)))
      go j h e (no q) false f = let g = ltb-false j r f in inr (inr (rw (← e) (behind j (omega arith) h)))

  -- the row of the look-up's key
  is_it : {y : Row} → In y table → y.index ≡ i → y.subindex ≡ s → y ≡ row_at r
  is_it {y} m p q = go (another m)
    where
      go : (y ≡ row_at r) ⊎ (((key y < key (row_at r)) × (key (row_at r) ≤ i * 256 + s)) ⊎ (i * 256 + s < key y)) → y ≡ row_at r
      go (inl e) = e
      go (inr (inl h)) = absurd (omega arith)
      go (inr (inr h)) = absurd (omega arith)

  -- a row of the look-up's object
  of_its_object : {y : Row} → In y table → y.index ≡ i → key (row_at r) / 256 ≡ i
  of_its_object {y} m p = let z = first m in go z.0 z.1.1 (another z.1.0)
    where
      go : (z : Row) → key z ≡ y.index * 256 →
          (z ≡ row_at r) ⊎ (((key z < key (row_at r)) × (key (row_at r) ≤ i * 256 + s)) ⊎ (i * 256 + s < key z)) → key (row_at r) / 256 ≡ i
      go z k (inl e) = let q : key (row_at r) ≡ key z = ap key (sym e) in omega arith
      go z k (inr (inl h)) = omega arith
      go z k (inr (inr h)) = absurd (omega arith)

  pub is_entry : key (row_at r) ≡ i * 256 + s → row_of i s ≡ found (row_at r)
  is_entry h = go (row_of i s) refl (told i s refl)
    where
      go : (f : Found) → row_of i s ≡ f → Tells false i s table f → f ≡ found (row_at r)
      go (found y) e t = ap found (is_it t.0 t.1.0 t.1.1)
      go the_name e t = absurd t
      go no_object e t = absurd (t.1 (row_at r) in_table (omega (arith, byte in_table)))
      go no_subindex e t = absurd (t.1 (row_at r) in_table (omega (arith, byte in_table)) (omega (arith, byte in_table)))

  pub is_no_subindex : (key (row_at r) ≡ i * 256 + s → ⊥) → key (row_at r) / 256 ≡ i → row_of i s ≡ no_subindex
  is_no_subindex n h = go (row_of i s) refl (told i s refl)
    where
      go : (f : Found) → row_of i s ≡ f → Tells false i s table f → f ≡ no_subindex
      go (found y) e t = let q : key (row_at r) ≡ key y = ap key (sym (is_it t.0 t.1.0 t.1.1)) in absurd (n (omega arith))
      go the_name e t = absurd t
      go no_object e t = absurd (t.1 (row_at r) in_table (omega (arith, byte in_table)))
      go no_subindex e t = refl

  pub is_no_object : (key (row_at r) / 256 ≡ i → ⊥) → row_of i s ≡ no_object
  is_no_object n = go (row_of i s) refl (told i s refl)
    where
      go : (f : Found) → row_of i s ≡ f → Tells false i s table f → f ≡ no_object
      go (found y) e t = absurd (n (of_its_object t.0 t.1.0))
      go the_name e t = absurd t
      go no_object e t = refl
      go no_subindex e (inl q, t) = absurd (false≢true q)
      go no_subindex e (inr (y, (m, p)), t) = absurd (n (of_its_object m p))
