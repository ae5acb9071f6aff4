-- What a look-up tells of the table.
-- Assumes nothing.
use Prim.Native.Nat.{ℕ}
use mathlib.Core.Path.{◌≡◌, refl, sym, ◌∙◌, ap, subst}
use mathlib.Core.Bool.{Bool, true, false, cond, true≢false}
use mathlib.Core.Logic.{◌⊎◌, inl, inr}
use mathlib.Core.List.{List, [], ◌∷◌}
use borrow.Author.Tests.{eqb-true, eq-eqb, ne_eqb}
use lib.Dec.{eqb}
use Rattle.rules_dictionary.specs.Members.{In, here, there}
use Rattle.rules_dictionary.specs.DeviceName.{name_index, name_subindex}
use Rattle.rules_dictionary.specs.Table.{Row, table, Found, found, the_name, no_object, no_subindex, search, row_of, lookup}
use Rattle.rules_dictionary.proofs.Tests.{none_in}
use Rattle.rules_dictionary.proofs.Members.{in_cons}

-- `seen`: the index was seen in front of them
abbrev pub Tells : Bool → ℕ → ℕ → List Row → Found → Type 0
Tells seen i s xs (found x) = In x xs × ((x.index ≡ i) × (x.subindex ≡ s))
Tells seen i s xs the_name = ⊥
Tells seen i s xs no_object = (seen ≡ false) × ((x : Row) → In x xs → x.index ≡ i → ⊥)
Tells seen i s xs no_subindex =
    ((seen ≡ true) ⊎ ((x : Row) × (In x xs × (x.index ≡ i)))) × ((x : Row) → In x xs → x.index ≡ i → x.subindex ≡ s → ⊥)

module _ (i s : ℕ) where
  -- in front of what a search tells of: a row of the object, or one of another
  of_object : (seen : Bool) (y : Row) (ys : List Row) → y.index ≡ i → (y.subindex ≡ s → ⊥) → (f : Found) →
      Tells true i s ys f → Tells seen i s (y ∷ ys) f
  of_object seen y ys e n (found x) t = (there t.0, t.1)
  of_object seen y ys e n the_name t = absurd t
  of_object seen y ys e n no_object t = absurd (true≢false t.0)
  of_object seen y ys e n no_subindex t = (inr (y, (here, e)), λ x j. go (in_cons j))
    where
      go : {x : Row} → (x ≡ y) ⊎ In x ys → x.index ≡ i → x.subindex ≡ s → ⊥
      go (inl q) p r = n (ap (λ (z : Row). z.subindex) (sym q) ∙ r)
      go (inr k) p r = t.1 _ k p r

  of_another : (seen : Bool) (y : Row) (ys : List Row) → (y.index ≡ i → ⊥) → (f : Found) → Tells seen i s ys f → Tells seen i s (y ∷ ys) f
  of_another seen y ys n (found x) t = (there t.0, t.1)
  of_another seen y ys n the_name t = absurd t
  of_another seen y ys n no_object t = (t.0, λ x j. go (in_cons j))
    where
      go : {x : Row} → (x ≡ y) ⊎ In x ys → x.index ≡ i → ⊥
      go (inl q) p = n (ap (λ (z : Row). z.index) (sym q) ∙ p)
      go (inr k) p = t.1 _ k p
  of_another seen y ys n no_subindex t = (still t.0, λ x j. go (in_cons j))
    where
      still : (seen ≡ true) ⊎ ((x : Row) × (In x ys × (x.index ≡ i))) → (seen ≡ true) ⊎ ((x : Row) × (In x (y ∷ ys) × (x.index ≡ i)))
      still (inl q) = inl q
      still (inr (x, (k, p))) = inr (x, (there k, p))

      go : {x : Row} → (x ≡ y) ⊎ In x ys → x.index ≡ i → x.subindex ≡ s → ⊥
      go (inl q) p r = n (ap (λ (z : Row). z.index) (sym q) ∙ p)
      go (inr k) p r = t.1 _ k p r

  searched : (seen : Bool) (xs : List Row) → Tells seen i s xs (search seen i s xs)
  unfolding search
  searched true [] = (inl refl, λ x j. absurd (none_in j))
  searched false [] = (refl, λ x j. absurd (none_in j))
  searched seen (y ∷ ys) = go (λ b. searched b ys) (eqb y.index i) refl (eqb y.subindex s) refl
    where
      go : ((b : Bool) → Tells b i s ys (search b i s ys)) → (a : Bool) → eqb y.index i ≡ a → (b : Bool) → eqb y.subindex s ≡ b →
          Tells seen i s (y ∷ ys) (elim a [ true ↦ elim b [ true ↦ found y | false ↦ search true i s ys ] | false ↦ search seen i s ys ])
      go rest true p true q = (here, (eqb-true _ _ p, eqb-true _ _ q))
      go rest true p false q = of_object seen y ys (eqb-true _ _ p) (λ e. true≢false (sym (eq-eqb _ _ e) ∙ q)) (search true i s ys) (rest true)
      go rest false p b q = of_another seen y ys (λ e. true≢false (sym (eq-eqb _ _ e) ∙ p)) (search seen i s ys) (rest seen)

  -- THE LAW
  pub told : {f : Found} → row_of i s ≡ f → Tells false i s table f
  unfolding row_of
  told e = subst (Tells false i s table) e (searched false table)

  -- the device name stands at one subindex, and what else there is, in the table
  pub is_name : i ≡ name_index → s ≡ name_subindex → lookup i s ≡ the_name
  unfolding lookup
  is_name q e = rw (eq-eqb _ _ q, eq-eqb _ _ e)

  pub no_name : i ≡ name_index → (s ≡ name_subindex → ⊥) → lookup i s ≡ no_subindex
  unfolding lookup
  no_name q n = rw (eq-eqb _ _ q, ne_eqb _ _ n)

  pub elsewhere : (i ≡ name_index → ⊥) → lookup i s ≡ row_of i s
  unfolding lookup
  elsewhere n = rw (ne_eqb _ _ n)

  -- the device name has no row
  pub no_row : i ≡ name_index → row_of i s ≡ no_object
  unfolding row_of search table
  no_row q = rw q refl

  pub is_row : {x : Row} → lookup i s ≡ found x → row_of i s ≡ found x
  unfolding lookup
  is_row {x} e = go (eqb i name_index) (eqb s name_subindex) e
    where
      go : (a b : Bool) → cond a (cond b the_name no_subindex) (row_of i s) ≡ found x → row_of i s ≡ found x
      go true true h = cc
      go true false h = cc
      go false b h = h

  pub found_in : {x : Row} → lookup i s ≡ found x → In x table
  found_in e = (told (is_row e)).0

  pub is_found : {x : Row} → lookup i s ≡ found x → (x.index ≡ i) × (x.subindex ≡ s)
  is_found e = (told (is_row e)).1
