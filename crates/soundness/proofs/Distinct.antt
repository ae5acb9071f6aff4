-- Lists without two elements alike: by element, and of two lists joined.
-- Assumes nothing.
use Prim.Native.Nat.{ℕ}
use mathlib.Core.Path.{◌≡◌, refl, sym, ◌∙◌, ap₂}
use mathlib.Core.Bool.{Bool, true, false, ◌&&◌, and-true, and-false}
use mathlib.Core.List.{List, [], ◌∷◌, ◌++◌, map}
use borrow.Author.Tests.{eq-eqb, not-true}
use lib.Dec.{eqb}
use Rattle.rules_dictionary.specs.Numbers.{all}
use Rattle.rules_dictionary.specs.Members.{In, here, there}
use Rattle.rules_dictionary.proofs.Tests.{and_left, and_right, and_both, all_in}
use Rattle.rules_dictionary.proofs.Members.{in_map}
use Rattle.theorems.proofs.Booleans.{clash, false_not, all_both, eqb_comm}
use Rattle.soundness.specs.Keys.{is_other, distinct, are_apart}

-- ---- by element

pub all_mapped : (f : ℕ → Bool) (k : ℕ → ℕ) (ps : List ℕ) → ((p : ℕ) → In p ps → f (k p) ≡ true) → all f (map k ps) ≡ true
all_mapped f k [] h = refl
all_mapped f k (p ∷ ps) h = and_both _ _ (h p here) (all_mapped f k ps (λ q i. h q (there i)))

module _ (k : ℕ → ℕ) where
  pub apart_in : {p q : ℕ} {ps : List ℕ} → In p ps → In q ps → distinct (map k ps) ≡ true → eqb p q ≡ false → eqb (k p) (k q) ≡ false
  unfolding distinct
  apart_in {p} here here h e = clash (eqb p p) (eq-eqb p p refl) e
  apart_in {p} (here {xs = zs}) (there j) h e = not-true _ (all_in (is_other (k p)) (in_map k j) (and_left (all (is_other (k p)) (map k zs)) _ h))
  apart_in {p} {q} (there i) (here {xs = zs}) h e =
      eqb_comm (k p) (k q) ∙ not-true _ (all_in (is_other (k q)) (in_map k i) (and_left (all (is_other (k q)) (map k zs)) _ h))
  apart_in (there {y = z} {xs = zs} i) (there j) h e = apart_in i j (and_right (all (is_other (k z)) (map k zs)) _ h) e

  pub of_apart : (ps : List ℕ) → distinct ps ≡ true → ((p q : ℕ) → In p ps → In q ps → eqb p q ≡ false → eqb (k p) (k q) ≡ false) →
      distinct (map k ps) ≡ true
  unfolding distinct
  of_apart [] h e = refl
  of_apart (p ∷ ps) h e =
      and_both _ _
      (all_mapped (is_other (k p)) k ps (λ q j. false_not _ (e p q here (there j)
      (not-true _ (all_in (is_other p) j (and_left (all (is_other p) ps) _ h))))))
      (of_apart ps (and_right (all (is_other p) ps) _ h) (λ q r i j. e q r (there i) (there j)))

-- ---- joined

shuffle : (a b c e f : Bool) → ((a && b) && ((c && e) && f)) ≡ (((a && c) && e) && (b && f))
shuffle false b c e f = refl
shuffle true false c e f = sym (and-false (c && e))
shuffle true true c e f = refl

distinct_append : (xs ys : List ℕ) → distinct (xs ++ ys) ≡ ((distinct xs && distinct ys) && are_apart xs ys)
unfolding distinct
distinct_append [] ys = sym (and-true (distinct ys))
distinct_append (x ∷ xs) ys =
    ap₂ ◌&&◌ (all_both (is_other x) xs ys) (distinct_append xs ys)
    ∙ shuffle (all (is_other x) xs) (all (is_other x) ys) (distinct xs) (distinct ys) (are_apart xs ys)

-- legal keys, no two alike, tested by direction
pub by_direction_lem : (f : ℕ → Bool) (rs ts : List ℕ) →
    ((all f rs && all f ts) && ((distinct rs && distinct ts) && are_apart rs ts)) ≡ (all f (rs ++ ts) && distinct (rs ++ ts))
by_direction_lem f rs ts = sym (ap₂ ◌&&◌ (all_both f rs ts) (distinct_append rs ts))
