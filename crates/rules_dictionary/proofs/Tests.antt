-- From a test that computes to the fact that it tests: conjunctions, verdicts, lists, numbers below a bound.
-- Assumes nothing.
use Prim.Native.Nat.{ℕ, zero, suc, ◌<◌, ◌≤◌}
use native.Mathlib.Decide.{ℕ_discrete}
use native.Mathlib.Omega.{arith}
use mathlib.Core.Path.{◌≡◌, refl, ◌∙◌, ap}
use mathlib.Core.Bool.{Bool, true, false, ◌&&◌, ◌||◌, false≢true}
use mathlib.Core.List.{List, [], ◌∷◌}
use borrow.Author.Tests.{leb-true, eq-eqb}
use lib.Dec.{eqb, leb}
use lib.ListN.{length, get_or, take}
use Rattle.rules_dictionary.specs.Aborts.{Verdict, good, bad, is_good}
use Rattle.rules_dictionary.specs.Members.{In, here, there, Each}
use Rattle.rules_dictionary.specs.Numbers.{all}
use Rattle.rules_dictionary.specs.TheNode.{first_node, last_node, is_node_id}

-- ---- conjunctions

pub and_left : (a b : Bool) → (a && b) ≡ true → a ≡ true
and_left true b h = refl
and_left false b h = h

pub and_right : (a b : Bool) → (a && b) ≡ true → b ≡ true
and_right true b h = h
and_right false b h = absurd (false≢true h)

pub and_both : (a b : Bool) → a ≡ true → b ≡ true → (a && b) ≡ true
and_both a b p q = rw (p, q) refl

pub or_left : (a b : Bool) → a ≡ true → (a || b) ≡ true
or_left a b h = rw h refl

pub or_right : (a b : Bool) → b ≡ true → (a || b) ≡ true
or_right true b h = refl
or_right false b h = h

pub or-none : (a b : Bool) → b ≡ false → (a || b) ≡ a
or-none true b h = refl
or-none false b h = h

-- ---- numbers and verdicts

pub eqb_self : (n : ℕ) → eqb n n ≡ true
eqb_self n = eq-eqb n n refl

pub is_good_lem : (v : Verdict) → is_good v ≡ true → v ≡ good
is_good_lem good h = refl
is_good_lem (bad a) h = absurd (false≢true h)

-- ---- lists

module _ {ℓ} {A : Type ℓ} (f : A → Bool) where
  pub all_in : {x : A} {xs : List A} → In x xs → all f xs ≡ true → f x ≡ true
  all_in (here {xs = ys}) h = and_left _ (all f ys) h
  all_in (there {y = y} {xs = ys} i) h = all_in i (and_right (f y) (all f ys) h)

  -- the leading ones of those that all pass
  pub all_leading : (n : ℕ) (xs : List A) → all f xs ≡ true → all f (take n xs) ≡ true
  all_leading zero xs h = refl
  all_leading (suc n) [] h = refl
  all_leading (suc n) (x ∷ xs) h = and_both _ _ (and_left (f x) (all f xs) h) (all_leading n xs (and_right (f x) (all f xs) h))

-- the element of a number stands in the list
pub get_or_in {ℓ} : {A : Type ℓ} (xs : List A) (i : ℕ) (e : A) → i < length xs → In (get_or xs i e) xs
get_or_in [] i e h = absurd (omega arith)
get_or_in (x ∷ xs) zero e h = here
get_or_in (x ∷ xs) (suc i) e h = there (get_or_in xs i e (omega arith))

-- .. whatever would stand for none
pub get_d_any {ℓ} : {A : Type ℓ} (xs : List A) (i : ℕ) (d e : A) → i < length xs → get_or xs i d ≡ get_or xs i e
get_d_any [] i d e h = absurd (omega arith)
get_d_any (x ∷ xs) zero d e h = refl
get_d_any (x ∷ xs) (suc i) d e h = get_d_any xs i d e (omega arith)

abbrev Some {ℓ} : {A : Type ℓ} → List A → Type 0
Some [] = ⊥
Some (x ∷ xs) = Unit

some_in {ℓ} : {A : Type ℓ} {x : A} {xs : List A} → In x xs → Some xs
some_in here = tt
some_in (there i) = tt

pub none_in {ℓ} : {A : Type ℓ} {x : A} → In x [] → ⊥
none_in i = some_in i

pub each_in {ℓ κ} : {A : Type ℓ} (P : A → Type κ) {x : A} {xs : List A} → In x xs → Each P xs → P x
each_in P here h = h.0
each_in P (there i) h = each_in P i h.1

-- ---- numbers below a bound

abbrev pub all_below : (ℕ → Bool) → ℕ → Bool
all_below f zero = true
all_below f (suc n) = f n && all_below f n

pub below : (f : ℕ → Bool) (n i : ℕ) → all_below f n ≡ true → i < n → f i ≡ true
below f zero i h l = absurd (omega arith)
below f (suc n) i h l = go (ℕ_discrete i n) (λ k. below f n i (and_right (f n) (all_below f n) h) k)
  where
    go : Dec (i ≡ n) → (i < n → f i ≡ true) → f i ≡ true
    go (yes e) rest = ap f e ∙ and_left (f n) (all_below f n) h
    go (no e) rest = rest (omega arith)

-- a test of every node-ID
pub on_nodes : (f : ℕ → Bool) → all_below (λ k. f (suc k)) last_node ≡ true → (n : ℕ) → is_node_id n ≡ true → f n ≡ true
on_nodes f h n p =
    go n (leb-true _ _ (and_left (leb first_node n) (leb n last_node) p))
    (leb-true _ _ (and_right (leb first_node n) (leb n last_node) p))
  where
    go : (k : ℕ) → first_node ≤ k → k ≤ last_node → f k ≡ true
    go zero a b = absurd (omega arith)
    go (suc k) a b = below (λ j. f (suc j)) last_node k h b
