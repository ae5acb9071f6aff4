-- Tests that failed, and tests taken apart.
-- Assumes nothing.
use Prim.Native.Nat.{ℕ}
use mathlib.Core.Path.{◌≡◌, refl, sym, ◌∙◌}
use mathlib.Core.Logic.{◌⊎◌, inl, inr}
use mathlib.Core.Bool.{Bool, true, false, cond, not, ◌&&◌, ◌||◌, beq, and_assoc, false≢true, true≢false}
use mathlib.Core.List.{List, [], ◌∷◌, ◌++◌}
use lib.Dec.{eqb}
use borrow.Author.Tests.{eqb-true, eq-eqb, ne_eqb}
use Rattle.rules_dictionary.specs.{Numbers.all, Numbers.any, Members.In, Members.here, Members.there}

-- a test passes or fails
pub either : (b : Bool) → (b ≡ true) ⊎ (b ≡ false)
either true = inl refl
either false = inr refl

pub clash {ℓ} : {A : Type ℓ} (b : Bool) → b ≡ true → b ≡ false → A
clash true p q = absurd (true≢false q)
clash false p q = absurd (false≢true p)

-- what a test decides between: each way, by what the test says there
pub by_test {ℓ κ} : {A : Type ℓ} (P : A → Type κ) (b : Bool) {x y : A} → (b ≡ true → P x) → (b ≡ false → P y) → P (cond b x y)
by_test P true h k = h refl
by_test P false h k = k refl

-- .. where the definition matches on the test
pub by_match {ℓ κ} : {A : Type ℓ} (P : A → Type κ) (b : Bool) {x y : A} → (b ≡ true → P x) → (b ≡ false → P y) → P (elim b [ true ↦ x | false ↦ y ])
by_match P true h k = h refl
by_match P false h k = k refl

-- .. and each way, whatever it says
pub whichever {ℓ κ} : {A : Type ℓ} (P : A → Type κ) (b : Bool) {x y : A} → P x → P y → P (cond b x y)
whichever P true h k = h
whichever P false h k = k

-- two that one test decides: each way together
pub both_by_test {ℓ κ μ} : {A : Type ℓ} {B : Type κ} (P : A → B → Type μ) (b : Bool) {x y : A} {u v : B} → (b ≡ true → P x u) →
    (b ≡ false → P y v) → P (cond b x y) (cond b u v)
both_by_test P true h k = h refl
both_by_test P false h k = k refl

pub both_by_match {ℓ κ μ} : {A : Type ℓ} {B : Type κ} (P : A → B → Type μ) (b : Bool) {x y : A} {u v : B} → (b ≡ true → P x u) →
    (b ≡ false → P y v) → P (elim b [ true ↦ x | false ↦ y ]) (elim b [ true ↦ u | false ↦ v ])
both_by_match P true h k = h refl
both_by_match P false h k = k refl

-- two tests that were tested to be alike
pub same_test : (a b : Bool) → beq a b ≡ true → a ≡ b
same_test true true h = refl
same_test true false h = sym h
same_test false true h = h
same_test false false h = refl

pub or_false_left : (a b : Bool) → (a || b) ≡ false → a ≡ false
or_false_left true b h = absurd (true≢false h)
or_false_left false b h = refl

pub or_false_right : (a b : Bool) → (a || b) ≡ false → b ≡ false
or_false_right true b h = absurd (true≢false h)
or_false_right false b h = h

pub or_both_false : (a b : Bool) → a ≡ false → b ≡ false → (a || b) ≡ false
or_both_false a b p q = rw (p, q)

pub or_either : (a b : Bool) → (a || b) ≡ true → (a ≡ true) ⊎ (b ≡ true)
or_either true b h = inl refl
or_either false b h = inr h

-- a conjunction fails once its second part does wherever the first passes
pub and_false_if : (a b : Bool) → (a ≡ true → b ≡ false) → (a && b) ≡ false
and_false_if true b h = h refl
and_false_if false b h = refl

pub and_then_false : (a b : Bool) → (a && b) ≡ false → a ≡ true → b ≡ false
and_then_false true b h p = h
and_then_false false b h p = absurd (false≢true p)

pub false_not : (b : Bool) → b ≡ false → not b ≡ true
false_not b h = rw h

module _ {ℓ} {A : Type ℓ} (f : A → Bool) where
  pub any_false_in : {x : A} {xs : List A} → In x xs → any f xs ≡ false → f x ≡ false
  any_false_in (here {xs = ys}) h = or_false_left _ (any f ys) h
  any_false_in (there {y = y} {xs = ys} i) h = any_false_in i (or_false_right (f y) (any f ys) h)

  pub any_false_of : (xs : List A) → ((x : A) → In x xs → f x ≡ false) → any f xs ≡ false
  any_false_of [] h = refl
  any_false_of (x ∷ xs) h = or_both_false (f x) (any f xs) (h x here) (any_false_of xs (λ y i. h y (there i)))

  pub all_both : (xs ys : List A) → all f (xs ++ ys) ≡ (all f xs && all f ys)
  all_both [] ys = refl
  all_both (x ∷ xs) ys = rw (all_both xs ys, and_assoc)

pub eqb_comm : (a b : ℕ) → eqb a b ≡ eqb b a
eqb_comm a b =
    elim (either (eqb a b)) [
      | inl e ↦ e ∙ sym (eq-eqb b a (sym (eqb-true a b e)))
      | inr e ↦ e ∙ sym (ne_eqb b a (λ q. clash (eqb a b) (eq-eqb a b (sym q)) e))
    ]

-- "not a, or b" is: where a, b
pub implied : (a b : Bool) → (not a || b) ≡ true → a ≡ true → b ≡ true
implied true b h p = h
implied false b h p = absurd (false≢true p)

pub implies : (a b : Bool) → (a ≡ true → b ≡ true) → (not a || b) ≡ true
implies true b h = h refl
implies false b h = refl
