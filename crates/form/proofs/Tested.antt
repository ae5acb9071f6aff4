-- Tests made one after another, and words together: they are zero just where all their bits together are.
-- Assumes nothing.
use Rattle.std.proofs.Common.{ℕ, zero, suc, ◌+◌, ◌*◌, add-one, arith, ◌≡◌, refl, sym, ◌∙◌, ap, Bool, true, false, ◌&&◌, eq-eqb, ne_eqb, eqb-true}
use Rattle.std.proofs.Common.{bit_or}
use mathlib.Core.Bool.{and-true, and_assoc}
use borrow.Author.Tests.{eqb-false}
use lib.Bits.{or_add_and, and_le_l, and_le_r}
use Rattle.form.specs.Own.{every_at, is_zero}

pub or-zero : (a b : ℕ) → is_zero (bit_or a b) ≡ (is_zero a && is_zero b)
or-zero a b = go (is_zero a) (is_zero b) refl refl
  where
    go : (p q : Bool) → is_zero a ≡ p → is_zero b ≡ q → is_zero (bit_or a b) ≡ (p && q)
    go true true h i = eq-eqb (bit_or a b) 0 (omega (arith, eqb-true a 0 h, eqb-true b 0 i, or_add_and a b))
    go true false h i = ne_eqb (bit_or a b) 0 (λ e. eqb-false b 0 i (omega (arith, or_add_and a b, and_le_l a b, e)))
    go false q h i = ne_eqb (bit_or a b) 0 (λ e. eqb-false a 0 h (omega (arith, or_add_and a b, and_le_r a b, e)))

-- ---- a row of tests, and one more of them

every_more : (test : ℕ → Bool) (n place width : ℕ) →
    every_at test (n + 1) place width ≡ (every_at test n place width && test (place + width * n))
every_more test n place width = rw add-one (go n place)
  where
    go : (n place : ℕ) → every_at test (suc n) place width ≡ (every_at test n place width && test (place + width * n))
    go zero place = let e : place + width * 0 ≡ place = omega arith in rw e (and-true (test place))
    go (suc n) place =
        let e : place + width + width * n ≡ place + width * suc n = omega arith in
        rw (go n (place + width), e) (sym (and_assoc (test place) (every_at test n (place + width) width) (test (place + width * suc n))))

-- the first k tests were made, and all of them held or one did not
pub record Tested (test : ℕ → Bool) (place width : ℕ) (found : Bool) (k : ℕ) : Type 0 where
  pub so_far : found ≡ every_at test k place width

module _ {test : ℕ → Bool} {place width : ℕ} where
  pub none_yet : Tested test place width true 0
  none_yet = record { so_far = refl }

  pub one_more : {found next : Bool} {k : ℕ} → Tested test place width found k → next ≡ (found && test (place + width * k)) →
      Tested test place width next (k + 1)
  one_more {found} {next} {k} t e = record { so_far = e ∙ ap (λ b. b && test (place + width * k)) t.so_far ∙ sym (every_more test k place width) }

  pub all_tested : {found : Bool} {k : ℕ} (n : ℕ) → Tested test place width found k → k ≡ n → found ≡ every_at test n place width
  all_tested n t e = t.so_far ∙ ap (λ i. every_at test i place width) e
