-- Bytes and their values: eight bytes as one number, and data compared by it.
-- Assumes nothing.
use Prim.Native.Nat.{ℕ}
use mathlib.Core.Path.{◌≡◌, refl, sym, ◌∙◌, ap}
use mathlib.Core.Bool.{Bool, true, false, true≢false}
use mathlib.Core.List.{List}
use borrow.Author.Tests.{eqb-true, eq-eqb}
use lib.Dec.{eqb}
use lib.ListN.{length}
use Rattle.rules_dictionary.specs.Numbers.{value, are_bytes}
use Rattle.rules_dictionary.proofs.Rows.{bytes_value}
use Rattle.rules.specs.Outcome.{same_by}
use Rattle.form.proofs.OneForm.{are_same, same_bytes}

-- ---- equal values, equal bytes

-- THE LAW: bytes of one number are the same where their values are
pub same_value : (xs ys : List ℕ) (n : ℕ) → length xs ≡ n → length ys ≡ n → are_bytes xs ≡ true → are_bytes ys ≡ true →
    eqb (value xs) (value ys) ≡ same_by eqb xs ys
same_value xs ys n l m a b = go (same_by eqb xs ys) refl (eqb (value xs) (value ys)) refl
  where
    back : value xs ≡ value ys → xs ≡ ys
    back e = sym (bytes_value xs a) ∙ rw (l, e, ← m) (bytes_value ys b)

    go : (s : Bool) → same_by eqb xs ys ≡ s → (v : Bool) → eqb (value xs) (value ys) ≡ v → v ≡ s
    go true e true f = refl
    go true e false f = absurd (true≢false (sym (eq-eqb (value xs) (value ys) (ap value (are_same xs ys e))) ∙ f))
    go false e true f = absurd (true≢false (sym (ap (same_by eqb xs) (sym (back (eqb-true _ _ f))) ∙ same_bytes xs) ∙ e))
    go false e false f = refl
