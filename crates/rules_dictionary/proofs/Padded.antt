-- A list filled up with a spare element: its length, and the list itself in front.
-- Assumes nothing.
use Prim.Native.Nat.{ℕ, zero, suc, ◌≤◌}
use native.Mathlib.Omega.{arith}
use mathlib.Core.Path.{◌≡◌, refl, ap}
use mathlib.Core.List.{List, [], ◌∷◌}
use lib.ListN.{length, take}
use Rattle.rules_dictionary.specs.Numbers.{padded}

module _ {ℓ} {A : Type ℓ} (spare : A) where
  pub length-padded : (n : ℕ) (xs : List A) → length (padded spare n xs) ≡ n
  length-padded zero xs = refl
  length-padded (suc n) [] = ap suc (length-padded n [])
  length-padded (suc n) (x ∷ xs) = ap suc (length-padded n xs)

  pub take_padded : (n : ℕ) (xs : List A) → length xs ≤ n → take (length xs) (padded spare n xs) ≡ xs
  take_padded n [] h = refl
  take_padded zero (x ∷ xs) h = absurd (omega arith)
  take_padded (suc n) (x ∷ xs) h = ap (λ (ys : List A). x ∷ ys) (take_padded n xs (omega arith))
