-- An array filled from its start, one element after another.
-- Assumes nothing.
use Prim.Native.Nat.{ℕ, zero, suc, ◌+◌, ◌≤◌}
use native.Mathlib.Numerals.{add-one}
use native.Mathlib.Omega.{arith}
use mathlib.Core.Path.{◌≡◌, refl, ◌∙◌}
use mathlib.Core.List.{List}
use lib.ListN.{set, get_or}
use lib.Seq.{get_or-set_other}

-- the first so many elements stored
unfoldable pub filled : {A : Type 0} → (ℕ → A) → ℕ → List A → List A
filled f zero xs = xs
filled f (suc k) xs = set (filled f k xs) k (f k)

pub none_filled : {A : Type 0} (f : ℕ → A) (xs : List A) → xs ≡ filled f 0 xs
unfolding filled
none_filled f xs = refl

pub one_filled : {A : Type 0} (f : ℕ → A) (k : ℕ) (xs ys : List A) (y : A) → ys ≡ filled f k xs → y ≡ f k → set ys k y ≡ filled f (k + 1) xs
unfolding filled
one_filled f k xs ys y e h = rw (e, h, add-one)

-- those behind them stay
pub unfilled : {A : Type 0} (f : ℕ → A) (k : ℕ) (xs : List A) (i : ℕ) (x : A) → k ≤ i → get_or (filled f k xs) i x ≡ get_or xs i x
unfolding filled
unfilled f zero xs i x h = refl
unfilled f (suc k) xs i x h =
    get_or-set_other (filled f k xs) k i (f k) x (λ e. absurd (omega arith)) ∙ unfilled f k xs i x (omega arith)
