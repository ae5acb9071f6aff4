-- Four keys, by their places.
-- Assumes nothing.
use Prim.Native.Nat.{ℕ}
use native.Mathlib.Omega.{arith}
use mathlib.Core.Path.{◌≡◌, refl}
use mathlib.Core.List.{List, [], ◌∷◌}
use lib.ListN.{length, get_or}
use Rattle.soundness.specs.Keys.{four}

pub quad : (ks : List ℕ) → length ks ≡ 4 → ks ≡ four (get_or ks 0 0) (get_or ks 1 0) (get_or ks 2 0) (get_or ks 3 0)
quad [] l = absurd (omega arith)
quad (a ∷ []) l = absurd (omega arith)
quad (a ∷ b ∷ []) l = absurd (omega arith)
quad (a ∷ b ∷ c ∷ []) l = absurd (omega arith)
quad (a ∷ b ∷ c ∷ d ∷ []) l = refl
quad (a ∷ b ∷ c ∷ d ∷ e ∷ ks) l = absurd (omega arith)
