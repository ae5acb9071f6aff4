-- The bytes of a download, one by one.
-- Assumes nothing.
use Prim.Native.Nat.{ℕ, zero, suc}
use mathlib.Core.Path.{◌≡◌, refl}
use mathlib.Core.Bool.{true, ◌&&◌, and_assoc, and-true}
use mathlib.Core.List.{[], ◌∷◌}
use native.Mathlib.Omega.{arith}
use borrow.Author.Tests.{eq-eqb, lt-ltb}
use lib.Dec.{eqb, leb}
use lib.ListN.{take}
use Rattle.rules_dictionary.specs.Numbers.{padded}
use Rattle.state.specs.declared.Receipt.{Receipt}
use Rattle.rules_services.specs.Sdo.{data_size}
use Rattle.rules_services.specs.Segments.{too_many}
use Rattle.rules.specs.Outcome.{same_by}
use Rattle.rules.specs.Sound.{receipt_sound}
use Rattle.soundness.specs.Transfers.{counted_or_zero}

self : (n : ℕ) → eqb n n ≡ true
self n = eq-eqb n n refl

-- the bytes behind so many are zero
behind : (n a b c d : ℕ) →
    same_by eqb (a ∷ b ∷ c ∷ d ∷ []) (padded 0 data_size (take n (a ∷ b ∷ c ∷ d ∷ [])))
    ≡ ((counted_or_zero 0 n a && counted_or_zero 1 n b) && (counted_or_zero 2 n c && counted_or_zero 3 n d))
behind zero a b c d = simp (and_assoc, and-true)
behind (suc zero) a b c d = simp (self, and_assoc, and-true)
behind (suc (suc zero)) a b c d = simp (self, and_assoc, and-true)
behind (suc (suc (suc zero))) a b c d = simp (self, and_assoc, and-true)
behind (suc (suc (suc (suc n)))) a b c d =
    let m = suc (suc (suc (suc n))) in
    rw (lt-ltb 0 m (omega arith), lt-ltb 1 m (omega arith), lt-ltb 2 m (omega arith), lt-ltb 3 m (omega arith)) (simp (self, and-true))

-- THE LAW
pub receipt_tested : (g : Receipt) →
    receipt_sound g
    ≡ (leb g.count too_many
    && ((counted_or_zero 0 g.count g.first && counted_or_zero 1 g.count g.second)
    && (counted_or_zero 2 g.count g.third && counted_or_zero 3 g.count g.fourth)))
unfolding receipt_sound
receipt_tested g = rw (behind g.count g.first g.second g.third g.fourth)
