-- Laws of values in bytes, over their width.
-- Assumes nothing.
use Prim.Native.Nat.{ℕ, zero, suc, ◌+◌, ◌*◌, ◌/◌, ◌%◌, ◌^◌}
use mathlib.Core.Path.{◌≡◌, refl}
use mathlib.Core.List.{List, [], ◌∷◌}
use mathlib.Core.Logic.{inl, inr, ⊎_elim}
use native.Mathlib.Numerals.{add-one}
use native.Mathlib.Nat.{pow-suc, one-le-pow}
use native.Mathlib.Omega.{arith}
use lib.Arith.{mod-mul}
use lib.Dec.{lit<}
use lib.ListN.{get_or}
use lib.Seq.{take-nil, drop-nil}
use Rattle.rules_dictionary.specs.Numbers.{value, bytes, part}
use Rattle.rules_dictionary.specs.Table.{ValueType, u8, u16, u32, i8, i32, size}
use Rattle.dictionary.specs.Sizes.{IsSize}

-- a value is its low byte and 256 times what the bytes behind it hold
value_suc : (n place : ℕ) (d : List ℕ) → value (part place (suc n) d) ≡ get_or d place 0 + 256 * value (part (suc place) n d)
unfolding value
value_suc n place [] = simp (drop-nil, take-nil)
value_suc n zero (b ∷ d) = refl
value_suc n (suc place) (b ∷ d) = value_suc n place d

pub value_step : (n place : ℕ) (d : List ℕ) → value (part place (suc n) d) ≡ get_or d place 0 + 256 * value (part (place + 1) n d)
value_step n place d = rw add-one (value_suc n place d)

pub value_none : (place : ℕ) (d : List ℕ) → value (part place 0 d) ≡ 0
unfolding value
value_none place d = refl

-- the bytes hold of a value what fits them
pub bytes_low : (n v : ℕ) → bytes n (v % 256 ^ n) ≡ bytes n v
unfolding bytes
bytes_low zero v = refl
bytes_low (suc n) v =
    let e : v % 256 ^ suc n ≡ (v / 256 % 256 ^ n) * 256 + v % 256 = rw pow-suc (mod-mul v (one-le-pow n 256 (lit< tt)) (lit< tt)) in
    let low : v % 256 ^ suc n % 256 ≡ v % 256 = omega arith in
    let high : v % 256 ^ suc n / 256 ≡ v / 256 % 256 ^ n = omega arith in
    rw (low, high, bytes_low n (v / 256))

-- a value's type takes 1, 2 or 4
pub is_size : (t : ValueType) → IsSize (size t)
is_size u8 = inl refl
is_size u16 = inr (inl refl)
is_size u32 = inr (inr refl)
is_size i8 = inl refl
is_size i32 = inr (inr refl)

-- neither 1 nor 2
pub is_four : (n : ℕ) → IsSize n → (n ≡ 1 → ⊥) → (n ≡ 2 → ⊥) → n ≡ 4
is_four n s a b = ⊎_elim (λ e. absurd (a e)) (λ t. ⊎_elim (λ e. absurd (b e)) (λ e. e) t) s
