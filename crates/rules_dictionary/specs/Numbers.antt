-- Numbers in bytes and in words: "values little-endian", the bits of a word, a word as a signed integer.
-- Assumes nothing.
use Rattle.std.specs.Prelude.{ℕ, zero, suc, ◌+◌, ◌-◌, ◌*◌, ◌/◌, ◌%◌, ◌^◌, List, [], ◌∷◌, Bool, true, false, ◌&&◌, ◌||◌, eqb, leb, ltb, ℤ, take, drop}
use Rattle.std.specs.Int.{w32}
use Rattle.std.proofs.Common.{to_z}

-- ---- tests of every element, and of some

abbrev pub all {ℓ} : {A : Type ℓ} → (A → Bool) → List A → Bool
all f [] = true
all f (x ∷ xs) = f x && all f xs

abbrev pub any {ℓ} : {A : Type ℓ} → (A → Bool) → List A → Bool
any f [] = false
any f (x ∷ xs) = f x || any f xs

-- ---- values in bytes

-- the value of bytes, low byte first
unfoldable pub value : List ℕ → ℕ
value [] = 0
value (b ∷ bs) = b + 256 * value bs

-- a value in a number of bytes, low byte first
unfoldable pub bytes : ℕ → ℕ → List ℕ
bytes zero v = []
bytes (suc size) v = v % 256 ∷ bytes size (v / 256)

-- every element is a byte
abbrev pub is_byte : ℕ → Bool
is_byte b = ltb b 256

abbrev pub are_bytes : List ℕ → Bool
are_bytes bs = all is_byte bs

-- so many bytes from a place on
abbrev pub part : ℕ → ℕ → List ℕ → List ℕ
part place size d = take size (drop place d)

-- is the bit of that number 1
abbrev pub bit : ℕ → ℕ → Bool
bit k w = eqb (w / 2 ^ k % 2) 1

-- the number in the bits from low up to, and without, high
abbrev pub bits : ℕ → ℕ → ℕ → ℕ
bits low high w = w / 2 ^ low % 2 ^ (high - low)

-- an i32 in its word of 32 bits
abbrev pub integer : ℕ → ℤ
integer w = to_z w32 w

abbrev pub between : ℕ → ℕ → ℕ → Bool
between low high v = leb low v && leb v high

-- ---- things worked out one by one

abbrev pub filter {ℓ} : {A : Type ℓ} → (A → Bool) → List A → List A
filter f [] = []
filter f (x ∷ xs) = elim (f x) [ true ↦ x ∷ filter f xs | false ↦ filter f xs ]

-- the first so many of a list, filled up with the spare one where it is short
abbrev pub padded {ℓ} : {A : Type ℓ} → A → ℕ → List A → List A
padded spare zero xs = []
padded spare (suc n) [] = spare ∷ padded spare n []
padded spare (suc n) (x ∷ xs) = x ∷ padded spare n xs

abbrev pub sum : List ℕ → ℕ
sum [] = 0
sum (x ∷ xs) = x + sum xs

-- opens every definition of this module, where a proof computes
unfoldable pub open_numbers : Unit {0}
unfolding value bytes
open_numbers = tt
