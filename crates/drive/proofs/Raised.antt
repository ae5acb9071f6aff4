-- Integers moved up: an integer z as the natural number z + k, where z ≥ -k. The word of an integer is that of the natural number that it is moved
-- up to.
-- Assumes nothing.
use Rattle.std.proofs.Common.{ℕ, suc, ◌+◌, ◌-◌, ◌<◌, ◌^◌, ◌%◌, ◌≡◌, arith, ℤ, pos, negsuc, w32, of_z}
use Rattle.std.proofs.lemmas.Int.{ints}
use lib.Signed.{mag}
use Rattle.rules_dictionary.specs.Numbers.{integer}

-- z + k, for z ≥ -k
abbrev pub raised : ℕ → ℤ → ℕ
raised k (pos n) = n + k
raised k (negsuc n) = k - suc n

-- ---- words

pub word_small : (w : ℕ) → w < 2 ^ 32 → mag (integer w) < 0x80000000
word_small w h = grind (arith, ints)

-- the word of an integer
pub raised_word : (z : ℤ) → mag z < 0x100000000 → of_z w32 z ≡ raised 0x100000000 z % 0x100000000
raised_word (pos n) p = omega arith
raised_word (negsuc n) p = omega arith
