-- Tests joined in another order, and two tests that are one.
-- Assumes nothing.
use mathlib.Core.Path.{◌≡◌, refl, sym}
use mathlib.Core.Bool.{Bool, true, false, ◌&&◌}

-- the second before the first
pub swap : (a b c : Bool) → (a && (b && c)) ≡ (b && (a && c))
swap true b c = refl
swap false true c = refl
swap false false c = refl

-- the first of each pair beside the second of each
pub beside : (a x b y : Bool) → ((a && x) && (b && y)) ≡ ((a && b) && (x && y))
beside true true true y = refl
beside true true false y = refl
beside true false true y = refl
beside true false false y = refl
beside false x b y = refl

-- each passes where the other does
pub both_ways : (a b : Bool) → (a ≡ true → b ≡ true) → (b ≡ true → a ≡ true) → a ≡ b
both_ways true b h i = sym (h refl)
both_ways false true h i = i refl
both_ways false false h i = refl
