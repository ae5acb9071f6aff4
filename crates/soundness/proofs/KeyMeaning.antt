-- What a key says of its word: legal alone or not, valid or not, and which identifier.
-- Assumes nothing.
use Prim.Native.Nat.{ℕ, zero, suc, ◌+◌, ◌-◌, ◌*◌, ◌/◌, ◌%◌, ◌^◌, ◌<◌, ◌≤◌}
use native.Mathlib.Omega.{arith}
use mathlib.Core.Path.{◌≡◌, refl, ◌∙◌}
use mathlib.Core.Bool.{Bool, true, false, cond, not, ◌&&◌, ◌||◌, and-true, and_assoc, beq}
use borrow.Author.Tests.{eqb-true, eqb-false, eq-eqb, ne_eqb, leb-true, le-leb, ltb-true, ltb-false, lt-ltb, le-ltb, not-false}
use lib.Bits.{bit_or, or_lt, or_add_and, and_le_l, and_le_r}
use lib.Dec.{eqb, leb}
use Rattle.rules_dictionary.specs.Numbers.{all, bit, between}
use Rattle.rules_dictionary.specs.Table.{Direction, receive, transmit, by_direction, direction_of}
use Rattle.rules_dictionary.specs.Legal.{is_valid, frame_identifier, reserved_bits, transmits, transmit_bit, invalid_bit, identifier_bits, first_identifier}
use Rattle.rules_dictionary.specs.Legal.{last_identifier}
use Rattle.rules_dictionary.proofs.Tests.{and_left, and_right, and_both}
use Rattle.theorems.proofs.Booleans.{clash, or_false_right, and_then_false}
use Rattle.theorems.proofs.Dictionary.{bad_alone}
use Rattle.soundness.specs.Keys.{transmit_way, way_of, illegal_key, past_last, word_key, is_legal_key, four}

inside : (low high v : ℕ) → low ≤ v → v ≤ high → between low high v ≡ true
inside low high v a b = and_both _ _ (le-leb low v a) (le-leb v high b)

outside : (low high v : ℕ) → (low ≤ v → v ≤ high → ⊥) → between low high v ≡ false
outside low high v h = go (between low high v) refl
  where
    go : (b : Bool) → between low high v ≡ b → b ≡ false
    go true e = absurd (h (leb-true low v (and_left (leb low v) (leb v high) e)) (leb-true v high (and_right (leb low v) (leb v high) e)))
    go false e = refl

-- the key of a word by what it lies between
module _ (way p w : ℕ) where
  pub valid_key : between (way + first_identifier) (way + last_identifier) w ≡ true → word_key way p w ≡ w - (way + first_identifier)
  unfolding word_key
  valid_key h = rw h

  pub invalid_key : between (way + first_identifier) (way + last_identifier) w ≡ false →
      between (way + 2 ^ invalid_bit) (way + 2 ^ invalid_bit + (past_last - 1)) w ≡ true → word_key way p w ≡ past_last + p
  unfolding word_key
  invalid_key h i = rw (h, i)

  pub neither_key : between (way + first_identifier) (way + last_identifier) w ≡ false →
      between (way + 2 ^ invalid_bit) (way + 2 ^ invalid_bit + (past_last - 1)) w ≡ false → word_key way p w ≡ illegal_key
  unfolding word_key
  neither_key h i = rw (h, i)

-- a word by its parts, which are the bits 31, 30, 29 to 11 and the eleven bits, in a direction whose bit 30 is t
module _ (way p w t a b c f : ℕ) (at : way ≡ 2 ^ transmit_bit * t) (word : w ≡ 2 ^ invalid_bit * a + 2 ^ transmit_bit * b + 2 ^ identifier_bits * c + f)
    (t2 : t < 2) (a2 : a < 2) (b2 : b < 2) (few : c < 2 ^ (transmit_bit - identifier_bits)) (f11 : f < 2 ^ identifier_bits) where
  neither : (way + first_identifier ≤ w → w ≤ way + last_identifier → ⊥) → (way + 2 ^ invalid_bit ≤ w → w ≤ way + 2 ^ invalid_bit + (past_last - 1) → ⊥) →
      word_key way p w ≡ illegal_key
  neither h i = neither_key way p w (outside _ _ w h) (outside _ _ w i)

  by_parts : word_key way p w
      ≡ cond (not (eqb b t) || not (eqb c 0) || (not (eqb a 1) && not (between first_identifier last_identifier f))) illegal_key
      (cond (not (eqb a 1)) (f - first_identifier) (past_last + p))
  by_parts = go (eqb b t) (eqb c 0) (eqb a 1) (between first_identifier last_identifier f) refl refl refl refl
    where
      go : (x y z u : Bool) → eqb b t ≡ x → eqb c 0 ≡ y → eqb a 1 ≡ z → between first_identifier last_identifier f ≡ u →
          word_key way p w ≡ cond (not x || not y || (not z && not u)) illegal_key (cond (not z) (f - first_identifier) (past_last + p))
      go false y z u h i j k = let e = eqb-false b t h in neither (λ l m. omega arith) (λ l m. omega arith)
      go true false z u h i j k = let e = eqb-false c 0 i in let o = eqb-true b t h in neither (λ l m. omega arith) (λ l m. omega arith)
      go true true true u h i j k =
          let o = eqb-true b t h in let n = eqb-true c 0 i in let e = eqb-true a 1 j in
          invalid_key way p w (outside _ _ w (λ l m. omega arith)) (inside _ _ w (omega arith) (omega arith))
      go true true false true h i j k =
          let o = eqb-true b t h in let n = eqb-true c 0 i in let e = eqb-false a 1 j in
          let l = leb-true first_identifier f (and_left (leb first_identifier f) (leb f last_identifier) k) in
          let m = leb-true f last_identifier (and_right (leb first_identifier f) (leb f last_identifier) k) in
          valid_key way p w (inside _ _ w (omega arith) (omega arith)) ∙ omega arith
      go true true false false h i j k =
          let o = eqb-true b t h in let n = eqb-true c 0 i in let e = eqb-false a 1 j in
          neither (λ l m. clash (between first_identifier last_identifier f) (inside first_identifier last_identifier f (omega arith) (omega arith)) k)
          (λ l m. omega arith)

-- ---- by direction

abbrev number : Direction → ℕ
number receive = 0
number transmit = 1

way_bit : (dir : Direction) (b : ℕ) → b < 2 → beq (eqb b 1) (transmits dir) ≡ eqb b (number dir)
way_bit receive zero h = refl
way_bit receive (suc zero) h = refl
way_bit receive (suc (suc b)) h = absurd (omega arith)
way_bit transmit zero h = refl
way_bit transmit (suc zero) h = refl
way_bit transmit (suc (suc b)) h = absurd (omega arith)

way_number : (dir : Direction) → (by_direction dir 0 transmit_way ≡ 2 ^ transmit_bit * number dir) × (number dir < 2)
way_number receive = (refl, omega arith)
way_number transmit = (refl, omega arith)

on_way : (dir : Direction) (p w : ℕ) → w < 2 ^ 32 → word_key (by_direction dir 0 transmit_way) p w
    ≡ cond (not (beq (bit transmit_bit w) (transmits dir)) || not (eqb (reserved_bits w) 0)
    || (is_valid w && not (between first_identifier last_identifier (frame_identifier w)))) illegal_key
    (cond (is_valid w) (frame_identifier w - first_identifier) (past_last + p))
on_way dir p w h =
    rw (way_bit dir (w / 2 ^ transmit_bit % 2) (omega arith))
    (by_parts (by_direction dir 0 transmit_way) p w (number dir) (w / 2 ^ invalid_bit % 2) (w / 2 ^ transmit_bit % 2) (reserved_bits w) (frame_identifier w)
    (way_number dir).0 (omega arith) (way_number dir).1 (omega arith) (omega arith) (omega arith) (omega arith))

-- of an illegal word the last number, of a valid one its identifier from the first one on, of an invalid one its PDO's number
abbrev pub meaning : ℕ → ℕ → ℕ
meaning p w = cond (bad_alone p w) illegal_key (cond (is_valid w) (frame_identifier w - first_identifier) (past_last + p))

pub key_means : (p w : ℕ) → w < 2 ^ 32 → word_key (way_of p) p w ≡ meaning p w
unfolding bad_alone
key_means p w h = on_way (direction_of p) p w h

-- ---- what keys tell

-- a legal key is a legal word's
pub legal_alone : (p w : ℕ) → p < 8 → is_legal_key (meaning p w) ≡ not (bad_alone p w)
legal_alone p w h = go (bad_alone p w) (is_valid w)
  where
    go : (b v : Bool) → is_legal_key (cond b illegal_key (cond v (frame_identifier w - first_identifier) (past_last + p))) ≡ not b
    go true v = refl
    go false true = lt-ltb (frame_identifier w - first_identifier) illegal_key (omega arith)
    go false false = lt-ltb (past_last + p) illegal_key (omega arith)

-- keys are legal just where their bits together are
or_legal : (a b : ℕ) → is_legal_key (bit_or a b) ≡ (is_legal_key a && is_legal_key b)
or_legal a b = go (is_legal_key a) (is_legal_key b) refl refl
  where
    go : (p q : Bool) → is_legal_key a ≡ p → is_legal_key b ≡ q → is_legal_key (bit_or a b) ≡ (p && q)
    go true true h i = lt-ltb _ _ (or_lt (1 + identifier_bits) a b (ltb-true a illegal_key h) (ltb-true b illegal_key i))
    go true false h i = le-ltb (bit_or a b) illegal_key (omega (arith, ltb-false b illegal_key i, or_add_and a b, and_le_l a b))
    go false q h i = le-ltb (bit_or a b) illegal_key (omega (arith, ltb-false a illegal_key h, or_add_and a b, and_le_r a b))

pub all_legal : (a b c d e f g h : ℕ) →
    is_legal_key (bit_or (bit_or (bit_or a b) (bit_or c d)) (bit_or (bit_or e f) (bit_or g h)))
    ≡ (all is_legal_key (four a b c d) && all is_legal_key (four e f g h))
all_legal a b c d e f g h = simp (or_legal, and_assoc, and-true)

-- a valid legal word's identifier is not below the first
from_first : (p w : ℕ) → bad_alone p w ≡ false → is_valid w ≡ true → first_identifier ≤ frame_identifier w
unfolding bad_alone
from_first p w h v =
    let x = frame_identifier w in
    leb-true first_identifier x (and_left (leb first_identifier x) (leb x last_identifier)
    (not-false _ (and_then_false (is_valid w) _
    (or_false_right (not (beq (bit transmit_bit w) (transmits (direction_of p))) || not (eqb (reserved_bits w) 0)) _ h) v)))

-- two legal words of different PDOs have one key where both are valid with one identifier
pub alike : (p q w v : ℕ) → eqb p q ≡ false → bad_alone p w ≡ false → bad_alone q v ≡ false →
    eqb (meaning p w) (meaning q v) ≡ (is_valid w && is_valid v && eqb (frame_identifier w) (frame_identifier v))
alike p q w v other h i = rw (h, i) (go (is_valid w) (is_valid v) (eqb (frame_identifier w) (frame_identifier v)) refl refl refl)
  where
    go : (x y z : Bool) → is_valid w ≡ x → is_valid v ≡ y → eqb (frame_identifier w) (frame_identifier v) ≡ z →
        eqb (cond x (frame_identifier w - first_identifier) (past_last + p)) (cond y (frame_identifier v - first_identifier) (past_last + q))
        ≡ (x && y && z)
    go true true true a b e =
        let n = eqb-true (frame_identifier w) (frame_identifier v) e in
        eq-eqb (frame_identifier w - first_identifier) (frame_identifier v - first_identifier) (omega arith)
    go true true false a b e =
        let l = from_first p w h a in let m = from_first q v i b in let n = eqb-false (frame_identifier w) (frame_identifier v) e in
        ne_eqb (frame_identifier w - first_identifier) (frame_identifier v - first_identifier) (λ k. omega arith)
    go true false z a b e = ne_eqb (frame_identifier w - first_identifier) (past_last + q) (λ k. omega arith)
    go false true z a b e = ne_eqb (past_last + p) (frame_identifier v - first_identifier) (λ k. omega arith)
    go false false z a b e = let n = eqb-false p q other in ne_eqb (past_last + p) (past_last + q) (λ k. omega arith)
