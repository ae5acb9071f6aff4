-- The objects that may be mapped, at the slots of their mapping words: what stands at a word's slot tells whether the word names one.
-- Assumes nothing.
use Prim.Native.Nat.{ℕ, ◌+◌, ◌*◌, ◌^◌, ◌<◌}
use native.Mathlib.Omega.{arith}
use mathlib.Core.Path.{◌≡◌, refl, ◌∙◌, ap}
use mathlib.Core.Logic.{◌⊎◌, inl, inr}
use mathlib.Core.Bool.{Bool, true, not, ◌&&◌, ◌||◌, false≢true}
use borrow.Author.Tests.{eqb-true}
use lib.Dec.{eqb}
use lib.ListN.{length, get_or}
use Rattle.rules_dictionary.specs.Numbers.{all}
use Rattle.rules_dictionary.specs.Table.{Row, Direction, receive, transmit, mapping_word}
use Rattle.rules_dictionary.specs.Plans.{move, no_move}
use Rattle.rules_dictionary.proofs.Tests.{and_left, and_right, eqb_self, all_in, all_below, below}
use Rattle.mapping.specs.Words.{mappables, named, word_move, kept_word, move_word, names_one, slots, slot_length, slot_of, named_for}
use Rattle.mapping.specs.Kept.{maps_kept}
use Rattle.mapping.proofs.Orders.{both_ways}
use Rattle.mapping.proofs.Naming.{Names, facts, one_or_none}

-- what the code reads of a slot: its mapping word, and the word of the move
abbrev word_in : Direction → ℕ → ℕ
word_in way i = get_or (named_for way) (slot_length * i) 0

abbrev kept_in : Direction → ℕ → ℕ
kept_in way i = get_or (named_for way) (slot_length * i + 1) 0

-- ---- by one computed test each

pub slots_length : (way : Direction) → length (named_for way) ≡ slot_length * slots
unfolding named_for
slots_length receive = refl
slots_length transmit = refl

-- each object stands at its slot
is_at_slot : Direction → Row → Bool
is_at_slot way x = let i = slot_of (mapping_word x) in eqb (word_in way i) (mapping_word x) && eqb (kept_in way i) (move_word (move x))

at_slots : (way : Direction) → all (is_at_slot way) (mappables way) ≡ true
unfolding is_at_slot named_for
at_slots receive = refl
at_slots transmit = refl

-- each slot's word names an object, or is not the word of that slot
is_own : Direction → ℕ → Bool
is_own way i = not (eqb (slot_of (word_in way i)) i) || maps_kept way (word_in way i) (kept_in way i)

own_slots : (way : Direction) → all_below (is_own way) slots ≡ true
unfolding is_own named_for named word_move kept_word
own_slots receive = refl
own_slots transmit = refl

-- ---- the slot of any word

pub slot_below : (w : ℕ) → slot_of w < slots
unfolding slot_of
slot_below w = omega arith

module _ (way : Direction) (w k : ℕ) (h : w < 2 ^ 32) where
  abbrev is_told : Bool
  is_told = eqb (word_in way (slot_of w)) w && eqb (kept_in way (slot_of w)) k

  names : is_told ≡ true → maps_kept way w k ≡ true
  unfolding is_own
  names e =
      let i = slot_of w in
      let a : word_in way i ≡ w = eqb-true _ _ (and_left (eqb (word_in way i) w) _ e) in
      let b : kept_in way i ≡ k = eqb-true _ _ (and_right (eqb (word_in way i) w) _ e) in
      rw (a, b, eqb_self (slot_of w)) at (below (is_own way) slots i (own_slots way) (slot_below w))

  stands : maps_kept way w k ≡ true → is_told ≡ true
  unfolding is_at_slot kept_word
  stands e = go (one_or_none way w)
    where
      go : (word_move way w ≡ no_move) ⊎ ((x : Row) × Names way w x) → is_told ≡ true
      go (inl q) = absurd (false≢true (rw q at (and_left (names_one way w) _ e)))
      go (inr (x, n)) =
          let a : w ≡ mapping_word x = omega (arith, n.word) in
          let b : k ≡ move_word (move x) = eqb-true _ _ (and_right (names_one way w) _ e) ∙ ap move_word (facts n).moves in
          rw (a, b) (all_in (is_at_slot way) n.among (at_slots way))

  -- THE LAW: a word and the word that is kept for it stand at the word's slot where the one names an object and the other is its move's
  pub told : is_told ≡ maps_kept way w k
  told = both_ways is_told (maps_kept way w k) names stands
