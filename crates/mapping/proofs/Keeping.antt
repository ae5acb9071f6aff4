-- The words that a state keeps for mapping words, slot by slot, and the plan that they are.
-- Assumes nothing.
use Prim.Native.Nat.{ℕ, zero, suc, ◌+◌, ◌*◌, ◌-◌, ◌/◌, ◌%◌, ◌^◌, ◌<◌, ◌≤◌}
use native.Mathlib.Omega.{arith}
use mathlib.Core.Path.{◌≡◌, refl, sym, ◌∙◌, ap}
use mathlib.Core.Logic.{◌⊎◌, inl, inr}
use mathlib.Core.Bool.{Bool, true, false, not, ◌&&◌, ◌||◌, and-true, and-false, and_assoc}
use mathlib.Core.List.{List, [], ◌∷◌, map}
use borrow.Author.Tests.{eqb-true, eqb-false, eq-eqb, ne_eqb, leb-true, leb-false, ltb-true}
use lib.Bits.{bit_or}
use lib.Dec.{eqb, leb}
use lib.ListN.{length, take, drop, get_or}
use Rattle.rules_dictionary.specs.declared.Move.{Move}
use Rattle.rules_dictionary.specs.declared.Plan.{Plan}
use Rattle.rules_dictionary.specs.Numbers.{value, part, all}
use Rattle.rules_dictionary.specs.Table.{Row, Direction, receive, transmit, direction_of, place_of, size_of, map_count, mapping_place, words_place}
use Rattle.rules_dictionary.specs.Table.{most_moves, open_table}
use Rattle.rules_dictionary.specs.Values.{read}
use Rattle.rules_dictionary.specs.Plans.{move, no_move, mapped, plan_for}
use Rattle.rules_dictionary.proofs.Tests.{and_left, and_right, all_in}
use Rattle.rules_dictionary.proofs.Packing.{regular}
use Rattle.rules_dictionary.proofs.Members.{pdo_in}
use Rattle.rules.specs.Outcome.{same_move, same_plan, most_data}
use Rattle.dictionary.specs.Sizes.{IsPdo}
use Rattle.dictionary.proofs.Bytes.{value_step, value_none}
use Rattle.form.specs.Form.{plan_place, half, word_at, move_of, move_at, plan_at, each}
use Rattle.form.specs.Own.{is_zero, small, every_at, every_word, plan_own}
use Rattle.form.proofs.Tested.{or-zero}
use Rattle.mapping.specs.Words.{mappables, word_move, kept_word, names_one, mapping_legal}
use Rattle.mapping.specs.Slots.{words_from}
use Rattle.mapping.specs.Kept.{maps_kept, spares_kept, mapped_kept, spare_kept, plan_kept_in, plan_kept_at}
use Rattle.mapping.proofs.Orders.{swap, beside, both_ways}
use Rattle.mapping.proofs.Naming.{Names, facts, one_or_none, sizes}
use Rattle.mapping.proofs.Worked.{Tested, tested, same_move_lem, take_words, length_words_from}
use Rattle.mapping.proofs.Legality.{as_ruled, is_mapped, is_unmapped, within, past, none_left, words_behind}
use Rattle.mapping.proofs.Legality.{too_many, other_count, same_count}

-- ---- a move's word

-- its move is the row's own, and its last byte zero
packed_row : Row → Bool
packed_row x = same_move (move_of (place_of x + half * size_of x)) (move x) && small (place_of x + half * size_of x)

packed : (way : Direction) → all packed_row (mappables way) ≡ true
unfolding open_table packed_row
packed receive = refl
packed transmit = refl

module _ (way : Direction) (w : ℕ) where
  pub record Kept : Type 0 where
    pub moves : move_of (kept_word way w) ≡ word_move way w
    pub smalls : small (kept_word way w) ≡ true
    pub names : names_one way w ≡ not (eqb (kept_word way w) 0)

  pub kept : Kept
  unfolding kept_word packed_row
  kept = go (one_or_none way w)
    where
      go : (word_move way w ≡ no_move) ⊎ ((x : Row) × Names way w x) → Kept
      go (inl e) = record { moves = rw e; smalls = rw e; names = rw e }
      go (inr (x, n)) =
          let e = (facts n).moves in
          let t = all_in packed_row n.among (packed way) in
          let z : place_of x + half * size_of x ≡ 0 → ⊥ = λ q. eqb-false (size_of x) 0 (sizes x) (omega arith) in
          record {
            moves = rw e (same_move_lem _ _ (and_left (same_move (move_of (place_of x + half * size_of x)) (move x)) _ t));
            smalls = rw e (and_right (same_move (move_of (place_of x + half * size_of x)) (move x)) _ t);
            names = rw (e, sizes x, ne_eqb _ _ z);
          }

-- words with a zero byte above are the same where their moves are
same_word : (k v : ℕ) → small v ≡ true → (small k && same_move (move_of k) (move_of v)) ≡ eqb k v
same_word k v s = both_ways (small k && same_move (move_of k) (move_of v)) (eqb k v) (λ h. eq-eqb k v (back h)) (λ h. forth (eqb-true k v h))
  where
    back : (small k && same_move (move_of k) (move_of v)) ≡ true → k ≡ v
    back h =
        let a : k < 2 ^ 24 = ltb-true _ _ (and_left (small k) _ h) in
        let b : v < 2 ^ 24 = ltb-true _ _ s in
        let m = and_right (small k) _ h in
        let p : k % half ≡ v % half = eqb-true _ _ (and_left (eqb (k % half) (v % half)) _ m) in
        let q : k / half % 256 ≡ v / half % 256 = eqb-true _ _ (and_right (eqb (k % half) (v % half)) _ m) in
        omega arith

    forth : k ≡ v → (small k && same_move (move_of k) (move_of v)) ≡ true
    forth e = rw (e, s, eq-eqb (v % half) (v % half) refl, eq-eqb (v / half % 256) (v / half % 256) refl)

-- ---- one slot

module _ (p w k : ℕ) where
  abbrev way : Direction
  way = direction_of p

  maps_slot : (small k && is_mapped p w (move_of k)) ≡ maps_kept way w k
  maps_slot =
      swap (small k) (names_one way w) _
      ∙ ap (λ (b : Bool). names_one way w && b) (rw (← (kept way w).moves) (same_word k (kept_word way w) (kept way w).smalls))

  spares_slot : (small k && is_unmapped p w (move_of k)) ≡ spares_kept way w k
  spares_slot =
      turn (small k) (eqb w 0 || names_one way w) (same_move (move_of k) no_move)
      ∙ ap (λ (b : Bool). b && (eqb w 0 || names_one way w)) (same_word k 0 refl)
    where
      turn : (a b c : Bool) → (a && (b && c)) ≡ ((a && c) && b)
      turn true true true = refl
      turn true true false = refl
      turn true false true = refl
      turn true false false = refl
      turn false b c = refl

-- ---- all slots

-- nothing kept is no byte more
no_more : (used k : ℕ) (t y s : Bool) → eqb k 0 ≡ t →
    ((t && y) && (leb (used + (move_of k).size) most_data && s)) ≡ (leb used most_data && ((t && y) && s))
no_more used k true y s e =
    let z : k ≡ 0 = eqb-true k 0 e in
    let u : used + (move_of k).size ≡ used = omega arith in
    rw u (swap y (leb used most_data) s)
no_more used k false y s e = sym (and-false (leb used most_data))

module _ (p : ℕ) where
  spare_slots : (used : ℕ) (ws ks : List ℕ) → length ws ≡ length ks →
      (all small ks && as_ruled p 0 used ws (map move_of ks)) ≡ (leb used most_data && spare_kept (direction_of p) ws ks)
  unfolding spare_kept
  spare_slots used [] [] l = sym (none_left p used) ∙ sym (and-true (leb used most_data))
  spare_slots used [] (k ∷ ks) l = absurd (omega arith)
  spare_slots used (w ∷ ws) [] l = absurd (omega arith)
  spare_slots used (w ∷ ws) (k ∷ ks) l =
      let ms = map move_of ks in
      rw (
        ← past p used w ws (move_of k) ms,
        beside (small k) (all small ks) (is_unmapped p w (move_of k)) (as_ruled p 0 (used + (move_of k).size) ws ms),
        spares_slot p w k,
        spare_slots (used + (move_of k).size) ws ks (omega arith),
      )
      (no_more used k (eqb k 0) (eqb w 0 || names_one (direction_of p) w) (spare_kept (direction_of p) ws ks) refl)

  -- THE LAW: kept words with a zero byte above, whose moves are as the rules have them, are those that are kept for the mapping words
  slots_kept : (n used : ℕ) (ws ks : List ℕ) → length ws ≡ length ks → n ≤ length ws →
      (all small ks && as_ruled p n used ws (map move_of ks))
      ≡ (mapped_kept (direction_of p) used (take n ws) (take n ks) && spare_kept (direction_of p) (drop n ws) (drop n ks))
  unfolding mapped_kept
  slots_kept zero used ws ks l h = spare_slots used ws ks l
  slots_kept (suc n) used [] ks l h = absurd (omega arith)
  slots_kept (suc n) used (w ∷ ws) [] l h = absurd (omega arith)
  slots_kept (suc n) used (w ∷ ws) (k ∷ ks) l h =
      let ms = map move_of ks in
      let way = direction_of p in
      rw (
        ← within p n used w ws (move_of k) ms,
        beside (small k) (all small ks) (is_mapped p w (move_of k)) (as_ruled p n (used + (move_of k).size) ws ms),
        maps_slot p w k,
        slots_kept n (used + (move_of k).size) ws ks (omega arith) (omega arith),
      )
      (sym (and_assoc (maps_kept way w k) (mapped_kept way (used + (move_of k).size) (take n ws) (take n ks))
      (spare_kept way (drop n ws) (drop n ks))))

-- ---- the words of a plan, as they stand in the bytes

module _ (bs : List ℕ) where
  small_words : (n at : ℕ) → every_at (λ i. small (word_at i bs)) n at 4 ≡ all small (words_from n at bs)
  unfolding words_from
  small_words zero at = refl
  small_words (suc n) at = ap (λ (b : Bool). small (word_at at bs) && b) (small_words n (at + 4))

  moves_words : (n at : ℕ) → each n at 4 (λ i. move_at i bs) ≡ map move_of (words_from n at bs)
  unfolding words_from move_at
  moves_words zero at = refl
  moves_words (suc n) at = ap (λ (ms : List Move). move_of (word_at at bs) ∷ ms) (moves_words n (at + 4))

  drop_words : (n m at : ℕ) → m ≤ n → drop m (words_from n at bs) ≡ words_from (n - m) (at + 4 * m) bs
  unfolding words_from
  drop_words n zero at h = let e : at + 4 * 0 ≡ at = omega arith in let z : n - 0 ≡ n = omega arith in rw (e, z)
  drop_words zero (suc m) at h = absurd (omega arith)
  drop_words (suc n) (suc m) at h =
      let e : at + 4 + 4 * m ≡ at + 4 * suc m = omega arith in
      let z : suc n - suc m ≡ n - m = omega arith in
      drop_words n m (at + 4) (omega arith) ∙ rw (e, z)

-- one slot after another

module _ (way : Direction) (d bs : List ℕ) (place at left : ℕ) (h : 0 < left) where
  abbrev word : ℕ
  word = value (part place 4 d)

  abbrev held : ℕ
  held = value (part at 4 bs)

  words_step : (from : ℕ) (xs : List ℕ) → words_from left from xs ≡ value (part from 4 xs) ∷ words_from (left - 1) (from + 4) xs
  unfolding words_from
  words_step from xs = go left (left - 1) (omega arith)
    where
      go : (n m : ℕ) → n ≡ suc m → words_from n from xs ≡ value (part from 4 xs) ∷ words_from m (from + 4) xs
      go n m e = rw e

  pub mapped_step : (used : ℕ) →
      mapped_kept way used (words_from left place d) (words_from left at bs)
      ≡ (maps_kept way word held
      && mapped_kept way (used + (move_of held).size) (words_from (left - 1) (place + 4) d) (words_from (left - 1) (at + 4) bs))
  unfolding mapped_kept
  mapped_step used = rw (words_step place d, words_step at bs)

  pub spare_step :
      spare_kept way (words_from left place d) (words_from left at bs)
      ≡ (spares_kept way word held && spare_kept way (words_from (left - 1) (place + 4) d) (words_from (left - 1) (at + 4) bs))
  unfolding spare_kept
  spare_step = rw (words_step place d, words_step at bs)

pub mapped_end : (way : Direction) (used place at : ℕ) (d bs : List ℕ) →
    mapped_kept way used (words_from 0 place d) (words_from 0 at bs) ≡ leb used most_data
unfolding mapped_kept words_from
mapped_end way used place at d bs = refl

pub spare_end : (way : Direction) (place at : ℕ) (d bs : List ℕ) → spare_kept way (words_from 0 place d) (words_from 0 at bs) ≡ true
unfolding spare_kept words_from
spare_end way place at d bs = refl

-- one slot, as the code tests it
module _ (way : Direction) (w k : ℕ) where
  pub both_empty : bit_or w k ≡ 0 → spares_kept way w k ≡ true
  both_empty e =
      let z = sym (or-zero w k) ∙ eq-eqb (bit_or w k) 0 e in
      rw (and_left (is_zero w) (is_zero k) z, and_right (is_zero w) (is_zero k) z)

  pub kept_past : (k ≡ 0 → ⊥) → spares_kept way w k ≡ false
  kept_past h = rw (ne_eqb k 0 h)

  pub word_past : k ≡ 0 → (bit_or w k ≡ 0 → ⊥) → not (eqb (kept_word way w) 0) ≡ spares_kept way w k
  word_past e h =
      rw (← (kept way w).names, eq-eqb k 0 e) (go (eqb w 0) refl)
    where
      go : (b : Bool) → eqb w 0 ≡ b → names_one way w ≡ (b || names_one way w)
      go true f = absurd (h (eqb-true _ _ (or-zero w k ∙ rw (f, eq-eqb k 0 e))))
      go false f = refl

-- ---- by places, as the code goes: the count, then the kept count, then the slots

module _ (bs d : List ℕ) (p : ℕ) (is : IsPdo p) where
  abbrev plan : Plan
  plan = plan_at (plan_place p) bs

  abbrev count : ℕ
  count = get_or d (mapping_place p) 0

  abbrev kept_count : ℕ
  kept_count = get_or bs (plan_place p) 0

  counted : count ≡ read d (map_count p)
  unfolding read
  counted = sym (omega (arith, value_step 0 (mapping_place p) d, value_none (mapping_place p + 1) d))

  -- what is no plan of the mapping's is not kept
  refused : false ≡ (leb (read d (map_count p)) most_moves && (mapping_legal d p && same_plan plan (plan_for (mapped d p))))
      → false ≡ plan_kept_in bs d p
  unfolding plan_kept_in
  refused e = sym (and-false (plan_own (plan_place p) bs)) ∙ ap (λ (b : Bool). plan_own (plan_place p) bs && b) e

  -- the words within the count and those past it are kept where the plan is
  slots : count ≤ most_moves → kept_count ≡ count →
      (mapped_kept (direction_of p) 0 (words_from count (mapping_place p + 1) d) (words_from count (plan_place p + 1) bs)
      && spare_kept (direction_of p) (words_from (8 - count) (mapping_place p + 1 + 4 * count) d)
      (words_from (8 - count) (plan_place p + 1 + 4 * count) bs))
      ≡ plan_kept_in bs d p
  unfolding plan_kept_in plan_at plan_own every_word
  slots h e =
      let first = mapping_place p + 1 in
      let at = plan_place p + 1 in
      let ws = words_from 8 first d in
      let ks = words_from 8 at bs in
      let f : first ≡ words_place p = sym (regular (pdo_in p is)).words in
      rw (
        ← take_words 8 count first d h,
        ← take_words 8 count at bs h,
        ← drop_words d 8 count first h,
        ← drop_words bs 8 count at h,
        ← slots_kept p count 0 ws ks (length_words_from 8 first d ∙ sym (length_words_from 8 at bs)) (rw (length_words_from 8 first d) h),
        f,
        words_behind d p,
        small_words bs 8 at,
        moves_words bs 8 at,
      )
      (ap (λ (b : Bool). all small ks && b) (same_count d p (record { count = kept_count; moves = map move_of ks }) count counted h e))

  -- THE LAW: a PDO's plan is kept where that at its places is
  pub at_places : plan_kept_at (direction_of p) (plan_place p) (mapping_place p) bs d ≡ plan_kept_in bs d p
  unfolding plan_kept_at plan_at
  at_places = go (leb count most_moves) refl (eqb kept_count count) refl
    where
      go : (b : Bool) → leb count most_moves ≡ b → (c : Bool) → eqb kept_count count ≡ c →
          (b && (c && (mapped_kept (direction_of p) 0 (words_from count (mapping_place p + 1) d) (words_from count (plan_place p + 1) bs)
          && spare_kept (direction_of p) (words_from (8 - count) (mapping_place p + 1 + 4 * count) d)
          (words_from (8 - count) (plan_place p + 1 + 4 * count) bs))))
          ≡ plan_kept_in bs d p
      go false e c f = refused (too_many d p plan count counted (leb-false count most_moves e))
      go true e false f = refused (other_count d p plan count counted (leb-true count most_moves e) (eqb-false kept_count count f))
      go true e true f = slots (leb-true count most_moves e) (eqb-true kept_count count f)

-- THE LAW FOR CALLERS: what a plan is that is kept
pub kept_tested : (bs d : List ℕ) (p : ℕ) → plan_kept_in bs d p ≡ true → Tested d p (plan_at (plan_place p) bs)
unfolding plan_kept_in
kept_tested bs d p h = tested d p (plan_at (plan_place p) bs) (and_right (plan_own (plan_place p) bs) _ h)
