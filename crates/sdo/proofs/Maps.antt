-- The mapping of a PDO: why a word is refused, and the words within a count, one after another.
-- Assumes nothing.
use Rattle.std.proofs.Common.{◌≡◌, ℕ, suc, ◌+◌, ◌-◌, ◌*◌, ◌<◌, ◌≤◌, min, Bool, true, false, not, ◌||◌, eqb, leb, ◌⊎◌, List, [], ◌∷◌, map, take, Ok}
use Rattle.std.proofs.Common.{sym, refl, ap, ◌∙◌, inl, inr, true≢false, arith}
use borrow.Author.Tests.{leb-true, leb-false, eq-eqb, ne_eqb, lt-ltb, le-ltb}
use lib.Seq.{take-nil}
use Rattle.rules_dictionary.specs.declared.Move.{Move}
use Rattle.rules_dictionary.specs.Numbers.{value, part, sum}
use Rattle.rules_dictionary.specs.Table.{Direction, direction_of, each_way, most_moves, word_index, word_subindex}
use Rattle.rules_dictionary.specs.Table.{word_length, Found, found, the_name, no_object, no_subindex, lookup, size_of}
use Rattle.rules_dictionary.specs.Aborts.{good, bad, is_good, first_firing, test, not_mappable, over_length}
use Rattle.rules_dictionary.specs.Legal.{suits, target_verdict, entry_verdict, count_verdict, most_bits}
use Rattle.dictionary.specs.Entries.{presence_of}
use Rattle.mapping.specs.Words.{word_move, way_of, names_one}
use Rattle.mapping.specs.Slots.{words_from}
use Rattle.rules_dictionary.proofs.Tests.{or_right, or-none, is_good_lem}
use Rattle.mapping.proofs.Naming.{verdict}
use Rattle.mapping.proofs.Legality.{way_of_lem}
use Rattle.sdo.specs.Verdicts.{result_of, unnamed, words_verdict}

-- ---- a mapping word

pub word_zero : (p w : ℕ) → w ≡ 0 → Ok tt ≡ result_of (entry_verdict p w)
unfolding entry_verdict
word_zero p w e = rw e

-- a word that names an object is good
pub word_named : (p w : ℕ) (m : Move) → m ≡ word_move (way_of (leb each_way p)) w → (m.size ≡ 0 → ⊥) → Ok tt ≡ result_of (entry_verdict p w)
word_named p w m e h =
    let n : names_one (direction_of p) w ≡ true = rw (← way_of_lem p, ← e, ne_eqb m.size 0 h) refl in
    sym (ap result_of (is_good_lem (entry_verdict p w) (verdict p w ∙ or_right (eqb w 0) (names_one (direction_of p) w) n)))

target_refused : (way : Direction) (w : ℕ) (f : Found) → is_good (target_verdict way w f) ≡ false → target_verdict way w f ≡ unnamed (presence_of f)
unfolding target_verdict first_firing
target_refused way w (found x) h = go (not (suits way x.mappable) || not (eqb (word_length w) (8 * size_of x))) h
  where
    go : (b : Bool) → is_good (first_firing (test b not_mappable ∷ []) good) ≡ false → first_firing (test b not_mappable ∷ []) good ≡ bad not_mappable
    go true e = refl
    go false e = absurd (true≢false e)
target_refused way w the_name h = refl
target_refused way w no_object h = refl
target_refused way w no_subindex h = refl

-- another is refused by what its index and subindex find
pub word_refused : (p w : ℕ) (m : Move) → m ≡ word_move (way_of (leb each_way p)) w → m.size ≡ 0 → (w ≡ 0 → ⊥) →
    result_of (unnamed (presence_of (lookup (word_index w) (word_subindex w)))) ≡ result_of (entry_verdict p w)
unfolding entry_verdict
word_refused p w m e h z =
    let n : names_one (direction_of p) w ≡ false = rw (← way_of_lem p, ← e, eq-eqb m.size 0 h) refl in
    go (eqb w 0) (verdict p w ∙ or-none (eqb w 0) (names_one (direction_of p) w) n ∙ ne_eqb w 0 z)
  where
    go : (b : Bool) → is_good (elim b [ true ↦ good | false ↦ target_verdict (direction_of p) w (lookup (word_index w) (word_subindex w)) ]) ≡ false →
        result_of (unnamed (presence_of (lookup (word_index w) (word_subindex w))))
        ≡ result_of (elim b [ true ↦ good | false ↦ target_verdict (direction_of p) w (lookup (word_index w) (word_subindex w)) ])
    go true h = absurd (true≢false h)
    go false h = ap result_of (sym (target_refused (direction_of p) w (lookup (word_index w) (word_subindex w)) h))

-- ---- the words within a count

module _ (used w : ℕ) (ws : List ℕ) where
  zero_word : w ≡ 0 → words_verdict used (w ∷ ws) ≡ bad not_mappable
  unfolding words_verdict first_firing
  zero_word e = rw e

  next_word : (w ≡ 0 → ⊥) → words_verdict used (w ∷ ws) ≡ words_verdict (used + word_length w) ws
  unfolding words_verdict
  next_word z =
      let e : used + (word_length w + sum (map word_length ws)) ≡ used + word_length w + sum (map word_length ws) = omega arith in
      rw (ne_eqb 0 w (λ q. z (sym q)), e)

-- the words that are left of a count, out of those that are left of the eight
abbrev pub left : ℕ → ℕ → ℕ → List ℕ → List ℕ
left n k at d = take (n - k) (words_from (most_moves - k) at d)

pub at_first : (n first : ℕ) (d : List ℕ) → words_verdict 0 (left n 0 (first + 0) d) ≡ count_verdict (words_from most_moves first d) n
unfolding count_verdict words_verdict
at_first n first d =
    let e : n - 0 ≡ n = omega arith in
    let s = sum (map word_length (take n (words_from most_moves first d))) in
    let f : 0 + s ≡ s = omega arith in
    let g : first + 0 ≡ first = omega arith in
    rw (e, g, f)

-- .. are within both, before the last of them
pub least_of : (n k : ℕ) {m : ℕ} → m ≡ min n most_moves → k < m → (k < n) × (k < most_moves)
least_of n k e h = (omega (arith, e, h), omega (arith, e, h))

-- .. and none behind it
pub none_behind : (n k : ℕ) {m : ℕ} → m ≡ min n most_moves → m ≤ k → (n ≤ k) ⊎ (most_moves ≤ k)
none_behind n k e h = go (leb n most_moves) refl
  where
    go : (b : Bool) → leb n most_moves ≡ b → (n ≤ k) ⊎ (most_moves ≤ k)
    go true g = inl (omega (arith, e, h, leb-true n most_moves g))
    go false g = inr (omega (arith, e, h, leb-false n most_moves g))

module _ (used n k at : ℕ) (d : List ℕ) where
  module _ (h : k < n) (g : k < most_moves) where
    next-left : left n k at d ≡ value (part at 4 d) ∷ left n (k + 1) (at + 4) d
    unfolding words_from
    next-left =
        let e : n - k ≡ suc (n - (k + 1)) = omega arith in
        let f : most_moves - k ≡ suc (most_moves - (k + 1)) = omega arith in
        rw (e, f)

    pub at_zero : value (part at 4 d) ≡ 0 → words_verdict used (left n k at d) ≡ bad not_mappable
    at_zero e = rw next-left (zero_word used (value (part at 4 d)) (left n (k + 1) (at + 4) d) e)

    pub at-word : (value (part at 4 d) ≡ 0 → ⊥) →
        words_verdict used (left n k at d) ≡ words_verdict (used + word_length (value (part at 4 d))) (left n (k + 1) (at + 4) d)
    at-word e = rw next-left (next_word used (value (part at 4 d)) (left n (k + 1) (at + 4) d) e)

  module _ (h : (n ≤ k) ⊎ (most_moves ≤ k)) where
    none_left : left n k at d ≡ []
    unfolding words_from
    none_left = go h
      where
        go : (n ≤ k) ⊎ (most_moves ≤ k) → take (n - k) (words_from (most_moves - k) at d) ≡ []
        go (inl h) = let e : n - k ≡ 0 = omega arith in rw e
        go (inr h) = let e : most_moves - k ≡ 0 = omega arith in rw e (take-nil (n - k))

    pub over : most_bits < used → words_verdict used (left n k at d) ≡ bad over_length
    unfolding words_verdict first_firing
    over h = rw (none_left, lt-ltb most_bits (used + 0) (omega arith))

    pub fitting : used ≤ most_bits → words_verdict used (left n k at d) ≡ good
    unfolding words_verdict first_firing
    fitting h = rw (none_left, le-ltb most_bits (used + 0) (omega arith))
