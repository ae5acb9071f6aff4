-- The slots of a PDO's mapping, one by one, are what the rules ask of it: legal words and count, and the plan worked afresh.
-- Assumes nothing.
use Prim.Native.Nat.{ℕ, zero, suc, ◌+◌, ◌*◌, ◌<◌, ◌≤◌}
use native.Mathlib.Omega.{arith}
use mathlib.Core.Path.{◌≡◌, refl, sym, ◌∙◌, ap}
use mathlib.Core.Logic.{◌⊎◌, inl, inr}
use mathlib.Core.Bool.{Bool, true, false, not, ◌&&◌, ◌||◌, true≢false}
use mathlib.Core.List.{List, [], ◌∷◌, map}
use borrow.Author.Tests.{eqb-true, eq-eqb, ne_eqb, leb-true, leb-false, le-leb, lt-leb, lt-ltb, le-ltb, not-true}
use lib.Dec.{eqb, leb, ltb}
use lib.ListN.{length, take, drop}
use lib.Seq.{drop-drop}
use Rattle.rules_dictionary.specs.declared.Move.{Move}
use Rattle.rules_dictionary.specs.declared.Plan.{Plan}
use Rattle.rules_dictionary.specs.Numbers.{value, part, all, any, sum, padded}
use Rattle.rules_dictionary.specs.Table.{Row, direction_of, word_length, each_way, pdos, map_count, words_place}
use Rattle.rules_dictionary.specs.Table.{most_moves, dictionary_length, open_table}
use Rattle.rules_dictionary.specs.Values.{read, unpacked}
use Rattle.rules_dictionary.specs.Aborts.{is_good, good, bad, first_firing, not_mappable, over_length}
use Rattle.rules_dictionary.specs.Legal.{entry_verdict, count_verdict, map_words, most_bits}
use Rattle.rules_dictionary.specs.Plans.{and_then, targets, mapped, move, no_move, plan_for}
use Rattle.rules_dictionary.proofs.Tests.{and_left, and_right, all_in, or_right, or-none}
use Rattle.rules_dictionary.proofs.Members.{pdo_in}
use Rattle.dictionary.specs.Sizes.{IsPdo}
use Rattle.rules.specs.Outcome.{same_by, same_move, same_plan, most_data}
use Rattle.mapping.specs.Words.{word_move, names_one, way_of, mapping_legal}
use Rattle.mapping.specs.Slots.{words_from}
use Rattle.mapping.proofs.Naming.{Names, facts, one_or_none, names_one_lem, names_none, verdict}

-- ---- tests in another order

regroup : (l s g n b b' r : Bool) → (s ≡ true → b' ≡ b) → ((l && s) && (g && (n && (b' && r)))) ≡ ((l && g) && (n && (b && (s && r))))
regroup true true g n b b' r h = rw (h refl)
regroup true false true true true b' r h = refl
regroup true false true true false b' r h = refl
regroup true false true false b b' r h = refl
regroup true false false n b b' r h = refl
regroup false s g n b b' r h = refl

-- a zero word is refused within the count
refused : (z z' g a r : Bool) → (z ≡ true → z' ≡ true) → ((z && g) && (not (z' || a) && r)) ≡ false
refused true z' true a r h = rw (h refl)
refused true z' false a r h = refl
refused false z' g a r h = refl

counted_late : (c c' g n b r : Bool) → (g ≡ true → n ≡ true → c ≡ c') → (c && (g && (n && (b && r)))) ≡ ((g && (n && b)) && (c' && r))
counted_late c c' true true true r h = rw (h refl refl)
counted_late true c' true true false r h = refl
counted_late false c' true true false r h = refl
counted_late true c' true false b r h = refl
counted_late false c' true false b r h = refl
counted_late true c' false n b r h = refl
counted_late false c' false n b r h = refl

bytes_or_bits : (used : ℕ) → leb used most_data ≡ (not (ltb most_bits (8 * used + 0)) && true)
bytes_or_bits used = go (leb used most_data) refl
  where
    go : (b : Bool) → leb used most_data ≡ b → b ≡ (not (ltb most_bits (8 * used + 0)) && true)
    go true e = let h : used ≤ 8 = leb-true used 8 e in rw (le-ltb most_bits (8 * used + 0) (omega arith))
    go false e = let h : 8 < used = leb-false used 8 e in rw (lt-ltb most_bits (8 * used + 0) (omega arith))

more_bits : (used size len rest : ℕ) → len ≡ 8 * size → not (ltb most_bits (8 * (used + size) + rest)) ≡ not (ltb most_bits (8 * used + (len + rest)))
more_bits used size len rest h = let e : 8 * (used + size) + rest ≡ 8 * used + (len + rest) = omega arith in rw e

same_size : (a b : Move) → same_move a b ≡ true → a.size ≡ b.size
same_size a b h = eqb-true _ _ (and_right (eqb a.place b.place) _ h)

pub neither : (a b : Bool) → (a || b) ≡ false → (a ≡ false) × (b ≡ false)
neither true b h = absurd (true≢false h)
neither false b h = (refl, h)

-- a legal count is one with no zero and no bit too many within it
pub good_count : (ws : List ℕ) (n : ℕ) →
    is_good (count_verdict ws n) ≡ (not (any (eqb 0) (take n ws)) && not (ltb most_bits (8 * 0 + sum (map word_length (take n ws)))))
unfolding count_verdict first_firing
good_count ws n =
    let e : 8 * 0 + sum (map word_length (take n ws)) ≡ sum (map word_length (take n ws)) = omega arith in
    rw e (go (any (eqb 0) (take n ws)) (ltb most_bits (sum (map word_length (take n ws)))))
  where
    go : (a b : Bool) → is_good (elim a [ true ↦ bad not_mappable | false ↦ elim b [ true ↦ bad over_length | false ↦ good ] ]) ≡ (not a && not b)
    go true b = refl
    go false true = refl
    go false false = refl

-- ---- the slots as the rules have them

module _ (p : ℕ) where
  abbrev legal : ℕ → Bool
  legal w = is_good (entry_verdict p w)

  -- the tests of a mapping: its words, no zero and no bit too many within the count, its moves
  unfoldable pub as_ruled : ℕ → ℕ → List ℕ → List Move → Bool
  as_ruled n used ws ms =
      all legal ws
      && (not (any (eqb 0) (take n ws))
      && (not (ltb most_bits (8 * used + sum (map word_length (take n ws))))
      && same_by same_move ms (padded no_move (length ws) (map move (targets (take n ws))))))

  -- a legal word within the count
  pub named_row : (w : ℕ) → is_good (entry_verdict p w) ≡ true → eqb 0 w ≡ false → (x : Row) × Names (direction_of p) w x
  named_row w h z = go (one_or_none (direction_of p) w)
    where
      go : (word_move (direction_of p) w ≡ no_move) ⊎ ((x : Row) × Names (direction_of p) w x) → (x : Row) × Names (direction_of p) w x
      go (inr n) = n
      go (inl e) =
          let w≡0 : w ≡ 0 = eqb-true w 0 (sym (or-none _ _ (names_none p w e)) ∙ sym (verdict p w) ∙ h) in
          absurd (true≢false (sym (eq-eqb 0 w (sym w≡0)) ∙ z))

  pub targets_named : {w : ℕ} {x : Row} (ws : List ℕ) → Names (direction_of p) w x → targets (w ∷ ws) ≡ x ∷ targets ws
  unfolding targets and_then
  targets_named ws n = rw (facts n).finds

  -- a slot within the count: the word names the move
  abbrev pub is_mapped : ℕ → Move → Bool
  is_mapped w m = names_one (direction_of p) w && same_move m (word_move (direction_of p) w)

  -- a slot past it: the word is legal, and there is no move
  abbrev pub is_unmapped : ℕ → Move → Bool
  is_unmapped w m = (eqb w 0 || names_one (direction_of p) w) && same_move m no_move

  pub within : (n used w : ℕ) (ws : List ℕ) (m : Move) (ms : List Move) →
      (is_mapped w m && as_ruled n (used + m.size) ws ms) ≡ as_ruled (suc n) used (w ∷ ws) (m ∷ ms)
  unfolding as_ruled
  within n used w ws m ms = go (one_or_none (direction_of p) w)
    where
      go : (word_move (direction_of p) w ≡ no_move) ⊎ ((x : Row) × Names (direction_of p) w x) →
          (is_mapped w m && as_ruled n (used + m.size) ws ms) ≡ as_ruled (suc n) used (w ∷ ws) (m ∷ ms)
      go (inl e) =
          rw (names_none p w e, verdict p w, or-none (eqb w 0) _ (names_none p w e))
          (sym (refused (eqb w 0) (eqb 0 w) _ _ _ (λ z. eq-eqb 0 w (sym (eqb-true w 0 z)))))
      go (inr (x, k)) =
          let f = facts k in
          rw (
            names_one_lem p w k,
            f.moves,
            verdict p w,
            names_one_lem p w k,
            or_right (eqb w 0) true refl,
            ne_eqb 0 w (λ z. f.nonzero (sym z)),
            targets_named (take n ws) k,
          )
          (regroup true (same_move m (move x)) (all legal ws) (not (any (eqb 0) (take n ws)))
          (not (ltb most_bits (8 * used + (word_length w + sum (map word_length (take n ws))))))
          (not (ltb most_bits (8 * (used + m.size) + sum (map word_length (take n ws)))))
          (same_by same_move ms (padded no_move (length ws) (map move (targets (take n ws)))))
          (λ s. more_bits used m.size (word_length w) (sum (map word_length (take n ws)))
          (f.length ∙ ap (λ (k : ℕ). 8 * k) (sym (same_size m (move x) s)))))

  pub past : (used w : ℕ) (ws : List ℕ) (m : Move) (ms : List Move) →
      (is_unmapped w m && as_ruled 0 (used + m.size) ws ms) ≡ as_ruled 0 used (w ∷ ws) (m ∷ ms)
  unfolding as_ruled targets
  past used w ws m ms =
      rw (← verdict p w)
      (regroup (legal w) (same_move m no_move) (all legal ws) true (not (ltb most_bits (8 * used + 0)))
      (not (ltb most_bits (8 * (used + m.size) + 0)))
      (same_by same_move ms (padded no_move (length ws) []))
      (λ s. more_bits used m.size 0 0 (ap (λ (k : ℕ). 8 * k) (sym (same_size m no_move s)))))

  pub none_left : (used : ℕ) → leb used most_data ≡ as_ruled 0 used [] []
  unfolding as_ruled
  none_left used = bytes_or_bits used

  -- a legal mapping maps as many rows as its count says
  pub counted : (n : ℕ) (ws : List ℕ) → all legal ws ≡ true → not (any (eqb 0) (take n ws)) ≡ true → n ≤ length ws → length (targets (take n ws)) ≡ n
  unfolding targets
  counted zero ws g z l = refl
  counted (suc n) [] g z l = absurd (omega arith)
  counted (suc n) (w ∷ ws) g z l =
      let a = neither (eqb 0 w) (any (eqb 0) (take n ws)) (not-true _ z) in
      let k = named_row w (and_left (legal w) (all legal ws) g) a.0 in
      rw (targets_named (take n ws) k.1) (ap suc (counted n ws (and_right (legal w) (all legal ws) g) (ap not a.1) (omega arith)))

  -- the kept count may be tested first, against the dictionary's
  count_first : (count n : ℕ) (ws : List ℕ) (ms : List Move) → length ws ≡ most_moves → n ≤ most_moves →
      (eqb count n && as_ruled n 0 ws ms)
      ≡ ((all legal ws && is_good (count_verdict ws n))
      && (eqb count (length (targets (take n ws))) && same_by same_move ms (padded no_move most_moves (map move (targets (take n ws))))))
  unfolding as_ruled
  count_first count n ws ms l h =
      rw (good_count ws n, l)
      (counted_late (eqb count n) (eqb count (length (targets (take n ws)))) (all legal ws) (not (any (eqb 0) (take n ws)))
      (not (ltb most_bits (8 * 0 + sum (map word_length (take n ws)))))
      (same_by same_move ms (padded no_move most_moves (map move (targets (take n ws)))))
      (λ g z. ap (eqb count) (sym (counted n ws g z (omega arith)))))

-- ---- of a PDO in the dictionary

words_of : ℕ → List ℕ → List ℕ
words_of zero bs = []
words_of (suc n) bs = value (take 4 bs) ∷ words_of n (drop 4 bs)

words_dropped : (n place : ℕ) (d : List ℕ) → words_of n (drop place d) ≡ words_from n place d
unfolding words_of words_from
words_dropped zero place d = refl
words_dropped (suc n) place d = rw (drop-drop 4 place d) (ap (λ (ws : List ℕ). value (part place 4 d) ∷ ws) (words_dropped n (place + 4) d))

-- the eight words stand one after another
pub words_behind : (d : List ℕ) (p : ℕ) → words_from 8 (words_place p) d ≡ map_words d p
unfolding map_words unpacked words_of
words_behind d p = sym (words_dropped 8 (words_place p) d)

-- they lie within the dictionary
words_test : all (λ p. leb (words_place p + 4 * most_moves) dictionary_length) pdos ≡ true
unfolding open_table
words_test = refl

pub words_room : (p : ℕ) → IsPdo p → words_place p + 4 * most_moves ≤ dictionary_length
words_room p h = leb-true _ _ (all_in (λ p. leb (words_place p + 4 * most_moves) dictionary_length) (pdo_in p h) words_test)

pub length_words : (d : List ℕ) (p : ℕ) → length (map_words d p) ≡ most_moves
unfolding map_words unpacked
length_words d p = refl

-- THE LAW: with a count of eight at most, the mapping is legal and the plan the one worked afresh where the kept count is the
-- dictionary's and the slots are as the rules have them
sound_mapping : (d : List ℕ) (p : ℕ) (plan : Plan) → read d (map_count p) ≤ most_moves →
    (eqb plan.count (read d (map_count p)) && as_ruled p (read d (map_count p)) 0 (map_words d p) plan.moves)
    ≡ (mapping_legal d p && same_plan plan (plan_for (mapped d p)))
unfolding mapping_legal plan_for mapped
sound_mapping d p plan h = count_first p plan.count (read d (map_count p)) (map_words d p) plan.moves (length_words d p) h

-- ---- as the code goes: the count, then the kept count, then the slots

-- the transmit PDOs stand last
pub way_of_lem : (p : ℕ) → way_of (leb each_way p) ≡ direction_of p
way_of_lem p = go (leb each_way p) refl
  where
    go : (b : Bool) → leb each_way p ≡ b → way_of b ≡ direction_of p
    go true e = let h : each_way ≤ p = leb-true each_way p e in rw (le-ltb p each_way h)
    go false e = let h : p < each_way = leb-false each_way p e in rw (lt-ltb p each_way h)

module _ (d : List ℕ) (p : ℕ) (plan : Plan) (count : ℕ) (is : count ≡ read d (map_count p)) where
  abbrev verdict_of : Bool
  verdict_of = leb (read d (map_count p)) most_moves && (mapping_legal d p && same_plan plan (plan_for (mapped d p)))

  pub too_many : most_moves < count → false ≡ verdict_of
  too_many h = rw (lt-leb (read d (map_count p)) most_moves (rw (← is) h))

  module _ (h : count ≤ most_moves) where
    few : (eqb plan.count count && as_ruled p count 0 (map_words d p) plan.moves) ≡ verdict_of
    few =
        let k : read d (map_count p) ≤ most_moves = rw (← is) h in
        rw (is, le-leb (read d (map_count p)) most_moves k) (sound_mapping d p plan k)

    pub other_count : (plan.count ≡ count → ⊥) → false ≡ verdict_of
    other_count e = rw (ne_eqb plan.count count e) at few

    pub same_count : plan.count ≡ count → as_ruled p count 0 (map_words d p) plan.moves ≡ verdict_of
    same_count e = rw (eq-eqb plan.count count e) at few
