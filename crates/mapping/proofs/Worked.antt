-- Plans and ready frames worked afresh: what a legal mapping maps, and the laws for callers.
-- Assumes nothing.
use Prim.Native.Nat.{ℕ, zero, suc, ◌+◌, ◌*◌, ◌<◌, ◌≤◌}
use native.Mathlib.Numerals.{add-one}
use native.Mathlib.Omega.{arith}
use mathlib.Core.Path.{◌≡◌, refl, sym, ◌∙◌, ap, subst}
use mathlib.Core.Bool.{true, not, ◌&&◌}
use mathlib.Core.List.{List, [], ◌∷◌, ◌++◌, map, map-append}
use borrow.Author.Tests.{eqb-true, leb-true, ltb-false, not-true}
use lib.Dec.{eqb, leb}
use lib.ListN.{length, take, get_or, set, replicate, length-map}
use Rattle.rules_dictionary.specs.declared.Move.{Move}
use Rattle.rules_dictionary.specs.declared.Plan.{Plan}
use Rattle.rules_dictionary.specs.Numbers.{value, part, all, any, sum, padded}
use Rattle.rules_dictionary.specs.Table.{Row, Direction, each_way, words_place, table, direction_of, word_length, map_count, most_moves}
use Rattle.rules_dictionary.specs.Values.{read}
use Rattle.rules_dictionary.specs.Aborts.{is_good}
use Rattle.rules_dictionary.specs.Legal.{entry_verdict, map_words, most_bits}
use Rattle.rules_dictionary.specs.Plans.{targets, mapped, move, no_move, plan_for, joined, ready_for}
use Rattle.rules_dictionary.specs.Members.{In, here, there}
use Rattle.rules_dictionary.proofs.Tests.{and_left, and_right}
use Rattle.rules_dictionary.proofs.Packing.{within}
use Rattle.rules_dictionary.proofs.Plans.{mapped_in}
use Rattle.dictionary.proofs.Bytes.{is_size}
use Rattle.rules.specs.Outcome.{same_by, same_move, same_plan}
use Rattle.mapping.specs.Words.{word_move, way_of, mapping_legal}
use Rattle.mapping.specs.Slots.{words_from, moves_named}
use Rattle.mapping.specs.Moves.{joined_moves, ready_by, MoveFits, MovesFit}
use Rattle.mapping.proofs.Naming.{facts}
use Rattle.mapping.proofs.Legality.{good_count, neither, named_row, targets_named, counted, length_words, words_behind, way_of_lem}

-- ---- kept and fresh plans that are the same are equal

as_move : {x y u v : ℕ} → x ≡ y → u ≡ v → ◌≡◌ {A = Move} (record { place = x; size = u }) (record { place = y; size = v })
as_move e f = rw (e, f)

as_plan : {x y : ℕ} {u v : List Move} → x ≡ y → u ≡ v → ◌≡◌ {A = Plan} (record { count = x; moves = u }) (record { count = y; moves = v })
as_plan e f = rw (e, f)

pub same_move_lem : (a b : Move) → same_move a b ≡ true → a ≡ b
same_move_lem a b h =
    let p : a.place ≡ b.place = eqb-true _ _ (and_left (eqb a.place b.place) _ h) in
    as_move p (eqb-true _ _ (and_right (eqb a.place b.place) _ h))

same_moves : (xs ys : List Move) → same_by same_move xs ys ≡ true → xs ≡ ys
same_moves [] [] h = refl
same_moves [] (y ∷ ys) h = let z : ◌≡◌ {A = ℕ} 0 1 = cc in absurd (omega arith)
same_moves (x ∷ xs) [] h = let z : ◌≡◌ {A = ℕ} 0 1 = cc in absurd (omega arith)
same_moves (x ∷ xs) (y ∷ ys) h =
    let e : x ≡ y = same_move_lem x y (and_left (same_move x y) _ h) in
    let r : xs ≡ ys = same_moves xs ys (and_right (same_move x y) _ h) in
    rw (e, r)

pub same_plan_lem : (a b : Plan) → same_plan a b ≡ true → a ≡ b
same_plan_lem a b h =
    let c : a.count ≡ b.count = eqb-true _ _ (and_left (eqb a.count b.count) _ h) in
    as_plan c (same_moves a.moves b.moves (and_right (eqb a.count b.count) _ h))

-- ---- what legal words map

module _ (p : ℕ) where
  -- the first words, none of them zero, name rows: as many, by their moves, with their bits
  pub record MapsRows (n : ℕ) (ws : List ℕ) : Type 0 where
    pub moves : map move (targets (take n ws)) ≡ map (word_move (direction_of p)) (take n ws)
    pub bits : 8 * sum (map (λ m. m.size) (map move (targets (take n ws)))) ≡ sum (map word_length (take n ws))

  pub maps_rows : (n : ℕ) (ws : List ℕ) → all (λ w. is_good (entry_verdict p w)) ws ≡ true → not (any (eqb 0) (take n ws)) ≡ true → MapsRows n ws
  unfolding targets
  maps_rows zero ws g z = record { moves = refl; bits = refl }
  maps_rows (suc n) [] g z = record { moves = refl; bits = refl }
  maps_rows (suc n) (w ∷ ws) g z =
      let a = neither (eqb 0 w) (any (eqb 0) (take n ws)) (not-true _ z) in
      let good = and_left (is_good (entry_verdict p w)) (all (λ v. is_good (entry_verdict p v)) ws) g in
      let k = named_row p w good a.0 in
      let f = facts k.1 in
      let rest = maps_rows n ws (and_right (is_good (entry_verdict p w)) _ g) (ap not a.1) in
      let t = targets_named p (take n ws) k.1 in
      record {
        moves = rw (t, f.moves, rest.moves);
        bits = rw t (omega (arith, f.length, rest.bits));
      }

-- a legal mapping, taken apart
pub record LegalMapping (d : List ℕ) (p : ℕ) : Type 0 where
  pub words : all (λ w. is_good (entry_verdict p w)) (map_words d p) ≡ true
  pub nonzero : not (any (eqb 0) (take (read d (map_count p)) (map_words d p))) ≡ true
  pub bits : sum (map word_length (take (read d (map_count p)) (map_words d p))) ≤ most_bits

pub legal_mapping : (d : List ℕ) (p : ℕ) → mapping_legal d p ≡ true → LegalMapping d p
unfolding mapping_legal
legal_mapping d p h =
    let ws = map_words d p in
    let n = read d (map_count p) in
    let g = and_left (all (λ w. is_good (entry_verdict p w)) ws) _ h in
    let c = sym (good_count ws n) ∙ and_right (all (λ w. is_good (entry_verdict p w)) ws) _ h in
    let b : 8 * 0 + sum (map word_length (take n ws)) ≤ most_bits =
    ltb-false most_bits _ (not-true _ (and_right (not (any (eqb 0) (take n ws))) _ c)) in
    record { words = g; nonzero = and_left (not (any (eqb 0) (take n ws))) _ c; bits = omega arith }

-- ---- a list filled up

module _ {A : Type 0} (s : A) where
  get_or_padded : (n : ℕ) (xs : List A) (i : ℕ) → i < n → get_or (padded s n xs) i s ≡ get_or xs i s
  get_or_padded zero xs i h = absurd (omega arith)
  get_or_padded (suc n) [] zero h = refl
  get_or_padded (suc n) [] (suc i) h = get_or_padded n [] i (omega arith)
  get_or_padded (suc n) (x ∷ xs) zero h = refl
  get_or_padded (suc n) (x ∷ xs) (suc i) h = get_or_padded n xs i (omega arith)

  take_padded : (n : ℕ) (xs : List A) → length xs ≤ n → take (length xs) (padded s n xs) ≡ xs
  take_padded n [] h = refl
  take_padded zero (x ∷ xs) h = absurd (omega arith)
  take_padded (suc n) (x ∷ xs) h = ap (λ (ys : List A). x ∷ ys) (take_padded n xs (omega arith))

-- ---- the moves of mapped rows fit

each_fits : (xs : List Row) → ((x : Row) → In x xs → In x table) → (i : ℕ) → i < length xs → MoveFits (get_or (map move xs) i no_move)
each_fits [] h i l = absurd (omega arith)
each_fits (x ∷ xs) h zero l = record { size = is_size x.type; inside = within (h x here) }
each_fits (x ∷ xs) h (suc i) l = each_fits xs (λ y j. h y (there j)) i (omega arith)

joined_rows : (d : List ℕ) (xs : List Row) → joined_moves d (map move xs) ≡ joined d xs
unfolding joined_moves joined
joined_rows d [] = refl
joined_rows d (x ∷ xs) = rw (joined_rows d xs)

-- THE LAWS FOR CALLERS: of a legal mapping with a count of eight at most
module _ (d : List ℕ) (p : ℕ) (h : mapping_legal d p ≡ true) (few : read d (map_count p) ≤ most_moves) where
  pub maps_count : length (mapped d p) ≡ read d (map_count p)
  unfolding mapped
  maps_count =
      let g = legal_mapping d p h in
      counted p (read d (map_count p)) (map_words d p) g.words g.nonzero (omega (arith, length_words d p))

  eight_bytes : sum (map (λ m. m.size) (map move (mapped d p))) ≤ 8
  unfolding mapped
  eight_bytes =
      let g = legal_mapping d p h in
      omega (arith, (maps_rows p (read d (map_count p)) (map_words d p) g.words g.nonzero).bits, g.bits)

  -- the plan that it gives fits
  pub plan_fits : MovesFit (plan_for (mapped d p)).moves (plan_for (mapped d p)).count
  unfolding plan_for
  plan_fits =
      let xs = mapped d p in
      let l : length (map move xs) ≡ length xs = length-map xs move in
      let c = maps_count in
      record {
        few = omega arith;
        each = λ i k. rw (get_or_padded no_move most_moves (map move xs) i (omega arith)) (each_fits xs (λ x j. mapped_in d p j) i k);
        room = rw (← l, take_padded no_move most_moves (map move xs) (omega arith)) eight_bytes;
      }

  -- the ready frame of that plan is the one of the rules
  pub ready_mapped : ready_by d (plan_for (mapped d p)) ≡ ready_for d p
  unfolding ready_by plan_for ready_for
  ready_mapped =
      let xs = mapped d p in
      let c = maps_count in
      let l : length (map move xs) ≡ length xs = length-map xs move in
      rw (← l, take_padded no_move most_moves (map move xs) (omega arith), joined_rows d xs)

-- ---- a plan worked afresh, slot by slot

module _ {A : Type 0} (s : A) where
  -- the next slot filled
  set_padded : (n : ℕ) (xs : List A) (x : A) → length xs < n → set (padded s n xs) (length xs) x ≡ padded s n (xs ++ (x ∷ []))
  set_padded zero xs x h = absurd (omega arith)
  set_padded (suc n) [] x h = refl
  set_padded (suc n) (y ∷ xs) x h = ap (λ (ys : List A). y ∷ ys) (set_padded n xs x (omega arith))

pub length_words_from : (n place : ℕ) (d : List ℕ) → length (words_from n place d) ≡ n
unfolding words_from
length_words_from zero place d = refl
length_words_from (suc n) place d = ap suc (length_words_from n (place + 4) d)

one_more : (n place : ℕ) (d : List ℕ) → words_from (suc n) place d ≡ words_from n place d ++ (value (part (place + 4 * n) 4 d) ∷ [])
unfolding words_from
one_more zero place d = let e : place + 4 * 0 ≡ place = omega arith in rw e
one_more (suc n) place d =
    let e : place + 4 + 4 * n ≡ place + 4 * suc n = omega arith in
    ap (λ (ws : List ℕ). value (part place 4 d) ∷ ws) (one_more n (place + 4) d ∙ rw e)

pub take_words : (n k place : ℕ) (d : List ℕ) → k ≤ n → take k (words_from n place d) ≡ words_from k place d
unfolding words_from
take_words n zero place d h = refl
take_words zero (suc k) place d h = absurd (omega arith)
take_words (suc n) (suc k) place d h = ap (λ (ws : List ℕ). value (part place 4 d) ∷ ws) (take_words n k (place + 4) d (omega arith))

pub none_named : (way : Direction) (place : ℕ) (d : List ℕ) → replicate 8 no_move ≡ moves_named way 0 place d
unfolding moves_named words_from
none_named way place d = refl

pub next_named : (way : Direction) (k place : ℕ) (d : List ℕ) → k < 8 →
    set (moves_named way k place d) k (word_move way (value (part (place + 4 * k) 4 d))) ≡ moves_named way (k + 1) place d
unfolding moves_named
next_named way k place d h =
    let ws = words_from k place d in
    let l : length (map (word_move way) ws) ≡ k = length-map ws (word_move way) ∙ length_words_from k place d in
    rw (add-one k, one_more k place d, map-append)
    (ap (λ (i : ℕ). set (padded no_move 8 (map (word_move way) ws)) i (word_move way (value (part (place + 4 * k) 4 d)))) (sym l)
    ∙ set_padded no_move 8 (map (word_move way) ws) (word_move way (value (part (place + 4 * k) 4 d))) (omega arith))

-- the words within the count name the moves of the mapped rows
moves_mapped : (d : List ℕ) (p : ℕ) → mapping_legal d p ≡ true → read d (map_count p) ≤ most_moves →
    map (word_move (direction_of p)) (words_from (read d (map_count p)) (words_place p) d) ≡ map move (mapped d p)
unfolding mapped
moves_mapped d p h few =
    let g = legal_mapping d p h in
    let n = read d (map_count p) in
    rw (← take_words 8 n (words_place p) d few, words_behind d p) (sym (maps_rows p n (map_words d p) g.words g.nonzero).moves)

-- THE LAW: the count and the named moves are the plan of the rules
pub fresh_plan : (d : List ℕ) (p first count : ℕ) → first ≡ words_place p → count ≡ read d (map_count p) →
    mapping_legal d p ≡ true → read d (map_count p) ≤ most_moves →
    ◌≡◌ {A = Plan} (record { count = count; moves = moves_named (way_of (leb each_way p)) count first d }) (plan_for (mapped d p))
unfolding plan_for moves_named
fresh_plan d p first count at is h few =
    rw (is, way_of_lem p, at) (as_plan (sym (maps_count d p h few)) (ap (padded no_move most_moves) (moves_mapped d p h few)))

-- THE LAW FOR CALLERS: what a plan is that passed the test of its mapping
pub record Tested (d : List ℕ) (p : ℕ) (plan : Plan) : Type 0 where
  pub few : read d (map_count p) ≤ most_moves
  pub legal : mapping_legal d p ≡ true
  pub fresh : plan ≡ plan_for (mapped d p)
  pub fits : MovesFit plan.moves plan.count
  pub ready : ready_by d plan ≡ ready_for d p

pub tested : (d : List ℕ) (p : ℕ) (plan : Plan) →
    (leb (read d (map_count p)) most_moves && (mapping_legal d p && same_plan plan (plan_for (mapped d p)))) ≡ true → Tested d p plan
tested d p plan h =
    let few = leb-true _ _ (and_left (leb (read d (map_count p)) most_moves) _ h) in
    let r = and_right (leb (read d (map_count p)) most_moves) _ h in
    let legal = and_left (mapping_legal d p) _ r in
    let e = same_plan_lem plan (plan_for (mapped d p)) (and_right (mapping_legal d p) _ r) in
    record {
      few = few;
      legal = legal;
      fresh = e;
      fits = subst (λ (x : Plan). MovesFit x.moves x.count) (sym e) (plan_fits d p legal few);
      ready = ap (ready_by d) e ∙ ready_mapped d p legal few;
    }
