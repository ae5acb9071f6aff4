-- The laws for callers: what the code does by a receive PDO's plan is what the rules do by the rows that it maps.
-- Assumes nothing.
use Prim.Native.Nat.{ℕ, zero, suc, ◌^◌, ◌<◌, ◌≤◌}
use native.Mathlib.Omega.{arith}
use mathlib.Core.Path.{◌≡◌, refl, sym, ◌∙◌, ap, ap₂, subst}
use mathlib.Core.Logic.{◌⊎◌, inl, inr}
use mathlib.Core.Bool.{Bool, true, false, not, ◌&&◌, ◌||◌}
use mathlib.Core.List.{List, [], ◌∷◌, map}
use borrow.Author.Tests.{eqb-true, ne_eqb, lt-ltb, le-ltb, ltb-true, ltb-false, not-true}
use lib.Dec.{eqb, ltb}
use lib.ListN.{length, take, drop, length-map}
use Rattle.rules_dictionary.specs.declared.Plan.{Plan}
use Rattle.rules_dictionary.specs.declared.Move.{Move}
use Rattle.rules_dictionary.specs.Numbers.{value, are_bytes, all, any, padded}
use Rattle.rules_dictionary.specs.declared.Role.TheVariants.{Plain, ModeOfOperation}
use Rattle.rules_dictionary.specs.Table.{Row, size_of, place_of, same, Direction, receive, transmit, direction_of, pdos, receive_pdos}
use Rattle.rules_dictionary.specs.Table.{transmit_pdos, map_count, each_way, most_moves, control_word, mode, target_position}
use Rattle.rules_dictionary.specs.Table.{profile_velocity, profile_acceleration, profile_deceleration, target_velocity, heartbeat_time}
use Rattle.rules_dictionary.specs.Table.{open_table}
use Rattle.rules_dictionary.specs.Values.{read, store, stored, unpacked}
use Rattle.rules_dictionary.specs.Aborts.{good, bad, is_good, first_firing, below_range, bad_value}
use Rattle.rules_dictionary.specs.Legal.{is_mode, suits, other_bad_value, swaps_limits, mapping_verdict, value_verdict, entry_verdict, map_words}
use Rattle.rules_dictionary.specs.Plans.{targets, mapped, move, no_move, plan_for}
use Rattle.rules_dictionary.specs.Members.{In, here, there, Each}
use Rattle.rules_dictionary.proofs.Tests.{and_left, and_right, and_both, all_in, each_in, none_in}
use Rattle.rules_dictionary.proofs.Rows.{all_drop, value_take}
use Rattle.rules_dictionary.proofs.Members.{in_left, count_in_lem, map_in, in_cons}
use Rattle.rules_services.specs.PdoTraffic.{mapped_length, are_legal}
use Rattle.rules_services.specs.Written.{wrote}
use Rattle.theorems.proofs.Dictionary.{is_pdo, DictionaryOk, not_above_lem, words_legal}
use Rattle.form.specs.Form.{state_length, plan_in}
use Rattle.mapping.specs.Words.{mappables, mapping_legal}
use Rattle.mapping.proofs.Worked.{plan_fits, maps_count, legal_mapping, Tested}
use Rattle.mapping.proofs.Legality.{neither, named_row, targets_named}
use Rattle.mapping.specs.Received.{PlanFits, moves_of, sizes, has_place, is_legal, moves_legal, stored_moves, Received, Receives}

-- ---- a value for a row that may be received

-- not below 1 is not 0
nonzero : (v : ℕ) → not (ltb v 1) ≡ not (eqb v 0)
nonzero zero = refl
nonzero (suc v) = rw (le-ltb (suc v) 1 (omega arith), ne_eqb (suc v) 0 (λ e. absurd (omega arith)))

-- of a value that fits the row only the lower end of the range is left to test, and of 6060h that it is a mode
module _ (x : Row) (wide : suc x.range.greatest ≡ 256 ^ size_of x) (d : List ℕ) (v : ℕ) (h : v < 256 ^ size_of x) where
  ranged : x.role ≡ Plain → is_good (value_verdict d x v) ≡ not (ltb v x.range.least)
  unfolding value_verdict first_firing other_bad_value swaps_limits mapping_verdict
  ranged e = rw (e, le-ltb x.range.greatest v (omega arith)) (go (ltb v x.range.least))
    where
      go : (b : Bool) → is_good (elim b [ true ↦ bad below_range | false ↦ good ]) ≡ not b
      go true = refl
      go false = refl

  free : x.role ≡ Plain → x.range.least ≡ 0 → is_good (value_verdict d x v) ≡ true
  free e z = ranged e ∙ rw (z, le-ltb v 0 (omega arith))

  positive : x.role ≡ Plain → x.range.least ≡ 1 → is_good (value_verdict d x v) ≡ not (eqb v 0)
  positive e z = ranged e ∙ rw z (nonzero v)

  chosen : x.role ≡ ModeOfOperation → x.range.least ≡ 0 → is_good (value_verdict d x v) ≡ is_mode v
  unfolding value_verdict first_firing other_bad_value swaps_limits mapping_verdict
  chosen e z = rw (e, z, le-ltb v 0 (omega arith), le-ltb x.range.greatest v (omega arith)) (go (is_mode v))
    where
      go : (b : Bool) → is_good (elim (not b) [ true ↦ bad bad_value | false ↦ good ]) ≡ b
      go true = refl
      go false = refl

-- the code's rule on it is the rules' own
abbrev Judged : Row → Type 0
Judged x = (d : List ℕ) (v : ℕ) → v < 256 ^ size_of x → is_good (value_verdict d x v) ≡ is_legal (place_of x) v

judged : Each Judged (mappables receive)
unfolding open_table
judged = (
  (λ d v h. free control_word refl d v h refl refl),
  (
    (λ d v h. chosen mode refl d v h refl refl),
    (
      (λ d v h. free target_position refl d v h refl refl),
      (
        (λ d v h. free profile_velocity refl d v h refl refl),
        (
          (λ d v h. positive profile_acceleration refl d v h refl refl),
          (
            (λ d v h. positive profile_deceleration refl d v h refl refl),
            ((λ d v h. free target_velocity refl d v h refl refl), tt),
          ),
        ),
      ),
    ),
  ),
)

-- ---- rows that may be received

-- each by a computed test: 6040h and 6060h are told by their places; 1017h is not among them, nor what may be mapped to transmit, nor a PDO's row
module _ {x : Row} (i : In x (mappables receive)) where
  control_told : same control_word x ≡ eqb (place_of x) (place_of control_word)
  unfolding open_table
  control_told = map_in (same control_word) (λ y. eqb (place_of y) (place_of control_word)) i refl

  mode_told : same mode x ≡ eqb (place_of x) (place_of mode)
  unfolding open_table
  mode_told = map_in (same mode) (λ y. eqb (place_of y) (place_of mode)) i refl

  no_heartbeat : same heartbeat_time x ≡ false
  no_heartbeat = map_in (same heartbeat_time) (λ y. false) i refl

  not_sent : suits transmit x.mappable ≡ false
  not_sent = map_in (λ y. suits transmit y.mappable) (λ y. false) i refl

  pub no_pdo_row : is_pdo x.role ≡ false
  no_pdo_row = map_in (λ y. is_pdo y.role) (λ y. false) i refl

-- ---- by the rows' moves

pub length-rows : (xs : List Row) → sizes (map move xs) ≡ mapped_length xs
unfolding mapped_length
length-rows [] = refl
length-rows (x ∷ xs) = rw (length-rows xs)

pub stored_rows : (xs : List Row) (bs d : List ℕ) → stored_moves (map move xs) bs d ≡ stored (unpacked xs bs) d
unfolding stored_moves stored store unpacked
stored_rows [] bs d = refl
stored_rows (x ∷ xs) bs d = stored_rows xs (drop (size_of x) bs) (store x (value (take (size_of x) bs)) d)

pub legal_rows : (xs : List Row) (d bs : List ℕ) → Received xs → are_bytes bs ≡ true → moves_legal (map move xs) bs ≡ are_legal d (unpacked xs bs)
unfolding moves_legal are_legal unpacked
legal_rows [] d bs r h = refl
legal_rows (x ∷ xs) d bs r h =
    ap₂ ◌&&◌ (sym (each_in Judged (r x here) judged d (value (take (size_of x) bs)) (value_take (size_of x) bs h)))
    (legal_rows xs d (drop (size_of x) bs) (λ y j. r y (there j)) (all_drop (size_of x) bs h))

-- a row that is told by its place among those that may be received
wrote_rows : (y : Row) → ((x : Row) → In x (mappables receive) → same y x ≡ eqb (place_of x) (place_of y)) →
    (xs : List Row) (bs : List ℕ) → Received xs → has_place (place_of y) (map move xs) ≡ wrote y (unpacked xs bs)
unfolding unpacked
wrote_rows y t [] bs r = refl
wrote_rows y t (x ∷ xs) bs r = ap₂ ◌||◌ (sym (t x (r x here))) (wrote_rows y t xs (drop (size_of x) bs) (λ z j. r z (there j)))

pub no_heartbeat_rows : (xs : List Row) (bs : List ℕ) → Received xs → wrote heartbeat_time (unpacked xs bs) ≡ false
unfolding unpacked
no_heartbeat_rows [] bs r = refl
no_heartbeat_rows (x ∷ xs) bs r = rw (no_heartbeat (r x here)) (no_heartbeat_rows xs (drop (size_of x) bs) (λ z j. r z (there j)))

pub quiet_rows : (xs : List Row) (bs : List ℕ) → Received xs → any (λ w. suits transmit w.row.mappable) (unpacked xs bs) ≡ false
unfolding unpacked
quiet_rows [] bs r = refl
quiet_rows (x ∷ xs) bs r = rw (not_sent (r x here)) (quiet_rows xs (drop (size_of x) bs) (λ z j. r z (there j)))

-- ---- a plan and the rows that it is for

-- THE LAWS FOR CALLERS: of the plan of a receive PDO that maps these rows

take_padded : (n : ℕ) (ms : List Move) → length ms ≤ n → take (length ms) (padded no_move n ms) ≡ ms
take_padded n [] h = refl
take_padded zero (m ∷ ms) h = absurd (omega arith)
take_padded (suc n) (m ∷ ms) h = ap (λ (l : List Move). m ∷ l) (take_padded n ms (omega arith))

module _ {plan : Plan} {xs : List Row} (r : Receives plan xs) where
  moves_are : moves_of plan ≡ map move xs
  unfolding plan_for
  moves_are =
      let l : length (map move xs) ≡ length xs = length-map xs move in
      ap moves_of r.fresh ∙ rw (← l) (take_padded most_moves (map move xs) (omega (arith, r.few)))

  pub length_is : sizes (moves_of plan) ≡ mapped_length xs
  length_is = ap sizes moves_are ∙ length-rows xs

  pub legal_is : (d bs : List ℕ) → are_bytes bs ≡ true → moves_legal (moves_of plan) bs ≡ are_legal d (unpacked xs bs)
  legal_is d bs h = ap (λ (ms : List Move). moves_legal ms bs) moves_are ∙ legal_rows xs d bs r.received h

  pub stored_is : (bs d : List ℕ) → stored_moves (moves_of plan) bs d ≡ stored (unpacked xs bs) d
  stored_is bs d = ap (λ (ms : List Move). stored_moves ms bs d) moves_are ∙ stored_rows xs bs d

  pub control_is : (bs : List ℕ) → has_place (place_of control_word) (moves_of plan) ≡ wrote control_word (unpacked xs bs)
  control_is bs = ap (has_place (place_of control_word)) moves_are ∙ wrote_rows control_word (λ x i. control_told i) xs bs r.received

  pub mode_is : (bs : List ℕ) → has_place (place_of mode) (moves_of plan) ≡ wrote mode (unpacked xs bs)
  mode_is bs = ap (has_place (place_of mode)) moves_are ∙ wrote_rows mode (λ x i. mode_told i) xs bs r.received

  pub heartbeat_is : (bs : List ℕ) → wrote heartbeat_time (unpacked xs bs) ≡ false
  heartbeat_is bs = no_heartbeat_rows xs bs r.received

  -- no object that may be mapped to transmit
  pub quiet_is : (bs : List ℕ) → any (λ w. suits transmit w.row.mappable) (unpacked xs bs) ≡ false
  quiet_is bs = quiet_rows xs bs r.received

-- ---- the plan of a legal mapping

-- the rows that legal words name may be mapped that way
among : (p n : ℕ) (ws : List ℕ) → all (λ w. is_good (entry_verdict p w)) ws ≡ true → not (any (eqb 0) (take n ws)) ≡ true →
    (x : Row) → In x (targets (take n ws)) → In x (mappables (direction_of p))
unfolding targets
among p zero ws g z x i = absurd (none_in i)
among p (suc n) [] g z x i = absurd (none_in i)
among p (suc n) (w ∷ ws) g z x i =
    let a = neither (eqb 0 w) (any (eqb 0) (take n ws)) (not-true _ z) in
    let k = named_row p w (and_left (is_good (entry_verdict p w)) (all (λ v. is_good (entry_verdict p v)) ws) g) a.0 in
    go k.1.among (in_cons (subst (In x) (targets_named p (take n ws) k.1) i))
    (among p n ws (and_right (is_good (entry_verdict p w)) (all (λ v. is_good (entry_verdict p v)) ws) g) (ap not a.1) x)
  where
    go : {y : Row} → In y (mappables (direction_of p)) → (x ≡ y) ⊎ In x (targets (take n ws)) →
        (In x (targets (take n ws)) → In x (mappables (direction_of p))) → In x (mappables (direction_of p))
    go m (inl e) rest = subst (λ (z : Row). In z (mappables (direction_of p))) (sym e) m
    go m (inr j) rest = rest j

-- of a receive PDO with a legal mapping
module _ (d : List ℕ) (p : ℕ) (l : p < each_way) (legal : mapping_legal d p ≡ true) (few : read d (map_count p) ≤ most_moves) where
  mapped_received : Received (mapped d p)
  unfolding mapped
  mapped_received x i =
      let g = legal_mapping d p legal in
      let way : direction_of p ≡ receive = rw (lt-ltb p each_way l) in
      subst (λ (w : Direction). In x (mappables w)) way (among p (read d (map_count p)) (map_words d p) g.words g.nonzero x i)

  pub receives : Receives (plan_for (mapped d p)) (mapped d p)
  receives = record { fresh = refl; few = omega (arith, maps_count d p legal few); received = mapped_received; fits = plan_fits d p legal few }

-- the plan of one that stands in a state's bytes
pub in_place : (bs : List ℕ) (p : ℕ) {xs : List Row} → length bs ≡ state_length → p < each_way → Receives (plan_in bs p) xs → PlanFits bs p
in_place bs p whole l r = record { whole = whole; number = omega arith; fits = r.fits }

-- of one that passed the test of its mapping
pub tested_receives : {d : List ℕ} {p : ℕ} {plan : Plan} → p < each_way → Tested d p plan → Receives plan (mapped d p)
tested_receives {d} {p} l t = subst (λ (plan : Plan). Receives plan (mapped d p)) (sym t.fresh) (receives d p l t.legal t.few)

-- of one of a legal dictionary
few_moves_lem : all (λ p. eqb (map_count p).range.greatest most_moves) receive_pdos ≡ true
few_moves_lem = refl

below_four : all (λ p. ltb p each_way) receive_pdos ≡ true
below_four = refl

pub legal_receives : {n : ℕ} {d : List ℕ} → DictionaryOk n d → {p : ℕ} → In p receive_pdos → Receives (plan_for (mapped d p)) (mapped d p)
unfolding mapping_legal
legal_receives {n} {d} ok {p} i =
    let j : In p pdos = in_left transmit_pdos i in
    let few = ltb-false (map_count p).range.greatest (read d (map_count p)) (not_above_lem ok (count_in_lem j)) in
    let most = eqb-true (map_count p).range.greatest most_moves (all_in (λ p. eqb (map_count p).range.greatest most_moves) i few_moves_lem) in
    receives d p (ltb-true p each_way (all_in (λ p. ltb p each_way) i below_four)) (and_both _ _ (words_legal ok j) (ok.counts p j))
    (omega (arith, few, most))
