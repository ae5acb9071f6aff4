-- A frame beside the one that a plan gives, value by value where it stands, and the zeros behind.
-- Assumes nothing.
use Prim.Native.Nat.{ℕ, zero, suc, ◌+◌, ◌*◌, ◌-◌, ◌<◌, ◌≤◌}
use native.Mathlib.Numerals.{add-one}
use native.Mathlib.Omega.{arith}
use mathlib.Core.Path.{◌≡◌, refl, sym, ◌∙◌, ap}
use mathlib.Core.Bool.{Bool, true, false, ◌&&◌, and_assoc, and-false}
use mathlib.Core.List.{List, [], ◌∷◌, ◌++◌}
use borrow.Author.Tests.{eqb-true, eqb-false, eq-eqb, ne_eqb, ltb-true, ltb-false}
use lib.Bits.{bit_or}
use lib.Dec.{eqb, ltb}
use lib.ListN.{length, take, drop, get_or}
use lib.Seq.{drop-cons, drop-drop}
use mir.Val.{Fits}
use mir.Syntax.{w8}
use Rattle.rules_dictionary.specs.Numbers.{value, part, are_bytes, padded}
use Rattle.rules_dictionary.specs.Table.{dictionary_length}
use Rattle.rules_dictionary.specs.Plans.{pdo_data}
use Rattle.rules_dictionary.proofs.Rows.{part_bytes}
use Rattle.dictionary.specs.Sizes.{IsSize}
use Rattle.dictionary.proofs.Bytes.{value_step, value_none}
use Rattle.rules.specs.Outcome.{same_by, same_data}
use Rattle.form.specs.Form.{each, word_at, move_of, plan_at, data_at, data_length}
use Rattle.form.specs.Own.{is_zero}
use Rattle.form.proofs.Tested.{or-zero}
use Rattle.mapping.specs.Moves.{joined_moves, ready_by, MovesFit}
use Rattle.mapping.proofs.Joining.{same_value}
use Rattle.mapping.proofs.Assembly.{joined_room, are_bytes_lem}
use Rattle.mapping.proofs.Steps.{left_at, bytes_left, sized_part, Reached, none_reached, none_joined, further, move_fits}
use Rattle.mapping.proofs.Steps.{joined_step, value_sized, longer}

-- ---- zeros, read from both ends

module _ (bs : List ℕ) where
  pub zeros_of : (n place : ℕ) → value (part place n bs) ≡ 0 → (i : ℕ) → i < n → get_or bs (place + i) 0 ≡ 0
  zeros_of zero place e i h = absurd (omega arith)
  zeros_of (suc n) place e zero h =
      let z : place + 0 ≡ place = omega arith in
      rw z (omega (arith, value_step n place bs))
  zeros_of (suc n) place e (suc i) h =
      let z : place + suc i ≡ place + 1 + i = omega arith in
      rw z (zeros_of n (place + 1) (omega (arith, value_step n place bs)) i (omega arith))

  pub zeros_to : (n place : ℕ) → ((i : ℕ) → i < n → get_or bs (place + i) 0 ≡ 0) → value (part place n bs) ≡ 0
  zeros_to zero place h = value_none place bs
  zeros_to (suc n) place h =
      let a : get_or bs place 0 ≡ 0 = let z : place + 0 ≡ place = omega arith in rw z at (h 0 (omega arith)) in
      let b = zeros_to n (place + 1) (λ i l. let z : place + suc i ≡ place + 1 + i = omega arith in rw z at (h (suc i) (omega arith))) in
      omega (arith, value_step n place bs)

  -- reads of a width from both ends see all that they cover
  module _ (m n place : ℕ) (low : m ≤ n) (high : n ≤ 2 * m) where
    abbrev front : ℕ
    front = value (part place m bs)

    abbrev back : ℕ
    back = value (part (place + (n - m)) m bs)

    covered : front ≡ 0 → back ≡ 0 → value (part place n bs) ≡ 0
    covered f b = zeros_to n place (λ i h. go i h (ltb i m) refl)
      where
        go : (i : ℕ) → i < n → (t : Bool) → ltb i m ≡ t → get_or bs (place + i) 0 ≡ 0
        go i h true e = zeros_of m place f i (ltb-true i m e)
        go i h false e =
            let l : m ≤ i = ltb-false i m e in
            let z : place + (n - m) + (i - (n - m)) ≡ place + i = omega arith in
            rw z at (zeros_of m (place + (n - m)) b (i - (n - m)) (omega arith))

    pub both_ends : eqb (bit_or front back) 0 ≡ eqb (value (part place n bs)) 0
    both_ends = or-zero front back ∙ go (eqb (value (part place n bs)) 0) refl (is_zero front) (is_zero back) refl refl
      where
        go : (a : Bool) → eqb (value (part place n bs)) 0 ≡ a → (f b : Bool) → is_zero front ≡ f → is_zero back ≡ b → (f && b) ≡ a
        go true e f b p q =
            let z = zeros_of n place (eqb-true _ _ e) in
            let x : front ≡ 0 = zeros_to m place (λ i h. z i (omega arith)) in
            let y : back ≡ 0 =
            zeros_to m (place + (n - m))
            (λ i h. let k : place + (n - m + i) ≡ place + (n - m) + i = omega arith in rw k at (z (n - m + i) (omega arith))) in
            rw (sym p ∙ eq-eqb front 0 x, sym q ∙ eq-eqb back 0 y)
        go false e true true p q = absurd (eqb-false _ _ e (covered (eqb-true front 0 p) (eqb-true back 0 q)))
        go false e true false p q = refl
        go false e false b p q = refl

-- zeros are all that fills up
all_zero : (xs : List ℕ) → same_by eqb xs (padded 0 (length xs) []) ≡ eqb (value xs) 0
unfolding value
all_zero [] = refl
all_zero (x ∷ xs) = rw (all_zero xs) (go (eqb x 0) (eqb (value xs) 0) refl refl)
  where
    go : (a b : Bool) → eqb x 0 ≡ a → eqb (value xs) 0 ≡ b → (a && b) ≡ eqb (x + 256 * value xs) 0
    go true true e f =
        let p : x ≡ 0 = eqb-true x 0 e in
        let q : value xs ≡ 0 = eqb-true (value xs) 0 f in
        sym (eq-eqb (x + 256 * value xs) 0 (omega arith))
    go true false e f = let q : value xs ≡ 0 → ⊥ = eqb-false (value xs) 0 f in sym (ne_eqb (x + 256 * value xs) 0 (λ z. q (omega arith)))
    go false b e f = let p : x ≡ 0 → ⊥ = eqb-false x 0 e in sym (ne_eqb (x + 256 * value xs) 0 (λ z. p (omega arith)))

-- ---- one value before the rest

same_front : (xs ys zs : List ℕ) (n : ℕ) → length ys ≤ n →
    same_by eqb (take n xs) (padded 0 n (ys ++ zs))
    ≡ (same_by eqb (take (length ys) xs) ys && same_by eqb (take (n - length ys) (drop (length ys) xs)) (padded 0 (n - length ys) zs))
same_front xs [] zs n h = let e : n - 0 ≡ n = omega arith in rw e
same_front xs (y ∷ ys) zs zero h = absurd (omega arith)
same_front [] (y ∷ ys) zs (suc n) h = refl
same_front (x ∷ xs) (y ∷ ys) zs (suc n) h =
    let e : suc n - suc (length ys) ≡ n - length ys = omega arith in
    rw (same_front xs ys zs n (omega arith), e) (sym (and_assoc (eqb x y) _ _))

-- ---- a plan's moves, as the code goes through them

-- what is left to compare: so many bytes from a place on, beside the bytes of the moves that are left of the plan at a place
abbrev same_left : List ℕ → List ℕ → ℕ → ℕ → ℕ → ℕ → Bool
same_left d bs place k at room = same_by eqb (part at room bs) (padded 0 room (joined_moves d (left_at place bs k)))

listed_part : (n at : ℕ) (bs : List ℕ) → at + n ≤ length bs → each n at 1 (λ i. get_or bs i 0) ≡ part at n bs
listed_part zero at bs h = refl
listed_part (suc n) at bs h =
    rw (drop-cons bs at 0 (omega arith), ← add-one at) (ap (λ (xs : List ℕ). get_or bs at 0 ∷ xs) (listed_part n (at + 1) bs (omega arith)))

-- THE LAW: the frame is the plan's where its length is that of the mapped bytes, and its bytes are these and zeros
frame_same : (d bs : List ℕ) (place frame : ℕ) → frame + data_length ≤ length bs →
    same_data (data_at frame bs) (ready_by d (plan_at place bs))
    ≡ (eqb (get_or bs frame 0) (bytes_left d bs place 0) && same_left d bs place 0 (frame + 1) 8)
unfolding ready_by pdo_data
frame_same d bs place frame h = rw (listed_part 8 (frame + 1) bs (omega arith))

-- a frame and the plan at a place, as far as moves are compared: the next move's word stands at `word`, its value in the frame at `at`
pub record Compared (d bs : List ℕ) (frame place word at k : ℕ) : Type 0 where
  pub same : same_left d bs place k at (frame + 9 - at) ≡ same_left d bs place 0 (frame + 1) 8
  pub bytes : at + bytes_left d bs place k ≡ frame + 1 + bytes_left d bs place 0
  pub room : bytes_left d bs place 0 ≤ 8
  pub begun : frame + 1 ≤ at
  pub reached : Reached bs place word k

pub none_compared : (d bs : List ℕ) (frame place : ℕ) → MovesFit (plan_at place bs).moves (plan_at place bs).count →
    Compared d bs frame place (place + 1) (frame + 1) 0
none_compared d bs frame place f =
    let e : frame + 9 - (frame + 1) ≡ 8 = omega arith in
    record {
      same = rw e;
      bytes = refl;
      room = joined_room d (plan_at place bs).moves (plan_at place bs).count f;
      begun = omega arith;
      reached = none_reached bs place f;
    }

-- what holds of them all along
pub record Comparable (d bs : List ℕ) (frame : ℕ) : Type 0 where
  pub full : length d ≡ dictionary_length
  pub inside : frame + data_length ≤ length bs
  pub values : are_bytes d ≡ true
  pub contents : are_bytes bs ≡ true

-- lent bytes can be compared
pub comparable : (d bs : List ℕ) (frame : ℕ) → length d ≡ dictionary_length → frame + data_length ≤ length bs →
    ((i : ℕ) → Fits w8 (get_or d i 0)) → ((i : ℕ) → Fits w8 (get_or bs i 0)) → Comparable d bs frame
comparable d bs frame full inside ds cs =
    record {
      full = full;
      inside = inside;
      values = are_bytes_lem d (λ i h. omega (arith, ds i));
      contents = are_bytes_lem bs (λ i h. omega (arith, cs i));
    }

module _ {d bs : List ℕ} {frame place : ℕ} (g : Comparable d bs frame) {word at k : ℕ} (c : Compared d bs frame place word at k) where
  abbrev verdict : Bool
  verdict = same_data (data_at frame bs) (ready_by d (plan_at place bs))

  -- the next move, by the word that the code reads and takes apart
  module _ (h : k < get_or bs place 0) {v p s : ℕ} (reads : v ≡ word_at word bs) (ep : p ≡ (move_of v).place) (es : s ≡ (move_of v).size) where
    move : (p + s ≤ length d) × IsSize s
    move = rw g.full (move_fits c.reached h reads ep es)

    theirs : length (part p s d) ≡ s
    theirs = value_sized c.reached h reads ep es d g.full

    shorter : bytes_left d bs place k ≡ s + bytes_left d bs place (k + 1)
    shorter = longer c.reached h reads ep es d g.full

    pub value_within : at + s ≤ frame + data_length
    value_within = omega (arith, shorter, c.bytes, c.room)

    ours : at + s ≤ length bs
    ours = omega (arith, value_within, g.inside)

    pub value_room : (at + s ≤ length bs) × ((p + s ≤ length d) × IsSize s)
    value_room = (ours, move)

    compared :
        same_left d bs place 0 (frame + 1) 8
        ≡ (eqb (value (part at s bs)) (value (part p s d)) && same_left d bs place (k + 1) (at + s) (frame + 9 - (at + s)))
    compared =
        let e : frame + 9 - at - s ≡ frame + 9 - (at + s) = omega arith in
        let whole = same_value (part at s bs) (part p s d) s (sized_part at s bs ours) theirs (part_bytes at s bs g.contents)
        (part_bytes p s d g.values) in
        let front = same_front (drop at bs) (part p s d) (joined_moves d (left_at place bs (k + 1))) (frame + 9 - at)
        (rw theirs (omega (arith, value_within))) in
        sym c.same ∙ rw (joined_step c.reached h reads ep es d, front, theirs, whole, drop-drop s at bs, e) refl

    pub one_more : eqb (value (part at s bs)) (value (part p s d)) ≡ true → Compared d bs frame place (word + 4) (at + s) (k + 1)
    one_more e =
        record {
          same = sym (rw e at compared);
          bytes = omega (arith, shorter, c.bytes);
          room = c.room;
          begun = omega (arith, c.begun);
          reached = further c.reached h;
        }

    pub other_value : eqb (value (part at s bs)) (value (part p s d)) ≡ false → false ≡ verdict
    other_value e =
        sym (frame_same d bs place frame g.inside ∙ rw (rw e at compared, and-false (eqb (get_or bs frame 0) (bytes_left d bs place 0))))

  -- no move is left
  module _ (h : get_or bs place 0 ≤ k) where
    all_mapped : at - (frame + 1) ≡ bytes_left d bs place 0
    all_mapped = let e : bytes_left d bs place k ≡ 0 = rw (none_joined c.reached h d) in omega (arith, c.bytes)

    pub zeros_room : (at + (8 - (at - (frame + 1))) ≤ length bs) × (at ≤ frame + 9)
    zeros_room = (omega (arith, all_mapped, c.room, c.begun, g.inside), omega (arith, all_mapped, c.room, c.begun))

    pub other_length : (get_or bs frame 0 ≡ at - (frame + 1) → ⊥) → false ≡ verdict
    other_length n =
        sym (frame_same d bs place frame g.inside ∙ rw (ne_eqb (get_or bs frame 0) (bytes_left d bs place 0) (λ e. n (e ∙ sym all_mapped))))

    pub zeros_left : get_or bs frame 0 ≡ at - (frame + 1) → eqb (value (part at (8 - (at - (frame + 1))) bs)) 0 ≡ verdict
    zeros_left e =
        let z : 8 - (at - (frame + 1)) ≡ frame + 9 - at = omega (arith, all_mapped, c.room, c.begun) in
        let inside : at + (frame + 9 - at) ≤ length bs = omega (arith, zeros_room.1, g.inside) in
        let last : same_left d bs place k at (frame + 9 - at) ≡ eqb (value (part at (frame + 9 - at) bs)) 0 =
        rw (none_joined c.reached h d) (rw (sized_part at (frame + 9 - at) bs inside) at (all_zero (part at (frame + 9 - at) bs))) in
        rw z
        (sym last ∙ c.same
        ∙ sym (frame_same d bs place frame g.inside ∙ rw (eq-eqb (get_or bs frame 0) (bytes_left d bs place 0) (e ∙ all_mapped))))
