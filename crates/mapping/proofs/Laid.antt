-- The values of a plan's moves laid where a frame stands, one behind another, then its length: the plan's own frame.
-- Assumes nothing.
use Prim.Native.Nat.{ℕ, zero, suc, ◌+◌, ◌*◌, ◌-◌, ◌<◌, ◌≤◌}
use native.Mathlib.Numerals.{add-one}
use native.Mathlib.Omega.{arith}
use mathlib.Core.Path.{◌≡◌, refl, sym, ◌∙◌, ap}
use mathlib.Core.Bool.{true}
use mathlib.Core.List.{List, [], ◌∷◌, ◌++◌}
use lib.ListN.{length, take, drop, get_or, set}
use lib.Seq.{sets, set-set, set_comm, length-sets, drop-drop, drop-set-lt, get_or-drop, get_or-set_same}
use mir.Val.{Fits}
use mir.Syntax.{w8}
use Rattle.rules_dictionary.specs.declared.Plan.{Plan}
use Rattle.rules_dictionary.specs.declared.PdoData.{PdoData}
use Rattle.state.specs.declared.State.{State}
use Rattle.rules_dictionary.specs.Numbers.{value, bytes, part, are_bytes, padded}
use Rattle.rules_dictionary.specs.Table.{each_way, dictionary_length}
use Rattle.rules_dictionary.specs.Plans.{pdo_data}
use Rattle.rules_dictionary.proofs.Rows.{bytes_value, part_bytes}
use Rattle.rules_dictionary.proofs.Padded.{length-padded}
use Rattle.dictionary.specs.Sizes.{IsSize}
use Rattle.form.specs.Form.{each, data_form, data_at, data_length, word_at, move_at, move_of, plan_at, plan_place, plan_in, ready_place, state_of}
use Rattle.form.specs.Typed.{DataTyped}
use Rattle.form.specs.Holding.{Holds, readying}
use Rattle.form.proofs.Rows.{sets_append}
use Rattle.form.proofs.OneForm.{plan_stands, ready_stands}
use Rattle.form.proofs.Holding.{held_state, put_one_ready}
use Rattle.mapping.specs.Moves.{joined_moves, ready_by, MovesFit}
use Rattle.mapping.proofs.Assembly.{joined_room, are_bytes_lem}
use Rattle.mapping.proofs.Steps.{left_at, bytes_left, Reached, none_reached, none_joined, further, move_fits, joined_step, value_sized, longer}

-- ---- what stands behind what is written stays

pub drop_sets : (vs d : List ℕ) (i at : ℕ) → i + length vs ≤ at → drop at (sets d i vs) ≡ drop at d
drop_sets [] d i at h = refl
drop_sets (v ∷ vs) d i at h = drop_sets vs (set d i v) (suc i) at (omega arith) ∙ drop-set-lt at d i v (omega arith)

part_behind : (place i n : ℕ) (bs bs' : List ℕ) → drop place bs ≡ drop place bs' → place ≤ i → part i n bs ≡ part i n bs'
part_behind place i n bs bs' e h =
    let z : place + (i - place) ≡ i = omega arith in
    ap (take n) (rw (drop-drop (i - place) place bs, drop-drop (i - place) place bs', z) at (ap (drop (i - place)) e))

each_behind : {A : Type 0} (n place width : ℕ) (f g : ℕ → A) → ((i : ℕ) → place ≤ i → f i ≡ g i) → each n place width f ≡ each n place width g
each_behind zero place width f g h = refl
each_behind (suc n) place width f g h =
    rw (h place (omega arith), each_behind n (place + width) width f g (λ i l. h i (omega arith)))

-- a plan's bytes
pub plan_behind : (place : ℕ) (bs bs' : List ℕ) → drop place bs ≡ drop place bs' → plan_at place bs ≡ plan_at place bs'
unfolding plan_at move_at
plan_behind place bs bs' e =
    let z : place + 0 ≡ place = omega arith in
    let count : get_or bs place 0 ≡ get_or bs' place 0 =
    rw (get_or-drop place bs 0 0, get_or-drop place bs' 0 0, z) at (ap (λ (xs : List ℕ). get_or xs 0 0) e) in
    let moves = each_behind 8 (place + 1) 4 (λ i. move_of (value (part i 4 bs))) (λ i. move_of (value (part i 4 bs')))
    (λ i l. ap (λ (xs : List ℕ). move_of (value xs)) (part_behind place i 4 bs bs' e (omega arith))) in
    rw (count, moves)

-- ---- one value after another

-- the bytes bs as far as moves are laid: what is left to lay is what was to lay into those of the start; the plan stands behind the frame
pub record Laying (d start bs : List ℕ) (first place word at k : ℕ) : Type 0 where
  pub rest : sets bs at (joined_moves d (left_at place start k)) ≡ sets start first (joined_moves d (left_at place start 0))
  pub stays : drop place bs ≡ drop place start
  pub long : length bs ≡ length start
  pub bytes : at + bytes_left d start place k ≡ first + bytes_left d start place 0
  pub room : bytes_left d start place 0 ≤ 8
  pub reached : Reached start place word k

pub none_laid : (d start : List ℕ) (first place : ℕ) → MovesFit (plan_at place start).moves (plan_at place start).count →
    Laying d start start first place (place + 1) first 0
none_laid d start first place f =
    record {
      rest = refl;
      stays = refl;
      long = refl;
      bytes = refl;
      room = joined_room d (plan_at place start).moves (plan_at place start).count f;
      reached = none_reached start place f;
    }

-- what holds all along
pub record Layable (d start : List ℕ) (first place : ℕ) : Type 0 where
  pub full : length d ≡ dictionary_length
  pub before : first + 8 ≤ place
  pub inside : place ≤ length start
  pub values : are_bytes d ≡ true

-- lent bytes can be laid
pub layable : (d start : List ℕ) (first place : ℕ) → length d ≡ dictionary_length → first + 8 ≤ place → place ≤ length start →
    ((i : ℕ) → Fits w8 (get_or d i 0)) → Layable d start first place
layable d start first place full before inside ds =
    record { full = full; before = before; inside = inside; values = are_bytes_lem d (λ i h. omega (arith, ds i)) }

module _ {d start bs : List ℕ} {first place word at k : ℕ} (g : Layable d start first place) (c : Laying d start bs first place word at k) where
  -- the next move, by the word that the code reads and takes apart
  module _ (h : k < get_or start place 0) {v p s : ℕ} (reads : v ≡ value (part word 4 bs))
      (ep : p ≡ (move_of v).place) (es : s ≡ (move_of v).size) where
    as_begun : v ≡ word_at word start
    as_begun = reads ∙ ap value (part_behind place word 4 bs start c.stays (omega (arith, c.reached.stands)))

    shorter : bytes_left d start place k ≡ s + bytes_left d start place (k + 1)
    shorter = longer c.reached h as_begun ep es d g.full

    pub laid_within : at + s ≤ first + 8
    laid_within = omega (arith, shorter, c.bytes, c.room)

    pub laid_room : (at + s ≤ length bs) × ((p + s ≤ length d) × IsSize s)
    laid_room = (omega (arith, laid_within, g.before, g.inside, c.long), rw g.full (move_fits c.reached h as_begun ep es))

    pub one_laid : {r : ℕ} {bs' : List ℕ} → r ≡ value (part p s d) → bs' ≡ sets bs at (bytes s r) →
        Laying d start bs' first place (word + 4) (at + s) (k + 1)
    one_laid {r} {bs'} read put =
        let size : length (part p s d) ≡ s = value_sized c.reached h as_begun ep es d g.full in
        let back : bytes s r ≡ part p s d = ap (bytes s) read ∙ rw size at (bytes_value (part p s d) (part_bytes p s d g.values)) in
        let is : bs' ≡ sets bs at (part p s d) = put ∙ ap (sets bs at) back in
        let next = joined_step c.reached h as_begun ep es d in
        record {
          rest = rw (is, ← sets_append bs (part p s d) (joined_moves d (left_at place start (k + 1))) at (at + s) (rw size), ← next) c.rest;
          stays = rw is (drop_sets (part p s d) bs at place (rw size (omega (arith, laid_within, g.before))) ∙ c.stays);
          long = ap length is ∙ length-sets bs at (part p s d) ∙ c.long;
          bytes = omega (arith, shorter, c.bytes);
          room = c.room;
          reached = further c.reached h;
        }

  -- no move is left
  pub all_laid : get_or start place 0 ≤ k →
      (bs ≡ sets start first (joined_moves d (left_at place start 0))) × (at ≡ first + bytes_left d start place 0)
  all_laid h =
      let none = none_joined c.reached h d in
      let e : bytes_left d start place k ≡ 0 = rw none in (rw none at c.rest, omega (arith, c.bytes))

-- ---- a whole frame

-- a byte before what is written
set_before : (d vs : List ℕ) (i j x : ℕ) → j < i → set (sets d i vs) j x ≡ sets (set d j x) i vs
set_before d [] i j x h = refl
set_before d (v ∷ vs) i j x h =
    set_before (set d i v) vs (suc i) j x (omega arith) ∙ ap (λ (l : List ℕ). sets l (suc i) vs) (set_comm d i j v x (λ e. absurd (omega arith)))

-- fewer bytes over others
over : (d zs xs : List ℕ) (i : ℕ) → length xs ≤ length zs → sets (sets d i zs) i xs ≡ sets d i (xs ++ drop (length xs) zs)
over d zs [] i h = refl
over d [] (x ∷ xs) i h = absurd (omega arith)
over d (z ∷ zs) (x ∷ xs) i h =
    ap (λ (l : List ℕ). sets l (suc i) xs) (set_before (set d i z) zs (suc i) i x (omega arith)
    ∙ ap (λ (l : List ℕ). sets l (suc i) zs) (set-set d i z x))
    ∙ over (set d i x) zs xs (suc i) (omega arith)

filled_up : (n : ℕ) (xs : List ℕ) → length xs ≤ n → xs ++ drop (length xs) (padded 0 n []) ≡ padded 0 n xs
filled_up n [] h = refl
filled_up zero (x ∷ xs) h = absurd (omega arith)
filled_up (suc n) (x ∷ xs) h = ap (λ (l : List ℕ). x ∷ l) (filled_up n xs (omega arith))

-- THE LAW: zeros, the values over them, and how many bytes these are, make the plan's frame
pub frame_laid : (d start : List ℕ) (frame : ℕ) (p : Plan) → MovesFit p.moves p.count →
    let values = joined_moves d (take p.count p.moves) in
    set (sets (sets (sets start (frame + 1) (bytes 4 0)) (frame + 1 + 4) (bytes 4 0)) (frame + 1) values) frame (length values)
    ≡ sets start frame (data_form (ready_by d p))
unfolding ready_by pdo_data data_form bytes
frame_laid d start frame p f =
    let values = joined_moves d (take p.count p.moves) in
    let zeros : List ℕ = padded 0 8 [] in
    let few = joined_room d p.moves p.count f in
    let both : sets (sets start (frame + 1) (bytes 4 0)) (frame + 1 + 4) (bytes 4 0) ≡ sets start (frame + 1) zeros =
    sym (sets_append start (bytes 4 0) (bytes 4 0) (frame + 1) (frame + 1 + 4) refl) in
    rw (both, over start zeros values (frame + 1) few, filled_up 8 values few)
    (set_before start (padded 0 8 values) (frame + 1) frame (length values) (omega arith) ∙ rw (add-one frame))

-- the plan stands behind the frame
pub plan_stays : (start : List ℕ) (frame place : ℕ) → frame + 9 ≤ place →
    plan_at place (sets (sets start (frame + 1) (bytes 4 0)) (frame + 1 + 4) (bytes 4 0)) ≡ plan_at place start
unfolding bytes
plan_stays start frame place h =
    let first = sets start (frame + 1) (bytes 4 0) in
    plan_behind place (sets first (frame + 1 + 4) (bytes 4 0)) start
    (drop_sets (bytes 4 0) first (frame + 1 + 4) place (omega arith) ∙ drop_sets (bytes 4 0) start (frame + 1) place (omega arith))

pub long_zeroed : (start : List ℕ) (frame : ℕ) → length (sets (sets start (frame + 1) (bytes 4 0)) (frame + 1 + 4) (bytes 4 0)) ≡ length start
long_zeroed start frame =
    length-sets (sets start (frame + 1) (bytes 4 0)) (frame + 1 + 4) (bytes 4 0) ∙ length-sets start (frame + 1) (bytes 4 0)

-- as the code lays it: zeros, then the values, then their length
pub record Whole (d start laid : List ℕ) (frame place end : ℕ) : Type 0 where
  pub begun : frame + 1 ≤ end
  pub few : end - (frame + 1) ≤ 8
  pub whole : set laid frame (end - (frame + 1)) ≡ sets start frame (data_form (ready_by d (plan_at place start)))
  pub long : length (set laid frame (end - (frame + 1))) ≡ length start

pub laid_whole : (d start : List ℕ) (frame place : ℕ) → frame + 9 ≤ place → MovesFit (plan_at place start).moves (plan_at place start).count →
    (zeroed laid : List ℕ) (end : ℕ) → zeroed ≡ sets (sets start (frame + 1) (bytes 4 0)) (frame + 1 + 4) (bytes 4 0) →
    (laid ≡ sets zeroed (frame + 1) (joined_moves d (take (plan_at place zeroed).count (plan_at place zeroed).moves)))
    × (end ≡ frame + 1 + length (joined_moves d (take (plan_at place zeroed).count (plan_at place zeroed).moves))) →
    Whole d start laid frame place end
laid_whole d start frame place h f zeroed laid end zeros values =
    let same = ap (plan_at place) zeros ∙ plan_stays start frame place h in
    let mapped = joined_moves d (take (plan_at place start).count (plan_at place start).moves) in
    let ends : end ≡ frame + 1 + length mapped = rw same at values.1 in
    let size : end - (frame + 1) ≡ length mapped = omega arith in
    let whole : set laid frame (end - (frame + 1)) ≡ sets start frame (data_form (ready_by d (plan_at place start))) =
    rw (size, rw (same, zeros) at values.0) (frame_laid d start frame (plan_at place start) f) in
    record {
      begun = omega arith;
      few = rw size (joined_room d (plan_at place start).moves (plan_at place start).count f);
      whole = whole;
      long = ap length whole ∙ length-sets start frame (data_form (ready_by d (plan_at place start)));
    }

-- ---- the ready frame of a transmit PDO in bytes that hold a state

ready_typed : (d : List ℕ) (p : Plan) → DataTyped (ready_by d p)
unfolding ready_by pdo_data
ready_typed d p = record { size = length-padded 0 8 (joined_moves d (take p.count p.moves)) }

four_ready : (bs : List ℕ) → length (state_of bs).axis.ready ≡ each_way
unfolding state_of
four_ready bs = refl

module _ (bs d : List ℕ) (t : ℕ) (i : t < each_way) (own : Holds bs (state_of bs)) {bs' : List ℕ}
    (laid : bs' ≡ sets bs (ready_place + data_length * t) (data_form (ready_by d (plan_at (plan_place (each_way + t)) bs)))) where
  abbrev frame : PdoData
  frame = ready_by d (plan_in bs (each_way + t))

  pub ready_laid : Holds bs' (readying t frame (state_of bs))
  ready_laid = rw (laid, ← plan_stands bs (each_way + t) (omega arith)) (put_one_ready own t frame i (ready_typed d (plan_in bs (each_way + t))))

  pub read_back : data_at (ready_place + data_length * t) bs' ≡ frame
  read_back =
      sym (ready_stands bs' t i)
      ∙ ap (λ (s : State). get_or s.axis.ready t (record { length = 0; bytes = [] })) (held_state ready_laid)
      ∙ get_or-set_same (state_of bs).axis.ready t frame (record { length = 0; bytes = [] }) (omega (arith, four_ready bs))
