-- Things written into bytes one after another, and how long they are.
-- Assumes nothing.
use Rattle.std.proofs.Common.{ℕ, zero, suc, ◌+◌, ◌-◌, ◌*◌, ◌<◌, ◌≤◌, add-one, arith, ◌≡◌, refl, sym, ◌∙◌, ap, List, [], ◌∷◌, ◌++◌, append_assoc}
use Rattle.std.proofs.Common.{length, get_or, set, take, drop, length-append, length-drop, length-set, drop_of_length-le, drop-cons, drop-drop}
use Rattle.std.proofs.Common.{take-suc, take_all}
use borrow.Rule.Slice.PartMut.{put_mid}
use lib.Seq.{sets, sets-eq, length-sets}
use denote.Param.Members.{Called, Mut}
use Rattle.std.specs.Array.{IsFromFnResultFrom, IsFromFnResult}
use Rattle.rules_dictionary.specs.Numbers.{bytes}
use Rattle.rules_dictionary.specs.Table.{each_way}
use Rattle.rules_dictionary.specs.declared.PdoData.{PdoData}
use Rattle.rules_dictionary.specs.declared.Plan.{Plan}
use Rattle.rules.specs.Outcome.{most_data}
use Rattle.rules_dictionary.proofs.Rows.{part_same}
use Rattle.drive.specs.declared.SetPoint.{SetPoint}
use Rattle.drive.specs.declared.Store.{Store}
use Rattle.drive.specs.declared.Drive.{Drive}
use Rattle.state.specs.declared.Node.{Node}
use Rattle.state.specs.declared.Pace.{Pace}
use Rattle.state.specs.declared.Transfer.{Transfer}
use Rattle.state.specs.declared.State.{State}
use Rattle.form.specs.Form.{each, joined, node_form, set_point_form, store_kind, first_set_point, second_of, store_form, drive_form, data_form}
use Rattle.form.specs.Form.{pace_form, move_form, plan_form, head_form, form, with_plans, form_over, HoldsPlans, node_length, word_length}
use Rattle.form.specs.Form.{velocity_offset, acceleration_offset, deceleration_offset, set_point_length, drive_length}
use Rattle.form.specs.Form.{receipt_form, transfer_form, transfer_length, data_length, pace_length}
use Rattle.form.specs.Form.{plan_length, node_place, transfer_place, drive_place, ready_place, held_place, paces_place, plans_place, state_length}
use Rattle.form.specs.Lengths.{length_row, length_data, length_pace, length_plan}
use Rattle.form.specs.Typed.{Many, none, more, AnyPace, DataTyped, PlanTyped, HeadTyped, Typed}

-- what is written behind what was written
pub sets_append : (d xs ys : List ℕ) (place next : ℕ) → place + length xs ≡ next → sets d place (xs ++ ys) ≡ sets (sets d place xs) next ys
sets_append d [] ys place next e = let z : place ≡ next = omega arith in rw z
sets_append d (x ∷ xs) ys place next e = sets_append (set d place x) xs ys (suc place) next (omega arith)

-- a byte, and what is written behind it
pub sets_behind : (d : List ℕ) (place x : ℕ) (xs : List ℕ) → sets (set d place x) (place + 1) xs ≡ sets d place (x ∷ xs)
sets_behind d place x xs = rw add-one

-- ---- so many things

-- one more behind them
many_more : {A : Type 0} {P : A → Type 0} {n : ℕ} {xs : List A} {x : A} → Many P n xs → P x → Many P (suc n) (xs ++ x ∷ [])
many_more none p = more p none
many_more (more q m) p = more q (many_more m p)

-- a row of things that are so many bytes each, of which the first k are written: what is left to write gives the whole; and a fact of each
-- that is written
pub record Row {A : Type 0} (f : A → List ℕ) (P : A → Type 0) (width : ℕ) (xs : List A)
    (before : List ℕ) (start : ℕ) (bytes : List ℕ) (k : ℕ) : Type 0 where
  pub left : sets bytes (start + width * k) (joined f (drop k xs)) ≡ sets before start (joined f xs)
  pub kept : length bytes ≡ length before
  pub holds : Many P k (take k xs)

module _ {A : Type 0} {f : A → List ℕ} {P : A → Type 0} {width : ℕ} {xs : List A} {before : List ℕ} {start : ℕ} where
  pub none_yet : Row f P width xs before start before 0
  none_yet = let e : start + width * 0 ≡ start = omega arith in record { left = rw e; kept = refl; holds = none }

  module _ {bytes : List ℕ} {k : ℕ} (r : Row f P width xs before start bytes k) where
    pub one_more : {next : List ℕ} (z : A) → k < length xs → length (f (get_or xs k z)) ≡ width → P (get_or xs k z) →
        next ≡ sets bytes (start + width * k) (f (get_or xs k z)) → Row f P width xs before start next (k + 1)
    one_more z h l p e =
        let x = get_or xs k z in
        let place = start + width * k in
        let append = sets_append bytes (f x) (joined f (drop (suc k) xs)) place (start + width * suc k) (omega arith) in
        record {
          left = rw (e, add-one) (sym append ∙ rw (drop-cons xs k z h) at r.left);
          kept = ap length e ∙ length-sets bytes place (f x) ∙ r.kept;
          holds = rw (add-one, take-suc xs k z h) (many_more r.holds p);
        }

    pub all_written : {n : ℕ} → length xs ≡ n → k ≡ n → (bytes ≡ sets before start (joined f xs)) × Many P n xs
    all_written few h =
        let whole : length xs ≤ k = omega arith in
        (rw (drop_of_length-le xs whole) at r.left, rw (take_all k xs whole, h) at r.holds)

-- what calls at one index after another give, where each gives what stands at its place
module _ {F B : Type 0} (g : Mut F (ℕ × Unit {0}) B) (K : F → Type 0) (h : ℕ → B) (start width : ℕ)
    (gives : (i : ℕ) (p q : F) (y : B) → K p → Called g p (i, tt) y q → (y ≡ h (start + width * i)) × K q) where
  read_each : (ys : List B) (n i : ℕ) (f : F) → K f → i + n ≡ length ys → IsFromFnResultFrom g f ys i n →
      drop i ys ≡ each n (start + width * i) width h
  read_each ys zero i f k l r = drop_of_length-le ys (omega arith)
  read_each ys (suc n) i f k l r =
      let now = gives i f r.0 r.1 k r.3 in
      let rest = read_each ys n (i + 1) r.0 now.1 (omega arith) r.4 in
      let there : i < length ys = omega arith in
      let next : start + width * (i + 1) ≡ start + width * i + width = omega arith in
      rw (drop-cons ys i r.1 there, r.2.0, now.0) (ap (λ zs. h (start + width * i) ∷ zs) (rw (← add-one) (rw next at rest)))

  pub read_all : {ys : List B} {n : ℕ} {f : F} → K f → IsFromFnResult g f ys n → ys ≡ each n start width h
  read_all {ys} {n} {f} k r =
      let first : start + width * 0 ≡ start = omega arith in
      rw first at (read_each ys n 0 f k (omega (arith, r.long)) r.each)

-- what is read for one of them
pub each_at : {A : Type 0} (n place width : ℕ) (f : ℕ → A) (z : A) (p : ℕ) → p < n → get_or (each n place width f) p z ≡ f (place + width * p)
each_at zero place width f z p h = elim h [ ]
each_at (suc n) place width f z zero h = let e : place + width * 0 ≡ place = omega arith in rw e
each_at (suc n) place width f z (suc p) h =
    let e : place + width + width * p ≡ place + width * suc p = omega arith in
    rw (← e) (each_at n (place + width) width f z p (omega arith))

-- the elements one by one
pub each_element : {A : Type 0} (n place : ℕ) (z : A) (xs : List A) → place + n ≤ length xs →
    each n place 1 (λ i. get_or xs i z) ≡ take n (drop place xs)
each_element zero place z xs h = refl
each_element (suc n) place z xs h =
    let l : place < length xs = omega arith in
    rw (drop-cons xs place z l, add-one, each_element n (suc place) z xs (omega arith))

-- ---- the parts of a state, written one after another

in_turn_lem : (d a b c e : List ℕ) (p q r s : ℕ) → p + length a ≡ q → q + length b ≡ r → r + length c ≡ s →
    sets (sets (sets (sets d p a) q b) r c) s e ≡ sets d p (a ++ (b ++ (c ++ e)))
in_turn_lem d a b c e p q r s g h i =
    sym (sets_append d a (b ++ (c ++ e)) p q g ∙ sets_append (sets d p a) b (c ++ e) q r h ∙ sets_append (sets (sets d p a) q b) c e r s i)

pub set_point_written : (d : List ℕ) (place : ℕ) (p : SetPoint) →
    let word : ℕ → List ℕ = bytes word_length in
    sets (sets (sets (sets d place (word p.target)) (place + velocity_offset) (word p.velocity))
    (place + acceleration_offset) (word p.acceleration)) (place + deceleration_offset) (word p.deceleration)
    ≡ sets d place (set_point_form p)
unfolding set_point_form bytes
set_point_written d place p =
    let word : ℕ → List ℕ = bytes word_length in
    in_turn_lem d (word p.target) (word p.velocity) (word p.acceleration) (word p.deceleration)
    place (place + velocity_offset) (place + acceleration_offset) (place + deceleration_offset) refl (omega arith) (omega arith)

pub length_set_point : (p : SetPoint) → length (set_point_form p) ≡ set_point_length
unfolding set_point_form bytes
length_set_point p = refl

-- bytes copied to a place
copied : (d xs : List ℕ) (place k : ℕ) → length xs ≡ k → place + k ≤ length d → put_mid place k d xs ≡ sets d place xs
copied d xs place k l h =
    let behind : place + k ≡ place + length xs = omega arith in
    let fits : place + length xs ≤ length d = omega arith in
    rw (sets-eq xs d place fits, drop-drop k place d, behind) (sym (append_assoc (take place d) xs (drop (place + length xs) d)))

-- a PDO's data: its length, and the bytes behind it
pub frame_written : (d ys : List ℕ) (place : ℕ) (r : PdoData) → ys ≡ r.bytes → length r.bytes ≡ most_data → place + data_length ≤ length d →
    put_mid (place + 1) (place + 1 + most_data - (place + 1)) (set d place r.length) ys ≡ sets d place (data_form r)
unfolding data_form
frame_written d ys place r e l h =
    let long : place + 1 + most_data - (place + 1) ≡ most_data = omega arith in
    let room : place + 1 + most_data ≤ length (set d place r.length) = simp length-set (omega arith) in
    rw (e, long) (copied (set d place r.length) r.bytes (place + 1) most_data l room ∙ sets_behind d place r.length r.bytes)

-- a plan: its count, and the row behind it
pub plan_written : (d : List ℕ) (place : ℕ) (p : Plan) →
    sets (set d place p.count) (place + 1) (joined move_form p.moves) ≡ sets d place (plan_form p)
unfolding plan_form
plan_written d place p = sets_behind d place p.count (joined move_form p.moves)

-- a store's kind and its two set-points
pub store_written : (d : List ℕ) (place : ℕ) (s : Store) →
    sets (sets (set d place (store_kind s)) (place + 1) (set_point_form (first_set_point s)))
    (place + 1 + set_point_length) (set_point_form (second_of s))
    ≡ sets d place (store_form s)
unfolding store_form
store_written d place s =
    let l = length_set_point (first_set_point s) in
    sym (sets_append (set d place (store_kind s)) (set_point_form (first_set_point s)) (set_point_form (second_of s)) (place + 1) _ (omega arith))
    ∙ sets_behind d place (store_kind s) (set_point_form (first_set_point s) ++ set_point_form (second_of s))

-- ---- lengths of the parts

pub length_node : (n : Node) → length (node_form n) ≡ node_length
unfolding node_form bytes
length_node n = refl

pub length_transfer : (t : Transfer) → length (transfer_form t) ≡ transfer_length
unfolding transfer_form receipt_form
length_transfer t = refl

pub length_drive : (v : Drive) → length (drive_form v) ≡ drive_length
unfolding drive_form store_form set_point_form bytes
length_drive v = refl

pub length_frames : {rs : List PdoData} → Many DataTyped each_way rs → length (joined data_form rs) ≡ each_way * data_length
length_frames m = length_row data_form data_length length_data m

pub length_paces : {ps : List Pace} → Many AnyPace each_way ps → length (joined pace_form ps) ≡ each_way * pace_length
length_paces m = length_row pace_form pace_length length_pace m

pub length_plans : {ps : List Plan} → Many PlanTyped (2 * each_way) ps → length (joined plan_form ps) ≡ 2 * each_way * plan_length
length_plans m = length_row plan_form plan_length length_plan m

pub length_head : (s : State) → HeadTyped s → length (head_form s) ≡ plans_place
unfolding head_form
length_head s t =
    let n = length_node s.node in
    let f = length_transfer s.transfer in
    let v = length_drive s.axis.drive in
    let r = length_frames t.ready in
    let h = length_frames t.held in
    let p = length_paces t.paces in
    simp length-append (omega arith)

pub length_form : (s : State) → Typed s → length (form s) ≡ state_length
unfolding form
length_form s t =
    let h = length_head s t.head in
    let p = length_plans t.plans in
    rw length-append (omega arith)

-- ---- the whole

-- from the first byte on
front : (d xs : List ℕ) (n : ℕ) → length xs ≡ n → n ≤ length d → sets d 0 xs ≡ xs ++ drop n d
front d xs n e h = let z : 0 + length xs ≡ n = omega arith in rw z at (sets-eq xs d 0 (omega arith))

-- the parts before the plans
pub head_written : (d : List ℕ) (s : State) → length d ≡ state_length → HeadTyped s →
    let a = s.axis in
    sets (sets (sets (sets (sets (sets d node_place (node_form s.node)) transfer_place (transfer_form s.transfer))
    drive_place (drive_form a.drive)) ready_place (joined data_form a.ready)) held_place (joined data_form a.held))
    paces_place (joined pace_form a.paces) ≡ form_over d s
unfolding form_over head_form
head_written d s l t =
    let n = node_form s.node in
    let f = transfer_form s.transfer in
    let v = drive_form s.axis.drive in
    let r = joined data_form s.axis.ready in
    let h = joined data_form s.axis.held in
    let p = joined pace_form s.axis.paces in
    let lr = length_frames t.ready in
    let lh = length_frames t.held in
    in_turn_lem (sets (sets d node_place n) transfer_place f) v r h p drive_place ready_place held_place paces_place
    (omega (arith, length_drive s.axis.drive)) (omega arith) (omega arith)
    ∙ sym (sets_append (sets d node_place n) f (v ++ (r ++ (h ++ p))) transfer_place drive_place (omega (arith, length_transfer s.transfer)))
    ∙ sym (sets_append d n (f ++ (v ++ (r ++ (h ++ p)))) node_place transfer_place (omega (arith, length_node s.node)))
    ∙ front d (head_form s) plans_place (length_head s t) (omega arith)

-- what was written up to the end
drop_sets : (d xs : List ℕ) (place : ℕ) → place + length xs ≡ length d → drop place (sets d place xs) ≡ xs
drop_sets d xs place e =
    sym (take_all (length xs) (drop place (sets d place xs)) (simp (length-drop, length-sets) (omega arith)))
    ∙ part_same d xs place (length xs) refl (omega arith)

-- the plans, written
pub plans_written : (d : List ℕ) (plans : List Plan) → length d ≡ state_length → Many PlanTyped (2 * each_way) plans →
    HoldsPlans (sets d plans_place (joined plan_form plans)) plans
plans_written d plans l t = let long = length_plans t in drop_sets d (joined plan_form plans) plans_place (omega arith)

-- all but the plans, written over bytes that hold these plans: the form of the state with them
pub head_over : (bs : List ℕ) (plans : List Plan) (node : Node) (transfer : Transfer) (drive : Drive) (ready held : List PdoData)
    (paces : List Pace) → HoldsPlans bs plans →
    form_over bs (with_plans [] node transfer drive ready held paces) ≡ form (with_plans plans node transfer drive ready held paces)
unfolding form_over form head_form
head_over bs plans node transfer drive ready held paces h =
    ap (λ (xs : List ℕ). head_form (with_plans plans node transfer drive ready held paces) ++ xs) h

-- what the types say of the whole
pub typed_whole : (plans : List Plan) (node : Node) (transfer : Transfer) (drive : Drive) (ready held : List PdoData) (paces : List Pace) →
    HeadTyped (with_plans [] node transfer drive ready held paces) → Many PlanTyped (2 * each_way) plans →
    Typed (with_plans plans node transfer drive ready held paces)
typed_whole plans node _ drive ready held paces h p =
    record {
      head = record { heartbeat = h.heartbeat; stay = h.stay; store = h.store; ready = h.ready; held = h.held; paces = h.paces };
      plans = p;
    }
