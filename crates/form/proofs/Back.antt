-- A state's form read back is that state, and passes the tests of specs/Own.antt.
-- Assumes nothing.
use Rattle.std.proofs.Common.{ℕ, zero, suc, ◌+◌, ◌*◌, ◌/◌, ◌%◌, ◌^◌, ◌<◌, ◌≤◌, add-zero, arith, ◌≡◌, refl, sym, ◌∙◌, ap, Bool, true, false, cond}
use Rattle.std.proofs.Common.{List, [], ◌∷◌, ◌++◌, append-nil, append_assoc, eq-eqb, lt-ltb, eqb, lit<, length, get_or, take, drop, length-append}
use Rattle.std.proofs.Common.{length-drop, get_or-drop, drop-drop, drop_at, take_at}
use Rattle.rules_dictionary.specs.declared.Mode.{Mode}
use Rattle.rules_dictionary.specs.declared.Mode.TheVariants.{NoMode, ProfilePosition, ProfileVelocity}
use Rattle.rules_dictionary.specs.declared.Move.{Move}
use Rattle.rules_dictionary.specs.declared.Plan.{Plan}
use Rattle.rules_dictionary.specs.declared.PdoData.{PdoData}
use Rattle.rules_dictionary.specs.Numbers.{value, bytes, part}
use Rattle.rules_dictionary.specs.Table.{each_way}
use Rattle.rules_dictionary.specs.Legal.{mode_number}
use Rattle.rules_dictionary.proofs.Tests.{and_both}
use Rattle.drive.specs.declared.DriveState.{DriveState}
use Rattle.drive.specs.declared.DriveState.TheVariants.{NotReady, SwitchOnDisabled, ReadyToSwitchOn, SwitchedOn, OperationEnabled, QuickStopActive}
use Rattle.drive.specs.declared.DriveState.TheVariants.{FaultReactionActive, Fault}
use Rattle.drive.specs.declared.SetPoint.{SetPoint}
use Rattle.drive.specs.declared.Store.{Store}
use Rattle.drive.specs.declared.Store.TheVariants.{Empty, Rested, Moving, Queued}
use Rattle.drive.specs.declared.Drive.{Drive}
use Rattle.drive.specs.SetPoints.{mode_of}
use Rattle.state.specs.declared.NmtState.{NmtState}
use Rattle.state.specs.declared.NmtState.TheVariants.{PreOperational, Operational, Stopped}
use Rattle.state.specs.declared.Node.{Node}
use Rattle.state.specs.declared.Pace.{Pace}
use Rattle.state.specs.declared.Receipt.{Receipt}
use Rattle.state.specs.declared.Transfer.{Transfer}
use Rattle.state.specs.declared.Transfer.TheVariants.{NoTransfer, Uploading, Downloading}
use Rattle.state.specs.declared.State.{State}
use Rattle.rules_dictionary.proofs.Rows.{value_bytes}
use Rattle.form.specs.Form.{word_length, word_at, numbers_behind, set_point_words, due_offset, pace_length, pace_form, pace_at}
use Rattle.form.specs.Form.{flag_number, flag_of, nmt_number, nmt_of}
use Rattle.form.specs.Form.{state_number, drive_state_of, each, joined, node_form, node_at, set_point_form}
use Rattle.form.specs.Form.{set_point_at, store_kind, first_set_point, second_of}
use Rattle.form.specs.Form.{store_form, store_at, drive_form, drive_at, data_form, data_at, half, move_form}
use Rattle.form.specs.Form.{move_at, plan_form, plan_at, head_form, form}
use Rattle.form.specs.Form.{state_of, nmt_offset, voltage_offset, heartbeat_offset, node_length, velocity_offset, acceleration_offset}
use Rattle.form.specs.Form.{deceleration_offset, set_point_length, mode_offset, taken_offset, limit_offset, cause_offset, stay_offset, store_offset}
use Rattle.form.specs.Form.{drive_length, data_length, move_length, plan_length, node_place, drive_place, store_place, ready_place, held_place}
use Rattle.form.specs.Form.{paces_place, plans_place, object_offset, toggle_offset, receipt_form, receipt_at, transfer_kind, receipt_of}
use Rattle.form.specs.Form.{step_offset, receipt_words, transfer_length, transfer_form, transfer_at, transfer_place}
use Rattle.form.specs.Own.{every_at, own_flag, flags_own, every_word, is_zero, small, node_own, transfer_own, store_own, drive_own}
use Rattle.form.specs.Own.{paces_own, plan_own, plans_own, head_own, is_own}
use Rattle.form.specs.Typed.{Many, none, more, SetPointTyped, StoreTyped, AnyPace, DataTyped, MoveTyped, PlanTyped, Typed}
use Rattle.form.specs.Lengths.{length_data, length_pace, length_move, length_plan}
use Rattle.form.proofs.Rows.{each_element, length_node, length_transfer, length_set_point, length_drive, length_frames, length_paces}

-- ---- enums and flags

flag_of_lem : (b : Bool) → flag_of (flag_number b) ≡ b
flag_of_lem true = refl
flag_of_lem false = refl

nmt_of_lem : (n : NmtState) → nmt_of (nmt_number n) ≡ n
nmt_of_lem PreOperational = refl
nmt_of_lem Operational = refl
nmt_of_lem Stopped = refl

mode_of_lem : (m : Mode) → mode_of (mode_number m) ≡ m
mode_of_lem NoMode = refl
mode_of_lem ProfilePosition = refl
mode_of_lem ProfileVelocity = refl

state_of_lem : (s : DriveState) → drive_state_of (state_number s) ≡ s
state_of_lem NotReady = refl
state_of_lem SwitchOnDisabled = refl
state_of_lem ReadyToSwitchOn = refl
state_of_lem SwitchedOn = refl
state_of_lem OperationEnabled = refl
state_of_lem QuickStopActive = refl
state_of_lem FaultReactionActive = refl
state_of_lem Fault = refl

transfer_of : (t : Transfer) (k n : ℕ) (g : Receipt) → k ≡ transfer_kind t → n ≡ (receipt_of t).count → g ≡ receipt_of t →
    cond (eqb k 0) NoTransfer (cond (eqb k 1) (Uploading n) (Downloading g)) ≡ t
transfer_of NoTransfer k n g e f h = rw e
transfer_of (Uploading x) k n g e f h = rw (e, f)
transfer_of (Downloading x) k n g e f h = rw (e, h)

store_of : (s : Store) (k t : ℕ) (a b : SetPoint) → k ≡ store_kind s → t ≡ (first_set_point s).target → a ≡ first_set_point s → b ≡ second_of s →
    cond (eqb k 0) Empty (cond (eqb k 1) (Rested t) (cond (eqb k 2) (Moving a) (Queued a b))) ≡ s
store_of Empty k t a b e f g h = rw e
store_of (Rested x) k t a b e f g h = rw (e, f)
store_of (Moving x) k t a b e f g h = rw (e, g)
store_of (Queued x y) k t a b e f g h = rw (e, g, h)

same : (n : ℕ) → eqb n n ≡ true
same n = eq-eqb n n refl

pub as_data : {n n' : ℕ} {bs bs' : List ℕ} → n ≡ n' → bs ≡ bs' →
    ◌≡◌ {A = PdoData} (record { length = n; bytes = bs }) (record { length = n'; bytes = bs' })
as_data e f = rw (e, f)

as_state : (s : State) {n : Node} {f : Transfer} {v : Drive} {ps : List Plan} {r h : List PdoData} {c : List Pace} →
    n ≡ s.node → f ≡ s.transfer → v ≡ s.axis.drive → ps ≡ s.axis.plans → r ≡ s.axis.ready → h ≡ s.axis.held → c ≡ s.axis.paces →
    record { node = n; transfer = f; axis = record { drive = v; plans = ps; ready = r; held = h; paces = c } } ≡ s
as_state s e1 e2 e3 e4 e5 e6 e7 = rw (e1, e2, e3, e4, e5, e6, e7)

-- words that are zero
abbrev zero_words : ℕ → List ℕ
zero_words zero = []
zero_words (suc n) = bytes word_length 0 ++ zero_words n

-- ---- what stands at a place, and behind it

module _ (bs : List ℕ) where
  byte_at : (place i : ℕ) {xs : List ℕ} → drop place bs ≡ xs → get_or bs (place + i) 0 ≡ get_or xs i 0
  byte_at place i e = sym (get_or-drop place bs i 0) ∙ ap (λ (l : List ℕ). get_or l i 0) e

  part_at : (place i n : ℕ) {xs : List ℕ} → drop place bs ≡ xs → part (place + i) n bs ≡ part i n xs
  part_at place i n e = ap (take n) (sym (drop-drop i place bs) ∙ ap (drop i) e)

  behind : (place n : ℕ) (xs : List ℕ) {rest : List ℕ} → drop place bs ≡ xs ++ rest → length xs ≡ n → drop (place + n) bs ≡ rest
  behind place n xs {rest} e l = sym (drop-drop n place bs) ∙ ap (drop n) e ∙ drop_at xs rest n l

  -- a row
  module _ {A : Type 0} (f : A → List ℕ) (P : A → Type 0) (g : ℕ → A) (test : ℕ → Bool) (width : ℕ) (sized : (x : A) → P x → length (f x) ≡ width)
      (back : (place : ℕ) (x : A) (rest : List ℕ) → P x → drop place bs ≡ f x ++ rest → (g place ≡ x) × (test place ≡ true)) where
    row_back : {xs : List A} {n : ℕ} (place : ℕ) (rest : List ℕ) → Many P n xs → drop place bs ≡ joined f xs ++ rest →
        (each n place width g ≡ xs) × (every_at test n place width ≡ true)
    row_back place rest none e = (refl, refl)
    row_back place rest (more {x} {n} {xs} p m) e =
        let e' : drop place bs ≡ f x ++ (joined f xs ++ rest) = e ∙ append_assoc (f x) (joined f xs) rest in
        let first = back place x (joined f xs ++ rest) p e' in
        let others = row_back (place + width) rest m (behind place width (f x) e' (sized x p)) in
        (rw (first.0, others.0), and_both (test place) _ first.1 others.1)

  zeros_back : (n place : ℕ) (rest : List ℕ) → drop place bs ≡ zero_words n ++ rest → every_word is_zero n place bs ≡ true
  unfolding every_word bytes value
  zeros_back zero place rest e = refl
  zeros_back (suc n) place rest e =
      let word : word_at place bs ≡ 0 = ap (λ (l : List ℕ). value (take word_length l)) e ∙ value_bytes word_length 0 (lit< tt) in
      rw word (zeros_back n (place + word_length) rest (behind place word_length (bytes word_length 0) e refl))

  -- ---- the parts

  node_back : (n : Node) (rest : List ℕ) → n.heartbeat < half → drop node_place bs ≡ node_form n ++ rest →
      (node_at node_place bs ≡ n) × (node_own node_place bs ≡ true)
  unfolding node_form node_at node_own bytes
  node_back n rest h e =
      let nmt : get_or bs (node_place + nmt_offset) 0 ≡ nmt_number n.nmt = byte_at node_place nmt_offset e in
      let voltage : get_or bs (node_place + voltage_offset) 0 ≡ flag_number n.voltage = byte_at node_place voltage_offset e in
      rw (byte_at node_place 0 e, nmt, voltage, part_at node_place heartbeat_offset 2 e, value_bytes 2 n.heartbeat h)
      (rw (nmt_of_lem n.nmt, flag_of_lem n.voltage) (refl, rw (same (nmt_number n.nmt)) (same (flag_number n.voltage))))

  receipt_back : (g : Receipt) (rest : List ℕ) → drop (transfer_place + step_offset) bs ≡ receipt_form g ++ rest →
      receipt_at (transfer_place + step_offset) bs ≡ g
  unfolding receipt_form receipt_at
  receipt_back g rest e =
      let byte : (i : ℕ) → get_or bs (transfer_place + step_offset + i) 0 ≡ get_or (receipt_form g ++ rest) i 0 =
      λ i. byte_at (transfer_place + step_offset) i e in
      rw (byte 0, byte 1, byte 2, byte 3, byte 4, byte 5, byte 6, byte 7, byte 8, flag_of_lem g.toggle)

  -- what a kind of transfer does not use is zero, and a download's toggle is a flag
  spare_back : (t : Transfer) (rest : List ℕ) → get_or bs transfer_place 0 ≡ transfer_kind t →
      drop (transfer_place + step_offset) bs ≡ receipt_form (receipt_of t) ++ rest → transfer_own transfer_place bs ≡ true
  unfolding transfer_own receipt_form bytes
  spare_back NoTransfer rest k e =
      let step : get_or bs (transfer_place + step_offset) 0 ≡ 0 = byte_at (transfer_place + step_offset) 0 e in
      let words = behind (transfer_place + step_offset) object_offset (0 ∷ []) e refl in
      rw (k, step) (zeros_back receipt_words (transfer_place + step_offset + object_offset) rest words)
  spare_back (Uploading x) rest k e =
      let words = behind (transfer_place + step_offset) object_offset (x ∷ []) e refl in
      rw k (zeros_back receipt_words (transfer_place + step_offset + object_offset) rest words)
  spare_back (Downloading g) rest k e =
      let toggle : get_or bs (transfer_place + step_offset + toggle_offset) 0 ≡ flag_number g.toggle =
      byte_at (transfer_place + step_offset) toggle_offset e in
      rw (k, toggle, flag_of_lem g.toggle) (same (flag_number g.toggle))

  transfer_back : (t : Transfer) (rest : List ℕ) → drop transfer_place bs ≡ transfer_form t ++ rest →
      (transfer_at transfer_place bs ≡ t) × (transfer_own transfer_place bs ≡ true)
  unfolding transfer_form transfer_at receipt_at
  transfer_back t rest e =
      let kind : get_or bs transfer_place 0 ≡ transfer_kind t = byte_at transfer_place 0 e in
      let e1 : drop (transfer_place + step_offset) bs ≡ receipt_form (receipt_of t) ++ rest = behind transfer_place 1 (transfer_kind t ∷ []) e refl in
      let receipt = receipt_back (receipt_of t) rest e1 in
      (transfer_of t _ _ _ kind (ap (λ (g : Receipt). g.count) receipt) receipt, spare_back t rest kind e1)

  set_point_back : (place : ℕ) (p : SetPoint) (rest : List ℕ) → SetPointTyped p → drop place bs ≡ set_point_form p ++ rest → set_point_at place bs ≡ p
  unfolding set_point_form set_point_at bytes
  set_point_back place p rest t e =
      let word = value_bytes word_length in
      rw (part_at place velocity_offset 4 e, part_at place acceleration_offset 4 e, part_at place deceleration_offset 4 e, e)
      (rw (word p.target t.target, word p.velocity t.velocity)
      (rw (word p.acceleration t.acceleration, word p.deceleration t.deceleration)))

  target_of : (place : ℕ) {p : SetPoint} → set_point_at place bs ≡ p → word_at place bs ≡ p.target
  unfolding set_point_at
  target_of place h = ap (λ (x : SetPoint). x.target) h

  -- what a kind of store does not use is zero
  unused_back : (place : ℕ) (s : Store) (rest : List ℕ) → get_or bs place 0 ≡ store_kind s →
      drop (place + 1) bs ≡ (set_point_form (first_set_point s) ++ set_point_form (second_of s)) ++ rest → store_own place bs ≡ true
  unfolding store_own set_point_form bytes
  unused_back place Empty rest k e = rw k (zeros_back (2 * set_point_words) (place + 1) rest e)
  unused_back place (Rested t) rest k e =
      rw k (zeros_back (numbers_behind + set_point_words) (place + 1 + velocity_offset) rest
      (behind (place + 1) word_length (bytes word_length t) e refl))
  unused_back place (Moving a) rest k e =
      rw k (zeros_back set_point_words (place + 1 + set_point_length) rest (behind (place + 1) set_point_length (set_point_form a) e refl))
  unused_back place (Queued a b) rest k e = rw k

  store_back : (place : ℕ) (s : Store) (rest : List ℕ) → StoreTyped s → drop place bs ≡ store_form s ++ rest →
      (store_at place bs ≡ s) × (store_own place bs ≡ true)
  unfolding store_form store_at
  store_back place s rest t e =
      let a = set_point_form (first_set_point s) in
      let b = set_point_form (second_of s) in
      let e1 : drop (place + 1) bs ≡ (a ++ b) ++ rest = behind place 1 (store_kind s ∷ []) e refl in
      let e2 : drop (place + 1) bs ≡ a ++ (b ++ rest) = e1 ∙ append_assoc a b rest in
      let kind : get_or bs place 0 ≡ store_kind s = rw add-zero at (byte_at place 0 e) in
      let first = set_point_back (place + 1) (first_set_point s) _ t.first e2 in
      let e3 = behind (place + 1) set_point_length a e2 (length_set_point (first_set_point s)) in
      let second = set_point_back (place + 1 + set_point_length) (second_of s) rest t.second e3 in
      (store_of s _ _ _ _ kind (target_of (place + 1) first) first second, unused_back place s rest kind e1)

  data_back : (place : ℕ) (r : PdoData) (rest : List ℕ) → DataTyped r → drop place bs ≡ data_form r ++ rest → data_at place bs ≡ r
  unfolding data_form
  data_back place r rest t e =
      let l : length (data_form r) ≡ data_length = length_data r t in
      let room : place + data_length ≤ length bs = omega (arith, simp (length-drop, length-append) at (ap length e)) in
      let whole : each data_length place 1 (λ i. get_or bs i 0) ≡ data_form r =
      each_element data_length place 0 bs room ∙ ap (take data_length) e ∙ take_at (data_form r) rest data_length l in
      as_data (ap (λ (xs : List ℕ). get_or xs 0 0) whole) (ap (drop 1) whole)

  move_back : (place : ℕ) (m : Move) (rest : List ℕ) → MoveTyped m → drop place bs ≡ move_form m ++ rest →
      (move_at place bs ≡ m) × (small (word_at place bs) ≡ true)
  unfolding move_form move_at bytes
  move_back place m rest t e =
      let w = m.place + half * m.size in
      let p = t.place in
      let s = t.size in
      let word : word_at place bs ≡ w = ap (λ (l : List ℕ). value (take word_length l)) e ∙ value_bytes word_length w (omega arith) in
      let low : w % half ≡ m.place = omega arith in
      let quotient : w / half ≡ m.size = omega arith in
      let high : w / half % 256 ≡ m.size = rw quotient (omega arith) in
      (rw (word, low, high), rw word (lt-ltb w (2 ^ 24) (omega arith)))

  plan_back : (place : ℕ) (p : Plan) (rest : List ℕ) → PlanTyped p → drop place bs ≡ plan_form p ++ rest →
      (plan_at place bs ≡ p) × (plan_own place bs ≡ true)
  unfolding plan_form plan_at plan_own every_word
  plan_back place p rest t e =
      let count : get_or bs place 0 ≡ p.count = rw add-zero at (byte_at place 0 e) in
      let moves = row_back move_form MoveTyped (λ i. move_at i bs) (λ i. small (word_at i bs)) move_length length_move move_back
      (place + 1) rest t.moves (behind place 1 (p.count ∷ []) e refl) in
      (rw (count, moves.0), moves.1)

  drive_back : (v : Drive) (rest : List ℕ) → v.stay < half → StoreTyped v.store → drop drive_place bs ≡ drive_form v ++ rest →
      (drive_at drive_place bs ≡ v) × (drive_own drive_place bs ≡ true)
  unfolding drive_form drive_at drive_own flags_own bytes
  drive_back v rest fits t e =
      let at : ℕ → ℕ = λ offset. get_or bs (drive_place + offset) 0 in
      let state : at 0 ≡ state_number v.state = byte_at drive_place 0 e in
      let mode : at mode_offset ≡ mode_number v.mode = byte_at drive_place mode_offset e in
      let taken : at taken_offset ≡ flag_number v.taken = byte_at drive_place taken_offset e in
      let limit : at limit_offset ≡ flag_number v.limit = byte_at drive_place limit_offset e in
      let cause : at cause_offset ≡ flag_number v.cause = byte_at drive_place cause_offset e in
      let marks = state_number v.state ∷ mode_number v.mode ∷ flag_number v.taken ∷ flag_number v.limit ∷ flag_number v.cause ∷ [] in
      let stay : value (part (drive_place + stay_offset) 2 bs) ≡ v.stay =
      ap value (part_at drive_place stay_offset 2 e) ∙ value_bytes 2 v.stay fits in
      let store = store_back store_place v.store rest t (behind drive_place store_offset (marks ++ bytes 2 v.stay) e refl) in
      rw (state, mode, taken, limit, cause, stay, store.0)
      (rw (state_of_lem v.state, mode_of_lem v.mode, flag_of_lem v.taken, flag_of_lem v.limit, flag_of_lem v.cause) (
        refl,
        rw (same (state_number v.state), same (mode_number v.mode), same (flag_number v.taken))
            (rw (same (flag_number v.limit), same (flag_number v.cause)) store.1),
      ))

  frames_back : {rs : List PdoData} (place : ℕ) (rest : List ℕ) → Many DataTyped each_way rs → drop place bs ≡ joined data_form rs ++ rest →
      each each_way place data_length (λ i. data_at i bs) ≡ rs
  frames_back place rest m e =
      (row_back data_form DataTyped (λ i. data_at i bs) (λ _. true) data_length length_data (λ p r rest' t e'. (data_back p r rest' t e', refl))
      place rest m e).0

  pace_back : (place : ℕ) (p : Pace) (rest : List ℕ) → AnyPace p → drop place bs ≡ pace_form p ++ rest →
      (pace_at place bs ≡ p) × (own_flag (get_or bs (place + due_offset) 0) ≡ true)
  unfolding pace_form
  pace_back place p rest t e =
      let count : get_or bs place 0 ≡ p.count = rw add-zero at (byte_at place 0 e) in
      let due : get_or bs (place + due_offset) 0 ≡ flag_number p.due = byte_at place due_offset e in
      (rw (count, due, flag_of_lem p.due), rw (due, flag_of_lem p.due) (same (flag_number p.due)))

  paces_back : {ps : List Pace} (rest : List ℕ) → Many AnyPace each_way ps → drop paces_place bs ≡ joined pace_form ps ++ rest →
      (each each_way paces_place pace_length (λ i. pace_at i bs) ≡ ps) × (paces_own bs ≡ true)
  unfolding paces_own
  paces_back rest m e =
      row_back pace_form AnyPace (λ i. pace_at i bs) (λ i. own_flag (get_or bs (i + due_offset) 0)) pace_length length_pace pace_back
      paces_place rest m e

  -- THE LAWS: read back, the form is the state, and it is its own
  pub state_back : (s : State) → Typed s → bs ≡ form s → (state_of bs ≡ s) × (is_own bs ≡ true)
  unfolding form head_form state_of is_own head_own plans_own
  state_back s t e =
      let a = s.axis in
      let h = t.head in
      let e0 : drop node_place bs ≡ node_form s.node ++ (transfer_form s.transfer ++ (drive_form a.drive ++ (joined data_form a.ready
      ++ (joined data_form a.held ++ (joined pace_form a.paces ++ joined plan_form a.plans))))) = e ∙ simp append_assoc in
      let e1 = behind node_place node_length (node_form s.node) e0 (length_node s.node) in
      let e2 = behind transfer_place transfer_length (transfer_form s.transfer) e1 (length_transfer s.transfer) in
      let e3 = behind drive_place drive_length (drive_form a.drive) e2 (length_drive a.drive) in
      let e4 = behind ready_place (each_way * data_length) (joined data_form a.ready) e3 (length_frames h.ready) in
      let e5 = behind held_place (each_way * data_length) (joined data_form a.held) e4 (length_frames h.held) in
      let e6 = behind paces_place (each_way * pace_length) (joined pace_form a.paces) e5 (length_paces h.paces) in
      let node = node_back s.node _ h.heartbeat e0 in
      let transfer = transfer_back s.transfer _ e1 in
      let drive = drive_back a.drive _ h.stay h.store e2 in
      let ready = frames_back ready_place _ h.ready e3 in
      let held = frames_back held_place _ h.held e4 in
      let paces = paces_back _ h.paces e5 in
      let plans = row_back plan_form PlanTyped (λ i. plan_at i bs) (λ i. plan_own i bs) plan_length length_plan plan_back
      plans_place [] t.plans (e6 ∙ sym (append-nil (joined plan_form a.plans))) in (
        as_state s node.0 transfer.0 drive.0 plans.0 ready held paces.0,
        rw (node.1, transfer.1, drive.1, paces.1) plans.1,
      )
