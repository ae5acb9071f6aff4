-- Bytes read and laid again are the same bytes, where the tests of specs/Own.antt hold.
-- Assumes nothing.
use Rattle.std.proofs.Common.{ℕ, zero, suc, ◌+◌, ◌-◌, ◌*◌, ◌/◌, ◌%◌, ◌^◌, ◌<◌, ◌≤◌, add-one, arith, ◌≡◌, refl, sym, ◌∙◌, ap, Bool, true, false, cond}
use Rattle.std.proofs.Common.{◌&&◌, List, [], ◌∷◌, ◌++◌, eqb-true, ltb-true, eqb, length, get_or, drop, drop-cons, drop-drop, take-add, take_all}
use Rattle.rules_dictionary.specs.Numbers.{value, bytes, part}
use Rattle.rules_dictionary.specs.Table.{each_way, most_moves}
use Rattle.rules_dictionary.specs.Legal.{mode_number}
use Rattle.rules_dictionary.proofs.Tests.{and_left, and_right}
use Rattle.drive.specs.declared.Store.TheVariants.{Empty, Rested, Moving, Queued}
use Rattle.drive.specs.SetPoints.{mode_of}
use Rattle.state.specs.declared.Transfer.TheVariants.{NoTransfer, Uploading, Downloading}
use Rattle.dictionary.proofs.Bytes.{value_step}
use Rattle.form.specs.Form.{flag_number, flag_of, nmt_number, nmt_of, state_number, drive_state_of, each, joined}
use Rattle.form.specs.Form.{node_form, node_at, word_length, word_at}
use Rattle.form.specs.Form.{set_point_form, set_point_at, store_form, store_at, drive_form, drive_at, data_form, data_at}
use Rattle.form.specs.Form.{due_offset, pace_length, pace_form, pace_at, half}
use Rattle.form.specs.Form.{move_form, move_at, plan_form, plan_at, head_form, form, state_of}
use Rattle.form.specs.Form.{nmt_offset, voltage_offset, heartbeat_offset, node_length}
use Rattle.form.specs.Form.{velocity_offset, acceleration_offset, deceleration_offset, numbers_behind}
use Rattle.form.specs.Form.{set_point_words, set_point_length, store_length}
use Rattle.form.specs.Form.{mode_offset, taken_offset, drive_marks, stay_offset, drive_length, data_length, move_length, plan_length, node_place}
use Rattle.form.specs.Form.{drive_place, store_place, ready_place, held_place, paces_place, plans_place, state_length}
use Rattle.form.specs.Form.{object_offset, toggle_offset, receipt_form, receipt_at, step_offset, receipt_words, transfer_length, transfer_form}
use Rattle.form.specs.Form.{transfer_at, transfer_place}
use Rattle.form.specs.Own.{every_at, own_flag, flags_own, every_word, is_zero, small, node_own, transfer_own, store_own, drive_own}
use Rattle.form.specs.Own.{paces_own, plan_own, plans_own, head_own, is_own}
use Rattle.form.proofs.Rows.{each_element}

-- parts behind one another are one part
part_join : (bs : List ℕ) (place n m : ℕ) → part place n bs ++ part (place + n) m bs ≡ part place (n + m) bs
part_join bs place n m = sym (take-add n m (drop place bs) ∙ rw drop-drop)

then_part : (bs : List ℕ) {xs ys : List ℕ} (place n m : ℕ) → xs ≡ part place n bs → ys ≡ part (place + n) m bs → xs ++ ys ≡ part place (n + m) bs
then_part bs place n m e f = rw (e, f) (part_join bs place n m)

module _ (bs : List ℕ) (fits : (i : ℕ) → get_or bs i 0 < 256) where
  -- a value laid again
  bytes_value : (n place : ℕ) → place + n ≤ length bs → bytes n (value (part place n bs)) ≡ part place n bs
  unfolding bytes
  bytes_value zero place h = refl
  bytes_value (suc n) place h =
      let s = value_step n place bs in
      let f = fits place in
      let low : value (part place (suc n) bs) % 256 ≡ get_or bs place 0 = omega arith in
      let high : value (part place (suc n) bs) / 256 ≡ value (part (place + 1) n bs) = omega arith in
      let l : place < length bs = omega arith in
      rw (low, high, bytes_value n (place + 1) (omega arith), drop-cons bs place 0 l, add-one)

  -- a row laid again
  module _ {A : Type 0} (f : A → List ℕ) (g : ℕ → A) (test : ℕ → Bool) (width : ℕ)
      (kept : (i : ℕ) → i + width ≤ length bs → test i ≡ true → f (g i) ≡ part i width bs) where
    row_kept : (n place : ℕ) → place + width * n ≤ length bs → every_at test n place width ≡ true →
        joined f (each n place width g) ≡ part place (width * n) bs
    row_kept zero place h t = let z : width * 0 ≡ 0 = omega arith in rw z
    row_kept (suc n) place h t =
        let more : width + width * n ≡ width * suc n = omega arith in
        let first = kept place (omega arith) (and_left (test place) _ t) in
        let rest = row_kept n (place + width) (omega arith) (and_right (test place) _ t) in
        rw (first, rest, ← more) (part_join bs place width (width * n))

  -- flags
  flags_kept : (n place : ℕ) → place + 1 * n ≤ length bs → flags_own n place bs ≡ true →
      joined (λ m. flag_number m ∷ []) (each n place 1 (λ i. flag_of (get_or bs i 0))) ≡ part place (1 * n) bs
  unfolding flags_own
  flags_kept n place h t =
      row_kept (λ m. flag_number m ∷ []) (λ i. flag_of (get_or bs i 0)) (λ i. own_flag (get_or bs i 0)) 1
      (λ i l o. ap (λ (b : ℕ). b ∷ []) (eqb-true _ _ o) ∙ each_element 1 i 0 bs l) n place h t

  -- words that are zero
  zeros_kept : (n place : ℕ) → place + word_length * n ≤ length bs → every_word is_zero n place bs ≡ true →
      joined (λ _. bytes word_length 0) (each n place word_length (λ i. word_at i bs)) ≡ part place (word_length * n) bs
  unfolding every_word
  zeros_kept n place h t =
      row_kept (λ _. bytes word_length 0) (λ i. word_at i bs) (λ i. is_zero (word_at i bs)) word_length
      (λ i l o. ap (bytes word_length) (sym (eqb-true (word_at i bs) 0 o)) ∙ bytes_value word_length i l) n place h t

  -- a byte, and a part behind it
  byte_then : (place m x : ℕ) (xs : List ℕ) → place + 1 ≤ length bs → get_or bs place 0 ≡ x → xs ≡ part (place + 1) m bs →
      x ∷ xs ≡ part place (1 + m) bs
  byte_then place m x xs h e f = rw (← e, f, ← (part_join bs place 1 m), ← (each_element 1 place 0 bs h))

  node_kept : node_length ≤ length bs → node_own node_place bs ≡ true → node_form (node_at node_place bs) ≡ part node_place node_length bs
  unfolding node_form node_at node_own
  node_kept h t =
      let second = get_or bs (node_place + nmt_offset) 0 in
      let third = get_or bs (node_place + voltage_offset) 0 in
      let nmt : nmt_number (nmt_of second) ≡ second = eqb-true _ _ (and_left (eqb (nmt_number (nmt_of second)) second) _ t) in
      let flag : flag_number (flag_of third) ≡ third = eqb-true _ _ (and_right (eqb (nmt_number (nmt_of second)) second) _ t) in
      rw (nmt, flag) (then_part bs node_place heartbeat_offset 2 (each_element heartbeat_offset node_place 0 bs (omega arith))
      (bytes_value 2 (node_place + heartbeat_offset) h))

  transfer_kept : transfer_place + transfer_length ≤ length bs → transfer_own transfer_place bs ≡ true →
      transfer_form (transfer_at transfer_place bs) ≡ part transfer_place transfer_length bs
  unfolding transfer_form transfer_at transfer_own receipt_form receipt_at bytes
  transfer_kept h t = go (eqb kind 0) (eqb kind 1) (eqb-true kind 0) (eqb-true kind 1) t
    where
      kind : ℕ
      kind = get_or bs transfer_place 0

      step : ℕ
      step = get_or bs (transfer_place + step_offset) 0

      words : ℕ
      words = transfer_place + step_offset + object_offset

      toggle : ℕ
      toggle = get_or bs (transfer_place + step_offset + toggle_offset) 0

      laid : (x y : ℕ) {xs : List ℕ} → kind ≡ x → step ≡ y → xs ≡ part words (word_length * receipt_words) bs →
          x ∷ y ∷ xs ≡ part transfer_place transfer_length bs
      laid x y {xs} e f g =
          byte_then transfer_place (1 + word_length * receipt_words) x (y ∷ xs) (omega arith) e
          (byte_then (transfer_place + step_offset) (word_length * receipt_words) y xs (omega arith) f g)

      go : (a b : Bool) → (a ≡ true → kind ≡ 0) → (b ≡ true → kind ≡ 1) →
          cond a (is_zero step && every_word is_zero receipt_words words bs)
          (cond b (every_word is_zero receipt_words words bs) (eqb kind 2 && own_flag toggle)) ≡ true →
          transfer_form (cond a NoTransfer (cond b (Uploading step) (Downloading (receipt_at (transfer_place + step_offset) bs))))
          ≡ part transfer_place transfer_length bs
      go true b f g t =
          laid 0 0 (f refl) (eqb-true step 0 (and_left (is_zero step) _ t))
          (zeros_kept receipt_words words (omega arith) (and_right (is_zero step) _ t))
      go false true f g t = laid 1 step (g refl) refl (zeros_kept receipt_words words (omega arith) t)
      go false false f g t =
          let flag : flag_number (flag_of toggle) ≡ toggle = eqb-true _ _ (and_right (eqb kind 2) _ t) in
          laid 2 step (eqb-true kind 2 (and_left (eqb kind 2) _ t)) refl (rw flag
          (each_element (word_length * receipt_words) words 0 bs (omega arith)))

  set_point_kept : (place : ℕ) → place + set_point_length ≤ length bs → set_point_form (set_point_at place bs) ≡ part place set_point_length bs
  unfolding set_point_form set_point_at
  set_point_kept place h =
      let word : (i : ℕ) → i + word_length ≤ length bs → bytes word_length (word_at i bs) ≡ part i word_length bs = bytes_value word_length in
      let third : place + velocity_offset + word_length ≡ place + acceleration_offset = omega arith in
      let fourth : place + acceleration_offset + word_length ≡ place + deceleration_offset = omega arith in
      then_part bs place 4 12 (word place (omega arith)) (then_part bs (place + velocity_offset) 4 8 (word (place + velocity_offset) (omega arith))
      (rw third (then_part bs (place + acceleration_offset) 4 4 (word (place + acceleration_offset) (omega arith))
      (rw fourth (word (place + deceleration_offset) (omega arith))))))

  store_kept : (place : ℕ) → place + store_length ≤ length bs → store_own place bs ≡ true →
      store_form (store_at place bs) ≡ part place store_length bs
  unfolding store_form store_at store_own set_point_form bytes
  store_kept place h t = go (eqb kind 0) (eqb kind 1) (eqb kind 2) (eqb-true kind 0) (eqb-true kind 1) (eqb-true kind 2) t
    where
      kind : ℕ
      kind = get_or bs place 0

      laid : (x : ℕ) {xs : List ℕ} → kind ≡ x → xs ≡ part (place + 1) (2 * set_point_length) bs → x ∷ xs ≡ part place store_length bs
      laid x {xs} e f = byte_then place (2 * set_point_length) x xs (omega arith) e f

      points : {xs : List ℕ} → xs ≡ part (place + 1 + set_point_length) set_point_length bs →
          set_point_form (set_point_at (place + 1) bs) ++ xs ≡ part (place + 1) (2 * set_point_length) bs
      points e = then_part bs (place + 1) set_point_length set_point_length (set_point_kept (place + 1) (omega arith)) e

      go : (a b c : Bool) → (a ≡ true → kind ≡ 0) → (b ≡ true → kind ≡ 1) → (c ≡ true → kind ≡ 2) →
          cond a (every_word is_zero (2 * set_point_words) (place + 1) bs)
          (cond b (every_word is_zero (numbers_behind + set_point_words) (place + 1 + velocity_offset) bs)
          (cond c (every_word is_zero set_point_words (place + 1 + set_point_length) bs) (eqb kind 3))) ≡ true →
          store_form (cond a Empty (cond b (Rested (word_at (place + 1) bs)) (cond c (Moving (set_point_at (place + 1) bs))
          (Queued (set_point_at (place + 1) bs) (set_point_at (place + 1 + set_point_length) bs))))) ≡ part place store_length bs
      go true b c f g i t = laid 0 (f refl) (zeros_kept (2 * set_point_words) (place + 1) (omega arith) t)
      go false true c f g i t =
          let zeros = zeros_kept (numbers_behind + set_point_words) (place + 1 + velocity_offset) (omega arith) t in
          laid 1 (g refl)
          (then_part bs (place + 1) word_length (numbers_behind * word_length + set_point_length)
          (bytes_value word_length (place + 1) (omega arith)) zeros)
      go false false true f g i t = laid 2 (i refl) (points (zeros_kept set_point_words (place + 1 + set_point_length) (omega arith) t))
      go false false false f g i t = laid 3 (eqb-true kind 3 t) (points (set_point_kept (place + 1 + set_point_length) (omega arith)))

  drive_kept : drive_place + drive_length ≤ length bs → drive_own drive_place bs ≡ true →
      drive_form (drive_at drive_place bs) ≡ part drive_place drive_length bs
  unfolding drive_form drive_at drive_own
  drive_kept h t =
      let at : ℕ → ℕ = λ offset. get_or bs (drive_place + offset) 0 in
      let a = eqb (state_number (drive_state_of (at 0))) (at 0) in
      let b = eqb (mode_number (mode_of (at mode_offset))) (at mode_offset) in
      let t1 = and_right a _ t in
      let t2 = and_right b _ t1 in
      let own = flags_own drive_marks (drive_place + taken_offset) bs in
      let state : state_number (drive_state_of (at 0)) ≡ at 0 = eqb-true _ _ (and_left a _ t) in
      let mode : mode_number (mode_of (at mode_offset)) ≡ at mode_offset = eqb-true _ _ (and_left b _ t1) in
      let marks = flags_kept drive_marks (drive_place + taken_offset) (omega arith) (and_left own _ t2) in
      let stay = bytes_value 2 (drive_place + stay_offset) (omega arith) in
      rw (state, mode) (then_part bs drive_place taken_offset (drive_marks + (2 + store_length))
      (each_element taken_offset drive_place 0 bs (omega arith))
      (then_part bs (drive_place + taken_offset) drive_marks (2 + store_length) marks
      (then_part bs (drive_place + stay_offset) 2 store_length stay (store_kept store_place h (and_right own _ t2)))))

  data_kept : (place : ℕ) → place + data_length ≤ length bs → data_form (data_at place bs) ≡ part place data_length bs
  unfolding data_form
  data_kept place h = each_element data_length place 0 bs h

  move_kept : (place : ℕ) → place + move_length ≤ length bs → small (word_at place bs) ≡ true →
      move_form (move_at place bs) ≡ part place move_length bs
  unfolding move_form move_at
  move_kept place h t =
      let w = word_at place bs in
      let l = ltb-true w (2 ^ 24) t in
      let whole : w % half + half * (w / half % 256) ≡ w = omega arith in
      rw whole (bytes_value move_length place h)

  plan_kept_lem : (place : ℕ) → place + plan_length ≤ length bs → plan_own place bs ≡ true → plan_form (plan_at place bs) ≡ part place plan_length bs
  unfolding plan_form plan_at plan_own every_word
  plan_kept_lem place h t =
      byte_then place (move_length * most_moves) _ _ (omega arith) refl
      (row_kept move_form (λ i. move_at i bs) (λ i. small (word_at i bs)) move_length move_kept most_moves (place + 1) (omega arith) t)

  frames_kept : (place : ℕ) → place + data_length * each_way ≤ length bs →
      joined data_form (each each_way place data_length (λ i. data_at i bs)) ≡ part place (data_length * each_way) bs
  frames_kept place h = row_kept data_form (λ i. data_at i bs) (λ _. true) data_length (λ i l _. data_kept i l) each_way place h refl

  pace_kept : (place : ℕ) → place + pace_length ≤ length bs → own_flag (get_or bs (place + due_offset) 0) ≡ true →
      pace_form (pace_at place bs) ≡ part place pace_length bs
  unfolding pace_form
  pace_kept place h t =
      let mark = get_or bs (place + due_offset) 0 in
      let due : flag_number (flag_of mark) ≡ mark = eqb-true (flag_number (flag_of mark)) mark t in
      rw due (each_element pace_length place 0 bs h)

  paces_kept : plans_place ≤ length bs → paces_own bs ≡ true →
      joined pace_form (each each_way paces_place pace_length (λ i. pace_at i bs)) ≡ part paces_place (pace_length * each_way) bs
  unfolding paces_own
  paces_kept h t =
      row_kept pace_form (λ i. pace_at i bs) (λ i. own_flag (get_or bs (i + due_offset) 0)) pace_length pace_kept each_way paces_place h t

  -- THE LAW: the bytes are the form of the state that they hold
  pub own_kept : length bs ≡ state_length → is_own bs ≡ true → form (state_of bs) ≡ bs
  unfolding form head_form state_of is_own head_own plans_own
  own_kept l t =
      let node_test = node_own node_place bs in
      let transfer_test = transfer_own transfer_place bs in
      let drive_test = drive_own drive_place bs in
      let due_test = paces_own bs in
      let head_test = node_test && (drive_test && due_test) in
      let head = and_left head_test _ t in
      let t1 = and_right head_test _ t in
      let t2 = and_right node_test _ head in
      let frames = data_length * each_way in
      let eight = 2 * each_way in
      let plan = row_kept plan_form (λ i. plan_at i bs) (λ i. plan_own i bs) plan_length plan_kept_lem in
      let paces = paces_kept (omega arith) (and_right drive_test _ t2) in
      let held = then_part bs held_place frames (plans_place - paces_place) (frames_kept held_place (omega arith)) paces in
      let ready = then_part bs ready_place frames (plans_place - held_place) (frames_kept ready_place (omega arith)) held in
      let drive = then_part bs drive_place drive_length (plans_place - ready_place) (drive_kept (omega arith) (and_left drive_test _ t2)) ready in
      let ran = transfer_kept (omega arith) (and_left transfer_test _ t1) in
      let transfer = then_part bs transfer_place transfer_length (plans_place - drive_place) ran drive in
      let front = then_part bs node_place node_length (plans_place - transfer_place) (node_kept (omega arith) (and_left node_test _ head)) transfer in
      then_part bs node_place plans_place (plan_length * eight) front
      (plan eight plans_place (omega arith) (and_right transfer_test _ t1))
      ∙ take_all state_length bs (omega arith)
