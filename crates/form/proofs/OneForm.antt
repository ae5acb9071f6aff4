-- For the callers: each state has one form, which is read back as that state; bytes that are no state's form are told apart.
-- Assumes nothing.
use Rattle.std.proofs.Common.{ℕ, zero, suc, ◌+◌, ◌*◌, ◌^◌, ◌<◌, pow-suc, mod-lt, arith, ◌≡◌, refl, sym, ◌∙◌, ap, Bool, true, false, cond, List, []}
use Rattle.std.proofs.Common.{◌∷◌, eq-eqb, eqb-true, eqb, lit<, length, get_or}
use mathlib.Core.Bool.{false≢true}
use Rattle.rules_dictionary.specs.Numbers.{value, part}
use Rattle.rules_dictionary.specs.Table.{each_way, most_moves}
use Rattle.rules_dictionary.proofs.Tests.{and_left, and_right}
use Rattle.drive.specs.declared.SetPoint.{SetPoint}
use Rattle.drive.specs.declared.Store.TheVariants.{Empty, Rested, Moving, Queued}
use Rattle.state.specs.declared.Transfer.TheVariants.{NoTransfer}
use Rattle.state.specs.declared.State.{State}
use Rattle.rules.specs.Outcome.{same_by}
use Rattle.dictionary.proofs.Bytes.{value_step, value_none}
use Rattle.form.specs.Form.{move_at, data_at, word_length, pace_at, pace_length, paces_place, each}
use Rattle.form.specs.Form.{heartbeat_offset, node_at, velocity_offset}
use Rattle.form.specs.Form.{acceleration_offset, deceleration_offset, set_point_length, set_point_at, store_at}
use Rattle.form.specs.Form.{drive_place, stay_offset, drive_at, resting, move_length, plan_length, plan_at, form, state_of, is_form}
use Rattle.form.specs.Form.{data_length, node_place, store_place, ready_place, held_place, plans_place, plan_place, state_length}
use Rattle.form.specs.Form.{plan_in, ready_in, held_in, step_offset, object_offset, transfer_at, transfer_place}
use Rattle.form.specs.Own.{is_zero, idle_at, transfer_own, is_own}
use Rattle.form.specs.Typed.{Many, none, more, AnyPace, DataTyped, SetPointTyped, StoreTyped, MoveTyped, PlanTyped, Typed}
use Rattle.form.proofs.Rows.{each_at}
use Rattle.form.proofs.Kept.{own_kept}
use Rattle.form.proofs.Back.{state_back}

-- ---- lists of bytes that are the same

pub same_bytes : (xs : List ℕ) → same_by eqb xs xs ≡ true
same_bytes [] = refl
same_bytes (x ∷ xs) = rw (eq-eqb x x refl) (same_bytes xs)

pub are_same : (xs ys : List ℕ) → same_by eqb xs ys ≡ true → xs ≡ ys
are_same [] [] h = refl
are_same [] (y ∷ ys) h = absurd (false≢true h)
are_same (x ∷ xs) [] h = absurd (false≢true h)
are_same (x ∷ xs) (y ∷ ys) h =
    let e : x ≡ y = eqb-true x y (and_left (eqb x y) _ h) in
    let r : xs ≡ ys = are_same xs ys (and_right (eqb x y) _ h) in
    rw (e, r)

-- ---- what is read is typed

pub resting_typed : (t : ℕ) → t < 2 ^ 32 → SetPointTyped (resting t)
resting_typed t h = record { target = h; velocity = lit< tt; acceleration = lit< tt; deceleration = lit< tt }

store_typed : (a b c : Bool) (t : ℕ) (p q : SetPoint) → t < 2 ^ 32 → SetPointTyped p → SetPointTyped q →
    StoreTyped (cond a Empty (cond b (Rested t) (cond c (Moving p) (Queued p q))))
store_typed true b c t p q h i j = record { first = resting_typed 0 (lit< tt); second = resting_typed 0 (lit< tt) }
store_typed false true c t p q h i j = record { first = resting_typed t h; second = resting_typed 0 (lit< tt) }
store_typed false false true t p q h i j = record { first = i; second = resting_typed 0 (lit< tt) }
store_typed false false false t p q h i j = record { first = i; second = j }

-- a fact of what is read at every place
each_read : {A : Type 0} (P : A → Type 0) (f : ℕ → A) (n place width : ℕ) → ((i : ℕ) → P (f i)) → Many P n (each n place width f)
each_read P f zero place width h = none
each_read P f (suc n) place width h = more (h place) (each_read P f n (place + width) width h)

move_typed : (bs : List ℕ) (place : ℕ) → MoveTyped (move_at place bs)
unfolding move_at
move_typed bs place = record { place = mod-lt _ (lit< tt); size = mod-lt _ (lit< tt) }

plan_typed : (bs : List ℕ) (place : ℕ) → PlanTyped (plan_at place bs)
unfolding plan_at
plan_typed bs place = record { moves = each_read MoveTyped (λ i. move_at i bs) most_moves (place + 1) move_length (move_typed bs) }

pub plans_typed : (bs : List ℕ) → Many PlanTyped (2 * each_way) (state_of bs).axis.plans
unfolding state_of
plans_typed bs = each_read PlanTyped (λ i. plan_at i bs) (2 * each_way) plans_place plan_length (plan_typed bs)

module _ (bs : List ℕ) (fits : (i : ℕ) → get_or bs i 0 < 256) where
  value_fits : (n place : ℕ) → value (part place n bs) < 256 ^ n
  value_fits zero place = rw value_none (lit< tt)
  value_fits (suc n) place =
      let r = value_fits n (place + 1) in
      let f = fits place in
      rw (value_step n place bs, pow-suc) (omega arith)

  set_point_typed : (place : ℕ) → SetPointTyped (set_point_at place bs)
  unfolding set_point_at
  set_point_typed place =
      record {
        target = value_fits word_length place;
        velocity = value_fits word_length (place + velocity_offset);
        acceleration = value_fits word_length (place + acceleration_offset);
        deceleration = value_fits word_length (place + deceleration_offset);
      }

  -- what the types say of the state that bytes hold
  pub typed_read : Typed (state_of bs)
  unfolding state_of node_at drive_at store_at
  typed_read =
      let kind = get_or bs store_place 0 in
      let first = store_place + 1 in
      record {
        head = record {
          heartbeat = value_fits 2 (node_place + heartbeat_offset);
          stay = value_fits 2 (drive_place + stay_offset);
          store = store_typed (eqb kind 0) (eqb kind 1) (eqb kind 2) _ _ _ (value_fits word_length first) (set_point_typed first)
              (set_point_typed (first + set_point_length));
          ready = each_read DataTyped (λ i. data_at i bs) each_way ready_place data_length (λ i. record { size = refl });
          held = each_read DataTyped (λ i. data_at i bs) each_way held_place data_length (λ i. record { size = refl });
          paces = each_read AnyPace (λ i. pace_at i bs) each_way paces_place pace_length (λ i. tt);
        };
        plans = plans_typed bs;
      }

-- the plan that bytes hold for a PDO, where it stands
pub plan_stands : (bs : List ℕ) (p : ℕ) → p < 2 * each_way → plan_in bs p ≡ plan_at (plan_place p) bs
unfolding state_of
plan_stands bs p h = each_at (2 * each_way) plans_place plan_length (λ i. plan_at i bs) _ p h

-- the ready frame that they hold for a transmit PDO, where it stands
pub ready_stands : (bs : List ℕ) (t : ℕ) → t < each_way → ready_in bs t ≡ data_at (ready_place + data_length * t) bs
unfolding state_of
ready_stands bs t h = each_at each_way ready_place data_length (λ i. data_at i bs) _ t h

-- the held frame that they hold for a receive PDO, where it stands
pub held_stands : (bs : List ℕ) (p : ℕ) → p < each_way → held_in bs p ≡ data_at (held_place + data_length * p) bs
unfolding state_of
held_stands bs p h = each_at each_way held_place data_length (λ i. data_at i bs) _ p h

-- ---- bytes that are zero are no transfer, and its form

module _ (bs : List ℕ) (h : idle_at transfer_place bs ≡ true) where
  kind_and_step : (get_or bs transfer_place 0 ≡ 0) × (get_or bs (transfer_place + step_offset) 0 ≡ 0)
  unfolding idle_at
  kind_and_step =
      let head = value (part transfer_place (step_offset + object_offset) bs) in
      let none : head ≡ 0 = eqb-true head 0 (and_left (is_zero head) _ h) in
      let first = value_step step_offset transfer_place bs in
      let second = value_step 0 (transfer_place + step_offset) bs in
      (omega arith, omega arith)

  pub idle_none : (state_of bs).transfer ≡ NoTransfer
  unfolding state_of transfer_at
  idle_none = rw kind_and_step.0

  pub idle_own : transfer_own transfer_place bs ≡ true
  unfolding idle_at transfer_own
  idle_own = rw (kind_and_step.0, kind_and_step.1) (and_right (is_zero (value (part transfer_place (step_offset + object_offset) bs))) _ h)

-- ---- THE LAWS

pub state_of_form : (s : State) → Typed s → state_of (form s) ≡ s
state_of_form s t = (state_back (form s) s t refl).0

pub form_state_of : (bs : List ℕ) → is_form bs ≡ true → form (state_of bs) ≡ bs
unfolding is_form
form_state_of bs h = are_same (form (state_of bs)) bs h

pub is_form_form : (s : State) → Typed s → is_form (form s) ≡ true
unfolding is_form
is_form_form s t = rw (state_of_form s t) (same_bytes (form s))

-- bytes are a state's form just where they are their own
pub is_own_lem : (bs : List ℕ) → ((i : ℕ) → get_or bs i 0 < 256) → length bs ≡ state_length → is_own bs ≡ is_form bs
unfolding is_form
is_own_lem bs fits l = go (is_own bs) (is_form bs) refl refl
  where
    go : (a b : Bool) → is_own bs ≡ a → is_form bs ≡ b → a ≡ b
    go true b p q = sym (ap (λ (xs : List ℕ). same_by eqb xs bs) (own_kept bs fits l p) ∙ same_bytes bs) ∙ q
    go false false p q = refl
    go false true p q = sym p ∙ (state_back bs (state_of bs) (typed_read bs fits) (sym (form_state_of bs q))).1
