-- Making 6041h and 6061h leaves all else as it was, and the status word does not read itself.
-- Assumes nothing.
use Rattle.theorems.proofs.Words.{ℕ, ◌-◌, ◌^◌, ◌<◌, ◌≤◌, arith, ◌≡◌, refl, sym, ◌∙◌, ap, inl, inr, Bool, true, false, cond, List, le-ltb}
use Rattle.theorems.proofs.Words.{length, Mode, NoMode, ProfilePosition, ProfileVelocity, Store, Empty, Rested, Moving, Queued, Drive, State}
use Rattle.theorems.proofs.Words.{Plain, In, apart, same_or_apart, found_in, within, read_apart, read_same, length_store, clash, whichever}
use Rattle.theorems.proofs.{GoodValues.in_range, Dictionary.MayHold, Dictionary.is_pdo, Dictionary.is_limit, Dictionary.no_order}
use Rattle.rules_dictionary.specs.Table.{error_register, heartbeat_time, Row, table, size_of, dictionary_length, status_word, mode_display, mode}
use Rattle.rules_dictionary.specs.Table.{control_word, position, position_window, window_time, velocity, velocity_window, velocity_threshold}
use Rattle.rules_dictionary.specs.Table.{target_velocity, is_constant, whole, size, open_table}
use Rattle.rules_dictionary.specs.{Values.read, Values.store, Legal.mode_number}
use Rattle.drive.specs.DriveStates.{is_enabled}
use Rattle.drive.specs.Window.{near, inside}
use Rattle.drive.specs.StatusWord.{status, enabled_bits, ack_in_mode, reached_in_mode, reached_at_once, position_reached, velocity_reached, stands_still, slow}
use Rattle.drive.specs.StatusWord.{voltage_shown, remote_shown}
use Rattle.drive.proofs.Shown.{shown_most, state_word_most, enabled_most}
use Rattle.rules.specs.{Outcome.settled, Outcome.status_of}

-- ---- the status word fits its row

pub status_fits : (remote voltage : Bool) (v : Drive) (d : List ℕ) → status remote voltage v d < 256 ^ 2
unfolding status
status_fits remote voltage v d =
    let bits = enabled_most remote voltage v d in
    let h : cond (is_enabled v.state) (enabled_bits v d) 0 ≤ 0x1C00 = whichever (λ k. k ≤ 0x1C00) (is_enabled v.state) bits (omega arith) in
    omega (arith, state_word_most v.state, shown_most (2 ^ voltage_shown) voltage, shown_most (2 ^ remote_shown) remote)

-- ---- what the status word reads

pub record SameMotion (d d' : List ℕ) : Type 0 where
  pub control : read d' control_word ≡ read d control_word
  pub place : read d' position ≡ read d position
  pub window : read d' position_window ≡ read d position_window
  pub time : read d' window_time ≡ read d window_time
  pub speed : read d' velocity ≡ read d velocity
  pub speed_window : read d' velocity_window ≡ read d velocity_window
  pub threshold : read d' velocity_threshold ≡ read d velocity_threshold
  pub goal : read d' target_velocity ≡ read d target_velocity

-- the same place in the same window: the position is inside of the one where it is inside of the other
module _ (d d' : List ℕ) (place : read d' position ≡ read d position) (window : read d' position_window ≡ read d position_window) where
  pub near_same : (t : ℕ) → near t d' ≡ near t d
  unfolding near
  near_same t = rw (window, place)

  pub inside_same : (s : Store) → inside s d' ≡ inside s d
  unfolding inside
  inside_same Empty = refl
  inside_same (Rested t) = near_same t
  inside_same (Moving a) = near_same a.target
  inside_same (Queued a b) = near_same a.target

-- the same word of the same drive
module _ (d d' : List ℕ) (v : Drive) (h : SameMotion d d') where
  ack_same : (m : Mode) → ack_in_mode m v d' ≡ ack_in_mode m v d
  unfolding ack_in_mode slow
  ack_same NoMode = refl
  ack_same ProfilePosition = refl
  ack_same ProfileVelocity = rw (h.speed, h.threshold)

  at_once_same : (s : Store) → reached_at_once s d' ≡ reached_at_once s d
  unfolding reached_at_once
  at_once_same Empty = refl
  at_once_same (Rested t) = refl
  at_once_same (Moving a) = near_same d d' h.place h.window a.target
  at_once_same (Queued a b) = near_same d d' h.place h.window a.target

  position_same : position_reached v d' ≡ position_reached v d
  unfolding position_reached
  position_same = rw (h.time, at_once_same v.store, inside_same d d' h.place h.window v.store)

  reached_same : (m : Mode) → reached_in_mode m v d' ≡ reached_in_mode m v d
  unfolding reached_in_mode stands_still velocity_reached
  reached_same NoMode = refl
  reached_same ProfilePosition = rw (h.control, h.speed, position_same)
  reached_same ProfileVelocity = rw (h.control, h.speed, h.speed_window, h.goal)

  pub status_same : (remote voltage : Bool) → status remote voltage v d' ≡ status remote voltage v d
  unfolding status enabled_bits
  status_same remote voltage = rw (ack_same v.mode, reached_same v.mode)

-- ---- rows of the table

pub status_in : In status_word table
unfolding open_table
status_in = found_in 0x6041 0 refl

pub display_in : In mode_display table
unfolding open_table
display_in = found_in 0x6061 0 refl

pub mode_in : In mode table
unfolding open_table
mode_in = found_in 0x6060 0 refl

pub control_in : In control_word table
unfolding open_table
control_in = found_in 0x6040 0 refl

pub time_in : In heartbeat_time table
unfolding open_table
time_in = found_in 0x1017 0 refl

pub register_in : In error_register table
unfolding open_table
register_in = found_in 0x1001 0 refl

-- ---- 6041h and 6061h made

pub mode_fits : (m : Mode) → mode_number m < 256 ^ 1
mode_fits m = elim m as (λ (x : Mode). mode_number x < 256 ^ 1) [ NoMode ↦ omega arith | ProfilePosition ↦ omega arith | ProfileVelocity ↦ omega arith ]

pub settled_apart : (s : State) (d : List ℕ) (y : Row) → apart status_word y ≡ true → apart mode_display y ≡ true → read (settled s d) y ≡ read d y
unfolding settled
settled_apart s d y a b = read_apart mode_display y _ (store status_word (status_of s d) d) b ∙ read_apart status_word y _ d a

pub settled_length : (s : State) (d : List ℕ) → length (settled s d) ≡ length d
unfolding settled
settled_length s d = length_store mode_display _ _ ∙ length_store status_word _ d

pub settled_motion : (s : State) (d : List ℕ) → SameMotion d (settled s d)
unfolding open_table
settled_motion s d =
    record {
      control = settled_apart s d control_word refl refl;
      place = settled_apart s d position refl refl;
      window = settled_apart s d position_window refl refl;
      time = settled_apart s d window_time refl refl;
      speed = settled_apart s d velocity refl refl;
      speed_window = settled_apart s d velocity_window refl refl;
      threshold = settled_apart s d velocity_threshold refl refl;
      goal = settled_apart s d target_velocity refl refl;
    }

-- every other row of the table stays
pub settled_other : (s : State) (d : List ℕ) (y : Row) → In y table → (status_word ≡ y → ⊥) → (mode_display ≡ y → ⊥) → read (settled s d) y ≡ read d y
settled_other s d y i p q =
    let away : (x : Row) → In x table → (x ≡ y → ⊥) → apart x y ≡ true = λ x j n. elim (same_or_apart j i) [ inl e ↦ absurd (n e) | inr a ↦ a ] in
    settled_apart s d y (away status_word status_in p) (away mode_display display_in q)

pub settled_pdo : (s : State) (d : List ℕ) (y : Row) → In y table → is_pdo y.role ≡ true → read (settled s d) y ≡ read d y
settled_pdo s d y i h =
    let role : (x : Row) → x ≡ y → is_pdo y.role ≡ is_pdo x.role = λ x e. ap (λ (x : Row). is_pdo x.role) (sym e) in
    settled_other s d y i (λ e. clash (is_pdo y.role) h (role status_word e)) (λ e. clash (is_pdo y.role) h (role mode_display e))

module _ (s : State) (d : List ℕ) (long : length d ≡ dictionary_length) where
  pub settled_status : read (settled s d) status_word ≡ status_of s d
  unfolding settled status_of open_table
  settled_status =
      read_apart mode_display status_word _ (store status_word (status_of s d) d) refl
      ∙ read_same status_word (status_of s d) d (omega (arith, within status_in)) (status_fits _ _ _ d)

  pub settled_display : read (settled s d) mode_display ≡ mode_number s.axis.drive.mode
  unfolding settled
  settled_display =
      read_same mode_display (mode_number s.axis.drive.mode) (store status_word (status_of s d) d)
      (omega (arith, within display_in, length_store status_word (status_of s d) d)) (mode_fits s.axis.drive.mode)

-- ---- what a row of no PDO may hold

-- a row of no PDO that is no limit may hold what is in its range and fits it
pub drive_may : (n : ℕ) (d : List ℕ) (x : Row) (v : ℕ) → is_pdo x.role ≡ false → is_limit x.role ≡ false →
    is_constant x.access ≡ false → v < 256 ^ size_of x →
    in_range x v ≡ true → MayHold n d x v
drive_may n d x v r o c f g =
    record {
      fits = f;
      listed = λ k. clash (is_constant x.access) k c;
      ranged = g;
      entry = λ p e. clash (is_pdo x.role) (ap is_pdo e) r;
      count = λ p e. clash (is_pdo x.role) (ap is_pdo e) r;
      named = λ p e. clash (is_pdo x.role) (ap is_pdo e) r;
      ordered = no_order d v x.role o;
    }

-- of a type's whole range everything is in range
pub whole_range : (x : Row) (v : ℕ) → x.range ≡ whole x.type → x.role ≡ Plain → v < 256 ^ size_of x → in_range x v ≡ true
unfolding in_range
whole_range x v e r h =
    rw (e, r, le-ltb v 0 (omega arith), le-ltb (256 ^ size x.type - 1) v (omega arith))
