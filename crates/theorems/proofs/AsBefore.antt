-- Ticket 2, "At 0 the answer is as before.": the status word, soundness, and every call that leaves 6068h at 0.
-- Assumes nothing.
use mathlib.Core.Bool.{and-true}
use Rattle.theorems.proofs.Words.{ℕ, ◌≡◌, refl, sym, ◌∙◌, ap, Bool, not, List, Mode, NoMode, ProfilePosition, ProfileVelocity, Drive, State}
use Rattle.theorems.proofs.Words.{is_stopped}
use Rattle.theorems.proofs.Settled.{settled_apart}
use Rattle.theorems.proofs.Lawful.{finally}
use Rattle.rules_dictionary.specs.Table.{status_word, mode_display, window_time, open_table}
use Rattle.rules_dictionary.specs.{Legal.mode_number, Values.read, Values.store, Values.stored}
use Rattle.drive.specs.SetPoints.{with_stay}
use Rattle.drive.specs.Window.{staying}
use Rattle.drive.specs.StatusWord.{status, enabled_bits, ack_in_mode, reached_in_mode, position_reached}
use Rattle.rules_services.specs.Effects.{Effect}
use Rattle.rules.specs.Outcome.{drive_at_end, followed, settled, status_of, ended, pace_for, enters_operational}
use Rattle.rules.specs.Sound.{sound, status_as_made, mode_as_made, plans_fresh, ready_fresh, drive_sound, store_in_place, taken_in_place, cause_in_place}
use Rattle.rules.specs.Sound.{waiting_sound, stay_sound}
use Rattle.rules.specs.Calls.{Decision, refuses, does as performs, refused, accepted, answered, answer}
use Rattle.theorems.specs.PromisesOfWindow.{reached_before, status_before, WordAsBefore, but_count, SoundAsBefore, ended_before, answered_before}
use Rattle.theorems.specs.PromisesOfWindow.{AnswersAsBefore}
use Rattle.theorems.specs.Promises.{decided_at}

-- ---- the word

reached_before_lem : (v : Drive) (d : List ℕ) → read d window_time ≡ 0 → (m : Mode) → reached_in_mode m v d ≡ reached_before m v d
unfolding reached_in_mode position_reached
reached_before_lem v d h NoMode = refl
reached_before_lem v d h ProfilePosition = rw h
reached_before_lem v d h ProfileVelocity = refl

pub word_as_before : WordAsBefore
unfolding status enabled_bits status_before
word_as_before remote powered v d h = rw (reached_before_lem v d h v.mode)

-- the word of before reads no count
module _ (n : ℕ) (v : Drive) (d : List ℕ) where
  ack_uncounted : (m : Mode) → ack_in_mode m (with_stay n v) d ≡ ack_in_mode m v d
  unfolding ack_in_mode
  ack_uncounted NoMode = refl
  ack_uncounted ProfilePosition = refl
  ack_uncounted ProfileVelocity = refl

  reached_uncounted : (m : Mode) → reached_before m (with_stay n v) d ≡ reached_before m v d
  reached_uncounted NoMode = refl
  reached_uncounted ProfilePosition = refl
  reached_uncounted ProfileVelocity = refl

  word_uncounted : (remote powered : Bool) → status_before remote powered (with_stay n v) d ≡ status_before remote powered v d
  unfolding status_before
  word_uncounted remote powered = rw (ack_uncounted v.mode, reached_uncounted v.mode)

-- ---- soundness

pub sound_as_before : SoundAsBefore
unfolding sound status_as_made status_of mode_as_made plans_fresh ready_fresh drive_sound store_in_place taken_in_place cause_in_place waiting_sound stay_sound
sound_as_before s d h =
    let v = s.axis.drive in
    let remote = not (is_stopped s.node.nmt) in
    let word : status remote s.node.voltage (with_stay 0 v) d ≡ status remote s.node.voltage v d =
    word_as_before remote s.node.voltage (with_stay 0 v) d h ∙ word_uncounted 0 v d remote s.node.voltage
    ∙ sym (word_as_before remote s.node.voltage v d h) in
    rw (word, and-true)

-- ---- the calls

-- the dictionary at the end is as before
settled_before : (d : List ℕ) (e : Effect) →
    let t = e.state in
    let d1 = stored e.writes d in
    let word = status_before (not (is_stopped t.node.nmt)) t.node.voltage t.axis.drive d1 in
    read d1 window_time ≡ 0 → settled (finally d e) d1 ≡ store mode_display (mode_number t.axis.drive.mode) (store status_word word d1)
unfolding settled status_of drive_at_end staying
settled_before d e h =
    let s = finally d e in
    let d1 = stored e.writes d in
    let remote = not (is_stopped s.node.nmt) in
    rw (
      word_as_before remote s.node.voltage s.axis.drive d1 h,
      word_uncounted s.axis.drive.stay e.state.axis.drive d1 remote s.node.voltage,
    )

answered_before_lem : (x : Decision) (s : State) (d o : List ℕ) → read (answered x s d o).dictionary window_time ≡ 0 →
    but_count (answered x s d o) ≡ but_count (answered_before x s d o)
unfolding answered answered_before refused accepted ended ended_before drive_at_end staying pace_for enters_operational open_table
answered_before_lem (refuses r) s d o h = refl
answered_before_lem (performs e) s d o h =
    let d1 = stored e.writes d in
    let zero : read d1 window_time ≡ 0 = sym (settled_apart (finally d e) d1 window_time refl refl) ∙ h in
    ap (λ (d' : List ℕ). but_count (accepted (followed s (finally d e) e.occasion e.sent d') o)) (settled_before d e zero)

pub answers_as_before : AnswersAsBefore
unfolding answer
answers_as_before k a h = answered_before_lem (decided_at k a) a.state a.dictionary k.output h
