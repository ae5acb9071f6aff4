-- Ticket 5, 'Swapped software limits': what holds of set-points and the limits 607Dh, of every run, with the few definitions that this needs.
-- Their proofs stand in proofs/.
-- Assumes nothing.
use Rattle.std.specs.Prelude.{ℕ, ◌≤◌, ◌≡◌, true, false, cond, not, ◌||◌, List, [], ◌∷◌, length}
use Rattle.std.specs.Int.Signed.{le_z}
use Rattle.rules_dictionary.specs.declared.Mode.TheVariants.{ProfilePosition}
use Rattle.drive.specs.declared.Command.TheVariants.{Enable}
use Rattle.drive.specs.declared.SetPoint.{SetPoint}
use Rattle.drive.specs.declared.Store.{Store}
use Rattle.drive.specs.declared.Store.TheVariants.{Moving}
use Rattle.state.specs.declared.Refusal.TheVariants.{Accepted}
use Rattle.rules_dictionary.specs.Numbers.{bit, integer}
use Rattle.rules_dictionary.specs.Table.{status_word, mode, control_word, target_position, minimum_position, maximum_position}
use Rattle.rules_dictionary.specs.Values.{Write, read, stored}
use Rattle.rules_dictionary.specs.Legal.{mode_number}
use Rattle.drive.specs.DriveStates.{command}
use Rattle.drive.specs.SetPoints.{new_set_point_bit, at_once_bit, relative_bit, positions, is_queued, behind, within_limits, set_point}
use Rattle.drive.specs.StatusWord.{ack_shown}
use Rattle.rules.specs.Outcome.{most_data}
use Rattle.rules.specs.Calls.{frame_call, Outcome, output_length}
use Rattle.theorems.specs.Promises.{Stand, Run, does, reached, applies}

-- ---- "A write to 607Dh:1 or :2 that would leave minimum above maximum is now refused.": after any calls minimum is at most maximum, as integers

abbrev pub LimitsInOrder : Type 0
LimitsInOrder = (r : Run) →
    let d = (reached r).dictionary in
    le_z (integer (read d minimum_position)) (integer (read d maximum_position)) ≡ true

-- so that not every set-point is turned down: each limit itself is a target between them
abbrev pub LimitsAreTargets : Type 0
LimitsAreTargets = (r : Run) →
    let d = (reached r).dictionary in
    (within_limits d (integer (read d minimum_position)) ≡ true) × (within_limits d (integer (read d maximum_position)) ≡ true)

-- ---- "every set-point was turned down": from any state of a run, enabled in mode 1 with a free edge, an absolute set-point between the limits is
-- taken, however 6040h comes

-- where a run stands enabled in mode 1 with a free edge: bit 4 of 6040h is 0, so that a 1 is an edge
pub record StandsReady (a : Stand) : Type 0 where
  pub enabled : positions a.state.axis.drive ≡ true
  pub free : bit new_set_point_bit (read a.dictionary control_word) ≡ false

-- a call that brings those values: an expedited SDO write, the last segment of an SDO write by segments, a receive PDO that is applied at once, or
-- SYNC with one frame held. The frame is no longer than 8 bytes, and there is room for what is sent
pub record Brings (ws : List Write) (i : ℕ) (bs o : List ℕ) (a : Stand) : Type 0 where
  pub values : applies i bs a.state a.dictionary ≡ ws ∷ []
  pub short : length bs ≤ most_data
  pub room : output_length ≤ length o

-- a control word that asks for an absolute set-point, behind an old one and with those set-points held: it is Enable, bit 4 is 1 and bit 6 is 0, and
-- bit 5 is 1 or there is room for one more
pub record AsksAbsolute (old word : ℕ) (held : Store) : Type 0 where
  pub enables : command old word ≡ Enable
  pub rises : bit new_set_point_bit word ≡ true
  pub absolute : bit relative_bit word ≡ false
  pub room : (bit at_once_bit word || not (is_queued held)) ≡ true

-- that set-point is taken: bit 5 replaces all that was held, else it is Moving, or Queued behind one. The taken mark is set, the limit mark is
-- cleared, and 6041h acknowledges it by bit 12 in the same call
pub record TakenAs (word : ℕ) (p : SetPoint) (held : Store) (u : Outcome) : Type 0 where
  pub accepted : u.refusal ≡ Accepted
  pub store : u.state.axis.drive.store ≡ cond (bit at_once_bit word) (Moving p) (behind held p)
  pub taken : u.state.axis.drive.taken ≡ true
  pub limit : u.state.axis.drive.limit ≡ false
  pub shown : bit ack_shown (read u.dictionary status_word) ≡ true

-- what is asked, the target 607Ah, the limits and the profile are those of the dictionary with the values stored, d; 6060h is 1 in it
abbrev pub TakesBetweenLimits : Type 0
TakesBetweenLimits = (r : Run) (i : ℕ) (bs o : List ℕ) (ws : List Write) →
    let a = reached r in
    let d = stored ws a.dictionary in
    let held = a.state.axis.drive.store in
    let t = integer (read d target_position) in
    StandsReady a → Brings ws i bs o a → read d mode ≡ mode_number ProfilePosition →
    AsksAbsolute (read a.dictionary control_word) (read d control_word) held → within_limits d t ≡ true →
    TakenAs (read d control_word) (set_point d t) held (does (record { call = frame_call i bs; output = o }) a)
