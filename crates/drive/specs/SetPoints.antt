-- Document 01, 'Set-points': the store, the two marks, and the rule at the rising edge of bit 4; a control word, acted on. Of ticket 2, where
-- the ticks inside the window are counted from 0 again.
-- Assumes nothing.
use Rattle.std.specs.Prelude.{ℕ, List, Bool, true, false, cond, not, ◌&&◌, ◌||◌, eqb, ℤ, ◌+ℤ◌}
use Rattle.std.specs.Int.Signed.{le_z}
use Rattle.std.specs.Int.{w32}
use Rattle.std.proofs.Common.{of_z}
use Rattle.rules_dictionary.specs.declared.Mode.{Mode}
use Rattle.rules_dictionary.specs.declared.Mode.TheVariants.{NoMode, ProfilePosition, ProfileVelocity}
use Rattle.drive.specs.declared.DriveState.{DriveState}
use Rattle.drive.specs.declared.SetPoint.{SetPoint}
use Rattle.drive.specs.declared.Store.{Store}
use Rattle.drive.specs.declared.Store.TheVariants.{Empty, Rested, Moving, Queued}
use Rattle.drive.specs.declared.Drive.{Drive}
use Rattle.drive.specs.declared.Controlled.{Controlled}
use Rattle.rules_dictionary.specs.Numbers.{bit, integer}
use Rattle.rules_dictionary.specs.Table.{control_word, mode, position, target_position, minimum_position, maximum_position, profile_velocity}
use Rattle.rules_dictionary.specs.Table.{profile_acceleration, profile_deceleration}
use Rattle.rules_dictionary.specs.Values.{read}
use Rattle.rules_dictionary.specs.Legal.{mode_number}
use Rattle.drive.specs.DriveStates.{is_enabled, command, next, resets}

-- ---- the bits of 6040h in mode 1

abbrev pub new_set_point_bit : ℕ
new_set_point_bit = 4

abbrev pub at_once_bit : ℕ
at_once_bit = 5

abbrev pub relative_bit : ℕ
relative_bit = 6

-- ---- the drive with one part changed

abbrev pub with_state : DriveState → Drive → Drive
with_state s v = record { state = s; mode = v.mode; store = v.store; taken = v.taken; limit = v.limit; cause = v.cause; stay = v.stay }

abbrev pub with_mode : Mode → Drive → Drive
with_mode m v = record { state = v.state; mode = m; store = v.store; taken = v.taken; limit = v.limit; cause = v.cause; stay = v.stay }

abbrev pub with_cause : Bool → Drive → Drive
with_cause b v = record { state = v.state; mode = v.mode; store = v.store; taken = v.taken; limit = v.limit; cause = b; stay = v.stay }

abbrev pub with_store : Store → Drive → Drive
with_store s v = record { state = v.state; mode = v.mode; store = s; taken = v.taken; limit = v.limit; cause = v.cause; stay = v.stay }

abbrev pub with_marks : Bool → Bool → Drive → Drive
with_marks t l v = record { state = v.state; mode = v.mode; store = v.store; taken = t; limit = l; cause = v.cause; stay = v.stay }

abbrev pub with_stay : ℕ → Drive → Drive
with_stay n v =
    record { state = v.state; mode = v.mode; store = v.store; taken = v.taken; limit = v.limit; cause = v.cause; stay = n }

-- ---- the store

abbrev pub is_position : Mode → Bool
is_position NoMode = false
is_position ProfilePosition = true
is_position ProfileVelocity = false

-- Operation enabled with mode 1
abbrev pub positions : Drive → Bool
positions v = is_enabled v.state && is_position v.mode

-- "It empties, and both marks clear, on leaving Operation enabled or mode 1."
unfoldable pub emptied : Drive → Drive
emptied v = cond (positions v) v (with_marks false false (with_store Empty v))

abbrev pub is_empty : Store → Bool
is_empty Empty = true
is_empty (Rested t) = false
is_empty (Moving a) = false
is_empty (Queued a b) = false

abbrev pub is_queued : Store → Bool
is_queued Empty = false
is_queued (Rested t) = false
is_queued (Moving a) = false
is_queued (Queued a b) = true

-- Moving or Queued
abbrev pub is_moving : Store → Bool
is_moving Empty = false
is_moving (Rested t) = false
is_moving (Moving a) = true
is_moving (Queued a b) = true

-- "the last taken target (Empty: 6064h)"
abbrev pub last_target : ℕ → Store → ℕ
last_target here Empty = here
last_target here (Rested t) = t
last_target here (Moving a) = a.target
last_target here (Queued a b) = b.target

-- "else Moving, or Queued behind one"
abbrev pub behind : Store → SetPoint → Store
behind Empty a = Moving a
behind (Rested t) a = Moving a
behind (Moving b) a = Queued b a
behind (Queued b c) a = Queued b c

-- "Event 6 moves on, or to Rested."
abbrev pub reached : Store → Store
reached Empty = Empty
reached (Rested t) = Rested t
reached (Moving a) = Rested a.target
reached (Queued a b) = Moving b

-- ticket 2: "a new active set-point starts again", also one with the same target. The second one that becomes the first is new; from Moving to
-- Rested the target stays
unfoldable pub moved_on : Drive → Drive
moved_on v = with_stay (cond (is_queued v.store) 0 v.stay) (with_store (reached v.store) v)

-- ---- the edge of bit 4

-- "target is 607Ah, or with bit 6 the last taken target (Empty: 6064h) plus 607Ah"
unfoldable pub target : List ℕ → ℕ → Store → ℤ
target d word held =
    cond (bit relative_bit word) (integer (last_target (read d position) held) +ℤ integer (read d target_position))
    (integer (read d target_position))

-- inside 607Dh; its limits are i32, so that this is inside i32 too
unfoldable pub within_limits : List ℕ → ℤ → Bool
within_limits d t = le_z (integer (read d minimum_position)) t && le_z t (integer (read d maximum_position))

-- "taken with 6081h, 6083h, 6084h"
unfoldable pub set_point : List ℕ → ℤ → SetPoint
set_point d t =
    record {
      target = of_z w32 t;
      velocity = read d profile_velocity;
      acceleration = read d profile_acceleration;
      deceleration = read d profile_deceleration;
    }

-- what is taken becomes the active set-point: with bit 5, or where no other is on its way; else it waits behind one
abbrev pub becomes_active : Bool → Store → Bool
becomes_active at_once held = at_once || not (is_moving held)

-- "bit 5 replaces all, else Moving, or Queued behind one. Taken sets the taken mark and clears the limit mark"; ticket 2: "a new active
-- set-point starts again"
unfoldable pub with_taken : ℕ → SetPoint → Drive → Drive
with_taken word a v =
    let at_once = bit at_once_bit word in
    with_marks true false
    (with_stay (cond (becomes_active at_once v.store) 0 v.stay) (with_store (cond at_once (Moving a) (behind v.store a)) v))

-- "with bit 5 zero and Queued, not taken; .. outside 607Dh or i32, not taken, limit mark set. Otherwise taken"
unfoldable pub offered : List ℕ → ℕ → Drive → Drive
offered d word v =
    let t = target d word v.store in
    cond (not (bit at_once_bit word) && is_queued v.store) v
    (cond (within_limits d t) (with_taken word (set_point d t) v) (with_marks v.taken true v))

-- "if enabled in mode 1 and bit 4 rose against the old 6040h"; "bit 4 zero clears the taken mark"
unfoldable pub set_point_rule : List ℕ → ℕ → ℕ → Drive → Drive
set_point_rule d old word v =
    cond (bit new_set_point_bit word) (cond (positions v && not (bit new_set_point_bit old)) (offered d word v) v)
    (with_marks false v.limit v)

-- ---- 6060h and 6040h, acted on as they now stand in the dictionary

-- the drive in that state, left as the rules leave it
unfoldable pub enters : DriveState → Drive → Drive
enters s v = emptied (with_state s v)

-- the mode of a legal 6060h
abbrev pub mode_of : ℕ → Mode
mode_of v =
    cond (eqb v (mode_number ProfilePosition)) ProfilePosition
    (cond (eqb v (mode_number ProfileVelocity)) ProfileVelocity NoMode)

unfoldable pub mode_written : List ℕ → Drive → Drive
mode_written d v = emptied (with_mode (mode_of (read d mode)) v)

-- the drive command first, then the set-point; `old` is 6040h before the write
unfoldable pub control_written : List ℕ → ℕ → Drive → Controlled
control_written d old v =
    let word = read d control_word in
    let c = command old word in
    record { drive = set_point_rule d old word (enters (next v.cause v.state c) v); reset = resets v.cause v.state c }

-- opens every definition of this module, where a proof computes
unfoldable pub open_set_points : Unit {0}
unfolding emptied moved_on target within_limits set_point with_taken offered set_point_rule enters mode_written control_written
open_set_points = tt
