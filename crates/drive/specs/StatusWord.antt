-- Document 01, 'Drive states' and 'Set-points': the status word 6041h. Of ticket 2, bit 10 with the window time 6068h.
-- Assumes nothing.
use Rattle.std.specs.Prelude.{ℕ, ◌+◌, ◌^◌, List, Bool, true, false, cond, ◌&&◌, ◌||◌, eqb, leb, nat_abs}
use Rattle.rules_dictionary.specs.declared.Mode.{Mode}
use Rattle.rules_dictionary.specs.declared.Mode.TheVariants.{NoMode, ProfilePosition, ProfileVelocity}
use Rattle.drive.specs.declared.Store.{Store}
use Rattle.drive.specs.declared.Store.TheVariants.{Empty, Rested, Moving, Queued}
use Rattle.drive.specs.declared.Drive.{Drive}
use Rattle.rules_dictionary.specs.Numbers.{bit, integer}
use Rattle.rules_dictionary.specs.Table.{control_word, window_time, velocity, velocity_window, velocity_threshold, target_velocity}
use Rattle.rules_dictionary.specs.Values.{read}
use Rattle.drive.specs.DriveStates.{is_enabled, state_word}
use Rattle.drive.specs.SetPoints.{is_queued}
use Rattle.drive.specs.Window.{within, near, inside, open_window}

-- ---- the bits of 6041h beside the state's, and the one of 6040h that they look at

abbrev pub voltage_shown : ℕ
voltage_shown = 4

abbrev pub remote_shown : ℕ
remote_shown = 9

abbrev pub reached_shown : ℕ
reached_shown = 10

abbrev pub limit_shown : ℕ
limit_shown = 11

-- in mode 1 the acknowledge of a set-point, in mode 3 speed 0
abbrev pub ack_shown : ℕ
ack_shown = 12

abbrev pub halt_bit : ℕ
halt_bit = 8

-- that weight, where the flag is set
abbrev pub shown : ℕ → Bool → ℕ
shown weight true = weight
shown weight false = 0

-- that bit, where the flag is set
abbrev pub flag : ℕ → Bool → ℕ
flag k on = shown (2 ^ k) on

-- "magnitude of 606Ch at most 606Fh"
unfoldable pub slow : List ℕ → Bool
slow d = leb (nat_abs (integer (read d velocity))) (read d velocity_threshold)

-- "bit 12 in mode 1, taken or Queued; in mode 3, magnitude of 606Ch at most 606Fh"
unfoldable pub ack_in_mode : Mode → Drive → List ℕ → Bool
ack_in_mode NoMode v d = false
ack_in_mode ProfilePosition v d = v.taken || is_queued v.store
ack_in_mode ProfileVelocity v d = slow d

-- "in mode 1 Rested or active target within 6067h of 6064h (Empty: 0)": with no window time
unfoldable pub reached_at_once : Store → List ℕ → Bool
reached_at_once Empty d = false
reached_at_once (Rested t) d = true
reached_at_once (Moving a) d = near a.target d
reached_at_once (Queued a b) d = near a.target d

-- ticket 2: "bit 10 .. needs the position inside 6067h of the active target (Rested: of the target at rest) for the window time 6068h .. At 0 the
-- answer is as before."
unfoldable pub position_reached : Drive → List ℕ → Bool
position_reached v d =
    cond (eqb (read d window_time) 0) (reached_at_once v.store d) (inside v.store d && leb (read d window_time) v.stay)

-- "in mode 3 60FFh within 606Dh of 606Ch"
unfoldable pub velocity_reached : List ℕ → Bool
velocity_reached d = within (read d velocity_window) (integer (read d target_velocity)) (integer (read d velocity))

-- with bit 8 of 6040h set: "606Ch is 0"
unfoldable pub stands_still : List ℕ → Bool
stands_still d = eqb (read d velocity) 0

-- "Bit 10 with bit 8 of 6040h set (modes 1, 3): 606Ch is 0; else .."
unfoldable pub reached_in_mode : Mode → Drive → List ℕ → Bool
reached_in_mode NoMode v d = false
reached_in_mode ProfilePosition v d = cond (bit halt_bit (read d control_word)) (stands_still d) (position_reached v d)
reached_in_mode ProfileVelocity v d = cond (bit halt_bit (read d control_word)) (stands_still d) (velocity_reached d)

-- "Enabled only": bits 12, 11 and 10
unfoldable pub enabled_bits : Drive → List ℕ → ℕ
enabled_bits v d =
    flag ack_shown (ack_in_mode v.mode v d) + flag limit_shown v.limit + flag reached_shown (reached_in_mode v.mode v d)

-- "Bit 4 voltage; bit 9 not Stopped; rest below, else 0." The flags: not Stopped, voltage
unfoldable pub status : Bool → Bool → Drive → List ℕ → ℕ
status remote voltage v d =
    state_word v.state + flag voltage_shown voltage + flag remote_shown remote
    + cond (is_enabled v.state) (enabled_bits v d) 0

-- opens every definition of this module, where a proof computes
unfoldable pub open_status_word : Unit {0}
unfolding open_window slow ack_in_mode reached_at_once position_reached velocity_reached stands_still reached_in_mode enabled_bits status
open_status_word = tt
