-- The edges of 'Drive states' and 'Set-points', by computation: every command in every state, both ends of each window and limit,
-- what is taken and what is not.
-- Assumes nothing.
use Rattle.std.proofs.Common.{ℕ, ◌≡◌, refl, Bool, true, false, List, [], ◌∷◌, map, replicate}
use Rattle.rules_dictionary.specs.declared.Mode.TheVariants.{NoMode, ProfilePosition, ProfileVelocity}
use Rattle.drive.specs.declared.DriveState.{DriveState}
use Rattle.drive.specs.declared.DriveState.TheVariants.{NotReady, SwitchOnDisabled, ReadyToSwitchOn, SwitchedOn, OperationEnabled}
use Rattle.drive.specs.declared.DriveState.TheVariants.{QuickStopActive, FaultReactionActive, Fault}
use Rattle.drive.specs.declared.Command.TheVariants.{None, FaultReset, DisableVoltage, QuickStop, Shutdown, SwitchOn, Enable}
use Rattle.drive.specs.declared.SetPoint.{SetPoint}
use Rattle.drive.specs.declared.Store.{Store}
use Rattle.drive.specs.declared.Store.TheVariants.{Empty, Rested, Moving, Queued}
use Rattle.drive.specs.declared.Drive.{Drive}
use Rattle.rules_dictionary.specs.Numbers.{open_numbers}
use Rattle.rules_dictionary.specs.Table.{control_word, mode, position, position_window, target_position, minimum_position, maximum_position, velocity}
use Rattle.rules_dictionary.specs.Table.{velocity_window, velocity_threshold, target_velocity, profile_velocity, profile_acceleration}
use Rattle.rules_dictionary.specs.Table.{profile_deceleration}
use Rattle.rules_dictionary.specs.Table.{dictionary_length, open_table}
use Rattle.rules_dictionary.specs.Values.{Write, write, stored, open_values}
use Rattle.drive.specs.DriveStates.{command, next, resets, open_drive_states}
use Rattle.drive.specs.SetPoints.{offered, control_written, mode_written, set_point_rule, open_set_points}
use Rattle.drive.specs.StatusWord.{status, open_status_word}
use Rattle.drive.proofs.Every.{commands}

-- ---- commands: "read at each write, also of the same value"

-- from a word with bit 7 clear, and from one with bit 7 set
commands_read : (map (command 0x000F) (0x80 ∷ 0x8F ∷ 0x00 ∷ 0x0D ∷ 0x02 ∷ 0x0B ∷ 0x06 ∷ 0x0E ∷ 0x07 ∷ 0x0F ∷ 0x1F ∷ [])
    ≡ FaultReset ∷ FaultReset ∷ DisableVoltage ∷ DisableVoltage ∷ QuickStop ∷ QuickStop ∷ Shutdown ∷ Shutdown ∷ SwitchOn ∷ Enable ∷ Enable ∷ [])
    × (map (command 0x0080) (0x80 ∷ 0x8F ∷ 0x06 ∷ []) ≡ None ∷ None ∷ Shutdown ∷ [])
unfolding open_drive_states
commands_read = (refl, refl)

row : Bool → DriveState → List DriveState
row cause s = map (next cause s) commands

-- each state: under no command, Fault reset, Disable voltage, Quick stop, Shutdown, Switch on, Enable
drive_table : (row false NotReady ≡ replicate 7 NotReady)
    × (row false SwitchOnDisabled ≡ SwitchOnDisabled ∷ SwitchOnDisabled ∷ SwitchOnDisabled ∷ SwitchOnDisabled ∷ ReadyToSwitchOn ∷ SwitchOnDisabled
    ∷ SwitchOnDisabled ∷ [])
    × (row false ReadyToSwitchOn ≡ ReadyToSwitchOn ∷ ReadyToSwitchOn ∷ SwitchOnDisabled ∷ SwitchOnDisabled ∷ ReadyToSwitchOn ∷ SwitchedOn
    ∷ OperationEnabled ∷ [])
    × (row false SwitchedOn ≡ SwitchedOn ∷ SwitchedOn ∷ SwitchOnDisabled ∷ SwitchOnDisabled ∷ ReadyToSwitchOn ∷ SwitchedOn ∷ OperationEnabled ∷ [])
    × (row false OperationEnabled ≡ OperationEnabled ∷ OperationEnabled ∷ SwitchOnDisabled ∷ QuickStopActive ∷ ReadyToSwitchOn ∷ SwitchedOn
    ∷ OperationEnabled ∷ [])
    × (row false QuickStopActive ≡ QuickStopActive ∷ QuickStopActive ∷ SwitchOnDisabled ∷ QuickStopActive ∷ QuickStopActive ∷ QuickStopActive
    ∷ OperationEnabled ∷ [])
    × (row false FaultReactionActive ≡ replicate 7 FaultReactionActive)
    × (row false Fault ≡ Fault ∷ SwitchOnDisabled ∷ Fault ∷ Fault ∷ Fault ∷ Fault ∷ Fault ∷ [])
    × (row true Fault ≡ replicate 7 Fault)
unfolding row open_drive_states
drive_table = (refl, refl, refl, refl, refl, refl, refl, refl, refl)

-- a reset is one only in Fault and without cause
resets_told : (resets false Fault FaultReset ≡ true) × (resets true Fault FaultReset ≡ false) × (resets false FaultReactionActive FaultReset ≡ false)
unfolding open_drive_states
resets_told = (refl, refl, refl)

-- ---- a drive that positions, and a dictionary for it

-- limits -1000 and 1500, target 200, position 50, window 10, 6081h 7, 6083h 8, 6084h 9
pub bench : List Write → List ℕ
bench ws =
    stored (write minimum_position 0xFFFFFC18 ∷ write maximum_position 1500 ∷ write target_position 200 ∷ write position 50 ∷ write position_window 10
    ∷ write profile_velocity 7 ∷ write profile_acceleration 8 ∷ write profile_deceleration 9 ∷ ws) (replicate dictionary_length 0)

pub point : ℕ → SetPoint
point t = record { target = t; velocity = 7; acceleration = 8; deceleration = 9 }

pub other : ℕ → SetPoint
other t = record { target = t; velocity = 1; acceleration = 2; deceleration = 3 }

pub drive : Store → Bool → Bool → Drive
drive st taken limit = record { state = OperationEnabled; mode = ProfilePosition; store = st; taken = taken; limit = limit; cause = false; stay = 0 }

unfoldable pub open_edges : Unit {0}
unfolding bench point other drive open_numbers open_table open_values open_drive_states open_set_points open_status_word
open_edges = tt

-- ---- "target is 607Ah, or with bit 6 the last taken target (Empty: 6064h) plus 607Ah"

-- absolute; relative to the position, to the target at rest, to the one, to the second of two (bit 5: 7Fh replaces all)
targets_taken_lem : (offered (bench []) 0x1F (drive Empty false true) ≡ drive (Moving (point 200)) true false)
    × (offered (bench []) 0x5F (drive Empty false false) ≡ drive (Moving (point 250)) true false)
    × (offered (bench []) 0x5F (drive (Rested 300) false false) ≡ drive (Moving (point 500)) true false)
    × (offered (bench []) 0x5F (drive (Moving (other 400)) false false) ≡ drive (Queued (other 400) (point 600)) true false)
    × (offered (bench []) 0x7F (drive (Queued (other 400) (other 900)) false false) ≡ drive (Moving (point 1100)) true false)
    × (offered (bench []) 0x3F (drive (Queued (other 400) (other 900)) false false) ≡ drive (Moving (point 200)) true false)
unfolding open_edges
targets_taken_lem = (refl, refl, refl, refl, refl, refl)

-- "with bit 5 zero and Queued, not taken": no mark moves, even with a target outside
queue_full : (offered (bench []) 0x1F (drive (Queued (other 1) (other 2)) false false) ≡ drive (Queued (other 1) (other 2)) false false)
    × (offered (bench (write target_position 2000 ∷ [])) 0x1F (drive (Queued (other 1) (other 2)) false false)
    ≡ drive (Queued (other 1) (other 2)) false false)
unfolding open_edges
queue_full = (refl, refl)

-- "outside 607Dh or i32, not taken, limit mark set": both limits are inside, one past each is not
limits_count : (offered (bench (write target_position 1500 ∷ [])) 0x1F (drive Empty false false) ≡ drive (Moving (point 1500)) true false)
    × (offered (bench (write target_position 1501 ∷ [])) 0x1F (drive Empty false false) ≡ drive Empty false true)
    × (offered (bench (write target_position 0xFFFFFC18 ∷ [])) 0x1F (drive Empty false false) ≡ drive (Moving (point 0xFFFFFC18)) true false)
    × (offered (bench (write target_position 0xFFFFFC17 ∷ [])) 0x1F (drive Empty false false) ≡ drive Empty false true)
unfolding open_edges
limits_count = (refl, refl, refl, refl)

-- no sum wraps: 2^31-1 plus 1, with the widest limits, is outside
nothing_wraps : offered (bench (write minimum_position 0x80000000 ∷ write maximum_position 0x7FFFFFFF ∷ write target_position 1 ∷ [])) 0x5F
    (drive (Rested 0x7FFFFFFF) false false)
    ≡ drive (Rested 0x7FFFFFFF) false true
unfolding open_edges
nothing_wraps = refl

-- the edge of bit 4: taken, held, cleared; the limit mark outlasts bit 4
edge_of_bit_4 : (set_point_rule (bench []) 0x0F 0x1F (drive Empty false true) ≡ drive (Moving (point 200)) true false)
    × (set_point_rule (bench []) 0x1F 0x1F (drive (Moving (point 200)) true false) ≡ drive (Moving (point 200)) true false)
    × (set_point_rule (bench []) 0x1F 0x0F (drive (Moving (point 200)) true true) ≡ drive (Moving (point 200)) false true)
unfolding open_edges
edge_of_bit_4 = (refl, refl, refl)

-- 1Fh from Ready enables and takes in one word; with bit 7 set a set-point is taken all the same
ready : Drive
ready = record { state = ReadyToSwitchOn; mode = ProfilePosition; store = Empty; taken = false; limit = false; cause = false; stay = 0 }

control_and_take : ((control_written (bench (write control_word 0x1F ∷ [])) 0x06 ready).drive ≡ drive (Moving (point 200)) true false)
    × ((control_written (bench (write control_word 0x9F ∷ [])) 0x0F (drive Empty false false)).drive ≡ drive (Moving (point 200)) true false)
unfolding ready open_edges
control_and_take = (refl, refl)

-- "It empties, and both marks clear, on leaving Operation enabled or mode 1."
leaving_empties : ((control_written (bench (write control_word 0x1B ∷ [])) 0x1F (drive (Moving (point 1)) true true)).drive
    ≡ record { state = QuickStopActive; mode = ProfilePosition; store = Empty; taken = false; limit = false; cause = false; stay = 0 })
    × (mode_written (bench (write mode 3 ∷ [])) (drive (Moving (point 1)) true true)
    ≡ record { state = OperationEnabled; mode = ProfileVelocity; store = Empty; taken = false; limit = false; cause = false; stay = 0 })
    × (mode_written (bench (write mode 1 ∷ [])) (drive (Moving (point 1)) true true) ≡ drive (Moving (point 1)) true true)
unfolding open_edges
leaving_empties = (refl, refl, refl)

-- ---- the status word

-- bits 4 and 9: "Bit 4 voltage; bit 9 not Stopped"
idle : Drive
idle = record { state = SwitchOnDisabled; mode = NoMode; store = Empty; taken = false; limit = false; cause = false; stay = 0 }

voltage_and_remote : (status true false idle (bench []) ≡ 0x0240) × (status true true idle (bench []) ≡ 0x0250)
    × (status false true idle (bench []) ≡ 0x0050)
unfolding idle open_edges
voltage_and_remote = (refl, refl, refl)

-- of an enabled drive in mode 1, with the voltage on
word : List Write → Store → Bool → Bool → ℕ
word ws st taken limit = status true true (drive st taken limit) (bench ws)

-- bit 12: taken, or Queued; bit 11: the limit mark
acknowledge : (word [] (Moving (point 900)) false false ≡ 0x0237) × (word [] (Moving (point 900)) true false ≡ 0x1237)
    × (word [] (Queued (point 900) (point 901)) false false ≡ 0x1237) × (word [] (Moving (point 900)) false true ≡ 0x0A37)
unfolding word open_edges
acknowledge = (refl, refl, refl, refl)

-- bit 10 in mode 1: the window's ends count (40 and 60 about 50); of two the first is active; Rested always, Empty never
window_ends_count : (word [] (Moving (point 60)) false false ≡ 0x0637) × (word [] (Moving (point 61)) false false ≡ 0x0237)
    × (word [] (Moving (point 40)) false false ≡ 0x0637) × (word [] (Moving (point 39)) false false ≡ 0x0237)
    × (word [] (Queued (point 50) (point 900)) false false ≡ 0x1637) × (word [] (Rested 900) false false ≡ 0x0637)
    × (word [] Empty false false ≡ 0x0237)
unfolding word open_edges
window_ends_count = (refl, refl, refl, refl, refl, refl, refl)

-- with bit 8 of 6040h: standing still, whatever the store holds
halted : (word (write control_word 0x10F ∷ []) Empty false false ≡ 0x0637)
    × (word (write control_word 0x10F ∷ write velocity 1 ∷ []) (Rested 900) false false ≡ 0x0237)
unfolding word open_edges
halted = (refl, refl)

-- mode 3: 606Ch against 606Fh for bit 12, and 60FFh against 606Dh for bit 10; the magnitude of -2^31 is 2^31
turning : List Write → ℕ
turning ws =
    status true true
    (record { state = OperationEnabled; mode = ProfileVelocity; store = Empty; taken = false; limit = false; cause = false; stay = 0 })
    (bench (write velocity_threshold 5 ∷ write velocity_window 2 ∷ write target_velocity 10 ∷ ws))

velocity_bits : (turning (write velocity 5 ∷ []) ≡ 0x1237) × (turning (write velocity 6 ∷ []) ≡ 0x0237)
    × (turning (write velocity 0xFFFFFFFB ∷ []) ≡ 0x1237)
    × (turning (write velocity 8 ∷ []) ≡ 0x0637) × (turning (write velocity 7 ∷ []) ≡ 0x0237) × (turning (write velocity 12 ∷ []) ≡ 0x0637)
    × (turning (write velocity 0x80000000 ∷ []) ≡ 0x0237)
unfolding turning open_edges
velocity_bits = (refl, refl, refl, refl, refl, refl, refl)

-- "Enabled only": a limit mark or a window shows in no other state
enabled_only : status true true
    (record { state = SwitchedOn; mode = ProfilePosition; store = Rested 50; taken = true; limit = true; cause = false; stay = 0 })
    (bench []) ≡ 0x0233
unfolding open_edges
enabled_only = refl
