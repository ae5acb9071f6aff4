-- 'NMT, emergency, time', the events, of node 5 written out: each by number and bytes, where it is in place, and what it does.
-- Assumes nothing.
use Prim.Native.Nat.{ℕ}
use mathlib.Core.Path.{◌≡◌, refl}
use mathlib.Core.Bool.{Bool, true, false}
use mathlib.Core.List.{List, [], ◌∷◌, map}
use Rattle.std.specs.Prelude.{Some, None}
use Rattle.state.specs.declared.NmtState.TheVariants.{PreOperational, Operational, Stopped}
use Rattle.state.specs.declared.State.{State}
use Rattle.state.specs.declared.Occasion.TheVariants.{Ticked}
use Rattle.rules_dictionary.specs.declared.Mode.TheVariants.{ProfilePosition}
use Rattle.drive.specs.declared.Drive.{Drive}
use Rattle.drive.specs.declared.DriveState.{DriveState}
use Rattle.drive.specs.declared.DriveState.TheVariants.{NotReady, SwitchOnDisabled, ReadyToSwitchOn, SwitchedOn, OperationEnabled, QuickStopActive}
use Rattle.drive.specs.declared.DriveState.TheVariants.{FaultReactionActive, Fault as InFault}
use Rattle.drive.specs.declared.SetPoint.{SetPoint}
use Rattle.drive.specs.declared.Store.{Store}
use Rattle.drive.specs.declared.Store.TheVariants.{Empty, Rested, Moving, Queued}
use Rattle.rules_dictionary.specs.Table.{error_register, error_code, position, velocity, heartbeat_time}
use Rattle.rules_dictionary.specs.Values.{store}
use Rattle.drive.specs.SetPoints.{with_stay}
use Rattle.rules_services.specs.declared.Event.{Event}
use Rattle.rules_services.specs.declared.Event.TheVariants.{Started, QuickStopDone, Fault, ReactionDone, Feedback, SetPointReached, Tick}
use Rattle.rules_services.specs.declared.Event.TheVariants.{CauseGone, Voltage}
use Rattle.rules_services.specs.Effects.{frame, becomes, on, with_drive, with_heartbeat, with_voltage}
use Rattle.rules_services.specs.Events.{event_of, is_in_place, happens}
use Rattle.rules_services.proofs.Node5.{fresh, node, operational, after, eight, sent8, open_edges}

-- ---- by number and bytes: "event number unknown, wrong argument size, voltage flag not 0/1, fault code 0" are bad

-- "1 started; 2 quick stop done; 4 reaction done; 6 set-point reached; 7 tick; 8 cause gone": with no byte; no 0, 10, 255
bare_events : map (λ k. event_of k []) (1 ∷ 2 ∷ 4 ∷ 6 ∷ 7 ∷ 8 ∷ 0 ∷ 3 ∷ 5 ∷ 9 ∷ 10 ∷ 11 ∷ 255 ∷ [])
    ≡ Some Started
    ∷ Some QuickStopDone
    ∷ Some ReactionDone
    ∷ Some SetPointReached
    ∷ Some Tick
    ∷ Some CauseGone
    ∷ None
    ∷ None
    ∷ None
    ∷ None
    ∷ None
    ∷ None
    ∷ None
    ∷ []
unfolding open_edges
bare_events = refl

-- of one byte, 9 alone
one_byte_events : map (λ k. event_of k (0x01 ∷ [])) (0 ∷ 1 ∷ 2 ∷ 3 ∷ 4 ∷ 5 ∷ 6 ∷ 7 ∷ 8 ∷ 9 ∷ 10 ∷ [])
    ≡ None ∷ None ∷ None ∷ None ∷ None ∷ None ∷ None ∷ None ∷ None ∷ Some (Voltage true) ∷ None ∷ []
unfolding open_edges
one_byte_events = refl

-- of eight bytes, 5 alone
eight_byte_events : map (λ k. event_of k (eight 0x01 0x00 0x00 0x00 0x02 0x00 0x00 0x00)) (0 ∷ 1 ∷ 2 ∷ 3 ∷ 4 ∷ 5 ∷ 6 ∷ 7 ∷ 8 ∷ 9 ∷ 10 ∷ [])
    ≡ None ∷ None ∷ None ∷ None ∷ None ∷ Some (Feedback 1 2) ∷ None ∷ None ∷ None ∷ None ∷ None ∷ []
unfolding open_edges
eight_byte_events = refl

-- "3 fault, code u16, register u8": three bytes, low byte first, not two or four; of code 0 none, 0001h and 0100h are codes
fault_bytes : map (event_of 3)
    ((0x10 ∷ 0x23 ∷ 0x02 ∷ []) ∷ (0x01 ∷ 0x00 ∷ 0xFF ∷ []) ∷ (0x00 ∷ 0x01 ∷ 0x00 ∷ []) ∷ (0x00 ∷ 0x00 ∷ 0x02 ∷ []) ∷ (0x10 ∷ 0x23 ∷ [])
    ∷ (0x10 ∷ 0x23 ∷ 0x02 ∷ 0x00 ∷ []) ∷ [])
    ≡ Some (Fault 0x2310 0x02) ∷ Some (Fault 0x0001 0xFF) ∷ Some (Fault 0x0100 0x00) ∷ None ∷ None ∷ None ∷ []
unfolding open_edges
fault_bytes = refl

-- "5 feedback, position and velocity i32": eight bytes, not seven or nine; -2 and 70000, low byte first, and every byte of both another
feedback_bytes : map (event_of 5)
    (eight 0xFE 0xFF 0xFF 0xFF 0x70 0x11 0x01 0x00 ∷ eight 0x01 0x02 0x03 0x04 0x05 0x06 0x07 0x88
    ∷ (0xFE ∷ 0xFF ∷ 0xFF ∷ 0xFF ∷ 0x70 ∷ 0x11 ∷ 0x01 ∷ [])
    ∷ (0xFE ∷ 0xFF ∷ 0xFF ∷ 0xFF ∷ 0x70 ∷ 0x11 ∷ 0x01 ∷ 0x00 ∷ 0x00 ∷ []) ∷ (0xFE ∷ 0xFF ∷ 0xFF ∷ 0xFF ∷ []) ∷ [])
    ≡ Some (Feedback 0xFFFFFFFE 0x00011170) ∷ Some (Feedback 0x04030201 0x88070605) ∷ None ∷ None ∷ None ∷ []
unfolding open_edges
feedback_bytes = refl

-- "9 voltage flag u8": 0 and 1, not 2 or 255, of one byte
voltage_bytes : map (event_of 9) ((0x00 ∷ []) ∷ (0x01 ∷ []) ∷ (0x02 ∷ []) ∷ (0xFF ∷ []) ∷ [] ∷ (0x01 ∷ 0x00 ∷ []) ∷ [])
    ≡ Some (Voltage false) ∷ Some (Voltage true) ∷ None ∷ None ∷ None ∷ None ∷ []
unfolding open_edges
voltage_bytes = refl

-- ---- in place

abbrev each_state : List DriveState
each_state =
    NotReady ∷ SwitchOnDisabled ∷ ReadyToSwitchOn ∷ SwitchedOn ∷ OperationEnabled ∷ QuickStopActive ∷ FaultReactionActive ∷ InFault ∷ []

in_place : Event → List Bool
in_place e = map (λ v. is_in_place e (node Operational v)) each_state

-- "1 started (only Not ready); 2 quick stop done (only Quick stop active); 4 reaction done (only Fault reaction)"
state_bound : (in_place Started ≡ true ∷ false ∷ false ∷ false ∷ false ∷ false ∷ false ∷ false ∷ [])
    × (in_place QuickStopDone ≡ false ∷ false ∷ false ∷ false ∷ false ∷ true ∷ false ∷ false ∷ [])
    × (in_place ReactionDone ≡ false ∷ false ∷ false ∷ false ∷ false ∷ false ∷ true ∷ false ∷ [])
unfolding in_place open_edges
state_bound = (refl, refl, refl)

-- 3, 5, 7 and 9 are in place in every drive state
anywhere : (in_place (Fault 0x2310 0x02) ≡ true ∷ true ∷ true ∷ true ∷ true ∷ true ∷ true ∷ true ∷ [])
    × (in_place (Feedback 1 2) ≡ true ∷ true ∷ true ∷ true ∷ true ∷ true ∷ true ∷ true ∷ [])
    × (in_place Tick ≡ true ∷ true ∷ true ∷ true ∷ true ∷ true ∷ true ∷ true ∷ [])
    × (in_place (Voltage true) ≡ true ∷ true ∷ true ∷ true ∷ true ∷ true ∷ true ∷ true ∷ [])
unfolding in_place open_edges
anywhere = (refl, refl, refl, refl)

-- a drive with a fault's cause, or without
abbrev driven : DriveState → Bool → Drive
driven v cause = record { state = v; mode = ProfilePosition; store = Empty; taken = false; limit = false; cause = cause; stay = 0 }

-- "8 cause gone (only with a cause)": in both fault states; in neither without
cause_bound : map (λ v. is_in_place CauseGone (with_drive v operational))
    (driven FaultReactionActive true ∷ driven InFault true ∷ driven FaultReactionActive false ∷ driven InFault false
    ∷ driven SwitchOnDisabled false ∷ [])
    ≡ true ∷ true ∷ false ∷ false ∷ false ∷ []
unfolding open_edges
cause_bound = refl

abbrev point : ℕ → SetPoint
point t = record { target = t; velocity = 10; acceleration = 2; deceleration = 3 }

-- Operation enabled in mode 1 with that store, both marks set
abbrev moving : Store → Drive
moving s = record { state = OperationEnabled; mode = ProfilePosition; store = s; taken = true; limit = true; cause = false; stay = 0 }

-- "6 set-point reached (only Moving, Queued)"
store_bound : map (λ s. is_in_place SetPointReached (with_drive (moving s) operational))
    (Empty ∷ Rested 1000 ∷ Moving (point 1000) ∷ Queued (point 1000) (point 2000) ∷ []) ≡ false ∷ false ∷ true ∷ true ∷ []
unfolding open_edges
store_bound = refl

-- ---- what each does

-- "Event 1 to disabled, event 4 to Fault"; "event 2 to disabled"; the cause stays as it was
states_led_to : (happens Started (node PreOperational NotReady) fresh ≡ becomes (node PreOperational SwitchOnDisabled))
    × (happens QuickStopDone (node Operational QuickStopActive) fresh ≡ becomes (node Operational SwitchOnDisabled))
    × (happens ReactionDone (with_drive (driven FaultReactionActive true) operational) fresh ≡ becomes (with_drive (driven InFault true) operational))
    × (happens ReactionDone (with_drive (driven FaultReactionActive false) operational) fresh
    ≡ becomes (with_drive (driven InFault false) operational))
unfolding open_edges
states_led_to = (refl, refl, refl, refl)

-- "Event 6 moves on, or to Rested": both marks stay
moves_on : (happens SetPointReached (with_drive (moving (Queued (point 1000) (point 2000))) operational) fresh
    ≡ becomes (with_drive (moving (Moving (point 2000))) operational))
    × (happens SetPointReached (with_drive (moving (Moving (point 2000))) operational) fresh
    ≡ becomes (with_drive (moving (Rested 2000)) operational))
unfolding open_edges
moves_on = (refl, refl)

-- ticket 2, with 7 ticks counted: "the second becoming the first by event 6; also with the same target .. Event 6 from Moving to Rested goes on
-- counting." Nothing is written or sent
moves_on_counting : map (λ st. happens SetPointReached (with_drive (with_stay 7 (moving st)) operational) fresh)
    (Queued (point 1000) (point 2000) ∷ Queued (point 1000) (point 1000) ∷ Moving (point 2000) ∷ [])
    ≡ map (λ v. becomes (with_drive v operational))
    (moving (Moving (point 2000)) ∷ moving (Moving (point 1000)) ∷ with_stay 7 (moving (Rested 2000)) ∷ [])
unfolding open_edges
moves_on_counting = refl

-- a tick is counted at the call's end, and not by the event too; nor does feedback touch the count
ticks_left_to_the_end : (map (λ st. happens Tick (with_drive (with_stay 7 (moving st)) operational) fresh) (Rested 0 ∷ Rested 1 ∷ [])
    ≡ map (λ st. on Ticked (becomes (with_drive (with_stay 7 (moving st)) operational))) (Rested 0 ∷ Rested 1 ∷ []))
    × ((happens (Feedback 1 0) (with_drive (with_stay 7 (moving (Rested 0))) operational) fresh).state
    ≡ with_drive (with_stay 7 (moving (Rested 0))) operational)
unfolding open_edges
ticks_left_to_the_end = (refl, refl)

-- event 8: the cause is gone, the state stays
cause_gone_lem : (happens CauseGone (with_drive (driven InFault true) operational) fresh ≡ becomes (with_drive (driven InFault false) operational))
    × (happens CauseGone (with_drive (driven FaultReactionActive true) operational) fresh
    ≡ becomes (with_drive (driven FaultReactionActive false) operational))
unfolding open_edges
cause_gone_lem = (refl, refl)

-- event 9: the flag, and nothing else; the heartbeat's count goes on
voltage_told : (happens (Voltage true) (with_heartbeat 3 (node Stopped OperationEnabled)) fresh
    ≡ becomes (with_voltage true (with_heartbeat 3 (node Stopped OperationEnabled))))
    × ((happens (Voltage true) (with_heartbeat 3 operational) fresh).state.node ≡ record { id = 5; nmt = Operational; voltage = true; heartbeat = 3 })
    × ((happens (Voltage true) (with_heartbeat 3 (node Stopped NotReady)) fresh).state.node
    ≡ record { id = 5; nmt = Stopped; voltage = true; heartbeat = 3 })
    × (happens (Voltage false) (with_voltage true operational) fresh ≡ becomes operational)
unfolding open_edges
voltage_told = (refl, refl, refl, refl)

-- event 5: position in 6064h, velocity in 606Ch, in every NMT state, and nothing sent
feedback_told : (map (after fresh (happens (Feedback 0xFFFFFFFE 0x00011170) (node Stopped NotReady) fresh)) (position ∷ velocity ∷ [])
    ≡ 0xFFFFFFFE ∷ 0x00011170 ∷ [])
    × ((happens (Feedback 0xFFFFFFFE 0x00011170) (node Stopped NotReady) fresh).sent ≡ [])
    × ((happens (Feedback 0x80000000 0x7FFFFFFF) operational fresh).state ≡ operational)
unfolding open_edges
feedback_told = (refl, refl, refl)

-- event 7: a heartbeat at the 1017h-th tick, and the occasion of a tick; of 0 nothing is counted
ticks : (happens Tick (with_heartbeat 1 operational) (store heartbeat_time 2 fresh)
    ≡ record { state = operational; writes = []; sent = frame 0x705 (0x05 ∷ []) ∷ []; occasion = Ticked })
    × (happens Tick operational (store heartbeat_time 2 fresh)
    ≡ record { state = with_heartbeat 1 operational; writes = []; sent = []; occasion = Ticked })
    × (happens Tick operational fresh ≡ record { state = operational; writes = []; sent = []; occasion = Ticked })
unfolding open_edges
ticks = (refl, refl, refl)

-- ---- event 3

-- "any state but the two fault states goes to Fault reaction active"
faults_from_each : map (λ v. (happens (Fault 0x2310 0x02) (node Operational v) fresh).state.axis.drive.state) each_state
    ≡ FaultReactionActive
    ∷ FaultReactionActive
    ∷ FaultReactionActive
    ∷ FaultReactionActive
    ∷ FaultReactionActive
    ∷ FaultReactionActive
    ∷ FaultReactionActive
    ∷ InFault
    ∷ []
unfolding open_edges
faults_from_each = refl

-- "cause present", in every state
faults_cause : map (λ v. (happens (Fault 0x2310 0x02) (node Operational v) fresh).state.axis.drive.cause) each_state
    ≡ true ∷ true ∷ true ∷ true ∷ true ∷ true ∷ true ∷ true ∷ []
unfolding open_edges
faults_cause = refl

-- leaving Operation enabled empties the store and clears both marks
fault_while_moving : (happens (Fault 0x2310 0x02) (with_drive (moving (Moving (point 1000))) operational) fresh).state
    ≡ with_drive (driven FaultReactionActive true) operational
unfolding open_edges
fault_while_moving = refl

-- in Fault with its cause, 1001h 83h
abbrev in_fault : State
in_fault = with_drive (driven InFault true) operational

troubled : List ℕ
troubled = store error_register 0x83 fresh

-- a second fault, with the first present: "603Fh is the code, 1001h gains the register and bit 0", emergency with what 1001h has gained
second_fault : (map (after troubled (happens (Fault 0x8611 0x20) in_fault troubled)) (error_code ∷ error_register ∷ []) ≡ 0x8611 ∷ 0xA3 ∷ [])
    × ((happens (Fault 0x8611 0x20) in_fault troubled).sent ≡ sent8 0x085 0x11 0x86 0xA3 0x00 0x00 0x00 0x00 0x00)
    × ((happens (Fault 0x8611 0x20) in_fault fresh).state ≡ in_fault)
    × ((happens (Fault 0x8611 0x20) (with_drive (driven FaultReactionActive false) operational) fresh).state
    ≡ with_drive (driven FaultReactionActive true) operational)
unfolding troubled open_edges
second_fault = (refl, refl, refl, refl)

-- "none while Stopped", and in Pre-operational one; 603Fh and 1001h are written all the same; register 0 gains bit 0, FFh stays
fault_emergencies : (map (λ m. (happens (Fault 0x2310 0x02) (node m NotReady) fresh).sent) (PreOperational ∷ Operational ∷ Stopped ∷ [])
    ≡ sent8 0x085 0x10 0x23 0x03 0x00 0x00 0x00 0x00 0x00 ∷ sent8 0x085 0x10 0x23 0x03 0x00 0x00 0x00 0x00 0x00 ∷ [] ∷ [])
    × (map (after fresh (happens (Fault 0xFF01 0x00) (node Stopped NotReady) fresh)) (error_code ∷ error_register ∷ []) ≡ 0xFF01 ∷ 0x01 ∷ [])
    × (after fresh (happens (Fault 0xFF01 0xFE) (node Stopped NotReady) fresh) error_register ≡ 0xFF)
unfolding open_edges
fault_emergencies = (refl, refl, refl)
