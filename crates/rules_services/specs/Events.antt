-- Document 01, 'NMT, emergency, time': the events 1 to 9, where each is in place, and what it does.
-- Assumes nothing.
use Rattle.std.specs.Prelude.{ℕ, List, [], ◌∷◌, Bool, true, false, cond, not, ◌&&◌, eqb, leb, get_or, length, Option, Some, None}
use Rattle.std.specs.Int.Bits.{bit_or}
use Rattle.drive.specs.declared.DriveState.TheVariants.{SwitchOnDisabled, FaultReactionActive, Fault as InFault}
use Rattle.state.specs.declared.State.{State}
use Rattle.state.specs.declared.Occasion.TheVariants.{Ticked}
use Rattle.rules_services.specs.declared.Event.{Event}
use Rattle.rules_services.specs.declared.Event.TheVariants.{Started, QuickStopDone, Fault, ReactionDone, Feedback, SetPointReached, Tick}
use Rattle.rules_services.specs.declared.Event.TheVariants.{CauseGone, Voltage}
use Rattle.rules_dictionary.specs.Numbers.{value, part}
use Rattle.rules_dictionary.specs.Table.{error_code, error_register, position, velocity}
use Rattle.rules_dictionary.specs.Values.{write, read, stored}
use Rattle.drive.specs.DriveStates.{is_not_ready, is_quick_stop, is_reaction, is_faulty}
use Rattle.drive.specs.SetPoints.{is_moving, moved_on, with_cause, enters}
use Rattle.rules_services.specs.Effects.{Effect, becomes, sends, writes, on, with_drive, with_voltage}
use Rattle.rules_services.specs.Emergency.{emergency}
use Rattle.rules_services.specs.Nmt.{tick as ticked}

-- the event, where it was told well
abbrev pub provided : Bool → Event → Option Event
provided true e = Some e
provided false e = None

-- by number and arguments: "1 started; 2 quick stop done; 3 fault, code u16, register u8; 4 reaction done; 5 feedback, position and
-- velocity i32; 6 set-point reached; 7 tick of 1 ms; 8 cause gone; 9 voltage flag u8". None: "event number unknown, wrong
-- argument size, voltage flag not 0/1, fault code 0"
unfoldable pub event_of : ℕ → List ℕ → Option Event
event_of k xs =
    cond (eqb k 1) (provided (eqb (length xs) 0) Started)
    (cond (eqb k 2) (provided (eqb (length xs) 0) QuickStopDone)
    (cond (eqb k 3) (provided (eqb (length xs) 3 && not (eqb (value (part 0 2 xs)) 0)) (Fault (value (part 0 2 xs)) (get_or xs 2 0)))
    (cond (eqb k 4) (provided (eqb (length xs) 0) ReactionDone)
    (cond (eqb k 5) (provided (eqb (length xs) 8) (Feedback (value (part 0 4 xs)) (value (part 4 4 xs))))
    (cond (eqb k 6) (provided (eqb (length xs) 0) SetPointReached)
    (cond (eqb k 7) (provided (eqb (length xs) 0) Tick)
    (cond (eqb k 8) (provided (eqb (length xs) 0) CauseGone)
    (cond (eqb k 9) (provided (eqb (length xs) 1 && leb (get_or xs 0 0) 1) (Voltage (eqb (get_or xs 0 0) 1))) None))))))))

-- "1 (only Not ready); 2 (only Quick stop active); 4 (only Fault reaction); 6 (only Moving, Queued); 8 (only with a cause)"
unfoldable pub is_in_place : Event → State → Bool
is_in_place Started s = is_not_ready s.axis.drive.state
is_in_place QuickStopDone s = is_quick_stop s.axis.drive.state
is_in_place ReactionDone s = is_reaction s.axis.drive.state
is_in_place SetPointReached s = is_moving s.axis.drive.store
is_in_place Tick s = true
is_in_place CauseGone s = s.axis.drive.cause
is_in_place (Fault code register) s = true
is_in_place (Feedback at speed) s = true
is_in_place (Voltage b) s = true

-- bit 0 of 1001h: generic error
abbrev pub generic_error : ℕ
generic_error = 1

-- "603Fh is the code, 1001h gains the register and bit 0, cause present, emergency; any state but the two fault states goes to
-- Fault reaction active"
unfoldable pub faulted : ℕ → ℕ → State → List ℕ → Effect
faulted code register s d =
    let v = s.axis.drive in
    let ws = write error_code code ∷ write error_register (bit_or (read d error_register) (bit_or register generic_error)) ∷ [] in
    let s' = with_drive (with_cause true (enters (cond (is_faulty v.state) v.state FaultReactionActive) v)) s in
    writes ws (sends (emergency code s' (stored ws d)) (becomes s'))

unfoldable pub happens : Event → State → List ℕ → Effect
happens Started s d = becomes (with_drive (enters SwitchOnDisabled s.axis.drive) s)
happens QuickStopDone s d = becomes (with_drive (enters SwitchOnDisabled s.axis.drive) s)
happens ReactionDone s d = becomes (with_drive (enters InFault s.axis.drive) s)
happens SetPointReached s d = becomes (with_drive (moved_on s.axis.drive) s)
happens Tick s d = on Ticked (ticked s d)
happens CauseGone s d = becomes (with_drive (with_cause false s.axis.drive) s)
happens (Fault code register) s d = faulted code register s d
happens (Feedback at speed) s d = writes (write position at ∷ write velocity speed ∷ []) (becomes s)
happens (Voltage b) s d = becomes (with_voltage b s)

-- opens every definition of this module, where a proof computes
unfoldable pub open_events : Unit {0}
unfolding event_of is_in_place faulted happens
open_events = tt
