-- What a call makes of a drive that is enabled, and of the objects: the values that it brings are stored and acted on, frame by frame; event 6 moves
-- the set-points on; nothing else touches it but power-up, the NMT commands 02h, 81h and 82h, and a fault. Its proof stands in proofs/.
-- Assumes nothing.
use Rattle.std.specs.Prelude.{ℕ, ◌≡◌, Bool, true, false, cond, ◌&&◌, ◌||◌, List, [], ◌∷◌, eqb, length, get_or, Option}
use Rattle.std.specs.Prelude.{Some as event, None as bad_event}
use Rattle.drive.specs.declared.Drive.{Drive}
use Rattle.drive.specs.DriveStates.{is_enabled}
use Rattle.drive.specs.SetPoints.{mode_written, control_written, moved_on}
use Rattle.state.specs.declared.State.{State}
use Rattle.rules_dictionary.specs.Table.{Row, table, same, status_word, mode_display, control_word, mode, position, velocity}
use Rattle.rules_dictionary.specs.Values.{Write, write, read, stored}
use Rattle.rules_dictionary.specs.Members.{In}
use Rattle.rules_services.specs.Written.{wrote}
use Rattle.rules_services.specs.Nmt.{nmt_identifier, nmt_length, every_node, command_of as nmt_command_of, NmtCommand, start, stop, enter_pre_operational}
use Rattle.rules_services.specs.Nmt.{reset_node, reset_communication, unknown as unknown_nmt}
use Rattle.rules_services.specs.Events.{event_of}
use Rattle.rules_services.specs.declared.Event.{Event}
use Rattle.rules_services.specs.declared.Event.TheVariants.{Started as started, QuickStopDone as quick_stop_done, ReactionDone as reaction_done}
use Rattle.rules_services.specs.declared.Event.TheVariants.{SetPointReached as set_point_reached, Tick as tick, CauseGone as cause_gone, Fault as fault}
use Rattle.rules_services.specs.declared.Event.TheVariants.{Feedback as feedback, Voltage as voltage}
use Rattle.rules.specs.Calls.{Call, power_up_call, frame_call, event_call, load_call}
use Rattle.theorems.specs.Promises.{Step, Stand, left, octets, Run, reached, applies, decided_at, is_accepted, tells_reached}

-- ---- the values that a call brings, and what they make of a drive

-- "event 5 6064h and 606Ch"
abbrev pub told_values : Option Event → List (List Write)
told_values bad_event = []
told_values (event started) = []
told_values (event quick_stop_done) = []
told_values (event reaction_done) = []
told_values (event set_point_reached) = []
told_values (event tick) = []
told_values (event cause_gone) = []
told_values (event (fault code register)) = []
told_values (event (feedback at speed)) = (write position at ∷ write velocity speed ∷ []) ∷ []
told_values (event (voltage b)) = []

-- frame by frame: SYNC may apply several. What power-up, 81h and 82h set back, a load's entries and a fault's two objects are not among them
abbrev pub values_in : Call → State → List ℕ → List (List Write)
values_in (power_up_call n) s d = []
values_in (frame_call i bs) s d = cond (eqb i nmt_identifier) [] (applies i bs s d)
values_in (event_call k xs) s d = told_values (event_of k xs)
values_in (load_call f) s d = []

-- a refused call brings none
abbrev pub brought_by : Step → Stand → List (List Write)
brought_by k a = cond (is_accepted (decided_at k a)) (values_in k.call a.state a.dictionary) []

-- "Applying stores every value .., then acts on 6060h if mapped, then 6040h": the drive after one frame's values, where d stood before them
unfoldable pub acted : List Write → Drive → List ℕ → Drive
acted ws v d =
    let d' = stored ws d in
    let moded = cond (wrote mode ws) (mode_written d' v) v in
    cond (wrote control_word ws) (control_written d' (read d control_word) moded).drive moded

-- the drive and the dictionary after several, one after another
unfoldable pub acted_all : List (List Write) → Drive → List ℕ → Drive
acted_all [] v d = v
acted_all (ws ∷ fs) v d = acted_all fs (acted ws v d) (stored ws d)

unfoldable pub stored_all : List (List Write) → List ℕ → List ℕ
stored_all [] d = d
stored_all (ws ∷ fs) d = stored_all fs (stored ws d)

-- "Event 6 moves on, or to Rested."
abbrev pub driven_by : Step → Stand → Drive
driven_by k a =
    let v = a.state.axis.drive in
    cond (is_accepted (decided_at k a) && tells_reached k.call) (moved_on v) (acted_all (brought_by k a) v a.dictionary)

-- ---- what touches an enabled drive besides

-- "81h as power-up", "02h and 82h also act as Disable voltage"
abbrev pub acts_on_drive : NmtCommand → Bool
acts_on_drive start = false
acts_on_drive stop = true
acts_on_drive enter_pre_operational = false
acts_on_drive reset_node = true
acts_on_drive reset_communication = true
acts_on_drive unknown_nmt = false

-- power-up, or one of these commands: "Identifier 0, length 2, node 0 or N"
abbrev pub takes_over : Call → State → Bool
takes_over (power_up_call n) s = true
takes_over (frame_call i bs) s =
    eqb i nmt_identifier
    && (eqb (length bs) nmt_length && (eqb (get_or bs 1 0) every_node || eqb (get_or bs 1 0) s.node.id))
    && acts_on_drive (nmt_command_of (get_or bs 0 0))
takes_over (event_call k xs) s = false
takes_over (load_call f) s = false

-- event 3
abbrev pub is_fault : Option Event → Bool
is_fault bad_event = false
is_fault (event started) = false
is_fault (event quick_stop_done) = false
is_fault (event reaction_done) = false
is_fault (event set_point_reached) = false
is_fault (event tick) = false
is_fault (event cause_gone) = false
is_fault (event (fault code register)) = true
is_fault (event (feedback at speed)) = false
is_fault (event (voltage b)) = false

abbrev pub tells_fault : Call → Bool
tells_fault (power_up_call n) = false
tells_fault (frame_call i bs) = false
tells_fault (event_call k xs) = is_fault (event_of k xs)
tells_fault (load_call f) = false

-- ---- the statement

-- a run stands with that drive, but for the ticks inside the window, and with the objects of that dictionary, but for 6041h and 6061h
pub record StandsWith (v : Drive) (d : List ℕ) (a : Stand) : Type 0 where
  pub state : a.state.axis.drive.state ≡ v.state
  pub mode : a.state.axis.drive.mode ≡ v.mode
  pub store : a.state.axis.drive.store ≡ v.store
  pub taken : a.state.axis.drive.taken ≡ v.taken
  pub limit : a.state.axis.drive.limit ≡ v.limit
  pub objects : (x : Row) → In x table → same x status_word ≡ false → same x mode_display ≡ false → read a.dictionary x ≡ read d x

-- a call writes rows of the table, and leaves what its values make of the drive and of the dictionary
pub record Follows (k : Step) (a : Stand) : Type 0 where
  pub rows : (ws : List Write) → In ws (brought_by k a) → (w : Write) → In w ws → In w.row table
  pub leaves : StandsWith (driven_by k a) (stored_all (brought_by k a) a.dictionary) (left k a)

-- of any call, refused ones included, but for those accepted ones
abbrev pub EnabledFollows : Type 0
EnabledFollows = (r : Run) (k : Step) → octets k.call ≡ true →
    let a = reached r in
    is_enabled a.state.axis.drive.state ≡ true →
    (is_accepted (decided_at k a) && takes_over k.call a.state) ≡ false →
    (is_accepted (decided_at k a) && tells_fault k.call) ≡ false →
    Follows k a

-- opens every definition of this module, where a proof computes
unfoldable pub open_drive_promises : Unit {0}
unfolding acted acted_all stored_all
open_drive_promises = tt
