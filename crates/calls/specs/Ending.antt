-- What a frame or an event starts from, and what the call's end makes of what its service left.
-- Assumes nothing.
use Rattle.std.specs.Prelude.{ℕ, ◌+◌, ◌<◌, ◌≤◌, ◌≡◌, List, [], map, Bool, true, false, not, ◌&&◌, ◌||◌, eqb, length, get_or}
use Rattle.drive.specs.declared.Drive.{Drive}
use Rattle.state.specs.declared.Node.{Node}
use Rattle.state.specs.declared.State.{State}
use Rattle.state.specs.declared.Occasion.{Occasion}
use Rattle.state.specs.NmtStates.{is_operational, is_stopped}
use Rattle.state.specs.Occasions.{is_ticked}
use Rattle.rules_dictionary.specs.Table.{dictionary_length, each_way, status_word, mode_display, window_time}
use Rattle.rules_dictionary.specs.Values.{read, store}
use Rattle.rules_dictionary.specs.Legal.{is_cyclic, mode_number}
use Rattle.rules_dictionary.specs.Plans.{plans_of, ready_of}
use Rattle.drive.specs.SetPoints.{with_stay}
use Rattle.drive.specs.Window.{counted}
use Rattle.drive.specs.StatusWord.{status}
use Rattle.rules_services.specs.Effects.{with_drive, with_paces}
use Rattle.rules_services.specs.declared.Paced.{Paced}
use Rattle.rules_services.specs.PdoTraffic.{works, type_of, idle, all_idle}
use Rattle.rules.specs.Outcome.{End, drive_at_end, transmissions, transmitters}
use Rattle.rules.specs.Sound.{sound, stay_sound}
use Rattle.rules.specs.Calls.{output_length}
use Rattle.form.specs.Form.{state_length, state_of}
use Rattle.form.specs.Holding.{Holds, with_ready, planned}
use Rattle.mapping.specs.Afresh.{GivesPlans, which_change}
use Rattle.output.specs.declared.Done.{Done}
use Rattle.output.specs.Laying.{emitted}
use Rattle.tpdo.specs.Sending.{most_before, turn}

-- ---- what a frame or an event starts from

pub record Stands (s : State) (d o : List ℕ) : Type 0 where
  pub long : length d ≡ dictionary_length
  pub room : output_length ≤ length o
  pub sound : sound s d ≡ true

-- ---- the end of a call, from the state t that its service left; `was` is whether the call started Operational

-- 6041h and 6061h, of the node's part and the drive
abbrev pub status_by : Node → Drive → List ℕ → ℕ
status_by node drive d = status (not (is_stopped node.nmt)) node.voltage drive d

unfoldable pub settled_by : Node → Drive → List ℕ → List ℕ
settled_by node drive d = store mode_display (mode_number drive.mode) (store status_word (status_by node drive d) d)

-- both stand as they are made
unfoldable pub is_settled : Node → Drive → List ℕ → Bool
is_settled node drive d = eqb (read d status_word) (status_by node drive d) && eqb (read d mode_display) (mode_number drive.mode)

-- an object that may be mapped to transmit is written once they are made; `touched` is whether one was before
abbrev pub written_by : Bool → Node → Drive → List ℕ → Bool
written_by touched node drive d = not (is_settled node drive d) || touched

-- the turns of the transmit PDOs, with 6041h and 6061h made; t still has the ready frames and the paces of the call's start
abbrev pub turns_of : Bool → State → Occasion → List ℕ → ℕ → Paced
turns_of was t occasion d = turn was occasion t.node.nmt (which_change t.axis.ready (ready_of d)) t.axis.paces d

-- the end, with 6041h and 6061h made
unfoldable pub end_with : Bool → State → Occasion → List ℕ → End
end_with was t occasion d =
    record {
      state = record {
        node = t.node;
        transfer = t.transfer;
        axis = record {
          drive = t.axis.drive;
          plans = plans_of d;
          ready = ready_of d;
          held = t.axis.held;
          paces = map (λ k. (turns_of was t occasion d k).kept) transmitters;
        };
      };
      dictionary = d;
      sent = transmissions d (ready_of d) (turns_of was t occasion d) transmitters;
    }

abbrev pub end_of : Bool → State → Occasion → List ℕ → End
end_of was t occasion d = end_with was t occasion (settled_by t.node t.axis.drive d)

-- ---- first of all, the ticks inside the window

-- the state with its drive as the end leaves it
abbrev pub counted_in : Occasion → List ℕ → State → State
counted_in occasion d t = with_drive (drive_at_end occasion d t.axis.drive) t

-- with so many of them
abbrev pub with_ticks : ℕ → State → State
with_ticks n t = with_drive (with_stay n t.axis.drive) t

-- with a tick they come to the window time
abbrev pub comes : Drive → List ℕ → Bool
comes v d = not (eqb (counted true v d) v.stay) && eqb (counted true v d) (read d window_time)

-- something is left to do
abbrev pub left_by : Done → Drive → List ℕ → Bool
left_by r v d = not r.quiet || (is_ticked r.occasion && comes v d)

-- ---- what the end needs

-- the end changes nothing and sends nothing
abbrev pub Still : Bool → State → Done → List ℕ → Type 0
Still was t r d' = end_of was t r.occasion d' ≡ record { state = t; dictionary = d'; sent = [] }

-- SYNC counts below their type
abbrev pub CountsBelow : State → List ℕ → Type 0
CountsBelow t d =
    (k : ℕ) → k < each_way → works t.node.nmt d (each_way + k) ≡ true → is_cyclic (type_of d (each_way + k)) ≡ true →
    (get_or t.axis.paces k idle).count < type_of d (each_way + k)

-- the end may come, over the bytes of the state that the service left
pub record MayEnd (bs : List ℕ) (r : Done) (d' o' : List ℕ) : Type 0 where
  pub own : Holds bs (state_of bs)
  pub whole : length bs ≡ state_length
  pub plannable : GivesPlans d'
  pub room : output_length ≤ length o'
  pub few : r.frames ≤ most_before
  pub counts : CountsBelow (state_of bs) d'
  pub plans : r.remapped ≡ false → (state_of bs).axis.plans ≡ plans_of d'
  pub ready : r.remapped ≡ false → r.touched ≡ false → (state_of bs).axis.ready ≡ ready_of d'

-- .. or it may rest, but for the ticks inside the window, where those that stand there are sound
pub record MayRest (was : Bool) (t : State) (r : Done) (d' : List ℕ) : Type 0 where
  pub still : Still was t r d'
  pub placed : stay_sound t.axis.drive d' ≡ true

pub record MayFinish (was : Bool) (bs : List ℕ) (r : Done) (d' o' : List ℕ) : Type 0 where
  pub end : MayEnd bs r d' o'
  pub idle : r.remapped ≡ true → is_operational (state_of bs).node.nmt ≡ false
  pub rests : r.quiet ≡ true → MayRest was (state_of bs) r d'

-- what is needed to work plans and ready frames anew
pub record MayRenew (bs d' : List ℕ) : Type 0 where
  pub own : Holds bs (state_of bs)
  pub whole : length bs ≡ state_length
  pub plannable : GivesPlans d'

-- what is needed for the ready frames: the kept plans, or the kept frames, are those that the dictionary gives
pub record MayReady (written : Bool) (t : State) (d : List ℕ) : Type 0 where
  pub plannable : GivesPlans d
  pub plans : t.axis.plans ≡ plans_of d
  pub ready : written ≡ false → t.axis.ready ≡ ready_of d

-- ---- what it makes

-- how many frames, and every lent byte
pub record Stepped (was : Bool) (t : State) (r : Done) (d' o' : List ℕ) (n : ℕ) (bs'' d'' o'' : List ℕ) : Type 0 where
  pub frames : n ≡ r.frames + length (end_of was t r.occasion d').sent
  pub state : Holds bs'' (end_of was t r.occasion d').state
  pub dictionary : d'' ≡ (end_of was t r.occasion d').dictionary
  pub output : o'' ≡ emitted r.frames (end_of was t r.occasion d').sent o'

-- 6041h and 6061h made, plans and ready frames worked anew, and nothing counted or due
pub record Renews (t : State) (d' bs'' d'' : List ℕ) : Type 0 where
  pub dictionary : d'' ≡ settled_by t.node t.axis.drive d'
  pub state : Holds bs'' (with_paces all_idle (with_ready (ready_of d'') (planned (plans_of d'') t)))
