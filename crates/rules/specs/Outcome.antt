-- What follows from an effect at the call's end: 6041h and 6061h, plans and ready frames worked afresh, the transmit PDOs, and
-- the bytes of the output.
-- Assumes nothing.
use Rattle.std.specs.Prelude.{ℕ, ◌+◌, List, [], ◌∷◌, ◌++◌, map, Bool, true, false, cond, not, ◌&&◌, ◌||◌, eqb, length, get_or, drop}
use Rattle.rules_dictionary.specs.declared.Move.{Move}
use Rattle.rules_dictionary.specs.declared.Plan.{Plan}
use Rattle.rules_dictionary.specs.declared.PdoData.{PdoData}
use Rattle.state.specs.declared.State.{State}
use Rattle.state.specs.declared.Occasion.{Occasion}
use Rattle.drive.specs.declared.Drive.{Drive}
use Rattle.rules_dictionary.specs.Numbers.{bytes, padded}
use Rattle.rules_dictionary.specs.Table.{status_word, mode_display, each_way}
use Rattle.rules_dictionary.specs.Values.{store, stored}
use Rattle.rules_dictionary.specs.Legal.{mode_number}
use Rattle.rules_dictionary.specs.Plans.{plans_of, ready_of, most_bytes}
use Rattle.drive.specs.Window.{staying}
use Rattle.drive.specs.StatusWord.{status}
use Rattle.rules_services.specs.Effects.{Frame, Effect, with_drive}
use Rattle.state.specs.NmtStates.{is_stopped, is_operational}
use Rattle.state.specs.Occasions.{is_ticked}
use Rattle.rules_services.specs.declared.Paced.{Paced}
use Rattle.rules_services.specs.PdoTraffic.{paced, pace_of, idle, works, type_of, transmitted, no_data}

-- ---- equality of what the state keeps

abbrev pub same_by {ℓ} : {A : Type ℓ} → (A → A → Bool) → List A → List A → Bool
same_by f [] [] = true
same_by f [] (y ∷ ys) = false
same_by f (x ∷ xs) [] = false
same_by f (x ∷ xs) (y ∷ ys) = f x y && same_by f xs ys

abbrev pub same_move : Move → Move → Bool
same_move a b = eqb a.place b.place && eqb a.size b.size

abbrev pub same_plan : Plan → Plan → Bool
same_plan a b = eqb a.count b.count && same_by same_move a.moves b.moves

abbrev pub same_data : PdoData → PdoData → Bool
same_data a b = eqb a.length b.length && same_by eqb a.bytes b.bytes

-- ---- 6041h and 6061h: "6061h follows 6060h at once"

unfoldable pub status_of : State → List ℕ → ℕ
status_of s d = status (not (is_stopped s.node.nmt)) s.node.voltage s.axis.drive d

unfoldable pub settled : State → List ℕ → List ℕ
settled s d = store mode_display (mode_number s.axis.drive.mode) (store status_word (status_of s d) d)

-- ---- transmit PDOs: "Changed means call end against call start; TPDOs carry the end's bytes."

-- transmit PDO t, 0 to 3, is PDO 4 + t
abbrev pub transmitters : List ℕ
transmitters = 0 ∷ 1 ∷ 2 ∷ 3 ∷ []

unfoldable pub enters_operational : State → State → Bool
enters_operational s s' = is_operational s'.node.nmt && not (is_operational s.node.nmt)

unfoldable pub changes : State → List PdoData → ℕ → Bool
changes s ready t = not (same_data (get_or s.axis.ready t no_data) (get_or ready t no_data))

-- s and s' are the state before the call and after its effect; d and ready are the dictionary and the ready frames at its end
unfoldable pub pace_for : State → State → Occasion → List ℕ → List PdoData → ℕ → Paced
pace_for s s' occasion d ready t =
    cond (works s'.node.nmt d (each_way + t))
    (pace_of (type_of d (each_way + t)) occasion (enters_operational s s' || changes s ready t) (get_or s'.axis.paces t idle))
    (paced false 0 false)

-- "TPDOs rising"
unfoldable pub transmissions : List ℕ → List PdoData → (ℕ → Paced) → List ℕ → List Frame
transmissions d ready paces [] = []
transmissions d ready paces (t ∷ ts) =
    cond (paces t).send (transmitted d (each_way + t) (get_or ready t no_data) ∷ []) [] ++ transmissions d ready paces ts

-- ---- the drive at the end: ticket 2, "Ticks are counted while inside"

-- after the effect on that occasion, with its writes stored
unfoldable pub drive_at_end : Occasion → List ℕ → Drive → Drive
drive_at_end occasion d v = staying (is_ticked occasion) d v

-- ---- the state and the dictionary at the end, and all frames sent

pub record End : Type 0 where
  pub state : State
  pub dictionary : List ℕ
  pub sent : List Frame

-- s is the state before the call; s' is the one at its end, but for what follows from it and from the dictionary at the end, d'; `sent` is what
-- the service sent
abbrev pub followed : State → State → Occasion → List Frame → List ℕ → End
followed s s' occasion sent d' =
    let ready = ready_of d' in
    let paces = pace_for s s' occasion d' ready in
    record {
      state = record {
        node = s'.node;
        transfer = s'.transfer;
        axis = record {
          drive = s'.axis.drive;
          plans = plans_of d';
          ready = ready;
          held = s'.axis.held;
          paces = map (λ t. (paces t).kept) transmitters;
        };
      };
      dictionary = d';
      sent = sent ++ transmissions d' ready paces transmitters;
    }

unfoldable pub ended : State → List ℕ → Effect → End
ended s d e =
    let d1 = stored e.writes d in
    let s' = with_drive (drive_at_end e.occasion d1 e.state.axis.drive) e.state in
    followed s s' e.occasion e.sent (settled s' d1)

-- ---- "Output is eleven bytes a frame, one after another: identifier (2, little-endian), length, eight data bytes, unused ones
-- zero. Bytes past the frames reported stay."

abbrev pub most_data : ℕ
most_data = most_bytes

-- identifier, length, data
abbrev pub frame_size : ℕ
frame_size = 2 + 1 + most_data

-- "At most 6 frames."
abbrev pub most_frames : ℕ
most_frames = 6

unfoldable pub encoded : Frame → List ℕ
encoded f = bytes 2 f.identifier ++ length f.content ∷ padded 0 most_data f.content

unfoldable pub sent_into : List ℕ → List Frame → List ℕ
sent_into o [] = o
sent_into o (f ∷ fs) = encoded f ++ sent_into (drop frame_size o) fs

-- opens every definition of this module, where a proof computes
unfoldable pub open_outcome : Unit {0}
unfolding status_of settled enters_operational drive_at_end changes pace_for transmissions ended encoded sent_into
open_outcome = tt
