-- Document 01, 'PDO traffic': the transmit PDOs at a call's end, by the parts of the state that count for them.
-- Assumes nothing.
use Rattle.std.specs.Prelude.{ℕ, ◌+◌, ◌<◌, ◌≡◌, List, [], ◌∷◌, map, Bool, true, false, cond, not, ◌&&◌, ◌||◌, length, get_or}
use Rattle.rules_dictionary.specs.declared.PdoData.{PdoData}
use Rattle.state.specs.declared.NmtState.{NmtState}
use Rattle.state.specs.declared.Occasion.{Occasion}
use Rattle.state.specs.declared.Pace.{Pace}
use Rattle.state.specs.NmtStates.{is_operational}
use Rattle.rules_dictionary.specs.Table.{dictionary_length, each_way}
use Rattle.rules_dictionary.specs.Legal.{is_cyclic}
use Rattle.rules_services.specs.Effects.{Frame}
use Rattle.rules_services.specs.declared.Paced.{Paced}
use Rattle.rules_services.specs.PdoTraffic.{paced, pace_of, works, type_of, transmitted, no_data, idle}
use Rattle.rules.specs.Outcome.{transmissions, transmitters}
use Rattle.mapping.specs.Working.{is_open}
use Rattle.output.specs.Laying.{IsData, emitted}
use Rattle.tpdo.specs.declared.Sent.{Sent}

-- the most frames before the transmit PDOs
abbrev pub most_before : ℕ
most_before = 2

-- ---- one transmit PDO in Operational

-- its pace; `changed` is: this call changed its ready frame or entered Operational
unfoldable pub open_pace : List ℕ → ℕ → Occasion → Bool → Pace → Paced
open_pace d t occasion changed kept = cond (is_open d (each_way + t)) (pace_of (type_of d (each_way + t)) occasion changed kept) (paced false 0 false)

-- its frame, where it is to be sent
unfoldable pub sent_one : Bool → List ℕ → ℕ → PdoData → List Frame
sent_one send d t content = cond send (transmitted d (each_way + t) content ∷ []) []

-- ---- all of them

-- the turn of transmit PDO t: `was` is whether the node was Operational at the call's start, `changed` whether each ready frame is another than
-- then, `paces` what was kept of the transmit PDOs then; the NMT state and the dictionary are those of its end
unfoldable pub turn : Bool → Occasion → NmtState → List Bool → List Pace → List ℕ → ℕ → Paced
turn was occasion nmt changed paces d t =
    cond (works nmt d (each_way + t))
    (pace_of (type_of d (each_way + t)) occasion ((is_operational nmt && not was) || get_or changed t false) (get_or paces t idle))
    (paced false 0 false)

-- ready frames are data, and SYNC counts are below their type
pub record MaySend (nmt : NmtState) (paces : List Pace) (ready : List PdoData) (d : List ℕ) : Type 0 where
  pub long : length d ≡ dictionary_length
  pub shape : (t : ℕ) → t < each_way → IsData (get_or ready t no_data)
  pub counts : (t : ℕ) → t < each_way → works nmt d (each_way + t) ≡ true → is_cyclic (type_of d (each_way + t)) ≡ true →
      (get_or paces t idle).count < type_of d (each_way + t)

-- THE PROMISE, with n frames before theirs: what is kept of them, how many frames stand in the output then, and the output's bytes
pub record SentBy (turns : ℕ → Paced) (ready : List PdoData) (d : List ℕ) (n : ℕ) (o : List ℕ) (r : Sent) (o' : List ℕ) : Type 0 where
  pub paces : r.paces ≡ map (λ t. (turns t).kept) transmitters
  pub frames : r.frames ≡ n + length (transmissions d ready turns transmitters)
  pub output : o' ≡ emitted n (transmissions d ready turns transmitters) o
