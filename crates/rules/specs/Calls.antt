-- Document 01, 'Calls and refusals': power-up, one frame, or one event, and with ticket 6 the load of a file; the refusals, lowest number first; the
-- answer.
-- Assumes nothing.
use Rattle.std.specs.Prelude.{ℕ, ◌+◌, ◌*◌, List, [], ◌∷◌, Bool, true, false, cond, not, ◌&&◌, eqb, leb, length, Option, Some, None}
use Rattle.state.specs.declared.State.{State}
use Rattle.state.specs.declared.Refusal.{Refusal}
use Rattle.state.specs.declared.Refusal.TheVariants.{Accepted, DictionaryLength, OutputLength, NodeId, NotSound, BadFrame, BadEvent, OutOfPlace}
use Rattle.state.specs.declared.Refusal.TheVariants.{WrongState, FileTooShort, TooManyEntries, FileMisfit, ControlWordEntry, EntryAborted}
use Rattle.rules_dictionary.specs.TheNode.{is_node_id}
use Rattle.rules_dictionary.specs.Table.{dictionary_length, receive_pdos}
use Rattle.files.specs.ConciseDcf.{entries_in, is_too_short, is_overfull, is_misfit}
use Rattle.state.specs.NmtStates.{is_stopped}
use Rattle.rules_services.specs.Effects.{Effect, becomes}
use Rattle.rules_services.specs.Sdo.{request_base, request_length}
use Rattle.rules_services.specs.SdoServer.{sdo}
use Rattle.rules_services.specs.PdoTraffic.{sync, sync_base, received_by}
use Rattle.rules_services.specs.Nmt.{nmt, nmt_identifier, power_up}
use Rattle.rules_services.specs.declared.Event.{Event}
use Rattle.rules_services.specs.Events.{event_of, is_in_place, happens}
use Rattle.rules_services.specs.Load.{may_load, names_control_word, Loaded, loads, fails, load_all, Named, nothing_named, named_by}
use Rattle.rules.specs.Outcome.{End, ended, sent_into, most_data, frame_size, most_frames}
use Rattle.rules.specs.Sound.{sound}

-- the numbers of the refusals; 0 is none, and 8 is the bench program's
abbrev pub refusal_number : Refusal → ℕ
refusal_number Accepted = 0
refusal_number DictionaryLength = 1
refusal_number OutputLength = 2
refusal_number NodeId = 3
refusal_number NotSound = 4
refusal_number BadFrame = 5
refusal_number BadEvent = 6
refusal_number OutOfPlace = 7
refusal_number WrongState = 9
refusal_number FileTooShort = 10
refusal_number TooManyEntries = 11
refusal_number FileMisfit = 12
refusal_number ControlWordEntry = 13
refusal_number EntryAborted = 14

-- "output (at least 66)": room for the most frames
abbrev pub output_length : ℕ
output_length = most_frames * frame_size

abbrev pub last_frame_identifier : ℕ
last_frame_identifier = 0x7FF

-- "A call is power-up, one frame, or one event."; ticket 6, "a load as one call"
pub data Call : Type 0 where
  power_up_call : ℕ → Call
  frame_call : ℕ → List ℕ → Call
  event_call : ℕ → List ℕ → Call
  load_call : List ℕ → Call

-- the output that a call asks for: a load sends no frame, and is lent none
abbrev pub output_for : Call → ℕ
output_for (power_up_call n) = output_length
output_for (frame_call i bs) = output_length
output_for (event_call k xs) = output_length
output_for (load_call f) = 0

-- ---- what an accepted call does

-- "A frame for others, or of no kind served now, is accepted with no frames and no change." SDO: "Served in Pre-operational and
-- Operational, 600h+N, length 8."
unfoldable pub framed : ℕ → List ℕ → State → List ℕ → Effect
framed i bs s d =
    cond (eqb i nmt_identifier) (nmt bs s)
    (cond (eqb i sync_base) (sync bs s d)
    (cond (eqb i (request_base + s.node.id))
    (cond (eqb (length bs) request_length && not (is_stopped s.node.nmt)) (sdo bs s d) (becomes s))
    (received_by receive_pdos i bs s d)))

pub data Decision : Type 0 where
  refuses : Refusal → Decision
  does : Effect → Decision

unfoldable pub event_decision : Option Event → State → List ℕ → Decision
event_decision None s d = refuses BadEvent
event_decision (Some e) s d = elim (is_in_place e s) [ true ↦ does (happens e s d) | false ↦ refuses OutOfPlace ]

-- ---- a load

-- a test, and the refusal that it gives where it fires
pub record Check : Type 0 where
  pub fires : Bool
  pub refusal : Refusal

abbrev pub check : Bool → Refusal → Check
check b r = record { fires = b; refusal = r }

unfoldable pub first_refused : List Check → Decision → Decision
first_refused [] x = x
first_refused (c ∷ cs) x = elim c.fires [ true ↦ refuses c.refusal | false ↦ first_refused cs x ]

abbrev pub loaded_as : Loaded → Decision
loaded_as (loads e) = does e
loaded_as (fails n a) = refuses EntryAborted

-- "wrong state; file under 4 bytes; count over 512; file cut short or with bytes left over; entry for 6040h; the entry's SDO abort. All but the last
-- are found for the whole file before any entry is tried."
unfoldable pub load_decision : List ℕ → State → List ℕ → Decision
load_decision f s d =
    first_refused
    (check (not (may_load s)) WrongState
    ∷ check (is_too_short f) FileTooShort
    ∷ check (is_overfull f) TooManyEntries
    ∷ check (is_misfit f) FileMisfit
    ∷ check (names_control_word (entries_in f)) ControlWordEntry
    ∷ [])
    (loaded_as (load_all (entries_in f) s d))

-- ---- the refusals, "lowest number first"

-- the refusals 1 and 2 are every call's; of a load, which is lent no output, 2 never comes
unfoldable pub decision : Call → State → List ℕ → Decision
decision (power_up_call n) s d = elim (is_node_id n) [ true ↦ does (power_up n) | false ↦ refuses NodeId ]
decision (frame_call i bs) s d =
    elim (sound s d) [
      | true ↦ elim (leb i last_frame_identifier && leb (length bs) most_data) [ true ↦ does (framed i bs s d) | false ↦ refuses BadFrame ]
      | false ↦ refuses NotSound
    ]
decision (event_call k xs) s d = elim (sound s d) [ true ↦ event_decision (event_of k xs) s d | false ↦ refuses NotSound ]
decision (load_call f) s d = elim (sound s d) [ true ↦ load_decision f s d | false ↦ refuses NotSound ]

unfoldable pub decided : Call → State → List ℕ → List ℕ → Decision
decided c s d o =
    elim (eqb (length d) dictionary_length) [
      | true ↦ elim (leb (output_for c) (length o)) [ true ↦ decision c s d | false ↦ refuses OutputLength ]
      | false ↦ refuses DictionaryLength
    ]

-- ---- the answer: the refusal, the number of frames, the state, and every byte of what is lent

pub record Outcome : Type 0 where
  pub refusal : Refusal
  pub frames : ℕ
  pub state : State
  pub dictionary : List ℕ
  pub output : List ℕ

-- "Each returns zero frames and the state given; dictionary and output keep every byte."
unfoldable pub refused : Refusal → State → List ℕ → List ℕ → Outcome
refused r s d o = record { refusal = r; frames = 0; state = s; dictionary = d; output = o }

unfoldable pub accepted : End → List ℕ → Outcome
accepted e o =
    record { refusal = Accepted; frames = length e.sent; state = e.state; dictionary = e.dictionary; output = sent_into o e.sent }

unfoldable pub answered : Decision → State → List ℕ → List ℕ → Outcome
answered (refuses r) s d o = refused r s d o
answered (does e) s d o = accepted (ended s d e) o

unfoldable pub answer : Call → State → List ℕ → List ℕ → Outcome
answer c s d o = answered (decided c s d o) s d o

-- ---- the answer of a load, which is lent no output: "the answer names the first entry (from 1) that failed with its abort code", zeros with every
-- refusal but this one

abbrev pub is_aborted : Refusal → Bool
is_aborted r = eqb (refusal_number r) (refusal_number EntryAborted)

pub record LoadOutcome : Type 0 where
  pub refusal : Refusal
  pub named : Named
  pub state : State
  pub dictionary : List ℕ

unfoldable pub load_answer : List ℕ → State → List ℕ → LoadOutcome
load_answer f s d =
    let u = answer (load_call f) s d [] in
    record {
      refusal = u.refusal;
      named = cond (is_aborted u.refusal) (named_by (load_all (entries_in f) s d)) nothing_named;
      state = u.state;
      dictionary = u.dictionary;
    }

-- opens every definition of this module, where a proof computes
unfoldable pub open_calls : Unit {0}
unfolding framed event_decision first_refused load_decision decision decided refused accepted answered answer load_answer
open_calls = tt
