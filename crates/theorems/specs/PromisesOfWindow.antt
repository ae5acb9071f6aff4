-- Ticket 2, 'Target reached comes too early': what holds of the window time, of every state, call and run, with the few definitions that this
-- needs. Their proofs stand in proofs/.
-- Assumes nothing.
use Rattle.std.specs.Prelude.{ℕ, zero, suc, ◌+◌, ◌<◌, ◌≤◌, ◌≡◌, ◌⊎◌, Bool, true, false, cond, not, ◌&&◌, length, get_or, Option}
use Rattle.std.specs.Prelude.{Some as event, None as bad_event}
use mathlib.Core.List.{List, [], ◌∷◌, ◌++◌, flat_map}
use Rattle.rules_dictionary.specs.declared.Mode.{Mode}
use Rattle.rules_dictionary.specs.declared.Mode.TheVariants.{NoMode, ProfilePosition, ProfileVelocity}
use Rattle.rules_dictionary.specs.declared.PdoData.{PdoData}
use Rattle.drive.specs.declared.Store.{Store}
use Rattle.drive.specs.declared.Store.TheVariants.{Empty, Rested, Moving, Queued}
use Rattle.drive.specs.declared.Drive.{Drive}
use Rattle.state.specs.declared.State.{State}
use Rattle.state.specs.declared.Refusal.TheVariants.{Accepted}
use Rattle.rules_dictionary.specs.Numbers.{bit}
use Rattle.rules_dictionary.specs.Table.{Row, table, same, each_way, status_word, mode_display, control_word, window_time}
use Rattle.rules_dictionary.specs.Values.{read, store, stored}
use Rattle.rules_dictionary.specs.Legal.{mode_number, is_event_driven}
use Rattle.rules_dictionary.specs.Members.{In}
use Rattle.drive.specs.DriveStates.{is_enabled, state_word}
use Rattle.drive.specs.SetPoints.{with_stay}
use Rattle.drive.specs.Window.{near}
use Rattle.drive.specs.StatusWord.{flag, voltage_shown, remote_shown, reached_shown, limit_shown, ack_shown, halt_bit, ack_in_mode, stands_still}
use Rattle.drive.specs.StatusWord.{velocity_reached, reached_at_once, status}
use Rattle.state.specs.NmtStates.{is_stopped}
use Rattle.rules_services.specs.Effects.{Frame, Effect, with_drive}
use Rattle.rules_services.specs.Nmt.{heartbeat}
use Rattle.rules_services.specs.PdoTraffic.{works, type_of, transmitted, no_data}
use Rattle.rules_services.specs.Events.{event_of}
use Rattle.rules_services.specs.declared.Event.{Event}
use Rattle.rules_services.specs.declared.Event.TheVariants.{Started as started, QuickStopDone as quick_stop_done, ReactionDone as reaction_done}
use Rattle.rules_services.specs.declared.Event.TheVariants.{SetPointReached as set_point_reached, Tick as tick, CauseGone as cause_gone, Fault as fault}
use Rattle.rules_services.specs.declared.Event.TheVariants.{Feedback as feedback, Voltage as voltage}
use Rattle.rules.specs.Outcome.{End, followed, same_data, transmitters, sent_into}
use Rattle.rules.specs.Sound.{sound, stay_sound}
use Rattle.rules.specs.Calls.{Call, power_up_call, frame_call, event_call, load_call, Decision, refuses, does as performs, refused, accepted, Outcome}
use Rattle.rules.specs.Calls.{output_length}
use Rattle.theorems.specs.Promises.{Step, Stand, Run, does, left, begun, reached, decided_at, is_accepted}

-- ---- "At 0 the answer is as before.": of every state and every call

-- bit 10 as document 01 has it, without a window time
abbrev pub reached_before : Mode → Drive → List ℕ → Bool
reached_before NoMode v d = false
reached_before ProfilePosition v d = cond (bit halt_bit (read d control_word)) (stands_still d) (reached_at_once v.store d)
reached_before ProfileVelocity v d = cond (bit halt_bit (read d control_word)) (stands_still d) (velocity_reached d)

-- .. and the status word with it
unfoldable pub status_before : Bool → Bool → Drive → List ℕ → ℕ
status_before remote powered v d =
    state_word v.state + flag voltage_shown powered + flag remote_shown remote
    + cond (is_enabled v.state)
    (flag ack_shown (ack_in_mode v.mode v d) + flag limit_shown v.limit + flag reached_shown (reached_before v.mode v d)) 0

abbrev pub WordAsBefore : Type 0
WordAsBefore = (remote powered : Bool) (v : Drive) (d : List ℕ) → read d window_time ≡ 0 →
    status remote powered v d ≡ status_before remote powered v d

-- the ticks inside the window taken out of a state, and of what a call hands back
abbrev pub uncounted : State → State
uncounted s = with_drive (with_stay 0 s.axis.drive) s

abbrev pub but_count : Outcome → Outcome
but_count u =
    record { refusal = u.refusal; frames = u.frames; state = uncounted u.state; dictionary = u.dictionary; output = u.output }

-- soundness is as before but for the count
abbrev pub SoundAsBefore : Type 0
SoundAsBefore = (s : State) (d : List ℕ) → read d window_time ≡ 0 → sound s d ≡ (sound (uncounted s) d && stay_sound s.axis.drive d)

-- the end of a call without a window time: nothing is counted, and 6041h is made as before
unfoldable pub ended_before : State → List ℕ → Effect → End
ended_before s d e =
    let t = e.state in
    let d1 = stored e.writes d in
    let word = status_before (not (is_stopped t.node.nmt)) t.node.voltage t.axis.drive d1 in
    followed s t e.occasion e.sent (store mode_display (mode_number t.axis.drive.mode) (store status_word word d1))

unfoldable pub answered_before : Decision → State → List ℕ → List ℕ → Outcome
answered_before (refuses r) s d o = refused r s d o
answered_before (performs e) s d o = accepted (ended_before s d e) o

abbrev pub does_before : Step → Stand → Outcome
does_before k a = answered_before (decided_at k a) a.state a.dictionary k.output

-- a call that leaves 6068h at 0 answers as before: in refusal, frames, every byte that is lent, and the state but for the count
abbrev pub AnswersAsBefore : Type 0
AnswersAsBefore = (k : Step) (a : Stand) → read (does k a).dictionary window_time ≡ 0 → but_count (does k a) ≡ but_count (does_before k a)

-- ---- the knife: what bit 10 says of the past

-- that target is the active one, or the one at rest
abbrev pub AimsAt : ℕ → Store → Type 0
AimsAt t Empty = ⊥
AimsAt t (Rested u) = u ≡ t
AimsAt t (Moving a) = a.target ≡ t
AimsAt t (Queued a b) = a.target ≡ t

-- "the position inside 6067h of the active target (Rested: of the target at rest)", where a run stands
pub record StandsNear (t : ℕ) (a : Stand) : Type 0 where
  pub aims : AimsAt t a.state.axis.drive.store
  pub inside : near t a.dictionary ≡ true

-- an event 7
abbrev pub is_tick : Option Event → Bool
is_tick bad_event = false
is_tick (event started) = false
is_tick (event quick_stop_done) = false
is_tick (event reaction_done) = false
is_tick (event set_point_reached) = false
is_tick (event tick) = true
is_tick (event cause_gone) = false
is_tick (event (fault code register)) = false
is_tick (event (feedback at speed)) = false
is_tick (event (voltage b)) = false

abbrev pub tells_tick : Call → Bool
tells_tick (power_up_call n) = false
tells_tick (frame_call i bs) = false
tells_tick (event_call k xs) = is_tick (event_of k xs)
tells_tick (load_call f) = false

-- a call of a run's past: whether it was an accepted tick, and where it left the run
pub record Past : Type 0 where
  pub ticked : Bool
  pub stand : Stand

-- the calls of a run, the last one first
unfoldable pub past_of : List Step → Stand → List Past → List Past
past_of [] a ps = ps
past_of (k ∷ ks) a ps =
    past_of ks (left k a) (record { ticked = is_accepted (decided_at k a) && tells_tick k.call; stand = left k a } ∷ ps)

-- back to the last of so many ticks, that one too, every call left the position inside the window of that target
unfoldable pub StaysNear : ℕ → List Past → ℕ → Type 0
StaysNear t [] zero = Unit
StaysNear t [] (suc n) = ⊥
StaysNear t (p ∷ ps) zero = Unit
StaysNear t (p ∷ ps) (suc n) = StandsNear t p.stand × StaysNear t ps (cond p.ticked n (suc n))

-- "Our feeder glides through the window and the knife fires": whenever bit 10 shows in mode 1 with bit 8 clear and 6068h over 0, at each of the last
-- 6068h ticks of the run the position was inside the window of one and the same active target, or target at rest, and at every call between
-- and behind them
abbrev pub KnifeWaits : Type 0
KnifeWaits = (r : Run) →
    let d = (reached r).dictionary in
    read d mode_display ≡ mode_number ProfilePosition → bit halt_bit (read d control_word) ≡ false → bit reached_shown (read d status_word) ≡ true →
    0 < read d window_time → (t : ℕ) × StaysNear t (past_of r.steps (begun r) []) (read d window_time)

-- ---- a tick

abbrev pub ticking : List ℕ → Step
ticking o = record { call = event_call 7 []; output = o }

-- it changes no object but 6041h
abbrev pub TickChangesOneObject : Type 0
TickChangesOneObject = (r : Run) (o : List ℕ) (x : Row) → In x table → same x status_word ≡ false →
    read (left (ticking o) (reached r)).dictionary x ≡ read (reached r).dictionary x

-- the ready frame of a transmit PDO, where a run stands
abbrev pub ready_at : Stand → ℕ → PdoData
ready_at a t = get_or a.state.axis.ready t no_data

-- the frames of the working transmit PDOs that a change sends at once, types 254 and 255, and whose frame is another than it was
abbrev pub changed_frames : Stand → Stand → List Frame
changed_frames a b =
    flat_map
    (λ t. cond (works b.state.node.nmt b.dictionary (each_way + t) && is_event_driven (type_of b.dictionary (each_way + t))
    && not (same_data (ready_at a t) (ready_at b t))) (transmitted b.dictionary (each_way + t) (ready_at b t) ∷ []) []) transmitters

-- it sends the heartbeat, where that is due, and of the transmit PDOs those that it changes
pub record SendsLittle (a : Stand) (o : List ℕ) (u : Outcome) (b : Stand) : Type 0 where
  pub beat : List Frame
  pub due : (beat ≡ []) ⊎ (beat ≡ heartbeat a.state)
  pub frames : u.frames ≡ length (beat ++ changed_frames a b)
  pub output : u.output ≡ sent_into o (beat ++ changed_frames a b)

abbrev pub TickSendsLittle : Type 0
TickSendsLittle = (r : Run) (o : List ℕ) → output_length ≤ length o →
    ((does (ticking o) (reached r)).refusal ≡ Accepted)
    × SendsLittle (reached r) o (does (ticking o) (reached r)) (left (ticking o) (reached r))

-- opens every definition of this module, where a proof computes
unfoldable pub open_window_promises : Unit {0}
unfolding status_before ended_before answered_before past_of StaysNear
open_window_promises = tt
