-- What a call makes of a drive that is enabled: of a refused call nothing, of a frame what the walk of Listed shows, of an event and of the NMT
-- commands that leave the drive what their rules say; a load is not served there. And the call's end.
-- Assumes nothing.
use Rattle.theorems.proofs.Words.{ℕ, ◌≡◌, refl, sym, ◌∙◌, ap, inl, inr, Bool, true, false, cond, ◌&&◌, ◌||◌, false≢true, true≢false, List, []}
use Rattle.theorems.proofs.Words.{◌∷◌, append-nil, eqb, ltb, suc, Ticked, length, get_or, DriveState, SwitchOnDisabled, FaultReactionActive}
use Rattle.theorems.proofs.Words.{Fault, Drive, State, In, here, there, Event, Started, QuickStopDone, ReactionDone, SetPointReached, Tick}
use Rattle.theorems.proofs.Words.{CauseGone, Feedback, Voltage, Some, same_self, and_right, and_then_false, by_test, whichever, either}
use Rattle.theorems.proofs.Words.{implied, clash}
use Rattle.theorems.proofs.Writes.{InTable, one_row, stored_append}
use Rattle.theorems.proofs.Settled.{settled_other}
use Rattle.theorems.proofs.{Lawful.Lawful, Lawful.finally, Lawful.sound_lawful, DriveKept.parts, NmtKept.position_row, NmtKept.velocity_row}
use Rattle.theorems.proofs.Runs.{standing}
use Rattle.theorems.proofs.Decisions.{Decided, decided_by}
use Rattle.theorems.proofs.{Applied.Brings, Applied.FrameRows, Applied.no_rows, Applied.first_rows, Listed.framed_brings}
use Rattle.drive.specs.declared.DriveState.TheVariants.{NotReady, ReadyToSwitchOn, SwitchedOn, OperationEnabled, QuickStopActive}
use Rattle.rules_dictionary.specs.Table.{Row, table, same, status_word, mode_display, heartbeat_time, position, velocity}
use Rattle.rules_dictionary.specs.Values.{Write, write, read, stored}
use Rattle.drive.specs.DriveStates.{is_enabled, is_not_ready, is_quick_stop, is_reaction, is_faulty, is_at_rest}
use Rattle.drive.specs.SetPoints.{moved_on}
use Rattle.state.specs.NmtStates.{is_operational, is_pre_operational}
use Rattle.rules_services.specs.Effects.{Effect, on}
use Rattle.rules_services.specs.Nmt.{nmt, nmt_identifier, nmt_length, every_node, command_of, commanded, left, NmtCommand, start, stop}
use Rattle.rules_services.specs.Nmt.{enter_pre_operational, reset_node, reset_communication, unknown, tick as ticked}
use Rattle.rules_services.specs.{declared.Event.TheVariants.Fault as Faulted, Events.is_in_place, Events.happens, Load.may_load}
use Rattle.rules.specs.Sound.{cause_in_place}
use Rattle.rules.specs.Outcome.{ended}
use Rattle.rules.specs.Calls.{Call, frame_call, Decision, does as performs, framed, refused, accepted, answered, answer}
use Rattle.rules.proofs.AtEnd.{at-end}
use Rattle.theorems.specs.Promises.{Step, Stand, reached, applies, is_clearable, written, is_reached, tells_reached, is_accepted, decided_at}
use Rattle.theorems.specs.PromisesOfDrive.{told_values, values_in, acted, acted_all, stored_all, acts_on_drive, takes_over, is_fault, tells_fault}
use Rattle.theorems.specs.PromisesOfDrive.{StandsWith, Follows, EnabledFollows}

-- ---- an enabled drive

pub enabled_is : (q : DriveState) → is_enabled q ≡ true → q ≡ OperationEnabled
enabled_is NotReady h = absurd (false≢true h)
enabled_is SwitchOnDisabled h = absurd (false≢true h)
enabled_is ReadyToSwitchOn h = absurd (false≢true h)
enabled_is SwitchedOn h = absurd (false≢true h)
enabled_is OperationEnabled h = refl
enabled_is QuickStopActive h = absurd (false≢true h)
enabled_is FaultReactionActive h = absurd (false≢true h)
enabled_is Fault h = absurd (false≢true h)

-- it has no fault to clear
pub not_clearable : (v : Drive) → is_enabled v.state ≡ true → is_clearable v ≡ false
not_clearable v enabled = rw (enabled_is v.state enabled)

-- ---- the writes of frames, where there is no fault to clear

pub written_stored : (fs : List (List Write)) (d : List ℕ) → stored (written false d fs) d ≡ stored_all fs d
unfolding written stored stored_all
written_stored [] d = refl
written_stored (ws ∷ fs) d = rw (append-nil ws, stored_append ws (written false (stored ws d) fs) d) (written_stored fs (stored ws d))

-- ---- what an effect makes of the drive and of the objects

record Makes (s : State) (d : List ℕ) (e : Effect) (fs : List (List Write)) (v : Drive) : Type 0 where
  rows : FrameRows fs
  drive : e.state.axis.drive ≡ v
  objects : stored e.writes d ≡ stored_all fs d

-- a run stands so behind it
module _ {s : State} {d : List ℕ} {e : Effect} {fs : List (List Write)} {v : Drive} (m : Makes s d e fs v) where
  object_stands : (x : Row) → In x table → same x status_word ≡ false → same x mode_display ≡ false →
      read (ended s d e).dictionary x ≡ read (stored_all fs d) x
  unfolding ended
  object_stands x i p q =
      settled_other (finally d e) (stored e.writes d) x i (λ e. clash (same x x) (same_self x) (ap (same x) (sym e) ∙ p))
      (λ e. clash (same x x) (same_self x) (ap (same x) (sym e) ∙ q))
      ∙ ap (λ (d : List ℕ). read d x) m.objects

  stands : (o : List ℕ) → StandsWith v (stored_all fs d) (standing (answered (performs e) s d o))
  unfolding answered accepted ended
  stands o =
      let end = at-end e.occasion (stored e.writes d) e.state.axis.drive in
      record {
        state = end.state ∙ ap (λ (v : Drive). v.state) m.drive;
        mode = end.mode ∙ ap (λ (v : Drive). v.mode) m.drive;
        store = end.store ∙ ap (λ (v : Drive). v.store) m.drive;
        taken = end.taken ∙ ap (λ (v : Drive). v.taken) m.drive;
        limit = end.limit ∙ ap (λ (v : Drive). v.limit) m.drive;
        objects = object_stands;
      }

-- ---- what each call does

feedback_rows : (at speed : ℕ) → InTable (write position at ∷ write velocity speed ∷ [])
feedback_rows at speed w here = position_row.inside
feedback_rows at speed w (there i) = one_row (λ w. In w.row table) velocity_row.inside w i

module _ (s : State) (d : List ℕ) (enabled : is_enabled s.axis.drive.state ≡ true) where
  abbrev v : Drive
  v = s.axis.drive

  -- no other state is at hand
  not_here : {A : Type 0} (f : DriveState → Bool) → f OperationEnabled ≡ false → f v.state ≡ true → A
  not_here f q h = clash (f v.state) h (ap f (enabled_is v.state enabled) ∙ q)

  -- nothing is written
  makes_none : {e : Effect} {w : Drive} → e.writes ≡ [] → e.state.axis.drive ≡ w → Makes s d e [] w
  unfolding stored stored_all
  makes_none w k = record { rows = no_rows; drive = k; objects = rw w }

  frame_makes : (e : Effect) (fs : List (List Write)) → Brings s d e fs → Makes s d e fs (acted_all fs v d)
  frame_makes e fs b =
      let calm = not_clearable v enabled in
      record {
        rows = b.rows;
        drive = b.drive calm;
        objects = ap (λ ws. stored ws d) (b.writes ∙ ap (λ c. written c d fs) calm) ∙ written_stored fs d;
      }

  -- 01h and 80h, unknown commands, and what is for another node
  command_makes : (c : NmtCommand) → acts_on_drive c ≡ false → Makes s d (commanded c s) [] v
  unfolding commanded left
  command_makes start h = whichever (λ e. Makes s d e [] v) (is_operational s.node.nmt) (makes_none refl refl) (makes_none refl refl)
  command_makes stop h = absurd (true≢false h)
  command_makes enter_pre_operational h =
      whichever (λ e. Makes s d e [] v) (is_pre_operational s.node.nmt) (makes_none refl refl) (makes_none refl refl)
  command_makes reset_node h = absurd (true≢false h)
  command_makes reset_communication h = absurd (true≢false h)
  command_makes unknown h = makes_none refl refl

  nmt_makes : (bs : List ℕ) → ((eqb (length bs) nmt_length && (eqb (get_or bs 1 0) every_node || eqb (get_or bs 1 0) s.node.id))
      && acts_on_drive (command_of (get_or bs 0 0))) ≡ false → Makes s d (nmt bs s) [] v
  unfolding nmt
  nmt_makes bs h =
      let mine = eqb (length bs) nmt_length && (eqb (get_or bs 1 0) every_node || eqb (get_or bs 1 0) s.node.id) in
      by_test (λ e. Makes s d e [] v) mine (λ q. command_makes (command_of (get_or bs 0 0)) (and_then_false mine _ h q)) (λ q. makes_none refl refl)

  event_makes : (e : Event) → is_in_place e s ≡ true → is_fault (Some e) ≡ false → cause_in_place v ≡ true →
      let fs = told_values (Some e) in
      Makes s d (happens e s d) fs (cond (is_reached (Some e)) (moved_on v) (acted_all fs v d))
  unfolding is_in_place happens ticked cause_in_place acted acted_all stored_all
  event_makes Started placed h c = not_here is_not_ready refl placed
  event_makes QuickStopDone placed h c = not_here is_quick_stop refl placed
  event_makes ReactionDone placed h c = not_here is_reaction refl placed
  event_makes SetPointReached placed h c = makes_none refl refl
  event_makes Tick placed h c =
      let P : Effect → Type 0 = λ e. Makes s d (on Ticked e) [] v in
      whichever P (eqb (read d heartbeat_time) 0) (makes_none refl refl)
      (whichever P (ltb (suc s.node.heartbeat) (read d heartbeat_time)) (makes_none refl refl) (makes_none refl refl))
  event_makes CauseGone placed h c = not_here is_faulty refl (implied v.cause _ c placed)
  event_makes (Faulted code register) placed h c = absurd (true≢false h)
  event_makes (Feedback at speed) placed h c =
      record { rows = first_rows (feedback_rows at speed) no_rows; drive = refl; objects = refl }
  event_makes (Voltage b) placed h c = makes_none refl refl

-- ---- the calls

abbrev DecisionFollows : Call → State → List ℕ → List ℕ → Decision → Type 0
DecisionFollows c s d o x =
    let v = s.axis.drive in
    let fs = cond (is_accepted x) (values_in c s d) [] in
    FrameRows fs
    × StandsWith (cond (is_accepted x && tells_reached c) (moved_on v) (acted_all fs v d)) (stored_all fs d) (standing (answered x s d o))

module _ {s : State} {d : List ℕ} (o : List ℕ) (enabled : is_enabled s.axis.drive.state ≡ true) where
  frame_follows : (i : ℕ) (bs : List ℕ) → Lawful s d → takes_over (frame_call i bs) s ≡ false →
      let fs = values_in (frame_call i bs) s d in
      Makes s d (framed i bs s d) fs (acted_all fs s.axis.drive d)
  unfolding framed acted_all
  frame_follows i bs law h =
      elim (either (eqb i nmt_identifier)) [
        | inl e ↦ rw e (nmt_makes s d enabled bs (rw e at h))
        | inr e ↦ rw e (rw e at (frame_makes s d enabled (framed i bs s d) (applies i bs s d) (framed_brings i bs s d law e)))
      ]

  decision_follows : {c : Call} {x : Decision} → Decided s d c x → (is_accepted x && takes_over c s) ≡ false → (is_accepted x && tells_fault c) ≡ false →
      DecisionFollows c s d o x
  unfolding answered refused acted_all stored_all may_load
  decision_follows (Decided.refusing r given why) t f = (
    no_rows,
    record { state = refl; mode = refl; store = refl; taken = refl; limit = refl; objects = λ x i p q. refl },
  )
  decision_follows (Decided.powering n legal l) t f = absurd (true≢false t)
  decision_follows (Decided.framing i bs l h) t f =
      let m = frame_follows i bs (sound_lawful s d l h) t in
      (m.rows, stands m o)
  decision_follows (Decided.happening k xs e q placed l h) t f =
      let m = event_makes s d enabled e placed (rw q at f) (parts s.axis.drive d (sound_lawful s d l h).drive).cause in
      rw q (m.rows, stands m o)
  decision_follows (Decided.loading x e served none taken l h) t f =
      not_here s d enabled is_at_rest refl (and_right (is_pre_operational s.node.nmt) _ served)

-- of every stand
pub stand_follows : (k : Step) (a : Stand) → is_enabled a.state.axis.drive.state ≡ true →
    (is_accepted (decided_at k a) && takes_over k.call a.state) ≡ false → (is_accepted (decided_at k a) && tells_fault k.call) ≡ false →
    Follows k a
unfolding answer
stand_follows k a enabled t f =
    let p = decision_follows k.output enabled (decided_by a.state a.dictionary k.call k.output) t f in
    record { rows = p.0; leaves = p.1 }

pub enabled_follows : EnabledFollows
enabled_follows r k given enabled t f = stand_follows k (reached r) enabled t f
