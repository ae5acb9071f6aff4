-- Ticket 2, an event 7: it changes no object but 6041h, and sends a heartbeat where that is due, and the transmit PDOs that it changes.
-- Assumes nothing.
use mathlib.Core.List.{flat_map}
use Rattle.theorems.proofs.Words.{ℕ, suc, ◌+◌, ◌≤◌, arith, ◌≡◌, refl, sym, ◌∙◌, ap, subst, ◌⊎◌, inl, inr, Bool, true, false, cond, not, ◌&&◌}
use Rattle.theorems.proofs.Words.{and-not_self, List, [], ◌∷◌, ◌++◌, length, get_or, eqb, leb, ltb, eq-eqb, le-leb, PdoData, State, Pace, Paced}
use Rattle.theorems.proofs.Words.{Ticked, Accepted, OutputLength, In, here, there, same_or_apart, same_self, type_in, either, clash, whichever}
use Rattle.theorems.proofs.Words.{by_test, and_right, or_either, leb-true, eqb-true, and_both, eqb-false, is_operational, Tick}
use Rattle.theorems.proofs.Words.{by_match, Refusal, NotSound, DictionaryLength}
use borrow.Author.Tests.{lt-leb, not-false}
use Rattle.theorems.proofs.Dictionary.{well_chosen}
use Rattle.theorems.proofs.Settled.{settled_apart, settled_display, status_in, display_in}
use Rattle.theorems.proofs.Lawful.{sound_lawful, finally, transmitter_in}
use Rattle.theorems.proofs.Runs.{Holds, run_holds, step_holds, passed, standing}
use Rattle.theorems.proofs.Demands.{Rests, run_rests, mode_made}
use Rattle.rules_dictionary.specs.Table.{Row, table, same, dictionary_length, each_way, status_word, heartbeat_time}
use Rattle.rules_dictionary.specs.{Plans.ready_of, Values.read, Values.stored}
use Rattle.rules_dictionary.specs.Legal.{is_cyclic, is_event_driven, is_synchronous, is_type, last_synchronous, first_event_driven}
use Rattle.drive.specs.Window.{staying}
use Rattle.rules_services.specs.Effects.{Frame, Effect, on, with_heartbeat}
use Rattle.rules_services.specs.Nmt.{tick, heartbeat}
use Rattle.rules_services.specs.Events.{event_of, is_in_place, happens}
use Rattle.rules_services.specs.PdoTraffic.{works, type_of, pace_of, cyclic, acyclic, event_driven, transmitted, no_data}
use Rattle.rules.specs.Outcome.{drive_at_end, settled, ended, pace_for, enters_operational, changes, same_data, transmissions, transmitters, sent_into}
use Rattle.rules.specs.Sound.{sound}
use Rattle.rules.specs.Calls.{event_call, Decision, refuses, does as performs, decision, event_decision, decided, refused, accepted, answered, answer}
use Rattle.rules.specs.Calls.{output_length, Outcome}
use Rattle.theorems.specs.Promises.{Stand, reached}
use Rattle.theorems.specs.PromisesOfWindow.{ticking, TickChangesOneObject, ready_at, changed_frames, SendsLittle, TickSendsLittle}

-- ---- the service

-- a tick that leaves that heartbeat count and sends those frames
abbrev tick_of : ℕ → List Frame → State → Effect
tick_of k fs s = record { state = with_heartbeat k s; writes = []; sent = fs; occasion = Ticked }

record TicksAs (s : State) (e : Effect) : Type 0 where
  count : ℕ
  beat : List Frame
  due : (beat ≡ []) ⊎ (beat ≡ heartbeat s)
  is : e ≡ tick_of count beat s

ticks_as : (s : State) (d : List ℕ) → TicksAs s (happens Tick s d)
unfolding happens tick
ticks_as s d =
    let P : Effect → Type 0 = λ e. TicksAs s (on Ticked e) in
    let n = s.node.heartbeat in
    whichever P (eqb (read d heartbeat_time) 0) (record { count = n; beat = []; due = inl refl; is = refl })
    (whichever P (ltb (suc n) (read d heartbeat_time)) (record { count = suc n; beat = []; due = inl refl; is = refl })
    (record { count = 0; beat = heartbeat s; due = inr refl; is = refl }))

-- ---- the call: where there is room it is served

module _ (a : Stand) (o : List ℕ) (h : Rests a) where
  tick_decided : output_length ≤ length o → decided (event_call 7 []) a.state a.dictionary o ≡ performs (happens Tick a.state a.dictionary)
  unfolding decided decision event_decision event_of is_in_place
  tick_decided room =
      passed (eqb (length a.dictionary) dictionary_length) _ _ (eq-eqb _ _ h.at.long)
      ∙ passed (leb output_length (length o)) _ _ (le-leb _ _ room)
      ∙ passed (sound a.state a.dictionary) _ _ h.at.sound

-- .. and else refused
tick_walk : (a : Stand) (o : List ℕ) (P : Decision → Type 0) → P (performs (happens Tick a.state a.dictionary)) →
    ((r : Refusal) → P (refuses r)) → P (decided (event_call 7 []) a.state a.dictionary o)
unfolding decided decision event_decision event_of is_in_place
tick_walk a o P served turned =
    by_match P (eqb (length a.dictionary) dictionary_length)
    (λ l. by_match P (leb output_length (length o))
    (λ room. by_match P (sound a.state a.dictionary) (λ k. served) (λ k. turned NotSound))
    (λ room. turned OutputLength))
    (λ l. turned DictionaryLength)

-- ---- the dictionary

-- 6061h is made again, and is as it was
module _ (a : Stand) (h : Rests a) where
  object_stays : (k : ℕ) (fs : List Frame) (x : Row) → In x table → same x status_word ≡ false →
      read (ended a.state a.dictionary (tick_of k fs a.state)).dictionary x ≡ read a.dictionary x
  unfolding ended stored drive_at_end staying
  object_stays k fs x i other =
      let d = a.dictionary in
      let s = finally d (tick_of k fs a.state) in
      let shown = settled_display s d h.at.long ∙ sym ((mode_made a h).0 ∙ (mode_made a h).1) in
      elim (same_or_apart status_in i) [
        | inl e ↦ clash (same x status_word) (subst (λ (y : Row). same y status_word ≡ true) e (same_self status_word)) other
        | inr p ↦ elim (same_or_apart display_in i) [
          | inl e ↦ subst (λ (y : Row). read (settled s d) y ≡ read d y) e shown
          | inr q ↦ settled_apart s d x p q
        ]
      ]

pub tick_changes_one_object : TickChangesOneObject
unfolding answer answered refused accepted
tick_changes_one_object r o x i other =
    let a = reached r in
    let t = ticks_as a.state a.dictionary in
    tick_walk a o (λ y. read (answered y a.state a.dictionary o).dictionary x ≡ read a.dictionary x)
    (rw t.is (object_stays a (run_rests r) t.count t.beat x i other)) (λ y. refl)

-- ---- the frames

-- by its type a transmit PDO is sent at a tick only where it goes at once
goes_at_once : (n : ℕ) (changed : Bool) (k : Pace) → is_type n ≡ true → (pace_of n Ticked changed k).send ≡ (is_event_driven n && changed)
unfolding pace_of cyclic acyclic event_driven
goes_at_once n changed k legal =
    let P : Paced → Type 0 = λ p. p.send ≡ (is_event_driven n && changed) in
    let slow : n ≤ last_synchronous → is_event_driven n ≡ false = λ l. lt-leb first_event_driven n (omega arith) in
    by_test P (is_cyclic n) (λ e. rw (slow (leb-true n last_synchronous (and_right (leb 1 n) _ e))))
    (λ e. by_test P (eqb n 0) (λ z. rw (slow (omega (arith, eqb-true n 0 z)))) (λ z. rw (quick e z)))
  where
    quick : is_cyclic n ≡ false → eqb n 0 ≡ false → is_event_driven n ≡ true
    quick e z =
        elim (or_either (is_synchronous n) (is_event_driven n) legal) [
          | inl l ↦ clash (is_cyclic n) (and_both (leb 1 n) (leb n last_synchronous) (le-leb 1 n (omega (arith, eqb-false n 0 z))) l) e
          | inr l ↦ l
        ]

-- a transmit PDO is sent at a tick where it works, goes at once, and its frame is another than it was
sent_at_tick : (s s' : State) (d : List ℕ) (ready : List PdoData) (t : ℕ) → s'.node.nmt ≡ s.node.nmt → is_type (type_of d (each_way + t)) ≡ true →
    (pace_for s s' Ticked d ready t).send
    ≡ (works s'.node.nmt d (each_way + t) && is_event_driven (type_of d (each_way + t)) && changes s ready t)
unfolding pace_for enters_operational
sent_at_tick s s' d ready t same legal =
    let p = each_way + t in
    elim (either (works s'.node.nmt d p)) [
      | inl e ↦ rw (e, same, and-not_self (is_operational s.node.nmt)) (goes_at_once (type_of d p) (changes s ready t) _ legal)
      | inr e ↦ rw e
    ]

-- the frames of those that are sent, as one list
frames_as : (d : List ℕ) (ready : List PdoData) (paces : ℕ → Paced) (sending : ℕ → Bool) (ts : List ℕ) →
    ((t : ℕ) → In t ts → (paces t).send ≡ sending t) →
    transmissions d ready paces ts ≡ flat_map (λ t. cond (sending t) (transmitted d (each_way + t) (get_or ready t no_data) ∷ []) []) ts
unfolding transmissions flat_map
frames_as d ready paces sending [] h = refl
frames_as d ready paces sending (t ∷ ts) h = rw (h t here, frames_as d ready paces sending ts (λ u i. h u (there i)))

-- the type of a transmit PDO, where a run stands
type_legal : (a : Stand) → Holds a → {t : ℕ} → In t transmitters → is_type (type_of a.dictionary (each_way + t)) ≡ true
type_legal a h {t} i =
    let law = sound_lawful a.state a.dictionary h.at.long h.at.sound in
    not-false (is_type (type_of a.dictionary (each_way + t))) (well_chosen law.dictionary (type_in (transmitter_in i)))

ended_little : (a : Stand) (o : List ℕ) (k : ℕ) (fs : List Frame) → (fs ≡ []) ⊎ (fs ≡ heartbeat a.state) →
    let u = accepted (ended a.state a.dictionary (tick_of k fs a.state)) o in
    Holds (standing u) → SendsLittle a o u (standing u)
unfolding accepted ended stored changes
ended_little a o k fs due h =
    let s = a.state in
    let s' = finally a.dictionary (tick_of k fs s) in
    let d = settled s' a.dictionary in
    let b : Stand = standing (accepted (ended s a.dictionary (tick_of k fs s)) o) in
    let sending : ℕ → Bool = λ t.
    works b.state.node.nmt d (each_way + t) && is_event_driven (type_of d (each_way + t)) && not (same_data (ready_at a t) (ready_at b t)) in
    let pdos : transmissions d (ready_of d) (pace_for s s' Ticked d (ready_of d)) transmitters ≡ changed_frames a b =
    frames_as d (ready_of d) (pace_for s s' Ticked d (ready_of d)) sending transmitters
    (λ t i. sent_at_tick s s' d (ready_of d) t refl (type_legal b h i)) in
    record { beat = fs; due = due; frames = ap (λ l. length (fs ++ l)) pdos; output = ap (λ l. sent_into o (fs ++ l)) pdos }

pub tick_sends_little : TickSendsLittle
unfolding answer answered accepted
tick_sends_little r o room =
    let a = reached r in
    let t = ticks_as a.state a.dictionary in
    let u : Decision → Outcome = λ x. answered x a.state a.dictionary o in
    let x = tick_decided a o (run_rests r) room ∙ ap performs t.is in
    let h = subst (λ (y : Decision). Holds (standing (u y))) x (step_holds (ticking o) a refl (run_holds r)) in
    subst (λ (y : Decision). ((u y).refusal ≡ Accepted) × SendsLittle a o (u y) (standing (u y))) (sym x)
    (refl, ended_little a o t.count t.beat t.due h)
