-- Set-points are taken at the edges of bit 4 and nowhere else, by counting: no service takes more than bit 4 rose along its writes.
-- Assumes nothing.
use lib.Seq.{drop-append-le, drop_at}
use mathlib.Core.Bool.{and-false}
use Rattle.theorems.proofs.Words.{ℕ, ◌+◌, ◌≤◌, ◌^◌, ◌<◌, arith, ◌≡◌, refl, sym, ◌∙◌, ap, subst, inl, inr, Bool, true, false, cond, not, ◌&&◌}
use Rattle.theorems.proofs.Words.{◌||◌, false≢true, drop_of_length-le, List, [], ◌∷◌, ◌++◌, append-nil, append_assoc, length, length-append}
use Rattle.theorems.proofs.Words.{length-drop, drop, drop-drop, DriveState, SetPoint, Store, Empty, Rested, Moving, Queued, Drive, State, In}
use Rattle.theorems.proofs.Words.{here, there, Some, Started, QuickStopDone, ReactionDone, SetPointReached, Tick, CauseGone, Feedback}
use Rattle.theorems.proofs.Words.{Voltage, within, same_or_apart, apart, same_self, length_store, read_same, read_apart, and_left, and_right}
use Rattle.theorems.proofs.Words.{all_in, by_test, whichever, either, clash, implied, Event}
use Rattle.theorems.proofs.Services.{Serves, OneByOne, follow_lawful, applied_all}
use Rattle.theorems.proofs.Runs.{Holds, Known, Decides, decides, step_holds, begun_holds, run_holds, power_up_decided}
use Rattle.theorems.proofs.Decisions.{Decided, decided_by}
use Rattle.theorems.proofs.Settled.{control_in, register_in}
use Rattle.theorems.proofs.Writes.{Fitting}
use Rattle.theorems.proofs.Lawful.{Lawful, finally}
use Rattle.rules_dictionary.specs.Table.{Row, same, dictionary_length, control_word, mode, heartbeat_time, table, size_of, open_table}
use Rattle.rules_dictionary.specs.Numbers.{all, bit}
use Rattle.rules_dictionary.specs.Values.{Write, read, store, stored}
use Rattle.drive.specs.DriveStates.{command, next}
use Rattle.drive.specs.SetPoints.{positions, emptied, enters, with_state, behind, is_queued, is_moving, target, within_limits, set_point, offered}
use Rattle.drive.specs.SetPoints.{set_point_rule, mode_written, control_written, reached, moved_on, new_set_point_bit, at_once_bit}
use Rattle.rules_services.specs.Written.{wrote, count_restarted, mode_acted, fault_reset, control_acted, applied}
use Rattle.rules_services.specs.Nmt.{commanded, power_up, fresh_state, left, voltage_disabled}
use Rattle.rules_services.specs.Events.{is_in_place, happens, faulted}
use Rattle.rules_services.specs.Effects.{Effect, and_then, with_held, with_transfer}
use Rattle.rules_services.specs.declared.Event.TheVariants.{Fault}
use Rattle.rules.specs.Calls.{Call, Decision, refused, accepted, answered, answer, does as performs}
use Rattle.rules.specs.Outcome.{ended}
use Rattle.rules.proofs.AtEnd.{at-end}
use Rattle.theorems.specs.Promises.{Step, Stand, after, octets, AllOctets, Run, begun, reached as reached_by, points, held_at, decided_at}
use Rattle.theorems.specs.Promises.{writes_of, word_after, rise, edges, edges_in, is_reached, tells_reached, is_accepted, reached_in, Passed}
use Rattle.theorems.specs.Promises.{HoldsBitFour, OneEdgeTakesOne, NeverMoreThanEdges, HeldBitTakesNothing}
use Rattle.drive.specs.SetPoints as SetPoints
use Rattle.theorems.specs.Promises as Promises

-- ---- from the set-points held before to those held later

stays : {n : ℕ} {xs : List SetPoint} → Passed n 0 xs xs
stays {xs = xs} =
    record { taken = []; gone = 0; rest = sym (append-nil xs); few = omega arith; counted = omega arith; inside = omega arith }

empties : {n : ℕ} (xs : List SetPoint) → Passed n 0 xs []
empties xs =
    let all = xs ++ [] in
    record {
      taken = [];
      gone = length all;
      rest = sym (drop_of_length-le all {i = length all} (omega arith));
      few = omega arith;
      counted = omega arith;
      inside = omega arith;
    }

-- one after another, where no more is counted of edges, and no less of set-points reached
onward : {e f g p q r : ℕ} {xs ys zs : List SetPoint} → Passed e p xs ys → Passed f q ys zs → e + f ≤ g → r ≤ p + q → Passed g r xs zs
onward {xs = xs} {ys = ys} a b most least =
    let front = xs ++ a.taken in
    let whole : front ++ b.taken ≡ xs ++ (a.taken ++ b.taken) = append_assoc xs a.taken b.taken in
    record {
      taken = a.taken ++ b.taken;
      gone = a.gone + b.gone;
      rest = b.rest ∙ ap (λ l. drop b.gone (l ++ b.taken)) a.rest
          ∙ ap (drop b.gone) (sym (drop-append-le a.gone front b.taken a.inside))
          ∙ drop-drop b.gone a.gone (front ++ b.taken) ∙ ap (drop (a.gone + b.gone)) whole;
      few = rw length-append (omega (arith, a.few, b.few));
      counted = omega (arith, a.counted, b.counted);
      inside = omega (
        arith,
        a.inside,
        b.inside,
        length-append ys b.taken,
        ap length a.rest,
        length-drop a.gone front,
        length-append front b.taken,
        ap length whole,
      );
    }

emptied_passes : {n : ℕ} (v : Drive) → Passed n 0 (points v.store) (points (emptied v).store)
unfolding emptied
emptied_passes {n} v = whichever (λ (w : Drive). Passed n 0 (points v.store) (points w.store)) (positions v) stays (empties (points v.store))

enters_passes : {n : ℕ} (q : DriveState) (v : Drive) → Passed n 0 (points v.store) (points (enters q v).store)
unfolding enters
enters_passes q v = emptied_passes (with_state q v)

reached_passes : {n r : ℕ} (a : Store) → is_moving a ≡ true → r ≤ 1 → Passed n r (points a) (points (reached a))
reached_passes Empty h most = absurd (false≢true h)
reached_passes (Rested t) h most = absurd (false≢true h)
reached_passes (Moving p) h most =
    record { taken = []; gone = 1; rest = refl; few = omega arith; counted = most; inside = omega arith }
reached_passes (Queued p q) h most =
    record { taken = []; gone = 1; rest = refl; few = omega arith; counted = most; inside = omega arith }

-- ---- one control word takes one at the most, where bit 4 rose

taken_behind : (a : Store) (p : SetPoint) → Passed 1 0 (points a) (points (behind a p))
taken_behind Empty p = record { taken = p ∷ []; gone = 0; rest = refl; few = omega arith; counted = omega arith; inside = omega arith }
taken_behind (Rested t) p = record { taken = p ∷ []; gone = 0; rest = refl; few = omega arith; counted = omega arith; inside = omega arith }
taken_behind (Moving q) p = record { taken = p ∷ []; gone = 0; rest = refl; few = omega arith; counted = omega arith; inside = omega arith }
taken_behind (Queued q r) p = stays

taken_at_once : (xs : List SetPoint) (p : SetPoint) → Passed 1 0 xs (p ∷ [])
taken_at_once xs p =
    record {
      taken = p ∷ [];
      gone = length xs;
      rest = sym (drop_at xs (p ∷ []) (length xs) refl);
      few = omega arith;
      counted = omega arith;
      inside = rw length-append (omega arith);
    }

offered_passes : (d : List ℕ) (word : ℕ) (v : Drive) → Passed 1 0 (points v.store) (points (offered d word v).store)
unfolding offered SetPoints.with_taken
offered_passes d word v =
    let P : Drive → Type 0 = λ w. Passed 1 0 (points v.store) (points w.store) in
    let p = set_point d (target d word v.store) in
    whichever P (not (bit at_once_bit word) && is_queued v.store) stays
    (whichever P (within_limits d (target d word v.store))
    (whichever (λ (a : Store). Passed 1 0 (points v.store) (points a)) (bit at_once_bit word) (taken_at_once (points v.store) p)
    (taken_behind v.store p)) stays)

rule_passes : (d : List ℕ) (old word : ℕ) (v : Drive) → Passed (rise old word) 0 (points v.store) (points (set_point_rule d old word v).store)
unfolding set_point_rule
rule_passes d old word v =
    let P : Drive → Type 0 = λ w. Passed (rise old word) 0 (points v.store) (points w.store) in
    by_test P (bit new_set_point_bit word)
    (λ up. by_test P (positions v && not (bit new_set_point_bit old))
    (λ e. rw (up, and_right (positions v) (not (bit new_set_point_bit old)) e) (offered_passes d word v)) (λ e. stays))
    (λ down. stays)

-- first the drive command, which takes nothing, then the rule
control_passes : (d : List ℕ) (old : ℕ) (v : Drive) →
    Passed (rise old (read d control_word)) 0 (points v.store) (points (control_written d old v).drive.store)
unfolding control_written
control_passes d old v =
    let word = read d control_word in
    let q = next v.cause v.state (command old word) in
    onward (enters_passes {n = 0} q v) (rule_passes d old word (enters q v)) (omega arith) (omega arith)

-- ---- the edges along writes

-- no row of the table has 6040h's number and lies elsewhere
control_alone : all (λ x. not (same control_word x && apart x control_word)) table ≡ true
unfolding open_table
control_alone = refl

-- what a write leaves of 6040h
word_after_lem : (w : Write) (d : List ℕ) → length d ≡ dictionary_length → In w.row table × (w.value < 256 ^ size_of w.row) →
    read (store w.row w.value d) control_word ≡ word_after (read d control_word) w
word_after_lem w d l fit =
    elim (same_or_apart fit.0 control_in) [
      | inl e ↦ subst (λ (z : Row). read (store w.row w.value d) z ≡ w.value) e
          (read_same w.row w.value d (omega (arith, within fit.0, l)) fit.1)
          ∙ rw (ap (same control_word) e ∙ same_self control_word)
      | inr a ↦ elim (either (same control_word w.row)) [
        | inl e ↦ clash false (rw (e, a) at (all_in (λ x. not (same control_word x && apart x control_word)) fit.0 control_alone)) refl
        | inr e ↦ rw e (read_apart w.row control_word w.value d a)
      ]
    ]

-- a bit that rose rose before some word between, or behind it
rises_between : (a b c : Bool) → cond (not a && c) 1 0 ≤ cond (not a && b) 1 0 + cond (not b && c) 1 0
rises_between true b c = omega arith
rises_between false true true = omega arith
rises_between false true false = omega arith
rises_between false false true = omega arith
rises_between false false false = omega arith

no_rise : (a : Bool) → cond (not a && a) 1 0 ≤ 0
no_rise true = omega arith
no_rise false = omega arith

-- from the word before to the word behind there is no more than one
one_edge : (ws : List Write) (d : List ℕ) → length d ≡ dictionary_length → Fitting ws →
    rise (read d control_word) (read (stored ws d) control_word) ≤ edges (read d control_word) ws
unfolding stored edges
one_edge [] d l fit = no_rise (bit new_set_point_bit (read d control_word))
one_edge (w ∷ ws) d l fit =
    let d1 = store w.row w.value d in
    rw (← (word_after_lem w d l (fit w here))) (omega (
      arith,
      one_edge ws d1 (length_store w.row w.value d ∙ l) (λ v i. fit v (there i)),
      rises_between (bit new_set_point_bit (read d control_word)) (bit new_set_point_bit (read d1 control_word))
          (bit new_set_point_bit (read (stored ws d1) control_word)),
    ))

edges_both : (ws vs : List Write) (d : List ℕ) → length d ≡ dictionary_length → Fitting ws →
    edges (read d control_word) (ws ++ vs) ≡ edges (read d control_word) ws + edges (read (stored ws d) control_word) vs
unfolding stored edges
edges_both [] vs d l fit = omega arith
edges_both (w ∷ ws) vs d l fit =
    rw (← (word_after_lem w d l (fit w here)))
    (omega (arith, edges_both ws vs (store w.row w.value d) (length_store w.row w.value d ∙ l) (λ v i. fit v (there i))))

-- ---- what an effect does to the set-points held: no more is taken than bit 4 rose along its writes

abbrev PassesBy : State → List ℕ → Effect → Type 0
PassesBy s d e = Passed (edges (read d control_word) e.writes) 0 (points s.axis.drive.store) (points e.state.axis.drive.store)

-- writes that are acted on: first the mode, then the control word
applied_passes : (ws : List Write) (s : State) (d : List ℕ) → length d ≡ dictionary_length → Fitting ws → PassesBy s d (applied ws s d)
unfolding applied control_acted fault_reset mode_acted count_restarted mode_written
applied_passes ws s d l fit =
    let old = read d control_word in
    let d1 = stored ws d in
    let r = count_restarted ws s in
    let t = mode_acted ws r d1 in
    let c = control_written d1 old t.axis.drive in
    let P : ℕ → State → Type 0 = λ n u. Passed n 0 (points s.axis.drive.store) (points u.axis.drive.store) in
    let Q : Effect → Type 0 = λ e. P (edges old (ws ++ e.writes)) e.state in
    let restarted : P 0 r = whichever (P 0) (wrote heartbeat_time ws) stays stays in
    let moded : P 0 t =
    whichever (P 0) (wrote mode ws) (onward restarted (emptied_passes {n = 0} _) (omega arith) (omega arith)) restarted in
    let along : (vs : List Write) → rise old (read d1 control_word) ≤ edges old (ws ++ vs) =
    λ vs. omega (arith, one_edge ws d l fit, edges_both ws vs d l fit) in
    let controlled : (vs : List Write) → Passed (edges old (ws ++ vs)) 0 (points s.axis.drive.store) (points c.drive.store) =
    λ vs. onward moded (control_passes d1 old t.axis.drive) (omega (arith, along vs)) (omega arith) in
    whichever Q (wrote control_word ws) (whichever Q c.reset (controlled _) (controlled []))
    (onward moded (stays {n = 0}) (omega arith) (omega arith))

one_by_one_pass : {K : Type 0} {s : State} {d : List ℕ} {e : Effect} → OneByOne K s d e → K → Lawful s d → PassesBy s d e
unfolding and_then
one_by_one_pass OneByOne.none k law = stays
one_by_one_pass (OneByOne.skips rest) k law = one_by_one_pass rest k law
one_by_one_pass {s = s} {d = d} (OneByOne.next q ws {e} may rest) k law =
    let a = applied ws (with_held q s) d in
    let m = may k law in
    let fitting =
    applied_all (λ w. In w.row table × (w.value < 256 ^ size_of w.row)) ws (with_held q s) d m.may.fit (λ e. (register_in, omega arith)) in
    onward (applied_passes ws (with_held q s) d law.long m.may.fit) (one_by_one_pass rest k (follow_lawful m))
    (omega (arith, edges_both a.writes e.writes d law.long fitting)) (omega arith)

-- every service
passes : {K : Type 0} {s : State} {d : List ℕ} {e : Effect} → Serves K s d e → K → Lawful s d → PassesBy s d e
unfolding commanded power_up fresh_state voltage_disabled left faulted moved_on
passes Serves.nothing k law = stays
passes (Serves.replies t said) k law = stays
passes (Serves.alarms l code) k law = stays
passes {s = s} {d = d} (Serves.applies t ws before may) k law = applied_passes ws (with_transfer t s) d law.long (may k law).fit
passes (Serves.holds bs l i on synchronous long legal) k law = stays
passes (Serves.releases r) k law = one_by_one_pass r k law
passes (Serves.loads r) k law = one_by_one_pass r k law
passes (Serves.starts q idle) k law = stays
passes Serves.leaves k law = stays
passes {s = s} Serves.stops k law = enters_passes _ s.axis.drive
passes {s = s} Serves.resets k law = enters_passes _ s.axis.drive
passes Serves.begins k law = empties _
passes {s = s} (Serves.moves q placed) k law = enters_passes q s.axis.drive
passes {s = s} (Serves.reaches placed) k law = reached_passes s.axis.drive.store (placed k) (omega arith)
passes Serves.recovers k law = stays
passes {s = s} (Serves.faults code register fits) k law = enters_passes _ s.axis.drive
passes (Serves.feeds at speed fits) k law = stays
passes (Serves.powers v) k law = stays
passes Serves.rests k law = stays
passes (Serves.counts e) k law = stays
passes Serves.beats k law = stays

-- ---- the calls

-- the call's end leaves the store
finally_store : (d : List ℕ) (e : Effect) → (finally d e).axis.drive.store ≡ e.state.axis.drive.store
finally_store d e = (at-end e.occasion (stored e.writes d) e.state.axis.drive).store

-- what a decision does to the set-points held, so many of which were reached by it
abbrev PassesAs : ℕ → State → List ℕ → List ℕ → Decision → Type 0
PassesAs n s d o x =
    Passed (edges (read d control_word) (writes_of x)) n (points s.axis.drive.store) (points (answered x s d o).state.axis.drive.store)

answered_passes : {c : Call} {x : Decision} {s : State} {d : List ℕ} (o : List ℕ) → Decides s d c x → Known c s → PassesAs 0 s d o x
unfolding answered refused accepted ended power_up fresh_state
answered_passes o (Decides.refuses r q) b = stays
answered_passes {d = d} o (Decides.begins n legal long) b = rw (finally_store d (power_up n)) (empties _)
answered_passes {d = d} o (Decides.serves {e} law v) b = rw (finally_store d e) (passes v b law)

-- an event 6, accepted or not
module _ (s : State) (d o : List ℕ) where
  abbrev reached_if : Bool → Decision → ℕ
  reached_if six x = cond (is_accepted x && six) 1 0

  event_passes : (e : Event) → is_reached (Some e) ≡ true → is_in_place e s ≡ true → PassesAs 1 s d o (performs (happens e s d))
  unfolding is_in_place happens moved_on answered accepted ended
  event_passes SetPointReached h moves =
      rw (finally_store d (happens SetPointReached s d)) (reached_passes s.axis.drive.store moves (omega arith))
  event_passes Started h placed = absurd (false≢true h)
  event_passes QuickStopDone h placed = absurd (false≢true h)
  event_passes ReactionDone h placed = absurd (false≢true h)
  event_passes Tick h placed = absurd (false≢true h)
  event_passes CauseGone h placed = absurd (false≢true h)
  event_passes (Fault code register) h placed = absurd (false≢true h)
  event_passes (Feedback at speed) h placed = absurd (false≢true h)
  event_passes (Voltage b) h placed = absurd (false≢true h)

  six_passes : {c : Call} {x : Decision} → Decided s d c x → tells_reached c ≡ true → PassesAs (reached_if (tells_reached c) x) s d o x
  unfolding answered refused
  six_passes (Decided.refusing r given why) six = stays
  six_passes (Decided.powering n legal l) six = absurd (false≢true six)
  six_passes (Decided.framing i bs l h) six = absurd (false≢true six)
  six_passes (Decided.happening k xs e q placed l h) six = rw six (event_passes e (rw q at six) placed)
  six_passes (Decided.loading f e served none taken l h) six = absurd (false≢true six)

step_passes : (k : Step) (a : Stand) → octets k.call ≡ true → Holds a →
    PassesAs (cond (is_accepted (decided_at k a) && tells_reached k.call) 1 0) a.state a.dictionary k.output (decided_at k a)
step_passes k a b h =
    elim (either (tells_reached k.call)) [
      | inl e ↦ six_passes a.state a.dictionary k.output (decided_by a.state a.dictionary k.call k.output) e
      | inr e ↦ rw (e, and-false) (answered_passes k.output (decides a.state a.dictionary k.call k.output) (b, h.came))
    ]

-- THE COUNT
after_passes : (ks : List Step) (a : Stand) → AllOctets ks → Holds a → Passed (edges_in ks a) (reached_in ks a) (held_at a) (held_at (after ks a))
unfolding after AllOctets edges_in reached_in answer
after_passes [] a b h = stays
after_passes (k ∷ ks) a b h =
    onward (step_passes k a b.0 h) (after_passes ks (Promises.left k a) b.1 (step_holds k a b.0 h)) (omega arith) (omega arith)

pub one_edge_takes_one : OneEdgeTakesOne
one_edge_takes_one r ks b = after_passes ks (reached_by r) b (run_holds r)

-- ---- since power-up, which leaves no set-point

begun_empty : (r : Run) → held_at (begun r) ≡ []
unfolding answer answered accepted ended power_up fresh_state
begun_empty r =
    let s = r.found.state in
    let d = r.found.dictionary in
    ap (λ (x : Decision). points (answered x s d r.output).state.axis.drive.store)
    (power_up_decided r.node s d r.output r.legal r.long r.room)
    ∙ ap points (finally_store d (power_up r.node))

pub never_more_than_edges : NeverMoreThanEdges
never_more_than_edges r =
    let p = after_passes r.steps (begun r) r.given (begun_holds r) in
    omega (
      arith,
      p.few,
      p.counted,
      p.inside,
      ap length p.rest,
      length-drop p.gone (held_at (begun r) ++ p.taken),
      length-append (held_at (begun r)) p.taken,
      ap length (begun_empty r),
    )

-- ---- while bit 4 stays 1 there is no edge

abbrev keeps_one : Write → Bool
keeps_one w = not (same control_word w.row) || bit new_set_point_bit w.value

held_edges : (ws : List Write) (word : ℕ) → bit new_set_point_bit word ≡ true → all keeps_one ws ≡ true → edges word ws ≡ 0
unfolding edges
held_edges [] word h k = refl
held_edges (w ∷ ws) word h k =
    let still : bit new_set_point_bit (word_after word w) ≡ true =
    by_test (λ (v : ℕ). bit new_set_point_bit v ≡ true) (same control_word w.row)
    (λ e. implied (same control_word w.row) (bit new_set_point_bit w.value) (and_left (keeps_one w) (all keeps_one ws) k) e) (λ e. h) in
    rw h (omega (arith, held_edges ws (word_after word w) still (and_right (keeps_one w) (all keeps_one ws) k)))

no_edges : (ks : List Step) (a : Stand) → HoldsBitFour ks a → edges_in ks a ≡ 0
unfolding edges_in HoldsBitFour
no_edges [] a h = refl
no_edges (k ∷ ks) a h =
    omega (
      arith,
      held_edges (writes_of (decided_at k a)) (read a.dictionary control_word) h.0 h.1,
      no_edges ks (Promises.left k a) h.2,
    )

none_of : {A : Type 0} (xs : List A) → length xs ≤ 0 → xs ≡ []
none_of [] h = refl
none_of (x ∷ xs) h = absurd (omega arith)

pub held_bit_takes_none : HeldBitTakesNothing
held_bit_takes_none r ks b h =
    let p = one_edge_takes_one r ks b in
    let before = held_at (reached_by r) in
    let same : before ++ p.taken ≡ before =
    ap (λ l. before ++ l) (none_of p.taken (omega (arith, p.few, no_edges ks (reached_by r) h))) ∙ append-nil before in
    (p.gone, p.rest ∙ ap (drop p.gone) same, p.counted, omega (arith, p.inside, ap length same))
