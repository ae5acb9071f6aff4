-- Ticket 2: whenever bit 10 shows by the window time, the position was inside the window of one target at each of so many ticks. What every
-- service does to the count and its target, what the call's end makes of them, and the past that they stand for.
-- Assumes nothing.
use Rattle.theorems.proofs.Words.{ℕ, zero, suc, ◌+◌, ◌<◌, ◌≤◌, arith, ◌≡◌, refl, sym, ◌∙◌, ap, subst, inl, inr, Bool, true, false, cond, not}
use Rattle.theorems.proofs.Words.{◌&&◌, ◌||◌, false≢true, List, [], ◌∷◌, leb, ltb, eqb-true, ne_eqb, leb-true, Mode, NoMode, ProfilePosition}
use Rattle.theorems.proofs.Words.{ProfileVelocity, DriveState, SetPoint, Store, Empty, Rested, Moving, Queued, Drive, State, and_left}
use Rattle.theorems.proofs.Words.{and_right, by_test, whichever, either, implied, on_states, both_by_test, leb-false, or-false}
use Rattle.theorems.proofs.Services.{Serves, OneByOne}
use Rattle.theorems.proofs.Runs.{Holds, Decides, decides, standing, step_holds, begun_holds, power_up_decided}
use Rattle.theorems.proofs.Decisions.{decided_by}
use Rattle.theorems.proofs.Occasions.{TicksOnly, ticks_only}
use Rattle.theorems.proofs.Settled.{settled_motion, inside_same}
use Rattle.theorems.proofs.Lawful.{finally, clauses}
use Rattle.theorems.proofs.Demands.{status_made, mode_made, run_rests}
use Rattle.rules_dictionary.specs.Table.{control_word, mode, heartbeat_time, window_time}
use Rattle.rules_dictionary.specs.Numbers.{bit}
use Rattle.rules_dictionary.specs.{Legal.mode_number, Values.Write, Values.read, Values.stored}
use Rattle.drive.specs.DriveStates.{is_enabled, state_word, command, next}
use Rattle.drive.specs.SetPoints.{positions, emptied, enters, with_state, behind, becomes_active, is_queued, target, within_limits, set_point, with_taken}
use Rattle.drive.specs.SetPoints.{offered, set_point_rule, mode_written, control_written, moved_on, new_set_point_bit, at_once_bit}
use Rattle.drive.specs.Window.{near, inside, most_ticks, counted, staying}
use Rattle.drive.specs.StatusWord.{flag, voltage_shown, remote_shown, reached_shown, limit_shown, ack_shown, halt_bit, ack_in_mode, reached_in_mode}
use Rattle.drive.specs.StatusWord.{position_reached, enabled_bits, status}
use Rattle.state.specs.Occasions.{is_ticked}
use Rattle.rules_services.specs.Written.{wrote, count_restarted, mode_acted, fault_reset, control_acted, applied}
use Rattle.rules_services.specs.Nmt.{commanded, power_up, fresh_state, left, voltage_disabled}
use Rattle.rules_services.specs.Events.{faulted}
use Rattle.rules_services.specs.Effects.{Effect, and_then, with_held, with_transfer}
use Rattle.rules.specs.Outcome.{drive_at_end, ended, status_of}
use Rattle.rules.specs.Sound.{stay_sound}
use Rattle.rules.specs.Calls.{Call, Decision, refused, accepted, answered, answer}
use Rattle.theorems.specs.Promises.{Step, Stand, after, AllOctets, Run, begun, reached, is_accepted}
use Rattle.theorems.specs.PromisesOfWindow.{AimsAt, StandsNear, tells_tick, Past, past_of, StaysNear, KnifeWaits}
use Rattle.drive.specs.SetPoints as SetPoints
use Rattle.theorems.specs.Promises as Promises

-- ---- the target that the ticks are counted for: the active one, or the one at rest

abbrev aim : Store → List ℕ
aim Empty = []
aim (Rested t) = t ∷ []
aim (Moving a) = a.target ∷ []
aim (Queued a b) = a.target ∷ []

head_same : {t u : ℕ} → ◌≡◌ {A = List ℕ} (u ∷ []) (t ∷ []) → u ≡ t
head_same e = cc

none_aimed {ℓ} : {A : Type ℓ} {t : ℕ} → ◌≡◌ {A = List ℕ} [] (t ∷ []) → A
none_aimed {t = t} e = absurd (let z : ◌≡◌ {A = ℕ} 0 1 = cc in omega arith)

aims_at : (s : Store) {t : ℕ} → aim s ≡ t ∷ [] → AimsAt t s
aims_at Empty e = none_aimed e
aims_at (Rested u) e = head_same e
aims_at (Moving a) e = head_same e
aims_at (Queued a b) e = head_same e

inside_aimed : (s : Store) {t : ℕ} (d : List ℕ) → aim s ≡ t ∷ [] → inside s d ≡ near t d
unfolding inside
inside_aimed Empty d e = none_aimed e
inside_aimed (Rested u) d e = ap (λ (k : ℕ). near k d) (head_same e)
inside_aimed (Moving a) d e = ap (λ (k : ℕ). near k d) (head_same e)
inside_aimed (Queued a b) d e = ap (λ (k : ℕ). near k d) (head_same e)

-- ---- what a rule makes of the count n and the store s: it empties the store, starts the count again, or leaves it with its target

data Follows (n : ℕ) (s : Store) (m : ℕ) (t : Store) : Type 0 where
  empties : aim t ≡ [] → Follows n s m t
  restarts : m ≡ 0 → Follows n s m t
  goes_on : m ≡ n → aim t ≡ aim s → Follows n s m t

abbrev FollowsBy : Drive → Drive → Type 0
FollowsBy v w = Follows v.stay v.store w.stay w.store

stays : {n : ℕ} {s : Store} → Follows n s n s
stays = goes_on refl refl

onward : {n m k : ℕ} {s t u : Store} → Follows n s m t → Follows m t k u → Follows n s k u
onward a (empties e) = empties e
onward a (restarts e) = restarts e
onward (empties e) (goes_on p q) = empties (q ∙ e)
onward (restarts e) (goes_on p q) = restarts (p ∙ e)
onward (goes_on e f) (goes_on p q) = goes_on (p ∙ e) (q ∙ f)

emptied_follows : (v : Drive) → FollowsBy v (emptied v)
unfolding emptied
emptied_follows v = whichever (FollowsBy v) (positions v) stays (empties refl)

enters_follows : (q : DriveState) (v : Drive) → FollowsBy v (enters q v)
unfolding enters
enters_follows q v = emptied_follows (with_state q v)

moved_follows : (v : Drive) → FollowsBy v (moved_on v)
unfolding moved_on
moved_follows v = go v.store
  where
    go : (s : Store) → Follows v.stay s (cond (is_queued s) 0 v.stay) (SetPoints.reached s)
    go Empty = stays
    go (Rested t) = stays
    go (Moving a) = goes_on refl refl
    go (Queued a b) = restarts refl

taken_follows : (word : ℕ) (a : SetPoint) (v : Drive) → FollowsBy v (with_taken word a v)
unfolding with_taken
taken_follows word a v = go (bit at_once_bit word) v.store
  where
    go : (at_once : Bool) (s : Store) →
        Follows v.stay s (cond (becomes_active at_once s) 0 v.stay) (cond at_once (Moving a) (behind s a))
    go true s = restarts refl
    go false Empty = restarts refl
    go false (Rested t) = restarts refl
    go false (Moving b) = goes_on refl refl
    go false (Queued b c) = goes_on refl refl

rule_follows : (d : List ℕ) (old word : ℕ) (v : Drive) → FollowsBy v (set_point_rule d old word v)
unfolding set_point_rule offered
rule_follows d old word v =
    let P : Drive → Type 0 = FollowsBy v in
    whichever P (bit new_set_point_bit word)
    (whichever P (positions v && not (bit new_set_point_bit old))
    (whichever P (not (bit at_once_bit word) && is_queued v.store) stays
    (whichever P (within_limits d (target d word v.store)) (taken_follows word (set_point d (target d word v.store)) v) stays)) stays)
    stays

control_follows : (d : List ℕ) (old : ℕ) (v : Drive) → FollowsBy v (control_written d old v).drive
unfolding control_written
control_follows d old v =
    let q = next v.cause v.state (command old (read d control_word)) in
    onward (enters_follows q v) (rule_follows d old (read d control_word) (enters q v))

-- ---- every service

abbrev FollowsAs : State → Effect → Type 0
FollowsAs s e = FollowsBy s.axis.drive e.state.axis.drive

applied_follows : (ws : List Write) (s : State) (d : List ℕ) → FollowsAs s (applied ws s d)
unfolding applied control_acted fault_reset mode_acted count_restarted mode_written
applied_follows ws s d =
    let d1 = stored ws d in
    let r = count_restarted ws s in
    let t = mode_acted ws r d1 in
    let c = control_written d1 (read d control_word) t.axis.drive in
    let P : State → Type 0 = λ u. FollowsBy s.axis.drive u.axis.drive in
    let restarted : P r = whichever P (wrote heartbeat_time ws) stays stays in
    let moded : P t = whichever P (wrote mode ws) (onward restarted (emptied_follows _)) restarted in
    let controlled = onward moded (control_follows d1 (read d control_word) t.axis.drive) in
    whichever (FollowsAs s) (wrote control_word ws) (whichever (FollowsAs s) c.reset controlled controlled) moded

one_by_one_follow : {K : Type 0} {s : State} {d : List ℕ} {e : Effect} → OneByOne K s d e → FollowsAs s e
unfolding and_then
one_by_one_follow OneByOne.none = stays
one_by_one_follow (OneByOne.skips rest) = one_by_one_follow rest
one_by_one_follow {s = s} {d = d} (OneByOne.next h ws may rest) = onward (applied_follows ws (with_held h s) d) (one_by_one_follow rest)

follows : {K : Type 0} {s : State} {d : List ℕ} {e : Effect} → Serves K s d e → FollowsAs s e
unfolding commanded power_up fresh_state voltage_disabled left faulted
follows Serves.nothing = stays
follows (Serves.replies t said) = stays
follows (Serves.alarms l code) = stays
follows {s = s} {d = d} (Serves.applies t ws before may) = applied_follows ws (with_transfer t s) d
follows (Serves.holds bs l i on synchronous long legal) = stays
follows (Serves.releases r) = one_by_one_follow r
follows (Serves.loads r) = one_by_one_follow r
follows (Serves.starts q idle) = stays
follows Serves.leaves = stays
follows {s = s} Serves.stops = enters_follows _ s.axis.drive
follows {s = s} Serves.resets = enters_follows _ s.axis.drive
follows Serves.begins = empties refl
follows {s = s} (Serves.moves q placed) = enters_follows q s.axis.drive
follows {s = s} (Serves.reaches placed) = moved_follows s.axis.drive
follows Serves.recovers = stays
follows {s = s} (Serves.faults code register fits) = enters_follows _ s.axis.drive
follows (Serves.feeds at speed fits) = stays
follows (Serves.powers v) = stays
follows Serves.rests = stays
follows (Serves.counts e) = stays
follows Serves.beats = stays

-- ---- the past: less of it asks for less

stays_shorter : (t : ℕ) (ps : List Past) (n : ℕ) → StaysNear t ps (suc n) → StaysNear t ps n
unfolding StaysNear
stays_shorter t [] zero h = tt
stays_shorter t [] (suc n) h = h
stays_shorter t (p ∷ ps) zero h = tt
stays_shorter t (p ∷ ps) (suc n) h =
    let P : ℕ → ℕ → Type 0 = λ m k. StaysNear t ps m → StaysNear t ps k in
    (h.0, both_by_test P p.ticked (λ e. stays_shorter t ps n) (λ e. stays_shorter t ps (suc n)) h.1)

stays_at_most : (t : ℕ) (ps : List Past) (n m : ℕ) → m ≤ n → StaysNear t ps n → StaysNear t ps m
stays_at_most t ps zero m l h = subst (StaysNear t ps) (omega arith) h
stays_at_most t ps (suc n) m l h =
    elim (either (leb m n)) [
      | inl e ↦ stays_at_most t ps n m (leb-true m n e) (stays_shorter t ps n h)
      | inr e ↦ subst (StaysNear t ps) (omega (arith, leb-false m n e)) h
    ]

-- of no tick nothing is asked
no_tick_asked : (t : ℕ) (ps : List Past) → StaysNear t ps 0
unfolding StaysNear
no_tick_asked t [] = tt
no_tick_asked t (p ∷ ps) = tt

module _ (t : ℕ) (p : Past) (ps : List Past) (here : StandsNear t p.stand) where
  -- one call more, whatever it was
  one_call_more : (n : ℕ) → StaysNear t ps n → StaysNear t (p ∷ ps) n
  unfolding StaysNear
  one_call_more zero h = tt
  one_call_more (suc n) h = (here, whichever (StaysNear t ps) p.ticked (stays_shorter t ps n h) h)

  -- one tick more
  one_tick_more : (n : ℕ) → p.ticked ≡ true → StaysNear t ps n → StaysNear t (p ∷ ps) (suc n)
  unfolding StaysNear
  one_tick_more n e h = (here, rw e h)

-- ---- what holds of the count between calls: it was made by that many ticks of the past

abbrev Waited : Drive → List Past → Type 0
Waited v ps = (t : ℕ) → aim v.store ≡ t ∷ [] → StaysNear t ps v.stay

-- an accepted call keeps it
ended_waited : (s : State) (d o : List ℕ) (e : Effect) (ticked : Bool) (ps : List Past) → Waited s.axis.drive ps → FollowsAs s e →
    (is_ticked e.occasion ≡ true → ticked ≡ true) →
    let b = standing (accepted (ended s d e) o) in
    Waited b.state.axis.drive (record { ticked = ticked; stand = b } ∷ ps)
unfolding accepted ended drive_at_end staying counted
ended_waited s d o e ticked ps h f told t at =
    let w = e.state.axis.drive in
    let d1 = stored e.writes d in
    let b : Stand = standing (accepted (ended s d e) o) in
    let p : Past = record { ticked = ticked; stand = b } in
    let motion = settled_motion (finally d e) d1 in
    let kept : StaysNear t ps w.stay = elim f [
      | empties q ↦ none_aimed (sym q ∙ at)
      | restarts q ↦ rw q (no_tick_asked t ps)
      | goes_on q r ↦ rw q (h t (sym r ∙ at))
    ] in
    let P : ℕ → Type 0 = StaysNear t (p ∷ ps) in
    by_test P (inside w.store d1)
    (λ i.
    let here : StandsNear t b = record {
      aims = aims_at w.store at;
      inside = sym (inside_aimed w.store b.dictionary at)
          ∙ inside_same d1 b.dictionary motion.place motion.window w.store ∙ i;
    } in
    by_test P (is_ticked e.occasion)
    (λ k. whichever P (ltb w.stay most_ticks) (one_tick_more t p ps here w.stay (told k) kept) (one_call_more t p ps here w.stay kept))
    (λ k. one_call_more t p ps here w.stay kept))
    (λ i. no_tick_asked t (p ∷ ps))

-- and so does a refused one, which leaves the position where it was
refused_waited : (a : Stand) (ticked : Bool) (ps : List Past) → stay_sound a.state.axis.drive a.dictionary ≡ true →
    Waited a.state.axis.drive ps → Waited a.state.axis.drive (record { ticked = ticked; stand = a } ∷ ps)
unfolding stay_sound
refused_waited a ticked ps sound h t at =
    let v = a.state.axis.drive in
    let p : Past = record { ticked = ticked; stand = a } in
    elim (either (inside v.store a.dictionary)) [
      | inl i ↦ one_call_more t p ps (record { aims = aims_at v.store at; inside = sym (inside_aimed v.store a.dictionary at) ∙ i })
          v.stay (h t at)
      | inr i ↦ subst (StaysNear t (p ∷ ps)) (sym (eqb-true v.stay 0 (rw (i, or-false) at sound))) (no_tick_asked t (p ∷ ps))
    ]

answered_waited : {c : Call} {x : Decision} (a : Stand) (o : List ℕ) (ps : List Past) → Decides a.state a.dictionary c x → TicksOnly c x →
    stay_sound a.state.axis.drive a.dictionary ≡ true → Waited a.state.axis.drive ps →
    let b = standing (answered x a.state a.dictionary o) in
    Waited b.state.axis.drive (record { ticked = is_accepted x && tells_tick c; stand = b } ∷ ps)
unfolding answered refused power_up fresh_state
answered_waited a o ps (Decides.refuses r q) told sound h = refused_waited a false ps sound h
answered_waited {c = c} a o ps (Decides.begins n legal long) told sound h =
    ended_waited a.state a.dictionary o (power_up n) (tells_tick c) ps h (empties refl) told
answered_waited {c = c} a o ps (Decides.serves {e} law v) told sound h =
    ended_waited a.state a.dictionary o e (tells_tick c) ps h (follows v) told

after_waited : (ks : List Step) (a : Stand) (ps : List Past) → AllOctets ks → Holds a → Waited a.state.axis.drive ps →
    Waited (after ks a).state.axis.drive (past_of ks a ps)
unfolding after AllOctets past_of answer
after_waited [] a ps b h w = w
after_waited (k ∷ ks) a ps b h w =
    let x = decided_by a.state a.dictionary k.call k.output in
    after_waited ks (Promises.left k a) _ b.1 (step_holds k a b.0 h)
    (answered_waited a k.output ps (decides a.state a.dictionary k.call k.output) (ticks_only x)
    (clauses a.state a.dictionary h.at.sound).stay w)

-- power-up leaves no target
begun_waited : (r : Run) → Waited (begun r).state.axis.drive []
unfolding answer answered accepted ended power_up fresh_state drive_at_end staying
begun_waited r =
    let s = r.found.state in
    let d = r.found.dictionary in
    subst (λ (x : Decision). Waited (answered x s d r.output).state.axis.drive [])
    (sym (power_up_decided r.node s d r.output r.legal r.long r.room)) (λ t at. none_aimed at)

run_waited : (r : Run) → Waited (reached r).state.axis.drive (past_of r.steps (begun r) [])
run_waited r = after_waited r.steps (begun r) [] r.given (begun_holds r) (begun_waited r)

-- ---- bit 10 of the word

unfoldable pub both : (Bool → Bool) → Bool
both f = f true && f false

pub on_both : (f : Bool → Bool) → both f ≡ true → (b : Bool) → f b ≡ true
unfolding both
on_both f h true = and_left (f true) (f false) h
on_both f h false = and_right (f true) (f false) h

-- the word by its state and flags, as StatusWord makes it
abbrev pub word_of : DriveState → Bool → Bool → Bool → Bool → Bool → ℕ
word_of q powered remote ack limit on =
    state_word q + flag voltage_shown powered + flag remote_shown remote
    + cond (is_enabled q) (flag ack_shown ack + flag limit_shown limit + flag reached_shown on) 0

-- it shows bit 10 only where it is enabled and the flag is set
abbrev shows_well : DriveState → Bool → Bool → Bool → Bool → Bool → Bool
shows_well q powered remote ack limit on = not (bit reached_shown (word_of q powered remote ack limit on)) || (is_enabled q && on)

shows_well_lem : (q : DriveState) (powered remote ack limit on : Bool) → shows_well q powered remote ack limit on ≡ true
unfolding both
shows_well_lem q powered remote ack limit on =
    on_both (λ f. shows_well q powered remote ack limit f)
    (on_both (λ e. both (shows_well q powered remote ack e))
    (on_both (λ c. both (λ e. both (shows_well q powered remote c e)))
    (on_both (λ b. both (λ c. both (λ e. both (shows_well q powered b c e))))
    (on_both (λ a. both (λ b. both (λ c. both (λ e. both (shows_well q a b c e)))))
    (on_states (λ q. both (λ a. both (λ b. both (λ c. both (λ e. both (shows_well q a b c e)))))) refl q) powered) remote) ack) limit) on

reached_shown_lem : (remote powered : Bool) (v : Drive) (d : List ℕ) → bit reached_shown (status remote powered v d) ≡ true →
    reached_in_mode v.mode v d ≡ true
unfolding status enabled_bits
reached_shown_lem remote powered v d h =
    and_right (is_enabled v.state) _
    (implied _ _ (shows_well_lem v.state powered remote (ack_in_mode v.mode v d) v.limit (reached_in_mode v.mode v d)) h)

-- in mode 1, with bit 8 clear and a window time, it is by the window
mode_position : (m : Mode) → mode_number m ≡ mode_number ProfilePosition → m ≡ ProfilePosition
mode_position NoMode e = absurd (omega (arith, e))
mode_position ProfilePosition e = refl
mode_position ProfileVelocity e = absurd (omega (arith, e))

by_window_lem : (v : Drive) (d : List ℕ) → v.mode ≡ ProfilePosition → bit halt_bit (read d control_word) ≡ false → 0 < read d window_time →
    reached_in_mode v.mode v d ≡ true → (inside v.store d ≡ true) × (read d window_time ≤ v.stay)
unfolding reached_in_mode position_reached
by_window_lem v d m halt time h =
    let k = rw (m, halt, ne_eqb (read d window_time) 0 (omega arith)) at h in
    (and_left (inside v.store d) _ k, leb-true _ _ (and_right (inside v.store d) _ k))

-- a store that the position is inside of has a target
aimed : (s : Store) (d : List ℕ) → inside s d ≡ true → (t : ℕ) × (aim s ≡ t ∷ [])
unfolding inside
aimed Empty d h = absurd (false≢true h)
aimed (Rested t) d h = (t, refl)
aimed (Moving a) d h = (a.target, refl)
aimed (Queued a b) d h = (a.target, refl)

pub knife_waits : KnifeWaits
unfolding status_of
knife_waits r shown halt ten time =
    let a = reached r in
    let d = a.dictionary in
    let v = a.state.axis.drive in
    let h = run_rests r in
    let m = mode_position v.mode (sym ((mode_made a h).0 ∙ (mode_made a h).1) ∙ shown) in
    let w = by_window_lem v d m halt time (reached_shown_lem _ _ v d (rw (status_made a h) at ten)) in
    let t = aimed v.store d w.0 in
    (t.0, stays_at_most t.0 (past_of r.steps (begun r) []) v.stay (read d window_time) w.1 (run_waited r t.0 t.1))
