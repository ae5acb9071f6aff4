-- Every call keeps what holds between calls, and so do runs.
-- Assumes nothing.
use Rattle.rules_dictionary.specs.Numbers.{are_bytes, is_byte, value, part}
use Rattle.rules_dictionary.specs.Table.{dictionary_length, status_word, mode_display, position, velocity, each_way}
use Rattle.rules_dictionary.specs.{Legal.mode_number, TheNode.is_node_id, Values.store, Values.stored, Plans.plans_of, Plans.ready_of}
use Rattle.theorems.proofs.Words.{ℕ, zero, suc, ◌^◌, ◌<◌, ◌≤◌, arith, ◌≡◌, refl, sym, ◌∙◌, ap, subst, inl, inr, Bool, true, false, not, In}
use Rattle.theorems.proofs.Words.{PreOperational, here, there, is_stopped, ◌+◌, whichever, ◌&&◌, ◌||◌, or-true, List, [], ◌∷◌, append-nil}
use Rattle.theorems.proofs.Words.{eq-eqb, le-leb, ltb-true, eqb, leb, length, get_or, drop, Stopped, NoTransfer, State, Refusal, Accepted}
use Rattle.theorems.proofs.Words.{NotSound, Event, Started, QuickStopDone, ReactionDone, SetPointReached, Tick, CauseGone, Feedback, Voltage}
use Rattle.theorems.proofs.Words.{Option, Some, None, and_left, and_right, stored_bytes, store_bytes, length_stored, all_drop, clash}
use Rattle.theorems.proofs.Words.{or_either, not-true, value_take, none_in, part_bytes}
use Rattle.theorems.proofs.Settled.{settled_length, status_fits, mode_fits, settled_status, settled_display, settled_motion, status_same}
use Rattle.theorems.proofs.Settled.{inside_same}
use Rattle.theorems.proofs.Lawful.{Lawful, finally, sound_lawful, drive_lawful, node_lawful, at_end_lawful, paced_sound, same_refl, plan_refl}
use Rattle.theorems.proofs.Lawful.{data_refl, clauses, transfer_lawful, stay_at_end, stay_same}
use Rattle.theorems.proofs.NmtKept.{LawfulAfter, fresh_lawful, start_lawful, left_lawful, disabled_lawful, reset_lawful, status_row}
use Rattle.theorems.proofs.NmtKept.{display_row, ArgumentsFit, enters_lawful, gone_lawful, fault_lawful, plain_lawful, position_row}
use Rattle.theorems.proofs.NmtKept.{velocity_row}
use Rattle.theorems.proofs.{Dictionary.to_test, DriveKept.reached_sound, Writes.stored_append, Writes.applied_lawful, Writes.in_cons}
use Rattle.theorems.proofs.{PdoKept.held_lawful}
use Rattle.theorems.proofs.{PdoKept.new_held, Services.Serves, Services.OneByOne, Services.follow_lawful, Services.framed_serves}
use Rattle.theorems.proofs.{Services.event_serves}
use Rattle.theorems.proofs.{Services.entries_serve}
use Rattle.files.specs.ConciseDcf.{Entry, Reading, misfit, whole, in_front, reading, entries_of, entries_in, entry_at, entry_size, size_at, head_size}
use Rattle.files.specs.ConciseDcf.{is_there, count_in, count_size, index_size, subindex_size}
use Rattle.drive.specs.SetPoints.{moved_on}
use Rattle.rules_services.specs.{Effects.Effect, Effects.and_then, Effects.with_held, Effects.with_transfer, Written.applied, Nmt.commanded}
use Rattle.rules_services.specs.{Nmt.voltage_disabled, declared.Event.TheVariants.Fault, Events.event_of, Events.provided}
use Rattle.rules_services.specs.Nmt.{power_up, fresh_state}
use Rattle.rules.specs.Outcome.{ended, settled, status_of, transmitters, pace_for, same_plan, same_data}
use Rattle.rules.specs.Sound.{sound, heartbeat_sound, status_as_made, mode_as_made, plans_fresh, ready_fresh, waiting_sound, pace_sound}
use Rattle.rules.specs.Calls.{Call, power_up_call, frame_call, event_call, Decision, refuses as refused_by, does as performs, decision, decided, refused}
use Rattle.rules.specs.Calls.{accepted, answered, answer, Outcome, output_length}
use Rattle.theorems.proofs.Receipts.{OctetsIn, MayRun, nothing_runs_lem}
use Rattle.theorems.proofs.Decisions.{Decided, decided_by, is_unsound}
use Rattle.theorems.proofs.Transfers.{Turns, turns, call_runs}
use Rattle.theorems.specs.Promises.{Step, Stand, left, after, octets, AllOctets, Run, begun, reached, SoundAt, SoundAlways, NeverUnsound}

-- ---- what holds between calls

pub record Holds (a : Stand) : Type 0 where
  pub at : SoundAt a
  pub plans : a.state.axis.plans ≡ plans_of a.dictionary
  pub ready : a.state.axis.ready ≡ ready_of a.dictionary
  pub came : OctetsIn a.state.transfer

pub may_run : (a : Stand) → Holds a → MayRun a.state.transfer
may_run a h = record { sound = (clauses a.state a.dictionary h.at.sound).transfer; octets = h.came }

pub ended_bytes : (s : State) (d : List ℕ) (e : Effect) → are_bytes d ≡ true → are_bytes (ended s d e).dictionary ≡ true
unfolding ended settled
ended_bytes s d e h = store_bytes _ _ _ (store_bytes _ _ _ (stored_bytes e.writes d h))

-- 6041h and 6061h are plain rows: made at the call's end they leave a lawful state
settled_lawful : (s : State) (d : List ℕ) → Lawful s d → Lawful s (settled s d)
unfolding settled status_of
settled_lawful s d law =
    plain_lawful s (store status_word (status_of s d) d) mode_display (mode_number s.axis.drive.mode)
    (plain_lawful s d status_word (status_of s d) law status_row (status_fits _ _ _ d)) display_row (mode_fits s.axis.drive.mode)

-- THE THEOREM: a lawful effect ends sound
ended_sound : (s : State) (d : List ℕ) (e : Effect) → LawfulAfter d e → MayRun e.state.transfer →
    sound (ended s d e).state (ended s d e).dictionary ≡ true
unfolding ended sound status_as_made mode_as_made plans_fresh ready_fresh waiting_sound status_of
ended_sound s d e before runs =
    let d1 = stored e.writes d in
    let s' = finally d e in
    let v = s'.axis.drive in
    let d2 = settled s' d1 in
    let then = at_end_lawful e.state e.occasion d1 before in
    let law = settled_lawful s' d1 then in
    let motion = settled_motion s' d1 in
    let word = status_same d1 d2 v motion (not (is_stopped s'.node.nmt)) s'.node.voltage in
    let placed = stay_same d1 d2 v (inside_same d1 d2 motion.place motion.window v.store)
    (stay_at_end e.occasion d1 e.state.axis.drive) in
    let paced : (t : ℕ) → In t transmitters → pace_sound s'.node.nmt d2 (each_way + t) (pace_for s s' e.occasion d2 (ready_of d2) t).kept ≡ true =
    λ t i. paced_sound s s' e.occasion d2 (ready_of d2) t (law.waits.counts t i) in
    rw (
      law.id,
      to_test s'.node.id d2 law.dictionary,
      eq-eqb _ _ (settled_status s' d1 then.long ∙ sym word),
      eq-eqb _ _ (settled_display s' d1 then.long ∙ sym law.mode),
      eq-eqb _ _ law.mode,
      same_refl same_plan plan_refl (plans_of d2),
      same_refl same_data data_refl (ready_of d2),
      law.drive,
      law.heartbeat,
      paced 0 here,
      paced 1 (there here),
      paced 2 (there (there here)),
      paced 3 (there (there (there here))),
      law.waits.held,
      runs.sound,
      placed,
    )

ended_holds : (s : State) (d : List ℕ) (e : Effect) → length d ≡ dictionary_length → are_bytes d ≡ true → LawfulAfter d e →
    MayRun e.state.transfer → Holds (record { state = (ended s d e).state; dictionary = (ended s d e).dictionary })
unfolding ended
ended_holds s d e l b law runs =
    record {
      at = record {
        sound = ended_sound s d e law runs;
        long = settled_length (finally d e) (stored e.writes d) ∙ length_stored e.writes d
            ∙ l;
        bytes = ended_bytes s d e b;
      };
      plans = refl;
      ready = refl;
      came = runs.octets;
    }

-- ---- every service leaves a lawful state

one_by_one_lawful : {K : Type 0} {s : State} {d : List ℕ} {e : Effect} → OneByOne K s d e → K → Lawful s d → LawfulAfter d e
unfolding and_then stored
one_by_one_lawful OneByOne.none k law = law
one_by_one_lawful (OneByOne.skips rest) k law = one_by_one_lawful rest k law
one_by_one_lawful {s = s} {d = d} (OneByOne.next h ws {e} may rest) k law =
    rw (stored_append (applied ws (with_held h s) d).writes e.writes d) (one_by_one_lawful rest k (follow_lawful (may k law)))

pub lawful : {K : Type 0} {s : State} {d : List ℕ} {e : Effect} → Serves K s d e → K → are_bytes d ≡ true → Lawful s d → LawfulAfter d e
unfolding stored heartbeat_sound commanded moved_on
lawful Serves.nothing k b law = law
lawful (Serves.replies t said) k b law = transfer_lawful t law
lawful (Serves.alarms l code) k b law = law
lawful {s = s} {d = d} (Serves.applies t ws before may) k b law =
    let m = may k law in
    applied_lawful (with_transfer t s) d ws (transfer_lawful t law) (record { fit = m.fit; quiet = m.quiet; ok = m.ok })
lawful {s = s} {d = d} (Serves.holds bs l i on synchronous long legal) k b law =
    held_lawful s d _ law i (new_held s.node.id d bs s.node.nmt law.dictionary i on synchronous long legal)
lawful (Serves.releases r) k b law = one_by_one_lawful r k law
lawful (Serves.loads r) k b law = one_by_one_lawful r k law
lawful {s = s} {d = d} (Serves.starts h idle) k b law = start_lawful s d law.long h idle
lawful {s = s} {d = d} Serves.leaves k b law = left_lawful s d PreOperational law
lawful {s = s} {d = d} Serves.stops k b law =
    transfer_lawful NoTransfer (left_lawful (voltage_disabled s) d Stopped (disabled_lawful s d law))
lawful {s = s} {d = d} Serves.resets k b law = rw append-nil (reset_lawful s d law)
lawful {s = s} {d = d} Serves.begins k b law = fresh_lawful s.node.id d law.id law.long
lawful {s = s} {d = d} (Serves.moves q h) k b law = enters_lawful s d law q (h k)
lawful {s = s} {d = d} (Serves.reaches h) k b law =
    drive_lawful s d (moved_on s.axis.drive) law refl (reached_sound s.axis.drive d law.drive (h k))
lawful {s = s} {d = d} Serves.recovers k b law = gone_lawful s d law
lawful {s = s} {d = d} (Serves.faults code register fits) k b law = fault_lawful code register s d law b (fits k).0 (fits k).1
lawful {s = s} {d = d} (Serves.feeds at speed fits) k b law =
    plain_lawful s (store position at d) velocity speed (plain_lawful s d position at law position_row (fits k).0) velocity_row (fits k).1
lawful {s = s} {d = d} (Serves.powers v) k b law =
    node_lawful s d s.node.nmt v s.node.heartbeat s.axis.paces s.axis.held law law.heartbeat law.waits
lawful Serves.rests k b law = law
lawful {s = s} {d = d} (Serves.counts e) k b law =
    node_lawful s d s.node.nmt s.node.voltage (suc s.node.heartbeat) s.axis.paces s.axis.held law
    (rw e (or-true (eqb (suc s.node.heartbeat) 0))) law.waits
lawful {s = s} {d = d} Serves.beats k b law =
    node_lawful s d s.node.nmt s.node.voltage 0 s.axis.paces s.axis.held law refl law.waits

-- ---- events' arguments

abbrev pub ToldFits : Option Event → Type 0
ToldFits (Some e) = ArgumentsFit e
ToldFits None = Unit

told : (b : Bool) (e : Event) → ArgumentsFit e → ToldFits (provided b e)
told true e h = h
told false e h = tt

byte_at : (xs : List ℕ) (i : ℕ) → are_bytes xs ≡ true → get_or xs i 0 < 256 ^ 1
byte_at [] i h = omega arith
byte_at (x ∷ xs) zero h = ltb-true x 256 (and_left (is_byte x) (are_bytes xs) h)
byte_at (x ∷ xs) (suc i) h = byte_at xs i (and_right (is_byte x) (are_bytes xs) h)

pub arguments_fit : (k : ℕ) (xs : List ℕ) → are_bytes xs ≡ true → ToldFits (event_of k xs)
unfolding event_of
arguments_fit k xs h =
    let bare = eqb (length xs) 0 in
    whichever ToldFits (eqb k 1) (told bare Started tt)
    (whichever ToldFits (eqb k 2) (told bare QuickStopDone tt)
    (whichever ToldFits (eqb k 3)
    (told (eqb (length xs) 3 && not (eqb (value (part 0 2 xs)) 0)) (Fault (value (part 0 2 xs)) (get_or xs 2 0)) (value_take 2 xs h, byte_at xs 2 h))
    (whichever ToldFits (eqb k 4) (told bare ReactionDone tt)
    (whichever ToldFits (eqb k 5)
    (told (eqb (length xs) 8) (Feedback (value (part 0 4 xs)) (value (part 4 4 xs))) (value_take 4 xs h, value_take 4 (drop 4 xs) (all_drop 4 xs h)))
    (whichever ToldFits (eqb k 6) (told bare SetPointReached tt)
    (whichever ToldFits (eqb k 7) (told bare Tick tt)
    (whichever ToldFits (eqb k 8) (told bare CauseGone tt)
    (whichever ToldFits (eqb k 9) (told (eqb (length xs) 1 && leb (get_or xs 0 0) 1) (Voltage (eqb (get_or xs 0 0) 1)) tt) tt))))))))

-- ---- the bytes of a file's entries

pub record OfBytes (x : Entry) : Type 0 where
  pub index : x.index < 256 ^ index_size
  pub subindex : x.subindex < 256
  pub content : are_bytes x.content ≡ true

front_octets : (bs : List ℕ) → are_bytes bs ≡ true → OfBytes (entry_at bs)
front_octets bs h =
    record {
      index = value_take index_size bs h;
      subindex = value_take subindex_size (drop index_size bs) (all_drop index_size bs h);
      content = part_bytes head_size (size_at bs) bs h;
    }

reading_octets : (n : ℕ) (bs : List ℕ) → are_bytes bs ≡ true → (x : Entry) → In x (entries_of (reading n bs)) → OfBytes x
unfolding reading
reading_octets zero [] h x i = absurd (none_in i)
reading_octets zero (b ∷ bs) h x i = absurd (none_in i)
reading_octets (suc n) bs h x i =
    whichever (λ (r : Reading). In x (entries_of r) → OfBytes x) (is_there bs)
    (in_front_lem (reading n (drop (entry_size bs) bs)) (reading_octets n (drop (entry_size bs) bs) (all_drop (entry_size bs) bs h) x))
    (λ j. absurd (none_in j)) i
  where
    in_front_lem : (r : Reading) → (In x (entries_of r) → OfBytes x) → In x (entries_of (in_front (entry_at bs) r)) → OfBytes x
    in_front_lem misfit k j = absurd (none_in j)
    in_front_lem (whole es) k j = elim (in_cons j) [ inl e ↦ subst OfBytes (sym e) (front_octets bs h) | inr l ↦ k l ]

pub entries_octets : (f : List ℕ) → are_bytes f ≡ true → (x : Entry) → In x (entries_in f) → OfBytes x
entries_octets f h = reading_octets (count_in f) (drop count_size f) (all_drop count_size f h)

-- ---- what a call decides on: a refusal, power-up, or a service of a sound state

-- what is known of the call's data, and of the bytes that came before it
abbrev pub Known : Call → State → Type 0
Known c s = (octets c ≡ true) × OctetsIn s.transfer

pub data Decides (s : State) (d : List ℕ) (c : Call) : Decision → Type 0 where
  refuses : (r : Refusal) → (not (is_unsound r) || not (sound s d)) ≡ true → Decides s d c (refused_by r)
  begins : (n : ℕ) → is_node_id n ≡ true → length d ≡ dictionary_length → Decides s d c (performs (power_up n))
  serves : {e : Effect} → Lawful s d → Serves (Known c s) s d e → Decides s d c (performs e)

decides_by : {s : State} {d : List ℕ} {c : Call} {x : Decision} → Decided s d c x → Decides s d c x
decides_by (Decided.refusing r given why) = refuses r why
decides_by (Decided.powering n legal l) = begins n legal l
decides_by {s} {d} (Decided.framing i bs l h) =
    let law = sound_lawful s d l h in
    serves law (framed_serves (Known (frame_call i bs) s) s d i bs (λ k. k.0) (λ k. record { sound = (clauses s d h).transfer; octets = k.1 }) law h)
decides_by {s} {d} (Decided.happening k xs e q placed l h) =
    serves (sound_lawful s d l h)
    (event_serves (Known (event_call k xs) s) s d e (λ b. placed) (λ b. subst ToldFits q (arguments_fit k xs b.0)))
decides_by {s} {d} (Decided.loading f e served none taken l h) =
    serves (sound_lawful s d l h) (Serves.loads (entries_serve taken (λ k x i. (entries_octets f k.0 x i).content)))

pub decides : (s : State) (d : List ℕ) (c : Call) (o : List ℕ) → Decides s d c (decided c s d o)
decides s d c o = decides_by (decided_by s d c o)

-- ---- the step

abbrev pub standing : Outcome → Stand
standing u = record { state = u.state; dictionary = u.dictionary }

answered_holds : {c : Call} {x : Decision} (a : Stand) (o : List ℕ) → Decides a.state a.dictionary c x → Turns c a.state x →
    octets c ≡ true → Holds a → Holds (standing (answered x a.state a.dictionary o))
unfolding answered refused accepted
answered_holds a o (refuses r q) t k h = h
answered_holds {c = c} a o (begins n legal long) t k h =
    ended_holds a.state a.dictionary (power_up n) long h.at.bytes (fresh_lawful n a.dictionary legal long)
    (rw t (call_runs c a.state k (may_run a h)))
answered_holds {c = c} a o (serves {e} law v) t k h =
    ended_holds a.state a.dictionary e law.long h.at.bytes (lawful v (k, h.came) h.at.bytes law)
    (rw t (call_runs c a.state k (may_run a h)))

-- THE STEP
pub step_holds : (k : Step) (a : Stand) → octets k.call ≡ true → Holds a → Holds (left k a)
unfolding answer
step_holds k a o h =
    let x = decided_by a.state a.dictionary k.call k.output in
    answered_holds a k.output (decides_by x) (turns x) o h

pub after_holds : (ks : List Step) (a : Stand) → AllOctets ks → Holds a → Holds (after ks a)
unfolding after AllOctets
after_holds [] a o h = h
after_holds (k ∷ ks) a o h = after_holds ks (left k a) o.1 (step_holds k a o.0 h)

-- an accepted power-up, whatever stood there
pub passed {ℓ} : {A : Type ℓ} (b : Bool) (x y : A) → b ≡ true → (elim b [ true ↦ x | false ↦ y ]) ≡ x
passed true x y h = refl
passed false x y h = clash false h refl

pub power_up_decided : (n : ℕ) (s : State) (d o : List ℕ) → is_node_id n ≡ true → length d ≡ dictionary_length → output_length ≤ length o →
    decided (power_up_call n) s d o ≡ performs (power_up n)
unfolding decided decision
power_up_decided n s d o legal long room =
    passed (eqb (length d) dictionary_length) _ _ (eq-eqb _ _ long)
    ∙ passed (leb output_length (length o)) _ _ (le-leb _ _ room)
    ∙ passed (is_node_id n) _ _ legal

pub begun_holds : (r : Run) → Holds (begun r)
unfolding answer answered accepted power_up fresh_state
begun_holds r =
    let s = r.found.state in
    let d = r.found.dictionary in
    let n = r.node in
    subst (λ (x : Decision). Holds (standing (answered x s d r.output))) (sym (power_up_decided n s d r.output r.legal r.long r.room))
    (ended_holds s d (power_up n) r.long r.bytes (fresh_lawful n d r.legal r.long) nothing_runs_lem)

-- THE INVARIANT of every run
pub run_holds : (r : Run) → Holds (reached r)
run_holds r = after_holds r.steps (begun r) r.given (begun_holds r)

-- ---- demand 3

pub sound_always : SoundAlways
sound_always r = (run_holds r).at

pub never_unsound : NeverUnsound
unfolding answer answered refused accepted
never_unsound r k =
    let a = reached r in
    sure a.state a.dictionary (decides a.state a.dictionary k.call k.output) (run_holds r).at.sound
  where
    sure : (s : State) (d : List ℕ) {x : Decision} → Decides s d k.call x → sound s d ≡ true → (answered x s d k.output).refusal ≡ NotSound → ⊥
    sure s d (refuses x q) h e =
        clash (is_unsound x) (ap is_unsound e)
        (not-true (is_unsound x) (elim (or_either (not (is_unsound x)) _ q) [ inl k ↦ k | inr k ↦ clash (sound s d) h (not-true _ k) ]))
    sure s d (begins n legal long) h e = clash (is_unsound Accepted) (ap is_unsound e) refl
    sure s d (serves law v) h e = clash (is_unsound Accepted) (ap is_unsound e) refl
