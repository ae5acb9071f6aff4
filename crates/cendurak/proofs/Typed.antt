-- Every state of a run is what the types allow, so that its form is read back as that state. Plans, ready and held frames, paces and the heartbeat's
-- count are so by soundness; the set-points are words of the dictionary and targets inside 607Dh, by the services' cases, and the ticks inside the
-- window stop at 65,535.
-- Assumes nothing.
use Prim.Native.Nat.{ℕ, zero, suc, ◌-◌, ◌*◌, ◌^◌, ◌<◌}
use native.Mathlib.Omega.{arith}
use mathlib.Core.Path.{◌≡◌, refl, ◌∙◌, ap}
use mathlib.Core.Logic.{inl, inr}
use mathlib.Core.Bool.{Bool, true, false, not, ◌&&◌, false≢true}
use mathlib.Core.List.{List, [], ◌∷◌, map}
use borrow.Author.Tests.{eqb-true, leb-true, ltb-true}
use lib.Dec.{eqb, ltb, lit<}
use lib.IntN.{ℤ, pos, negsuc}
use lib.ListN.{length, drop, take}
use lib.Signed.{le_z}
use mir.Syntax.{w32}
use mir.Val.{of_z, sel}
use Rattle.rules_dictionary.specs.declared.PdoData.{PdoData}
use Rattle.rules_dictionary.specs.Members.{In, here, there}
use Rattle.rules_dictionary.specs.Numbers.{are_bytes, bit, integer, padded}
use Rattle.rules_dictionary.specs.Table.{Row, ValueType, u8, u16, u32, i8, i32, size, size_of, place_of, table, dictionary_length, each_way}
use Rattle.rules_dictionary.specs.Table.{most_moves}
use Rattle.rules_dictionary.specs.Table.{pdos, receive_pdos, transmit_pdos, heartbeat_time, control_word, mode, minimum_position, maximum_position}
use Rattle.rules_dictionary.specs.Table.{profile_velocity, profile_acceleration, profile_deceleration}
use Rattle.rules_dictionary.specs.Values.{Write, read, stored}
use Rattle.rules_dictionary.specs.Legal.{is_synchronous}
use Rattle.rules_dictionary.specs.Plans.{mapped, move, no_move, plan_for, plans_of, joined, pdo_data, ready_for, ready_of}
use Rattle.rules_dictionary.proofs.Tests.{and_left, and_right}
use Rattle.rules_dictionary.proofs.Rows.{all_drop, value_take, stored_bytes}
use Rattle.rules_dictionary.proofs.Packing.{within}
use Rattle.rules_dictionary.proofs.Padded.{length-padded}
use Rattle.rules_dictionary.proofs.Plans.{mapped_in}
use Rattle.drive.specs.declared.DriveState.{DriveState}
use Rattle.drive.specs.declared.SetPoint.{SetPoint}
use Rattle.drive.specs.declared.Store.{Store}
use Rattle.drive.specs.declared.Store.TheVariants.{Empty, Rested, Moving, Queued}
use Rattle.drive.specs.declared.Drive.{Drive}
use Rattle.drive.specs.SetPoints.{positions, emptied, enters, with_state, behind, reached, is_queued, target, within_limits, set_point, with_taken}
use Rattle.drive.specs.SetPoints.{becomes_active, moved_on, offered, set_point_rule, mode_written, control_written, new_set_point_bit, at_once_bit}
use Rattle.drive.specs.Window.{inside, most_ticks, one_more, counted, staying}
use Rattle.state.specs.declared.NmtState.{NmtState}
use Rattle.state.specs.declared.State.{State}
use Rattle.state.specs.Occasions.{is_ticked}
use Rattle.rules_services.specs.Effects.{Effect, and_then, with_held, with_transfer}
use Rattle.rules_services.specs.Written.{wrote, count_restarted, mode_acted, fault_reset, control_acted, applied}
use Rattle.rules_services.specs.Nmt.{commanded, power_up, fresh_state, left, voltage_disabled}
use Rattle.rules_services.specs.Events.{faulted}
use Rattle.rules_services.specs.PdoTraffic.{works, type_of, is_held, no_data, mapped_length}
use Rattle.rules.specs.Outcome.{ended, drive_at_end, same_data, most_data}
use Rattle.rules.specs.Sound.{pairwise, heartbeat_sound, waiting_sound, pace_sound, held_sound}
use Rattle.rules.specs.Calls.{Call, Decision, refused, accepted, answered, answer}
use Rattle.theorems.specs.Promises.{Step, Stand, octets}
use Rattle.theorems.proofs.Booleans.{by_test, whichever, or_either}
use Rattle.theorems.proofs.Lawful.{clauses}
use Rattle.theorems.proofs.Services.{Serves, OneByOne}
use Rattle.theorems.proofs.Runs.{Holds, Decides, decides, step_holds}
use Rattle.form.specs.Form.{half, resting}
use Rattle.form.specs.Typed.{Many, none, more, SetPointTyped, StoreTyped, DataTyped, AnyPace, MoveTyped, PlanTyped, Typed}
use Rattle.form.proofs.OneForm.{are_same, resting_typed}
use Rattle.theorems.specs.Promises as Promises

-- ---- rows of things

many_map : {A B : Type 0} (P : B → Type 0) (f : A → B) (xs : List A) → ((x : A) → P (f x)) → Many P (length xs) (map f xs)
many_map P f [] h = none
many_map P f (x ∷ xs) h = more (h x) (many_map P f xs h)

many_pairs : {A B : Type 0} (f : A → B → Bool) (P : B → Type 0) → ((x : A) (y : B) → f x y ≡ true → P y) → (xs : List A) (ys : List B) →
    pairwise f xs ys ≡ true → Many P (length xs) ys
many_pairs f P h [] [] k = none
many_pairs f P h [] (y ∷ ys) k = absurd (false≢true k)
many_pairs f P h (x ∷ xs) [] k = absurd (false≢true k)
many_pairs f P h (x ∷ xs) (y ∷ ys) k = more (h x y (and_left (f x y) _ k)) (many_pairs f P h xs ys (and_right (f x y) _ k))

-- ---- plans and ready frames, as worked afresh

size_small : (t : ValueType) → size t < 256
size_small t = elim t as (λ (x : ValueType). size x < 256) [ u8 ↦ lit< tt | u16 ↦ lit< tt | u32 ↦ lit< tt | i8 ↦ lit< tt | i32 ↦ lit< tt ]

short : dictionary_length < half
unfolding dictionary_length table
short = lit< tt

move_typed : {x : Row} → In x table → MoveTyped (move x)
move_typed {x} i = record { place = omega (arith, within i, short); size = size_small x.type }

moves_typed : (n : ℕ) (xs : List Row) → ((x : Row) → In x xs → In x table) → Many MoveTyped n (padded no_move n (map move xs))
moves_typed zero xs h = none
moves_typed (suc n) [] h = more (record { place = lit< tt; size = lit< tt }) (moves_typed n [] h)
moves_typed (suc n) (x ∷ xs) h = more (move_typed (h x here)) (moves_typed n xs (λ y i. h y (there i)))

plans_typed : (d : List ℕ) → Many PlanTyped (2 * each_way) (plans_of d)
unfolding plans_of plan_for
plans_typed d =
    many_map PlanTyped (λ p. plan_for (mapped d p)) pdos (λ p. record { moves = moves_typed most_moves (mapped d p) (λ x i. mapped_in d p i) })

length_data : (bs : List ℕ) → length (pdo_data bs).bytes ≡ most_data
unfolding pdo_data
length_data bs = length-padded {A = ℕ} 0 most_moves bs

ready_typed : (d : List ℕ) → Many DataTyped each_way (ready_of d)
unfolding ready_of ready_for
ready_typed d = many_map DataTyped (ready_for d) transmit_pdos (λ p. record { size = length_data (joined d (mapped d p)) })

-- ---- held frames, and the heartbeat's count

held_typed : (m : NmtState) (d : List ℕ) (p : ℕ) (f : PdoData) → held_sound m d p f ≡ true → DataTyped f
unfolding held_sound
held_typed m d p f =
    let full = take (mapped_length (mapped d p)) f.bytes in
    whichever (λ (b : Bool). b ≡ true → DataTyped f) (is_held f)
    (λ h. like (pdo_data full) (length_data full) (and_right (works m d p && is_synchronous (type_of d p)) _ (and_left _ _ h)))
    (like no_data refl)
  where
    like : (g : PdoData) → length g.bytes ≡ most_data → same_data f g ≡ true → DataTyped f
    like g l e = record { size = ap length (are_same f.bytes g.bytes (and_right (eqb f.length g.length) _ e)) ∙ l }

-- a value of a row in its bytes
value_below : (x : Row) (d : List ℕ) → are_bytes d ≡ true → read d x < 256 ^ size_of x
unfolding read
value_below x d b = value_take (size_of x) (drop (place_of x) d) (all_drop (place_of x) d b)

count_typed : (k : ℕ) (d : List ℕ) → are_bytes d ≡ true → heartbeat_sound k d ≡ true → k < half
unfolding heartbeat_sound
count_typed k d b h =
    elim (or_either (eqb k 0) (ltb k (read d heartbeat_time)) h) [
      | inl e ↦ omega (arith, eqb-true k 0 e)
      | inr e ↦ omega (arith, ltb-true k (read d heartbeat_time) e, value_below heartbeat_time d b)
    ]

-- ---- set-points

-- an integer that is not above a word's is in a word
below_word : (t : ℤ) (w : ℕ) → le_z t (integer w) ≡ true → w < 2 ^ 32 → of_z w32 t < 2 ^ 32
below_word (negsuc n) w e h = omega arith
below_word (pos n) w e h = go (ltb w (2 ^ 31)) e
  where
    go : (b : Bool) → le_z (pos n) (sel b (pos w) (negsuc (2 ^ 32 - suc w))) ≡ true → n < 2 ^ 32
    go true e = omega (arith, leb-true n w e)
    go false e = absurd (false≢true e)

set_point_typed : (d : List ℕ) (t : ℤ) → are_bytes d ≡ true → within_limits d t ≡ true → SetPointTyped (set_point d t)
unfolding within_limits set_point
set_point_typed d t b inside =
    record {
      target = below_word t (read d maximum_position) (and_right (le_z (integer (read d minimum_position)) t) _ inside)
          (value_below maximum_position d b);
      velocity = value_below profile_velocity d b;
      acceleration = value_below profile_acceleration d b;
      deceleration = value_below profile_deceleration d b;
    }

none_typed : SetPointTyped (resting 0)
none_typed = resting_typed 0 (lit< tt)

empty_typed : StoreTyped Empty
empty_typed = record { first = none_typed; second = none_typed }

reached_typed : (s : Store) → StoreTyped s → StoreTyped (reached s)
reached_typed Empty t = t
reached_typed (Rested a) t = t
reached_typed (Moving a) t = record { first = resting_typed a.target t.first.target; second = none_typed }
reached_typed (Queued a b) t = record { first = t.second; second = none_typed }

behind_typed : (s : Store) (p : SetPoint) → StoreTyped s → SetPointTyped p → StoreTyped (behind s p)
behind_typed Empty p t f = record { first = f; second = none_typed }
behind_typed (Rested a) p t f = record { first = f; second = none_typed }
behind_typed (Moving a) p t f = record { first = t.first; second = f }
behind_typed (Queued a b) p t f = t

-- ---- the drive

abbrev Fits : Drive → Type 0
Fits v = StoreTyped v.store × (v.stay < half)

anew : 0 < half
anew = lit< tt

nothing_typed : StoreTyped Empty × (0 < half)
nothing_typed = (empty_typed, anew)

emptied_typed : (v : Drive) → Fits v → Fits (emptied v)
unfolding emptied
emptied_typed v t = whichever Fits (positions v) t (empty_typed, t.1)

enters_typed : (q : DriveState) (v : Drive) → Fits v → Fits (enters q v)
unfolding enters
enters_typed q v t = emptied_typed (with_state q v) t

module _ (d : List ℕ) (b : are_bytes d ≡ true) where
  taken_typed : (word : ℕ) (v : Drive) (t : ℤ) → within_limits d t ≡ true → Fits v → Fits (with_taken word (set_point d t) v)
  unfolding with_taken
  taken_typed word v t inside f =
      let p = set_point_typed d t b inside in (
        whichever StoreTyped (bit at_once_bit word) (record { first = p; second = none_typed }) (behind_typed v.store (set_point d t) f.0 p),
        whichever (λ n. n < half) (becomes_active (bit at_once_bit word) v.store) anew f.1,
      )

  offered_typed : (word : ℕ) (v : Drive) → Fits v → Fits (offered d word v)
  unfolding offered
  offered_typed word v f =
      let t = target d word v.store in
      whichever Fits (not (bit at_once_bit word) && is_queued v.store) f
      (by_test Fits (within_limits d t) (λ inside. taken_typed word v t inside f) (λ outside. f))

  rule_typed : (old word : ℕ) (v : Drive) → Fits v → Fits (set_point_rule d old word v)
  unfolding set_point_rule
  rule_typed old word v f =
      whichever Fits (bit new_set_point_bit word) (whichever Fits (positions v && not (bit new_set_point_bit old)) (offered_typed word v f) f) f

  control_typed : (old : ℕ) (v : Drive) → Fits v → Fits (control_written d old v).drive
  unfolding control_written
  control_typed old v f = rule_typed old (read d control_word) _ (enters_typed _ v f)

-- ---- the services

abbrev FitsBy : Effect → Type 0
FitsBy e = Fits e.state.axis.drive

applied_typed : (ws : List Write) (s : State) (d : List ℕ) → are_bytes d ≡ true → Fits s.axis.drive → FitsBy (applied ws s d)
unfolding applied control_acted fault_reset mode_acted count_restarted mode_written
applied_typed ws s d b t =
    let d1 = stored ws d in
    let r = count_restarted ws s in
    let u = mode_acted ws r d1 in
    let P : State → Type 0 = λ x. Fits x.axis.drive in
    let restarted : P r = whichever P (wrote heartbeat_time ws) t t in
    let moded : P u = whichever P (wrote mode ws) (emptied_typed _ restarted) restarted in
    let c = control_written d1 (read d control_word) u.axis.drive in
    let controlled = control_typed d1 (stored_bytes ws d b) (read d control_word) u.axis.drive moded in
    whichever FitsBy (wrote control_word ws) (whichever FitsBy c.reset controlled controlled) moded

one_by_one_typed : {K : Type 0} {s : State} {d : List ℕ} {e : Effect} → OneByOne K s d e → are_bytes d ≡ true → Fits s.axis.drive → FitsBy e
unfolding and_then
one_by_one_typed OneByOne.none b t = t
one_by_one_typed (OneByOne.skips rest) b t = one_by_one_typed rest b t
one_by_one_typed {s = s} {d = d} (OneByOne.next h ws may rest) b t =
    one_by_one_typed rest (stored_bytes (applied ws (with_held h s) d).writes d b) (applied_typed ws (with_held h s) d b t)

served_typed : {K : Type 0} {s : State} {d : List ℕ} {e : Effect} → Serves K s d e → are_bytes d ≡ true →
    Fits s.axis.drive → FitsBy e
unfolding commanded power_up fresh_state voltage_disabled left faulted moved_on
served_typed Serves.nothing b t = t
served_typed (Serves.replies run said) b t = t
served_typed (Serves.alarms l code) b t = t
served_typed {s = s} {d = d} (Serves.applies run ws before may) b t = applied_typed ws (with_transfer run s) d b t
served_typed (Serves.holds bs l i on synchronous long legal) b t = t
served_typed (Serves.releases r) b t = one_by_one_typed r b t
served_typed (Serves.loads r) b t = one_by_one_typed r b t
served_typed (Serves.starts h idle) b t = t
served_typed Serves.leaves b t = t
served_typed {s = s} Serves.stops b t = enters_typed _ s.axis.drive t
served_typed {s = s} Serves.resets b t = enters_typed _ s.axis.drive t
served_typed Serves.begins b t = nothing_typed
served_typed {s = s} (Serves.moves q h) b t = enters_typed q s.axis.drive t
served_typed {s = s} (Serves.reaches h) b t =
    let held = s.axis.drive.store in
    (reached_typed held t.0, whichever (λ n. n < half) (is_queued held) anew t.1)
served_typed Serves.recovers b t = t
served_typed {s = s} (Serves.faults code register fits) b t = enters_typed _ s.axis.drive t
served_typed (Serves.feeds at speed fits) b t = t
served_typed (Serves.powers v) b t = t
served_typed Serves.rests b t = t
served_typed (Serves.counts e) b t = t
served_typed Serves.beats b t = t

-- ---- THE INVARIANT

-- between calls: what holds in a run, set-points that are words, and a count that is none too large
pub record Kept (a : Stand) : Type 0 where
  pub holds : Holds a
  pub fits : Fits a.state.axis.drive

pub kept_typed : (a : Stand) → Kept a → Typed a.state
unfolding waiting_sound
kept_typed a h =
    let s = a.state in
    let d = a.dictionary in
    let m = s.node.nmt in
    let c = clauses s d h.holds.at.sound in
    let paced = pairwise (pace_sound m d) transmit_pdos s.axis.paces in
    record {
      head = record {
        heartbeat = count_typed s.node.heartbeat d h.holds.at.bytes c.heartbeat;
        store = h.fits.0;
        stay = h.fits.1;
        ready = rw h.holds.ready (ready_typed d);
        held = many_pairs (held_sound m d) DataTyped (held_typed m d) receive_pdos s.axis.held (and_right paced _ c.waiting);
        paces = many_pairs (pace_sound m d) AnyPace (λ p k e. tt) transmit_pdos s.axis.paces (and_left paced _ c.waiting);
      };
      plans = rw h.holds.plans (plans_typed d);
    }

-- the call's end leaves the store, and counts to 65,535 at most
more_typed : (n : ℕ) → n < half → one_more n < half
more_typed n h = by_test (λ k. k < half) (ltb n most_ticks) (λ e. omega (arith, ltb-true n most_ticks e)) (λ e. h)

counted_typed : (ticked : Bool) (v : Drive) (d : List ℕ) → v.stay < half → counted ticked v d < half
unfolding counted
counted_typed ticked v d h =
    let P : ℕ → Type 0 = λ n. n < half in
    whichever P (inside v.store d) (whichever P ticked (more_typed v.stay h) h) anew

ended_typed : (s : State) (d : List ℕ) (e : Effect) → FitsBy e → Fits (ended s d e).state.axis.drive
unfolding ended drive_at_end staying
ended_typed s d e t = (t.0, counted_typed (is_ticked e.occasion) e.state.axis.drive (stored e.writes d) t.1)

pub fresh_typed : (n : ℕ) (s : State) (d : List ℕ) → Fits (ended s d (power_up n)).state.axis.drive
unfolding power_up fresh_state
fresh_typed n s d = ended_typed s d (power_up n) nothing_typed

answered_typed : {c : Call} {x : Decision} {s : State} {d : List ℕ} (o : List ℕ) → Decides s d c x → are_bytes d ≡ true → Fits s.axis.drive →
    Fits (answered x s d o).state.axis.drive
unfolding answered refused accepted
answered_typed o (Decides.refuses r q) b t = t
answered_typed {s = s} {d = d} o (Decides.begins n legal long) b t = fresh_typed n s d
answered_typed {s = s} {d = d} o (Decides.serves {e} law v) b t = ended_typed s d e (served_typed v b t)

pub step_kept : (k : Step) (a : Stand) → octets k.call ≡ true → Kept a → Kept (Promises.left k a)
unfolding answer
step_kept k a o h =
    record {
      holds = step_holds k a o h.holds;
      fits = answered_typed k.output (decides a.state a.dictionary k.call k.output) h.holds.at.bytes h.fits;
    }
