-- Ticket 6: what is promised of a load.
-- Assumes nothing.
use Rattle.theorems.proofs.Words.{ℕ, suc, ◌+◌, ◌≤◌, arith, ◌≡◌, refl, sym, ◌∙◌, ap, subst, inl, inr, true, false, not, ◌||◌, List, [], ◌∷◌}
use Rattle.theorems.proofs.Words.{◌++◌}
use Rattle.theorems.proofs.Words.{map, length, leb, le-leb, eqb, eq-eqb, eqb-true, State, DriveState, Store, Empty, Rested}
use Rattle.theorems.proofs.Words.{Moving, Queued, Refusal, Accepted, DictionaryLength, OutputLength, NodeId, NotSound, BadFrame, BadEvent}
use Rattle.theorems.proofs.Words.{OutOfPlace, WrongState, FileTooShort, TooManyEntries, FileMisfit, ControlWordEntry, EntryAborted, In}
use Rattle.theorems.proofs.Words.{in_left, in_right, here, all_in}
use Rattle.theorems.proofs.Words.{is_pre_operational, is_operational, and_left, and_right, or-false, or_false_left}
use Rattle.theorems.proofs.Words.{or_false_right, not-true, not-false, false≢true, on_states, implied, clash, either, by_match, found_in}
use Rattle.theorems.proofs.Alike.{offer_alike}
use Rattle.theorems.proofs.Entries.{Entries, Stops, Goes, goes, entry_applied}
use Rattle.theorems.proofs.Writes.{idle}
use Rattle.theorems.proofs.Lawful.{clauses}
use Rattle.theorems.proofs.DriveKept.{parts}
use Rattle.theorems.proofs.Occasions.{entries_no_tick}
use Rattle.theorems.proofs.Decisions.{Decided, decided_by, is_given}
use Rattle.theorems.proofs.Runs.{Holds, standing, step_holds, run_holds, OfBytes, entries_octets, passed}
use Rattle.theorems.proofs.Demands.{Rests, rests, says_answer, refused_means_nothing, run_rests}
use Rattle.theorems.proofs.Loads.{Beside, Before, ended_beside, entry_nmt, walk, requestable, asked_same, same_stand_lem, unoperational}
use Rattle.rules_dictionary.specs.Numbers.{all, are_bytes, value, bytes}
use Rattle.rules_dictionary.specs.Table.{lookup, Found, found, the_name, no_object, no_subindex, dictionary_length}
use Rattle.rules_dictionary.specs.Values.{stored}
use Rattle.rules_dictionary.specs.Aborts.{Abort, abort_code, good, is_good}
use Rattle.files.specs.ConciseDcf.{Entry, entries_in, is_too_short, is_overfull, is_misfit, reading}
use Rattle.drive.specs.DriveStates.{is_at_rest, is_enabled}
use Rattle.drive.specs.SetPoints.{is_empty}
use Rattle.drive.specs.Window.{inside}
use Rattle.rules_services.specs.Effects.{Effect, and_then}
use Rattle.rules_services.specs.Load.{may_load, listed, names_control_word, is_for_control_word, Loaded, loads, fails, load_all, first_entry, load_from, Named}
use Rattle.rules.specs.Outcome.{ended, pace_for, transmissions, sent_into}
use Rattle.rules.specs.Sound.{sound, store_in_place, stay_sound}
use Rattle.rules.specs.Calls.{load_call, Decision, refuses, loaded_as, load_decision, first_refused, decision, decided, refused}
use Rattle.rules.specs.Calls.{accepted}
use Rattle.rules.specs.Calls.{answered, answer, is_aborted, load_answer, output_length}
use Rattle.theorems.specs.Promises.{Stand, Run, left, requested, reached, nothing_runs, after_requests, object_verdict, verdict_at}
use Rattle.theorems.specs.PromisesOfLoad.{loading, request_for, AllTaken, entry_verdict, empty_file, RefusedLoadChangesNothing, LoadSendsNothing}
use Rattle.theorems.specs.PromisesOfLoad.{is_requestable, is_in_order, load_at, NamesFirst, LoadsAsDownloads, LoadsWhatIsTaken, NamesFirstFailing}
use Rattle.theorems.specs.PromisesOfLoad.{NamesNothingElse, EmptyFileChangesNothing}

-- ---- where a load is served

resting_disabled : (q : DriveState) → is_at_rest q ≡ true → is_enabled q ≡ false
resting_disabled q h = not-true _ (implied (is_at_rest q) _ (on_states (λ q. not (is_at_rest q) || not (is_enabled q)) refl q) h)

empty_outside : (s : Store) (d : List ℕ) → is_empty s ≡ true → inside s d ≡ false
unfolding inside
empty_outside Empty d h = refl
empty_outside (Rested t) d h = absurd (false≢true h)
empty_outside (Moving a) d h = absurd (false≢true h)
empty_outside (Queued a b) d h = absurd (false≢true h)

-- no set-point is held, so that no tick was counted
unstayed : (a : Stand) → Rests a → is_at_rest a.state.axis.drive.state ≡ true → a.state.axis.drive.stay ≡ 0
unfolding store_in_place stay_sound
unstayed a h rest =
    let v = a.state.axis.drive in
    let c = clauses a.state a.dictionary h.at.sound in
    let empty : is_empty v.store ≡ true =
    and_left _ _ (and_left _ _ (rw (resting_disabled v.state rest) at (parts v a.dictionary c.drive).store)) in
    eqb-true v.stay 0 (rw (empty_outside v.store a.dictionary empty, or-false) at c.stay)

stands_beside : (a : Stand) → Rests a → may_load a.state ≡ true → Beside a.state a.dictionary a
unfolding may_load
stands_beside a h served =
    record {
      node = refl;
      drive = refl;
      held = refl;
      alike = λ x i u. refl;
      long = h.at.long;
      unstayed = unstayed a h (and_right (is_pre_operational a.state.node.nmt) _ served);
      served = and_left (is_pre_operational a.state.node.nmt) _ served;
    }

-- ---- an accepted load

module _ (r : Run) (f o out : List ℕ) (octets : are_bytes f ≡ true) (room : output_length ≤ length out) where
  abbrev a : Stand
  a = reached r

  abbrev rqs : List (List ℕ)
  rqs = map request_for (entries_in f)

  by_decision : (x : Decision) → Decided a.state a.dictionary (load_call f) x → Holds (standing (answered x a.state a.dictionary o)) →
      (answered x a.state a.dictionary o).refusal ≡ Accepted →
      (all is_requestable (entries_in f) ≡ true) × AllTaken rqs out a
      × (nothing_runs (standing (answered x a.state a.dictionary o)) ≡ nothing_runs (after_requests rqs out a))
  unfolding answered refused accepted
  by_decision _ (Decided.refusing x given why) holds ok = clash (is_given x) given (ap is_given ok)
  by_decision _ (Decided.loading _ e served none taken l h) holds ok =
      let w = walk out room a taken none (entries_octets f octets) (run_holds r) (stands_beside a (run_rests r) served) in
      let before : Before e.state (stored e.writes a.dictionary) a.state a.dictionary e = record {
        node = refl;
        drive = refl;
        held = refl;
        alike = λ x i u. refl;
        plain = entries_no_tick taken;
        long = w.beside.long;
        unstayed = w.beside.unstayed;
        served = w.beside.served;
      } in (
        requestable taken,
        w.taken,
        same_stand_lem e.state (stored e.writes a.dictionary) _ _ (rests _ holds) (rests _ w.holds) (ended_beside _ _ _ _ e before)
            w.beside,
      )

pub loads_as_downloads : LoadsAsDownloads
unfolding answer
loads_as_downloads r f o out octets room ok =
    by_decision r f o out octets room _ (decided_by (reached r).state (reached r).dictionary (load_call f) o)
    (step_holds (loading f o) (reached r) octets (run_holds r)) ok

-- ---- an entry that fails

-- the load came to its entries, and one of them was aborted
record Aborts (f : List ℕ) (s : State) (d : List ℕ) : Type 0 where
  served : may_load s ≡ true
  none : names_control_word (entries_in f) ≡ false
  entry : ℕ
  abort : Abort
  is : load_all (entries_in f) s d ≡ fails entry abort

module _ (f : List ℕ) (s : State) (d o : List ℕ) where
  abbrev Meets : Decision → Type 0
  Meets x = (answered x s d o).refusal ≡ EntryAborted → Aborts f s d

  another : (r : Refusal) → is_aborted r ≡ false → Meets (refuses r)
  unfolding answered refused
  another r other e = clash (is_aborted r) (ap is_aborted e) other

  aborts_by : Meets (load_decision f s d)
  unfolding load_decision first_refused answered accepted
  aborts_by =
      by_match Meets (not (may_load s)) (λ e. another WrongState refl)
      (λ served. by_match Meets (is_too_short f) (λ e. another FileTooShort refl)
      (λ e. by_match Meets (is_overfull f) (λ e. another TooManyEntries refl)
      (λ e. by_match Meets (is_misfit f) (λ e. another FileMisfit refl)
      (λ e. by_match Meets (names_control_word (entries_in f)) (λ e. another ControlWordEntry refl)
      (λ none. by_loaded (not-false (may_load s) served) none (load_all (entries_in f) s d) refl)))))
    where
      by_loaded : may_load s ≡ true → names_control_word (entries_in f) ≡ false → (x : Loaded) → load_all (entries_in f) s d ≡ x → Meets (loaded_as x)
      by_loaded served none (loads e) q k = clash (is_aborted Accepted) (ap is_aborted k) refl
      by_loaded served none (fails n b) q k = record { served = served; none = none; entry = n; abort = b; is = q }

  call_aborts : (answer (load_call f) s d o).refusal ≡ EntryAborted → Aborts f s d
  unfolding answer decided decision
  call_aborts =
      by_match Meets (eqb (length d) dictionary_length)
      (λ l. by_match Meets (leb 0 (length o)) (λ m. by_match Meets (sound s d) (λ h. aborts_by) (λ h. another NotSound refl))
      (λ m. another OutputLength refl))
      (λ l. another DictionaryLength refl)

-- what fails in one of two dictionaries fails in the other
entry_alike : {d : List ℕ} (x : Entry) (s : State) (a : Stand) → Beside s d a →
    entry_verdict x a.state.node.nmt a.dictionary ≡ entry_verdict x s.node.nmt d
unfolding object_verdict
entry_alike {d} x s a b = go (lookup x.index x.subindex) refl
  where
    go : (y : Found) → lookup x.index x.subindex ≡ y →
        object_verdict true (listed x) a.state.node.nmt a.dictionary y ≡ object_verdict true (listed x) s.node.nmt d y
    go (found r) q = rw b.node (offer_alike a.dictionary d b.alike s.node.nmt (listed x r) (found_in _ _ q))
    go the_name q = refl
    go no_object q = refl
    go no_subindex q = refl

none_before : (xs ys : List Entry) → names_control_word (xs ++ ys) ≡ false → names_control_word xs ≡ false
none_before [] ys h = refl
none_before (x ∷ xs) ys h =
    rw (or_false_left (is_for_control_word x) _ h) (none_before xs ys (or_false_right (is_for_control_word x) (names_control_word (xs ++ ys)) h))

from_one : (n : ℕ) → first_entry + n ≡ suc n
from_one n = omega arith

-- what is named is just this
named_is : (f : List ℕ) (s : State) (d : List ℕ) (k : Aborts f s d) → (answer (load_call f) s d []).refusal ≡ EntryAborted →
    (load_answer f s d).named ≡ record { entry = k.entry; code = abort_code k.abort }
unfolding load_answer
named_is f s d k ok = rw (ok, k.is)

pub names_first_failing : NamesFirstFailing
unfolding load_answer
names_first_failing r f out octets room ok =
    let a = reached r in
    let s = a.state in
    let d = a.dictionary in
    let k = call_aborts f s d [] ok in
    let named = named_is f s d k ok in
    let stop : Stops (entries_in f) s d first_entry k.entry k.abort =
    subst (Goes (entries_in f) s d first_entry) k.is (goes first_entry (entries_in f) s d) in
    let none = none_before stop.before (stop.failing ∷ stop.behind) (ap names_control_word (sym stop.split) ∙ k.none) in
    let bytes : (x : Entry) → In x stop.before → OfBytes x =
    λ x i. entries_octets f octets x (subst (In x) (sym stop.split) (in_left (stop.failing ∷ stop.behind) i)) in
    let w = walk out room a stop.taken none bytes (run_holds r) (stands_beside a (run_rests r) k.served) in
    record {
      before = stop.before;
      failing = stop.failing;
      behind = stop.behind;
      abort = k.abort;
      split = stop.split;
      entry = ap (λ (n : Named). n.entry) named ∙ stop.number ∙ from_one (length stop.before);
      code = ap (λ (n : Named). n.code) named;
      taken = w.taken;
      why = entry_alike stop.failing stop.effect.state (after_requests (map request_for stop.before) out a) w.beside ∙ stop.why;
    }

-- only refusal 14 is named
aborted_is : (r : Refusal) → is_aborted r ≡ true → r ≡ EntryAborted
aborted_is Accepted h = absurd (false≢true h)
aborted_is DictionaryLength h = absurd (false≢true h)
aborted_is OutputLength h = absurd (false≢true h)
aborted_is NodeId h = absurd (false≢true h)
aborted_is NotSound h = absurd (false≢true h)
aborted_is BadFrame h = absurd (false≢true h)
aborted_is BadEvent h = absurd (false≢true h)
aborted_is OutOfPlace h = absurd (false≢true h)
aborted_is WrongState h = absurd (false≢true h)
aborted_is FileTooShort h = absurd (false≢true h)
aborted_is TooManyEntries h = absurd (false≢true h)
aborted_is FileMisfit h = absurd (false≢true h)
aborted_is ControlWordEntry h = absurd (false≢true h)
aborted_is EntryAborted h = refl

pub names_nothing_else : NamesNothingElse
unfolding load_answer
names_nothing_else f a other =
    let r = (answer (load_call f) a.state a.dictionary []).refusal in
    elim (either (is_aborted r)) [ inl e ↦ absurd (other (aborted_is r e)) | inr e ↦ rw e ]

-- ---- refused, or not: nothing is sent

pub refused_load_changes_nothing : RefusedLoadChangesNothing
refused_load_changes_nothing f o a h = ap standing (refused_means_nothing (loading f o) a h)

pub entries_silent : {s : State} {d : List ℕ} {es : List Entry} {e : Effect} → Entries s d es e → names_control_word es ≡ false →
    (e.sent ≡ []) × (e.state.node.nmt ≡ s.node.nmt)
unfolding and_then
entries_silent Entries.none h = (refl, refl)
entries_silent {s = s} {d = d} (Entries.next x r q v rest) h =
    let k = entries_silent rest (or_false_right (is_for_control_word x) _ h) in
    let own = or_false_left (is_for_control_word x) _ h in
    (rw (entry_applied x s d q own) k.0, k.1 ∙ entry_nmt x s d q own)

pub load_sends_nothing : LoadSendsNothing
unfolding answer answered refused accepted ended pace_for transmissions sent_into may_load
load_sends_nothing f o a = by_decided _ (decided_by a.state a.dictionary (load_call f) o)
  where
    by_decided : (x : Decision) → Decided a.state a.dictionary (load_call f) x →
        let u = answered x a.state a.dictionary o in (u.frames ≡ 0) × (u.output ≡ o)
    by_decided _ (Decided.refusing x given why) = (refl, refl)
    by_decided _ (Decided.loading _ e served none taken l h) =
        let s = a.state in
        let k = entries_silent taken none in
        let off : is_operational e.state.node.nmt ≡ false =
        ap is_operational k.1 ∙ unoperational s.node.nmt (and_left (is_pre_operational s.node.nmt) _ served) in
        let m = e.state.node.nmt in
        rw (k.0, idle m _ 4 off, idle m _ 5 off, idle m _ 6 off, idle m _ 7 off) (refl, refl)

-- ---- what would be taken as downloads is loaded

-- a file that is in order, where a load is served, comes to its entries
comes : (f : List ℕ) (s : State) (d o : List ℕ) → length d ≡ dictionary_length → sound s d ≡ true → may_load s ≡ true → is_in_order f ≡ true →
    decided (load_call f) s d o ≡ loaded_as (load_all (entries_in f) s d)
unfolding decided decision load_decision first_refused
comes f s d o l h served fine =
    let named = names_control_word (entries_in f) in
    let faults = not-true (is_too_short f || is_overfull f || is_misfit f || named) fine in
    let none = or_false_right (is_too_short f || is_overfull f || is_misfit f) named faults in
    let of_file = or_false_left (is_too_short f || is_overfull f || is_misfit f) named faults in
    let misfits = or_false_right (is_too_short f || is_overfull f) (is_misfit f) of_file in
    let counted = or_false_left (is_too_short f || is_overfull f) (is_misfit f) of_file in
    let over = or_false_right (is_too_short f) (is_overfull f) counted in
    let short = or_false_left (is_too_short f) (is_overfull f) counted in
    passed (eqb (length d) dictionary_length) _ _ (eq-eqb _ _ l)
    ∙ passed (leb 0 (length o)) _ _ (le-leb 0 (length o) (omega arith))
    ∙ passed (sound s d) _ _ h
    ∙ rw (served, short, over, misfits, none)

-- a request behind those that are taken
taken_next : (out : List ℕ) (before : List Entry) (x : Entry) (behind : List Entry) (a : Stand) →
    AllTaken (map request_for (before ++ x ∷ behind)) out a → verdict_at (request_for x) (after_requests (map request_for before) out a) ≡ good
unfolding AllTaken after_requests
taken_next out [] x behind a h = h.0
taken_next out (y ∷ ys) x behind a h = taken_next out ys x behind (left (requested (request_for y) out a) a) h.1

module _ (r : Run) (f o out : List ℕ) (octets : are_bytes f ≡ true) (room : output_length ≤ length out) (few : all is_requestable (entries_in f) ≡ true)
    (taken : AllTaken (map request_for (entries_in f)) out (reached r)) where
  abbrev b : Stand
  b = reached r

  in_file : (n : NamesFirst f out b (load_at f b).named) → In n.failing (entries_in f)
  in_file n = subst (In n.failing) (sym n.split) (in_right n.before here)

  -- the entry that is named would not be taken
  none_named : (load_at f b).refusal ≡ EntryAborted → ⊥
  none_named e =
      let n = names_first_failing r f out octets room e in
      let at = after_requests (map request_for n.before) out b in
      let asked = asked_same n.failing (all_in is_requestable (in_file n) few) (entries_octets f octets n.failing (in_file n)) in
      let fine = taken_next out n.before n.failing n.behind b
      (subst (λ (es : List Entry). AllTaken (map request_for es) out b) n.split taken) in
      clash (is_good (entry_verdict n.failing at.state.node.nmt at.dictionary)) (ap is_good (sym (asked at) ∙ fine)) (ap is_good n.why)

  all_loaded : ((p : List ℕ) → decided (load_call f) b.state b.dictionary p ≡ loaded_as (load_all (entries_in f) b.state b.dictionary)) →
      (x : Loaded) → load_all (entries_in f) b.state b.dictionary ≡ x → (answered (loaded_as x) b.state b.dictionary o).refusal ≡ Accepted
  unfolding answer answered accepted refused load_answer
  all_loaded came (loads e) q = refl
  all_loaded came (fails n k) q =
      absurd (none_named (ap (λ (x : Decision). (answered x b.state b.dictionary []).refusal) (came [] ∙ ap loaded_as q)))

pub loads_what_is_taken : LoadsWhatIsTaken
unfolding answer
loads_what_is_taken r f o out octets room served fine few taken =
    let a = reached r in
    let came : (p : List ℕ) → decided (load_call f) a.state a.dictionary p ≡ loaded_as (load_all (entries_in f) a.state a.dictionary) =
    λ p. comes f a.state a.dictionary p (run_rests r).at.long (run_rests r).at.sound served fine in
    subst (λ (x : Decision). (answered x a.state a.dictionary o).refusal ≡ Accepted) (sym (came o))
    (all_loaded r f o out octets room few taken came (load_all (entries_in f) a.state a.dictionary) refl)

-- ---- a file of no entries

pub empty_file_changes_nothing : EmptyFileChangesNothing
unfolding answer reading load_from value bytes
empty_file_changes_nothing r o served =
    let a = reached r in
    let h = run_rests r in
    says_answer a o _ [] a.state.transfer h (comes empty_file a.state a.dictionary o h.at.long h.at.sound served refl)
