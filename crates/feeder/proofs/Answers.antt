-- The calls behind a step of the feeder: frame by frame and call by call the answer is written, and what it asks for is taken once.
-- Assumes nothing.
use lib.IntN.{ℤ}
use lib.Seq.{drop-append-le}
use mathlib.Core.Bool.{or_assoc}
use mathlib.Core.List.{map-append}
use Rattle.theorems.proofs.Words.{ℕ, ◌+◌, ◌≤◌, arith, ◌≡◌, refl, sym, ◌∙◌, ap, subst, inl, inr, Bool, true, false, cond, not, ◌&&◌, ◌||◌, false≢true}
use Rattle.theorems.proofs.Words.{List, [], ◌∷◌, ◌++◌, append-nil, append_assoc, length, length-append, length-drop, drop, drop-drop, In, here, there}
use Rattle.theorems.proofs.Words.{Drive, Store, Empty, Rested, Moving, Queued, SetPoint, and_left, and_right, either, not-true, and_both, or-false}
use Rattle.theorems.proofs.Words.{Event, Option, Some, None, Started, QuickStopDone, ReactionDone, SetPointReached, Tick, CauseGone, Feedback}
use Rattle.theorems.proofs.Words.{Voltage}
use Rattle.theorems.proofs.Decisions.{Decided, decided_by}
use Rattle.theorems.proofs.Demands.{run_rests}
use Rattle.theorems.proofs.Follows.{enabled_follows}
use Rattle.theorems.proofs.Settled.{control_in}
use Rattle.theorems.proofs.Writes.{InTable}
use Rattle.rules_dictionary.specs.Table.{control_word, target_position, open_table}
use Rattle.rules_dictionary.specs.Numbers.{all, any}
use Rattle.rules_dictionary.specs.Values.{Write, read, stored}
use Rattle.drive.specs.SetPoints.{is_queued, is_moving, reached, moved_on, last_target, target, within_limits}
use Rattle.rules_services.specs.Written.{wrote}
use Rattle.rules_services.specs.Events.{event_of, is_in_place}
use Rattle.rules_services.specs.declared.Event.TheVariants.{Fault}
use Rattle.rules.specs.Calls.{Call, power_up_call, frame_call, event_call, load_call, Decision}
use Rattle.theorems.specs.Promises.{Step, Stand, left, after, octets, AllOctets, Run, SoundAt, points, held_at, reached_in, is_accepted}
use Rattle.theorems.specs.Promises.{tells_reached}
use Rattle.theorems.specs.Promises.{decided_at, is_reached, begun}
use Rattle.theorems.specs.PromisesOfDrive.{told_values, values_in, brought_by, acted, acted_all, stored_all, StandsWith, takes_over, tells_fault}
use Rattle.feeder.specs.declared.Answer.{Answer}
use Rattle.feeder.specs.Feeding.{taken_of, taken_of_all, taken_in, lengths_of, points_of, Taking, along, brought_in, comes_first, is_answers}
use Rattle.feeder.specs.Feeding.{keeps_mode_one, stays_inside, rises, far}
use Rattle.feeder.specs.Promises.{Linked}
use Rattle.feeder.proofs.Objects.{aim_in}
use Rattle.feeder.proofs.Targets.{SameLast, last_of, last_on, linked_both, taken_linked}
use Rattle.feeder.proofs.Values.{Spoken, owed, Stage, Fair, Steps, values_step}
use Rattle.theorems.specs.Promises as Promises

-- ---- frames applied one after another

-- as the premises have them
pub record AllFair (u : Answer) (came : Bool) (fs : List (List Write)) (v : Drive) (d : List ℕ) : Type 0 where
  pub rows : (ws : List Write) → In ws fs → InTable ws
  pub answers : all (all (is_answers u)) fs ≡ true
  pub mode_one : all (all keeps_mode_one) fs ≡ true
  pub first : comes_first came fs ≡ true
  pub inside : stays_inside fs v d ≡ true

-- what they leave, and what they take
record Goes (u : Answer) (done came : Bool) (fs : List (List Write)) (v : Drive) (d : List ℕ) : Type 0 where
  stage : Stage u (done || any (wrote control_word) fs) (came || any (wrote target_position) fs) (acted_all fs v d) (stored_all fs d)
  lengths : lengths_of (taken_of_all fs v d) ++ owed u (done || any (wrote control_word) fs) ≡ owed u done
  held : points (acted_all fs v d).store ≡ points v.store ++ points_of (taken_of_all fs v d)
  last : SameLast (acted_all fs v d).store (last_of v.store (taken_of_all fs v d))
  linked : Linked v.store (taken_of_all fs v d)

-- two stretches are one: what is owed, and what is held
pub joined_lengths : (xs ys : List Taking) (c : List ℤ) {a b : List ℤ} → lengths_of xs ++ b ≡ a → lengths_of ys ++ c ≡ b →
    lengths_of (xs ++ ys) ++ c ≡ a
joined_lengths xs ys c p q =
    ap (λ zs. zs ++ c) (map-append far xs ys) ∙ append_assoc (lengths_of xs) (lengths_of ys) c ∙ ap (λ zs. lengths_of xs ++ zs) q ∙ p

pub joined_points : (xs ys : List Taking) → points_of (xs ++ ys) ≡ points_of xs ++ points_of ys
joined_points xs ys = map-append (λ (t : Taking). t.point) xs ys

module _ (u : Answer) (said : Spoken u) where
  frames_go : {done came : Bool} (fs : List (List Write)) (v : Drive) (d : List ℕ) → AllFair u came fs v d → Stage u done came v d →
      Goes u done came fs v d
  unfolding taken_of_all acted_all stored_all comes_first stays_inside Linked
  frames_go {done} {came} [] v d fair st =
      record {
        stage = rw (or-false done, or-false came) st;
        lengths = rw or-false;
        held = sym (append-nil (points v.store));
        last = λ p. refl;
        linked = tt;
      }
  frames_go {done} {came} (ws ∷ fs) v d fair st =
      let w = wrote control_word ws in
      let t = wrote target_position ws in
      let new = stored ws d in
      let asked = not (rises ws d) || within_limits new (target new (read new control_word) v.store) in
      let one : Fair u came ws v d = record {
        rows = fair.rows ws here;
        answers = and_left (all (is_answers u) ws) _ fair.answers;
        mode_one = and_left (all keeps_mode_one ws) _ fair.mode_one;
        first = and_left (not w || (came || t)) _ fair.first;
        inside = and_left asked _ fair.inside;
      } in
      let step : Steps u said ws v d one st w = values_step u said ws v d one st in
      let rest = frames_go {done = done || w} {came = came || t} fs (acted ws v d) (stored ws d)
      (record {
        rows = λ vs i. fair.rows vs (there i);
        answers = and_right (all (is_answers u) ws) _ fair.answers;
        mode_one = and_right (all keeps_mode_one ws) _ fair.mode_one;
        first = and_right (not w || (came || t)) _ fair.first;
        inside = and_right asked _ fair.inside;
      })
      step.stage in
      record {
        stage = rw (← (or_assoc done w (any (wrote control_word) fs)), ← (or_assoc came t (any (wrote target_position) fs))) rest.stage;
        lengths = rw (← (or_assoc done w (any (wrote control_word) fs))) (joined_lengths (taken_of ws v d) _ _ step.lengths rest.lengths);
        held = rest.held ∙ ap (λ (ps : List SetPoint). ps ++ points_of (taken_of_all fs (acted ws v d) (stored ws d))) step.held
            ∙ append_assoc (points v.store) _ _ ∙ ap (λ ps. points v.store ++ ps) (sym (joined_points (taken_of ws v d) _));
        last = last_on v.store (acted ws v d).store (acted_all (ws ∷ fs) v d).store (taken_of ws v d) _ step.last rest.last;
        linked = linked_both v.store (acted ws v d).store (taken_of ws v d) _ (taken_linked ws v d) step.last rest.linked;
      }

-- ---- a call

-- what goes on behind a call that left that drive and those objects
stands_stage : {u : Answer} {done came : Bool} {v : Drive} {d : List ℕ} {a : Stand} → Stage u done came v d → StandsWith v d a → SoundAt a →
    Stage u done came a.state.axis.drive a.dictionary
unfolding open_table
stands_stage st s sound =
    let word = s.objects control_word control_in refl refl in
    record {
      long = sound.long;
      bytes = sound.bytes;
      enabled = s.state ∙ st.enabled;
      mode = s.mode ∙ st.mode;
      aimed = λ h. s.objects target_position aim_in refl refl ∙ st.aimed h;
      word = λ h. word ∙ st.word h;
      free = λ h k. rw word (st.free h k);
      room = λ h k. rw s.store (st.room h k);
      marked = λ h. s.taken ∙ st.marked (rw word at h);
    }

-- event 6 makes room
moved_room : (a : Store) → is_queued (reached a) ≡ false
moved_room Empty = refl
moved_room (Rested t) = refl
moved_room (Moving p) = refl
moved_room (Queued p q) = refl

moved_stage : {u : Answer} {done came : Bool} {v : Drive} {d : List ℕ} → Stage u done came v d → Stage u done came (moved_on v) d
unfolding moved_on
moved_stage {v = v} st =
    record {
      long = st.long;
      bytes = st.bytes;
      enabled = st.enabled;
      mode = st.mode;
      aimed = st.aimed;
      word = st.word;
      free = st.free;
      room = λ h k. moved_room v.store;
      marked = st.marked;
    }

moved_points : (a : Store) → is_moving a ≡ true → (points (reached a) ≡ drop 1 (points a)) × (1 ≤ length (points a))
moved_points Empty h = absurd (false≢true h)
moved_points (Rested t) h = absurd (false≢true h)
moved_points (Moving p) h = (refl, omega arith)
moved_points (Queued p q) h = (refl, omega arith)

moved_last : (a : Store) → SameLast (reached a) a
moved_last Empty p = refl
moved_last (Rested t) p = refl
moved_last (Moving q) p = refl
moved_last (Queued q s) p = refl

-- it comes while a set-point is on its way, and brings no values
module _ (k : Step) (a : Stand) where
  abbrev six : Bool
  six = is_accepted (decided_at k a) && tells_reached k.call

  told_none : (t : Option Event) → is_reached t ≡ true → told_values t ≡ []
  told_none (Some SetPointReached) h = refl
  told_none None h = absurd (false≢true h)
  told_none (Some Started) h = absurd (false≢true h)
  told_none (Some QuickStopDone) h = absurd (false≢true h)
  told_none (Some ReactionDone) h = absurd (false≢true h)
  told_none (Some Tick) h = absurd (false≢true h)
  told_none (Some CauseGone) h = absurd (false≢true h)
  told_none (Some (Fault code register)) h = absurd (false≢true h)
  told_none (Some (Feedback p q)) h = absurd (false≢true h)
  told_none (Some (Voltage b)) h = absurd (false≢true h)

  call_none : (c : Call) → tells_reached c ≡ true → values_in c a.state a.dictionary ≡ []
  call_none (power_up_call n) h = refl
  call_none (frame_call i bs) h = absurd (false≢true h)
  call_none (event_call n xs) h = told_none (event_of n xs) h
  call_none (load_call f) h = refl

  six_none : six ≡ true → brought_by k a ≡ []
  six_none h = rw (call_none k.call (and_right (is_accepted (decided_at k a)) _ h)) (either_none (is_accepted (decided_at k a)))
    where
      either_none : (b : Bool) → ◌≡◌ {A = List (List Write)} (cond b [] []) []
      either_none true = refl
      either_none false = refl

  reached_placed : (e : Event) → is_reached (Some e) ≡ true → is_in_place e a.state ≡ true → is_moving a.state.axis.drive.store ≡ true
  unfolding is_in_place
  reached_placed SetPointReached h placed = placed
  reached_placed Started h placed = absurd (false≢true h)
  reached_placed QuickStopDone h placed = absurd (false≢true h)
  reached_placed ReactionDone h placed = absurd (false≢true h)
  reached_placed Tick h placed = absurd (false≢true h)
  reached_placed CauseGone h placed = absurd (false≢true h)
  reached_placed (Fault code register) h placed = absurd (false≢true h)
  reached_placed (Feedback p q) h placed = absurd (false≢true h)
  reached_placed (Voltage b) h placed = absurd (false≢true h)

  six_moves : six ≡ true → is_moving a.state.axis.drive.store ≡ true
  six_moves h = by_decision (decided_by a.state a.dictionary k.call k.output) h
    where
      by_decision : {c : Call} {x : Decision} → Decided a.state a.dictionary c x → (is_accepted x && tells_reached c) ≡ true →
          is_moving a.state.axis.drive.store ≡ true
      by_decision (Decided.refusing r given why) q = absurd (false≢true q)
      by_decision (Decided.powering n legal l) q = absurd (false≢true q)
      by_decision (Decided.framing i bs l s) q = absurd (false≢true q)
      by_decision (Decided.happening n xs e told placed l s) q = reached_placed e (rw told at q) placed
      by_decision (Decided.loading f e served none taken l s) q = absurd (false≢true q)

-- ---- a run that goes on

pub after_both : (ks ls : List Step) (a : Stand) → after (ks ++ ls) a ≡ after ls (after ks a)
unfolding after
after_both [] ls a = refl
after_both (k ∷ ks) ls a = after_both ks ls (left k a)

octets_both : (ks : List Step) (k : Step) → AllOctets ks → octets k.call ≡ true → AllOctets (ks ++ k ∷ [])
unfolding AllOctets
octets_both [] k h o = (o, tt)
octets_both (l ∷ ks) k h o = (h.0, octets_both ks k h.1 o)

-- by one call
further : (r : Run) (k : Step) → octets k.call ≡ true → (q : Run) × (Promises.reached q ≡ left k (Promises.reached r))
unfolding after
further r k o = (
  record {
    node = r.node;
    legal = r.legal;
    found = r.found;
    long = r.long;
    bytes = r.bytes;
    output = r.output;
    room = r.room;
    steps = r.steps ++ k ∷ [];
    given = octets_both r.steps k r.given o;
  },
  after_both r.steps (k ∷ []) (begun r),
)

-- ---- THE STEP of one call

-- the premises of one call
pub record FairCall (u : Answer) (k : Step) (a : Stand) : Type 0 where
  pub octets : octets k.call ≡ true
  pub no_fault : not (is_accepted (decided_at k a) && tells_fault k.call) ≡ true
  pub not_over : not (is_accepted (decided_at k a) && takes_over k.call a.state) ≡ true
  pub answers : all (all (is_answers u)) (brought_by k a) ≡ true
  pub mode_one : all (all keeps_mode_one) (brought_by k a) ≡ true
  pub inside : stays_inside (brought_by k a) a.state.axis.drive a.dictionary ≡ true

abbrev pub store_at : Stand → Store
store_at a = a.state.axis.drive.store

abbrev pub taken_by : Step → Stand → List Taking
taken_by k a = taken_of_all (brought_by k a) a.state.axis.drive a.dictionary

abbrev once : Bool → ℕ
once b = cond b 1 0

record CallGoes (u : Answer) (done came : Bool) (k : Step) (a : Stand) : Type 0 where
  stage : Stage u (done || any (wrote control_word) (brought_by k a)) (came || any (wrote target_position) (brought_by k a))
      (left k a).state.axis.drive (left k a).dictionary
  lengths : lengths_of (taken_by k a) ++ owed u (done || any (wrote control_word) (brought_by k a)) ≡ owed u done
  held : held_at (left k a) ≡ drop (once (six k a)) (held_at a ++ points_of (taken_by k a))
  inside : once (six k a) ≤ length (held_at a ++ points_of (taken_by k a))
  last : SameLast (store_at (left k a)) (last_of (store_at a) (taken_by k a))
  linked : Linked (store_at a) (taken_by k a)

module _ (u : Answer) (said : Spoken u) where
  call_goes : {done came : Bool} (r : Run) (k : Step) →
      let a = Promises.reached r in
      FairCall u k a → comes_first came (brought_by k a) ≡ true → Stage u done came a.state.axis.drive a.dictionary → CallGoes u done came k a
  unfolding taken_of_all acted_all stored_all moved_on Linked
  call_goes {done} {came} r k fair first st =
      let a = Promises.reached r in
      let v = a.state.axis.drive in
      let d = a.dictionary in
      let on = further r k fair.octets in
      let sound : SoundAt (left k a) = subst SoundAt on.1 (run_rests on.0).at in
      let follows = enabled_follows r k fair.octets (rw st.enabled) (not-true _ fair.not_over) (not-true _ fair.no_fault) in
      let goes = frames_go u said (brought_by k a) v d
      (record { rows = follows.rows; answers = fair.answers; mode_one = fair.mode_one; first = first; inside = fair.inside }) st in
      elim (either (six k a)) [
        | inl e ↦
            let none = six_none k a e in
            let stands : StandsWith (moved_on v) d (left k a) =
            subst (λ (fs : List (List Write)). StandsWith (moved_on v) (stored_all fs d) (left k a)) none (rw e at follows.leaves) in
            let moves = moved_points v.store (six_moves k a e) in
            record {
              stage = rw (none, or-false done, or-false came) (stands_stage (moved_stage st) stands sound);
              lengths = rw (none, or-false done);
              held = rw (e, none, append-nil) (ap points stands.store ∙ moves.0);
              inside = rw (e, none, append-nil) moves.1;
              last = λ p. ap (last_target p) stands.store ∙ moved_last v.store p ∙ rw none;
              linked = rw none tt;
            }
        | inr e ↦
            let stands : StandsWith (acted_all (brought_by k a) v d) (stored_all (brought_by k a) d) (left k a) = rw e at follows.leaves in
            record {
              stage = stands_stage goes.stage stands sound;
              lengths = goes.lengths;
              held = rw e (ap points stands.store ∙ goes.held);
              inside = rw e (omega arith);
              last = λ p. ap (last_target p) stands.store ∙ goes.last p;
              linked = goes.linked;
            }
      ]

-- ---- calls

-- the premises of all calls of a turn but those of the answer's order
pub record FairCalls (u : Answer) (ks : List Step) (a : Stand) : Type 0 where
  pub octets : AllOctets ks
  pub no_faults : along (λ k b. not (is_accepted (decided_at k b) && tells_fault k.call)) ks a ≡ true
  pub not_over : along (λ k b. not (is_accepted (decided_at k b) && takes_over k.call b.state)) ks a ≡ true
  pub answers : along (λ k b. all (all (is_answers u)) (brought_by k b)) ks a ≡ true
  pub mode_one : along (λ k b. all (all keeps_mode_one) (brought_by k b)) ks a ≡ true
  pub inside : along (λ k b. stays_inside (brought_by k b) b.state.axis.drive b.dictionary) ks a ≡ true

along_first : (p : Step → Stand → Bool) (k : Step) (ks : List Step) (a : Stand) → along p (k ∷ ks) a ≡ true → p k a ≡ true
unfolding along
along_first p k ks a h = and_left (p k a) _ h

along_rest : (p : Step → Stand → Bool) (k : Step) (ks : List Step) (a : Stand) → along p (k ∷ ks) a ≡ true → along p ks (left k a) ≡ true
unfolding along
along_rest p k ks a h = and_right (p k a) _ h

first_call : {u : Answer} {k : Step} {ks : List Step} {a : Stand} → FairCalls u (k ∷ ks) a → FairCall u k a
unfolding AllOctets
first_call {k = k} {ks} {a} f =
    record {
      octets = f.octets.0;
      no_fault = along_first _ k ks a f.no_faults;
      not_over = along_first _ k ks a f.not_over;
      answers = along_first _ k ks a f.answers;
      mode_one = along_first _ k ks a f.mode_one;
      inside = along_first _ k ks a f.inside;
    }

later_calls : {u : Answer} {k : Step} {ks : List Step} {a : Stand} → FairCalls u (k ∷ ks) a → FairCalls u ks (left k a)
unfolding AllOctets
later_calls {k = k} {ks} {a} f =
    record {
      octets = f.octets.1;
      no_faults = along_rest _ k ks a f.no_faults;
      not_over = along_rest _ k ks a f.not_over;
      answers = along_rest _ k ks a f.answers;
      mode_one = along_rest _ k ks a f.mode_one;
      inside = along_rest _ k ks a f.inside;
    }

first_both : (came : Bool) (fs gs : List (List Write)) → comes_first came (fs ++ gs) ≡ true →
    (comes_first came fs ≡ true) × (comes_first (came || any (wrote target_position) fs) gs ≡ true)
unfolding comes_first
first_both came [] gs h = (refl, rw or-false h)
first_both came (ws ∷ fs) gs h =
    let t = wrote target_position ws in
    let here = not (wrote control_word ws) || (came || t) in
    let rest = first_both (came || t) fs gs (and_right here _ h) in
    (and_both here _ (and_left here _ h) rest.0, rw (← (or_assoc came t (any (wrote target_position) fs))) rest.1)

any_both : (p : List Write → Bool) (fs gs : List (List Write)) → any p (fs ++ gs) ≡ (any p fs || any p gs)
any_both p [] gs = refl
any_both p (ws ∷ fs) gs = rw (any_both p fs gs) (sym (or_assoc (p ws) (any p fs) (any p gs)))

-- what they leave, and what they take
pub record CallsGo (u : Answer) (done came : Bool) (ks : List Step) (a : Stand) : Type 0 where
  pub stage : Stage u (done || any (wrote control_word) (brought_in ks a)) (came || any (wrote target_position) (brought_in ks a))
      (after ks a).state.axis.drive (after ks a).dictionary
  pub lengths : lengths_of (taken_in ks a) ++ owed u (done || any (wrote control_word) (brought_in ks a)) ≡ owed u done
  pub held : held_at (after ks a) ≡ drop (reached_in ks a) (held_at a ++ points_of (taken_in ks a))
  pub inside : reached_in ks a ≤ length (held_at a ++ points_of (taken_in ks a))
  pub last : SameLast (store_at (after ks a)) (last_of (store_at a) (taken_in ks a))
  pub linked : Linked (store_at a) (taken_in ks a)
  pub run : Run
  pub stands : Promises.reached run ≡ after ks a

-- what is held after two stretches
module _ (xs t s : List SetPoint) (g h : ℕ) (most : g ≤ length (xs ++ t)) where
  pub held_joins : drop h (drop g (xs ++ t) ++ s) ≡ drop (g + h) (xs ++ (t ++ s))
  held_joins =
      ap (drop h) (sym (drop-append-le g (xs ++ t) s most)) ∙ drop-drop h g ((xs ++ t) ++ s) ∙ ap (drop (g + h)) (append_assoc xs t s)

  pub held_inside : h ≤ length (drop g (xs ++ t) ++ s) → g + h ≤ length (xs ++ (t ++ s))
  held_inside few =
      omega (
        arith,
        most,
        few,
        length-append (drop g (xs ++ t)) s,
        length-drop g (xs ++ t),
        length-append (xs ++ t) s,
        ap length (append_assoc xs t s),
      )

module _ (u : Answer) (said : Spoken u) where
  pub calls_go : {done came : Bool} (r : Run) (ks : List Step) →
      let a = Promises.reached r in
      FairCalls u ks a → comes_first came (brought_in ks a) ≡ true → Stage u done came a.state.axis.drive a.dictionary →
      CallsGo u done came ks a
  unfolding taken_in brought_in after reached_in Linked
  calls_go {done} {came} r [] fair first st =
      let a = Promises.reached r in
      record {
        stage = rw (or-false done, or-false came) st;
        lengths = rw or-false;
        held = sym (append-nil (held_at a));
        inside = omega arith;
        last = λ p. refl;
        linked = tt;
        run = r;
        stands = refl;
      }
  calls_go {done} {came} r (k ∷ ks) fair first st =
      let a = Promises.reached r in
      let b = left k a in
      let fs = brought_by k a in
      let w = any (wrote control_word) fs in
      let x = any (wrote target_position) fs in
      let orders = first_both came fs (brought_in ks b) first in
      let one = call_goes u said r k (first_call fair) orders.0 st in
      let on = further r k (first_call fair).octets in
      let rest = subst (CallsGo u (done || w) (came || x) ks) on.1
      (calls_go {done = done || w} {came = came || x} on.0 ks (subst (FairCalls u ks) (sym on.1) (later_calls fair))
      (subst (λ (c : Stand). comes_first (came || x) (brought_in ks c) ≡ true) (sym on.1) orders.1)
      (subst (λ (c : Stand). Stage u (done || w) (came || x) c.state.axis.drive c.dictionary) (sym on.1) one.stage)) in
      let t = taken_by k a in
      let s = taken_in ks b in
      let points_join = joined_points t s in
      record {
        stage = rw (
          any_both (wrote control_word) fs (brought_in ks b),
          any_both (wrote target_position) fs (brought_in ks b),
          ← (or_assoc done (any (wrote control_word) fs) (any (wrote control_word) (brought_in ks b))),
          ← (or_assoc came (any (wrote target_position) fs) (any (wrote target_position) (brought_in ks b))),
        ) rest.stage;
        lengths = rw (
          any_both (wrote control_word) fs (brought_in ks b),
          ← (or_assoc done (any (wrote control_word) fs) (any (wrote control_word) (brought_in ks b))),
        )
            (joined_lengths t s _ one.lengths rest.lengths);
        held = rw points_join (rest.held ∙ ap (λ ps. drop (reached_in ks b) (ps ++ points_of s)) one.held
            ∙ held_joins (held_at a) (points_of t) (points_of s) (once (six k a)) (reached_in ks b) one.inside);
        inside = rw points_join (held_inside (held_at a) (points_of t) (points_of s) (once (six k a)) (reached_in ks b) one.inside
            (subst (λ (ps : List SetPoint). reached_in ks b ≤ length (ps ++ points_of s)) one.held rest.inside));
        last = last_on (store_at a) (store_at b) (store_at (after ks b)) t s one.last rest.last;
        linked = linked_both (store_at a) (store_at b) t s one.linked one.last rest.linked;
        run = rest.run;
        stands = rest.stands;
      }
