-- The turns of a feeder: what its answer is, that it can be written when it is given, and that all set-points taken are the list's own beginning.
-- Assumes nothing.
use lib.IntN.{ℤ, pos}
use mathlib.Core.List.{nil≢cons}
use lib.ListN.{length-map}
use mir.Syntax.{w32}
use mir.Val.{SFits}
use Rattle.theorems.proofs.Words.{ℕ, zero, suc, ◌+◌, ◌≤◌, ◌<◌, arith, ◌≡◌, refl, sym, ◌∙◌, ap, ap₂, subst, ◌⊎◌, inl, inr, Bool, true, false, cond}
use Rattle.theorems.proofs.Words.{not, ◌||◌, false≢true, List, [], ◌∷◌, ◌++◌, append-nil, append_assoc, length, get_or, take, drop}
use Rattle.theorems.proofs.Words.{eqb-true, ltb-true}
use Rattle.theorems.proofs.Words.{ltb-false, In, here, there, Store, Empty, Rested, Moving, Queued, SetPoint, ProfilePosition, and_left, and_right}
use Rattle.theorems.proofs.Words.{either, clash, by_test, not-true, or_false_left, or_false_right, take_at, suc-add}
use Rattle.theorems.proofs.Demands.{nothing_stale, run_rests}
use Rattle.theorems.proofs.Follows.{enabled_is}
use Rattle.theorems.proofs.Limits.{position-is, ack_is}
use Rattle.drive.specs.declared.DriveState.TheVariants.{OperationEnabled}
use Rattle.rules_dictionary.specs.Table.{status_word, control_word}
use Rattle.rules_dictionary.specs.Numbers.{any, bit}
use Rattle.rules_dictionary.specs.Values.{read}
use Rattle.drive.specs.SetPoints.{new_set_point_bit, is_queued, is_empty}
use Rattle.drive.specs.StatusWord.{ack_shown}
use Rattle.rules_services.specs.Written.{wrote}
use Rattle.rules.specs.Outcome.{status_of}
use Rattle.theorems.specs.Promises.{Step, Stand, left, after, AllOctets, Run, reached, held_at, reached_in, points}
use Rattle.feeder.specs.declared.Feeder.{Feeder}
use Rattle.feeder.specs.declared.Answer.{Answer}
use Rattle.feeder.specs.Feeder.{most_lengths, is_too_long, first_feeder, feed_word, wait_word, feeds, next_length, moved, answered, step}
use Rattle.feeder.specs.Feeding.{Taking, far, taken_in, lengths_of, points_of, Turn, answer_at, calls_of, Premise, throughout, before_next}
use Rattle.feeder.specs.Feeding.{brought_in}
use Rattle.feeder.specs.Feeding.{is_present, is_written, target_first, without_other_writes, without_faults, without_state_changes}
use Rattle.feeder.specs.Feeding.{without_mode_changes}
use Rattle.feeder.specs.Feeding.{inside_limits, Feeding}
use Rattle.feeder.specs.Promises.{EachTaken, FeedsInOrder, TakesEach, Counted, PositionCounts, Linked, TargetsAreSums, HoldsWhatIsFed}
use Rattle.feeder.specs.Promises.{EmptyListTakesNothing}
use Rattle.feeder.proofs.Steps.{accepted}
use Rattle.feeder.proofs.Values.{Spoken, asks, owed, Stage}
use Rattle.feeder.proofs.Targets.{linked_both}
use Rattle.feeder.proofs.Answers.{FairCalls, CallsGo, calls_go, store_at, taken_by, after_both, joined_lengths, joined_points, held_joins}
use Rattle.feeder.proofs.Answers.{held_inside}

-- ---- between two steps

record Between (lengths : List ℤ) (f : Feeder) (a : Stand) : Type 0 where
  enabled : a.state.axis.drive.state ≡ OperationEnabled
  mode : a.state.axis.drive.mode ≡ ProfilePosition
  marked : bit new_set_point_bit (read a.dictionary control_word) ≡ true → a.state.axis.drive.taken ≡ true
  in_list : f.position ≤ length lengths

-- bit 12 as the step is told it
shown : (r : Run) →
    let a = reached r in
    let v = a.state.axis.drive in
    v.state ≡ OperationEnabled → v.mode ≡ ProfilePosition →
    bit ack_shown (read a.dictionary status_word) ≡ (v.taken || is_queued v.store)
unfolding status_of
shown r enabled mode = ap (bit ack_shown) (nothing_stale r).status ∙ ack_is _ _ _ (reached r).dictionary (record { state = enabled; mode = mode })

module _ (lengths : List ℤ) (short : is_too_long lengths ≡ false) (signed : (z : ℤ) → In z lengths → SFits w32 z) where
  -- a position of the list gets words
  answers : (f : Feeder) (told : ℕ) → f.position ≤ length lengths → step lengths f told ≡ answered lengths f told
  answers f told h = accepted lengths f told (ltb-false most_lengths (length lengths) short) h

  next_fits : (xs : List ℤ) (i : ℕ) → ((z : ℤ) → In z xs → SFits w32 z) → SFits w32 (get_or xs i (pos 0))
  next_fits [] i h = record { sfits = omega arith }
  next_fits (x ∷ xs) zero h = h x here
  next_fits (x ∷ xs) (suc i) h = next_fits xs i (λ z k. h z (there k))

  speaks : (f : Feeder) (told : ℕ) → Spoken (answered lengths f told)
  unfolding answered
  speaks f told =
      record {
        word = by_test (λ (w : ℕ). (w ≡ feed_word) ⊎ (w ≡ wait_word)) (feeds lengths f told) (λ e. inl refl) (λ e. inr refl);
        target = next_fits lengths f.position signed;
      }

  -- it asks for a set-point where it feeds
  asks_feeds : (f : Feeder) (told : ℕ) → asks (answered lengths f told) ≡ feeds lengths f told
  unfolding answered
  asks_feeds f told = by_flag (feeds lengths f told)
    where
      by_flag : (b : Bool) → bit new_set_point_bit (cond b feed_word wait_word) ≡ b
      by_flag true = refl
      by_flag false = refl

  module _ (r : Run) (f : Feeder) (told : ℕ) (between : Between lengths f (reached r)) (now : told ≡ read (reached r).dictionary status_word) where
    abbrev here_stands : Stand
    here_stands = reached r

    -- then bit 12 is clear
    clear : asks (answered lengths f told) ≡ true →
        (here_stands.state.axis.drive.taken || is_queued here_stands.state.axis.drive.store) ≡ false
    clear h =
        sym (shown r between.enabled between.mode) ∙ ap (bit ack_shown) (sym now)
        ∙ not-true _ (and_left (not (bit ack_shown told)) _ (sym (asks_feeds f told) ∙ h))

    begins : Stage (answered lengths f told) false false here_stands.state.axis.drive here_stands.dictionary
    begins =
        let sound = (run_rests r).at in
        let v = here_stands.state.axis.drive in
        record {
          long = sound.long;
          bytes = sound.bytes;
          enabled = between.enabled;
          mode = between.mode;
          aimed = λ h. absurd (false≢true h);
          word = λ h. absurd (false≢true h);
          free = λ h k. elim (either (bit new_set_point_bit (read here_stands.dictionary control_word))) [
            | inl e ↦ clash v.taken (between.marked e) (or_false_left v.taken _ (clear k))
            | inr e ↦ e
          ];
          room = λ h k. or_false_right v.taken _ (clear k);
          marked = between.marked;
        }

  -- what an answer owes comes from the list
  ends : (f : Feeder) (told : ℕ) → f.position ≤ length lengths →
      owed (answered lengths f told) false ++ drop (answered lengths f told).feeder.position lengths ≡ drop f.position lengths
  unfolding answered
  ends f told h = rw (asks_feeds f told) (by_flag (feeds lengths f told) refl)
    where
      at_front : (xs : List ℤ) (i : ℕ) → i < length xs → get_or xs i (pos 0) ∷ drop (i + 1) xs ≡ drop i xs
      at_front [] i l = absurd (omega arith)
      at_front (x ∷ xs) zero l = refl
      at_front (x ∷ xs) (suc i) l = simp suc-add (at_front xs i (omega arith))

      by_flag : (b : Bool) → feeds lengths f told ≡ b →
          cond b (next_length lengths f ∷ []) [] ++ drop (cond b (moved f) f).position lengths ≡ drop f.position lengths
      by_flag true e = at_front lengths f.position (ltb-true _ _ (and_right (not (bit ack_shown told)) _ e))
      by_flag false e = refl

  position_by : (f : Feeder) (told : ℕ) → (answered lengths f told).feeder.position ≡ f.position + length (owed (answered lengths f told) false)
  unfolding answered
  position_by f told = rw (asks_feeds f told) (by_flag (feeds lengths f told))
    where
      by_flag : (b : Bool) → (cond b (moved f) f).position ≡ f.position + length (cond b (next_length lengths f ∷ []) [])
      by_flag true = refl
      by_flag false = omega arith

  moves_inside : (f : Feeder) (told : ℕ) → f.position ≤ length lengths → (answered lengths f told).feeder.position ≤ length lengths
  unfolding answered
  moves_inside f told h =
      by_test (λ (g : Feeder). g.position ≤ length lengths) (feeds lengths f told)
      (λ e. let l : f.position < length lengths = ltb-true _ _ (and_right (not (bit ack_shown told)) _ e) in omega (arith, l)) (λ e. h)

-- ---- the premises of the turns that are left

record Left (lengths : List ℤ) (f : Feeder) (ts : List Turn) (a : Stand) : Type 0 where
  bytes : AllOctets (calls_of ts)
  present : throughout is_present lengths f ts a ≡ true
  written : before_next is_written lengths f ts a ≡ true
  targets_first : throughout target_first lengths f ts a ≡ true
  no_other_writes : throughout without_other_writes lengths f ts a ≡ true
  no_faults : throughout without_faults lengths f ts a ≡ true
  no_state_changes : throughout without_state_changes lengths f ts a ≡ true
  no_mode_changes : throughout without_mode_changes lengths f ts a ≡ true
  inside : throughout inside_limits lengths f ts a ≡ true

module _ (p : Premise) (lengths : List ℤ) (f : Feeder) (t : Turn) (ts : List Turn) (a : Stand) where
  abbrev said : Answer
  said = answer_at lengths f t

  holds_at_first : throughout p lengths f (t ∷ ts) a ≡ true → p said t a ≡ true
  unfolding throughout
  holds_at_first h = and_left (p said t a) _ h

  rest_of : throughout p lengths f (t ∷ ts) a ≡ true → throughout p lengths said.feeder ts (after t.calls a) ≡ true
  unfolding throughout
  rest_of h = and_right (p said t a) _ h

octets_first : (ks ls : List Step) → AllOctets (ks ++ ls) → AllOctets ks
unfolding AllOctets
octets_first [] ls h = tt
octets_first (k ∷ ks) ls h = (h.0, octets_first ks ls h.1)

octets_rest : (ks ls : List Step) → AllOctets (ks ++ ls) → AllOctets ls
unfolding AllOctets
octets_rest [] ls h = h
octets_rest (k ∷ ks) ls h = octets_rest ks ls h.1

turn_calls : {lengths : List ℤ} {f : Feeder} {t : Turn} {ts : List Turn} {a : Stand} → Left lengths f (t ∷ ts) a →
    FairCalls (answer_at lengths f t) t.calls a
unfolding calls_of
turn_calls {lengths} {f} {t} {ts} {a} h =
    record {
      octets = octets_first t.calls (calls_of ts) h.bytes;
      no_faults = holds_at_first without_faults lengths f t ts a h.no_faults;
      not_over = holds_at_first without_state_changes lengths f t ts a h.no_state_changes;
      answers = holds_at_first without_other_writes lengths f t ts a h.no_other_writes;
      mode_one = holds_at_first without_mode_changes lengths f t ts a h.no_mode_changes;
      inside = holds_at_first inside_limits lengths f t ts a h.inside;
    }

turns_later : {lengths : List ℤ} {f : Feeder} {t : Turn} {ts : List Turn} {a : Stand} → Left lengths f (t ∷ ts) a →
    before_next is_written lengths (answer_at lengths f t).feeder ts (after t.calls a) ≡ true →
    Left lengths (answer_at lengths f t).feeder ts (after t.calls a)
unfolding calls_of
turns_later {lengths} {f} {t} {ts} {a} h w =
    record {
      bytes = octets_rest t.calls (calls_of ts) h.bytes;
      present = rest_of is_present lengths f t ts a h.present;
      written = w;
      targets_first = rest_of target_first lengths f t ts a h.targets_first;
      no_other_writes = rest_of without_other_writes lengths f t ts a h.no_other_writes;
      no_faults = rest_of without_faults lengths f t ts a h.no_faults;
      no_state_changes = rest_of without_state_changes lengths f t ts a h.no_state_changes;
      no_mode_changes = rest_of without_mode_changes lengths f t ts a h.no_mode_changes;
      inside = rest_of inside_limits lengths f t ts a h.inside;
    }

-- ---- two stretches of calls

taken_both : (ks ls : List Step) (a : Stand) → taken_in (ks ++ ls) a ≡ taken_in ks a ++ taken_in ls (after ks a)
unfolding taken_in after
taken_both [] ls a = refl
taken_both (k ∷ ks) ls a = ap (λ ts. taken_by k a ++ ts) (taken_both ks ls (left k a)) ∙ sym (append_assoc (taken_by k a) _ _)

reached_both : (ks ls : List Step) (a : Stand) → reached_in (ks ++ ls) a ≡ reached_in ks a + reached_in ls (after ks a)
unfolding reached_in after
reached_both [] ls a = omega arith
reached_both (k ∷ ks) ls a = omega (arith, reached_both ks ls (left k a))

-- ---- THE TURNS

-- what those calls take is the list's from that position on, with a rest; and what is held behind them
record Fed (lengths : List ℤ) (f : Feeder) (ks : List Step) (a : Stand) : Type 0 where
  rest : List ℤ
  prefix : lengths_of (taken_in ks a) ++ rest ≡ drop f.position lengths
  held : held_at (after ks a) ≡ drop (reached_in ks a) (held_at a ++ points_of (taken_in ks a))
  inside : reached_in ks a ≤ length (held_at a ++ points_of (taken_in ks a))
  linked : Linked (store_at a) (taken_in ks a)

-- of turns: all that they take, each of them, and the position
record AllFed (lengths : List ℤ) (f : Feeder) (ts : List Turn) (a : Stand) : Type 0 where
  all : Fed lengths f (calls_of ts) a
  each : EachTaken lengths f ts a
  counted : Counted lengths f f.position ts a

module _ (lengths : List ℤ) (short : is_too_long lengths ≡ false) (signed : (z : ℤ) → In z lengths → SFits w32 z) where
  -- one turn, with the answer as the step gives it
  module _ (r : Run) (f : Feeder) (t : Turn) (ts : List Turn) (between : Between lengths f (reached r))
      (h : Left lengths f (t ∷ ts) (reached r)) where
    abbrev from : Stand
    from = reached r

    abbrev reply : Answer
    reply = answered lengths f t.told

    told_now : t.told ≡ read from.dictionary status_word
    told_now = eqb-true _ _ (holds_at_first is_present lengths f t ts from h.present)

    is_reply : answer_at lengths f t ≡ reply
    is_reply = answers lengths short signed f t.told between.in_list

    abbrev all_written : Bool
    all_written = any (wrote control_word) (brought_in t.calls from)

    goes : CallsGo reply false false t.calls from
    goes =
        calls_go reply (speaks lengths short signed f t.told) r t.calls
        (subst (λ (u : Answer). FairCalls u t.calls from) is_reply (turn_calls h))
        (holds_at_first target_first lengths f t ts from h.targets_first)
        (begins lengths short signed r f t.told between told_now)

    -- what it owes, by the status word at that step
    owes : owed reply false ≡ cond (feeds lengths f (read from.dictionary status_word)) (next_length lengths f ∷ []) []
    unfolding answered
    owes =
        ap (λ (b : Bool). cond b (next_length lengths f ∷ []) [])
        (asks_feeds lengths short signed f t.told ∙ ap (feeds lengths f) told_now)

    -- all of it is taken, where the answer was written
    whole : all_written ≡ true → lengths_of (taken_in t.calls from) ≡ owed reply false
    whole e =
        sym (append-nil _)
        ∙ subst (λ (b : Bool). lengths_of (taken_in t.calls from) ++ owed reply b ≡ owed reply false) e goes.lengths

    taken_here : all_written ≡ true →
        lengths_of (taken_in t.calls from) ≡ cond (feeds lengths f (read from.dictionary status_word)) (next_length lengths f ∷ []) []
    taken_here e = whole e ∙ owes

    -- behind a turn whose answer was written
    next_step : all_written ≡ true → Between lengths (answer_at lengths f t).feeder (after t.calls from)
    next_step e =
        record {
          enabled = goes.stage.enabled;
          mode = goes.stage.mode;
          marked = goes.stage.marked;
          in_list = rw is_reply (moves_inside lengths short signed f t.told between.in_list);
        }

    -- .. the position has moved by what was taken
    moved_by : all_written ≡ true → (answer_at lengths f t).feeder.position ≡ f.position + length (taken_in t.calls from)
    moved_by e =
        ap (λ (u : Answer). u.feeder.position) is_reply
        ∙ position_by lengths short signed f t.told
        ∙ ap (λ (n : ℕ). f.position + n) (ap length (sym (whole e)) ∙ length-map (taken_in t.calls from) far)

    -- the list from here on
    ahead : owed reply false ++ drop (answer_at lengths f t).feeder.position lengths ≡ drop f.position lengths
    ahead = rw is_reply (ends lengths short signed f t.told between.in_list)

    -- the last one, whose answer may still be on its way
    last_turn : Fed lengths f t.calls from
    last_turn =
        let later = drop (answer_at lengths f t).feeder.position lengths in
        let taken = lengths_of (taken_in t.calls from) in
        record {
          rest = owed reply all_written ++ later;
          prefix = sym (append_assoc taken (owed reply all_written) later) ∙ ap (λ zs. zs ++ later) goes.lengths ∙ ahead;
          held = goes.held;
          inside = goes.inside;
          linked = goes.linked;
        }

    -- one before others
    then_others : all_written ≡ true → (ls : List Step) → Fed lengths (answer_at lengths f t).feeder ls (after t.calls from) →
        Fed lengths f (t.calls ++ ls) from
    then_others e ls others =
        let ks = t.calls in
        let xs = taken_in ks from in
        let ys = taken_in ls (after ks from) in
        let both = taken_both ks ls from in
        let pointed : points_of (taken_in (ks ++ ls) from) ≡ points_of xs ++ points_of ys = ap points_of both ∙ joined_points xs ys in
        let held = held_at from in
        record {
          rest = others.rest;
          prefix = ap (λ ts. lengths_of ts ++ others.rest) both ∙ joined_lengths xs ys others.rest refl others.prefix
              ∙ ap (λ zs. zs ++ drop (answer_at lengths f t).feeder.position lengths) (whole e) ∙ ahead;
          held = ap held_at (after_both ks ls from) ∙ others.held
              ∙ ap (λ ps. drop (reached_in ls (after ks from)) (ps ++ points_of ys)) goes.held
              ∙ held_joins held (points_of xs) (points_of ys) (reached_in ks from) (reached_in ls (after ks from)) goes.inside
              ∙ ap₂ (λ (n : ℕ) (ps : List SetPoint). drop n (held ++ ps)) (sym (reached_both ks ls from)) (sym pointed);
          inside = rw (reached_both ks ls from, pointed)
              (held_inside held (points_of xs) (points_of ys) (reached_in ks from) (reached_in ls (after ks from)) goes.inside
              (subst (λ (ps : List SetPoint). reached_in ls (after ks from) ≤ length (ps ++ points_of ys)) goes.held others.inside));
          linked = subst (Linked (store_at from)) (sym both)
              (linked_both (store_at from) (store_at (after ks from)) xs ys goes.linked goes.last others.linked);
        }

  turns_fed : (r : Run) (f : Feeder) (ts : List Turn) → Between lengths f (reached r) → Left lengths f ts (reached r) →
      AllFed lengths f ts (reached r)
  unfolding calls_of EachTaken Counted taken_in after reached_in before_next Linked
  turns_fed r f [] between h =
      record {
        all = record {
          rest = drop f.position lengths;
          prefix = refl;
          held = sym (append-nil (held_at (reached r)));
          inside = omega arith;
          linked = tt;
        };
        each = tt;
        counted = tt;
      }
  turns_fed r f (t ∷ []) between h =
      record {
        all = subst (λ (ks : List Step). Fed lengths f ks (reached r)) (sym (append-nil t.calls)) (last_turn r f t [] between h);
        each = (taken_here r f t [] between h, tt);
        counted = (refl, tt);
      }
  turns_fed r f (t ∷ t' ∷ ts) between h =
      let a = reached r in
      let u = answer_at lengths f t in
      let e = and_left (is_written u t a) _ h.written in
      let go = goes r f t (t' ∷ ts) between h in
      let later = turns_later h (and_right (is_written u t a) _ h.written) in
      let others = subst (AllFed lengths u.feeder (t' ∷ ts)) go.stands
      (turns_fed go.run u.feeder (t' ∷ ts) (subst (Between lengths u.feeder) (sym go.stands) (next_step r f t (t' ∷ ts) between h e))
      (subst (Left lengths u.feeder (t' ∷ ts)) (sym go.stands) later)) in
      record {
        all = then_others r f t (t' ∷ ts) between h e (calls_of (t' ∷ ts)) others.all;
        each = (taken_here r f t (t' ∷ ts) between h, others.each);
        counted = (
          refl,
          subst (λ (n : ℕ). Counted lengths u.feeder n (t' ∷ ts) (after t.calls a)) (moved_by r f t (t' ∷ ts) between h e) others.counted,
        );
      }

-- ---- THE THEOREM

module _ (r : Run) (lengths : List ℤ) (turns : List Turn) (h : Feeding lengths turns (reached r)) where
  from_start : Between lengths first_feeder (reached r)
  from_start =
      record {
        enabled = enabled_is _ h.starts.enabled;
        mode = position-is _ h.starts.in_mode_one;
        marked = λ e. clash (bit new_set_point_bit (read (reached r).dictionary control_word)) e h.starts.bit_four_zero;
        in_list = omega arith;
      }

  all_left : Left lengths first_feeder turns (reached r)
  all_left =
      record {
        bytes = h.bytes;
        present = h.present;
        written = h.written;
        targets_first = h.targets_first;
        no_other_writes = h.no_other_writes;
        no_faults = h.no_faults;
        no_state_changes = h.no_state_changes;
        no_mode_changes = h.no_mode_changes;
        inside = h.inside;
      }

  fed : AllFed lengths first_feeder turns (reached r)
  fed = turns_fed lengths h.short h.signed r first_feeder turns from_start all_left

  starts_empty : (reached r).state.axis.drive.store ≡ Empty
  starts_empty = is_empty_lem (reached r).state.axis.drive.store h.starts.empty
    where
      is_empty_lem : (s : Store) → is_empty s ≡ true → s ≡ Empty
      is_empty_lem Empty e = refl
      is_empty_lem (Rested t) e = absurd (false≢true e)
      is_empty_lem (Moving p) e = absurd (false≢true e)
      is_empty_lem (Queued p q) e = absurd (false≢true e)

  beginning : (xs ys : List ℤ) → xs ++ ys ≡ lengths → xs ≡ take (length xs) lengths
  beginning xs ys e = sym (take_at xs ys (length xs) refl) ∙ ap (take (length xs)) e

pub feeds_in_order : FeedsInOrder
feeds_in_order r lengths turns h = beginning r lengths turns h _ (fed r lengths turns h).all.rest (fed r lengths turns h).all.prefix

pub takes_each : TakesEach
takes_each r lengths turns h = (fed r lengths turns h).each

pub position_counts : PositionCounts
position_counts r lengths turns h = (fed r lengths turns h).counted

pub holds_what_is_fed : HoldsWhatIsFed
holds_what_is_fed r lengths turns h =
    let calls = calls_of turns in
    (fed r lengths turns h).all.held
    ∙ ap (λ s. drop (reached_in calls (reached r)) (points s ++ points_of (taken_in calls (reached r)))) (starts_empty r lengths turns h)

pub targets_are_sums : TargetsAreSums
targets_are_sums r lengths turns h =
    subst (λ (s : Store). Linked s (taken_in (calls_of turns) (reached r))) (starts_empty r lengths turns h) (fed r lengths turns h).all.linked

pub empty_list_takes_nothing : EmptyListTakesNothing
empty_list_takes_nothing r turns h = none (taken_in (calls_of turns) (reached r)) (fed r [] turns h).all.rest (fed r [] turns h).all.prefix
  where
    none : (ts : List Taking) (ys : List ℤ) → lengths_of ts ++ ys ≡ [] → ts ≡ []
    none [] ys e = refl
    none (t ∷ ts) ys e = absurd (nil≢cons (sym e))
