-- A run of the node with a feeder, worked out once: what it is told and answers, the premises as Booleans, and what is promised. They are those of
-- Feeding, of any turns and any way to write the answers.
-- Assumes nothing.
use Prim.Native.Nat.{ℕ, ◌+◌, ◌^◌}
use native.Mathlib.Omega.{arith}
use mathlib.Core.Path.{◌≡◌, refl, sym, ◌∙◌, ap, ap₂, subst}
use mathlib.Core.Bool.{Bool, true, false, cond, not, ◌&&◌, ◌||◌}
use mathlib.Core.List.{List, [], ◌∷◌, ◌++◌, map, flat_map}
use borrow.Author.Tests.{eq-eqb, le-leb}
use lib.Dec.{eqb, ltb}
use lib.IntN.{ℤ, pos, negsuc}
use lib.ListN.{length, take, drop}
use lib.Signed.{le_z, mag}
use Rattle.rules_dictionary.specs.Numbers.{all, any, bit, sum}
use Rattle.rules_dictionary.proofs.Tests.{and_both}
use Rattle.rules_dictionary.specs.Table.{status_word, control_word}
use Rattle.rules_dictionary.specs.Values.{Write, read}
use Rattle.drive.specs.declared.SetPoint.{SetPoint}
use Rattle.drive.specs.declared.Store.{Store}
use Rattle.drive.specs.declared.Store.TheVariants.{Empty, Moving}
use Rattle.drive.specs.DriveStates.{is_enabled}
use Rattle.drive.specs.SetPoints.{new_set_point_bit, is_position, is_empty, last_target}
use Rattle.rules_services.specs.Written.{wrote}
use Rattle.rules.specs.Outcome.{same_by}
use Rattle.rules.specs.Calls.{Call, Decision, Outcome, answered, answer as answer_of}
use Rattle.theorems.specs.Promises.{Step, Stand, left, after, octets, decided_at, is_accepted, tells_reached, held_at, reached_in}
use Rattle.theorems.specs.PromisesOfDrive.{values_in, takes_over, tells_fault}
use Rattle.theorems.proofs.Telling.{step as call}
use Rattle.feeder.specs.declared.Feeder.{Feeder}
use Rattle.feeder.specs.declared.Answer.{Answer}
use Rattle.feeder.specs.Feeder.{is_too_long, first_feeder, feeds, next_length, step}
use Rattle.feeder.specs.Feeding.{Taking, taken_of_all, taken_in, lengths_of, points_of, Turn, answer_at, calls_of, Premise, throughout, before_next}
use Rattle.feeder.specs.Feeding.{along, brought_in, comes_first, is_answers, keeps_mode_one, stays_inside, is_present, is_written, target_first}
use Rattle.feeder.specs.Feeding.{without_other_writes, without_faults, without_state_changes, without_mode_changes, inside_limits}
use Rattle.feeder.specs.Promises.{EachTaken, Linked}

-- ---- a run of the feeder, each call worked out once

-- a call: where it finds the node, what is decided there, and the values that it brings
pub record Mark : Type 0 where
  pub step : Step
  pub at : Stand
  pub decision : Decision
  pub brought : List (List Write)

abbrev pub decided_so : Step → Stand → Decision → Mark
decided_so k a e =
    record { step = k; at = a; decision = e; brought = cond (is_accepted e) (values_in k.call a.state a.dictionary) [] }

abbrev pub mark : Step → Stand → Mark
mark k a = decided_so k a (decided_at k a)

abbrev pub stand_of : Outcome → Stand
stand_of u = record { state = u.state; dictionary = u.dictionary }

abbrev pub leaves : Mark → Stand
leaves m = stand_of (answered m.decision m.at.state m.at.dictionary m.step.output)

-- something made of what is worked out once
abbrev pub once : {A B : Type 0} → A → (A → B) → B
once a f = f a

-- calls in a row
unfoldable pub marks : List Step → Stand → List Mark
marks [] a = []
marks (k ∷ ks) a = once (mark k a) (λ m. m ∷ marks ks (leaves m))

abbrev pub end : List Mark → Stand → Stand
end [] a = a
end (m ∷ ms) a = end ms (leaves m)

-- a turn: where it finds the node, what is answered there, and its calls
pub record Leg : Type 0 where
  pub turn : Turn
  pub at : Stand
  pub answer : Answer
  pub marks : List Mark

abbrev pub leg : List ℤ → Feeder → Turn → Stand → Leg
leg lengths f t a = record { turn = t; at = a; answer = answer_at lengths f t; marks = marks t.calls a }

abbrev pub passed : Leg → Stand
passed l = end l.marks l.at

unfoldable pub legs : List ℤ → Feeder → List Turn → Stand → List Leg
legs lengths f [] a = []
legs lengths f (t ∷ ts) a = once (leg lengths f t a) (λ l. l ∷ legs lengths l.answer.feeder ts (passed l))

abbrev pub all_marks : List Leg → List Mark
all_marks ls = flat_map (λ l. l.marks) ls

abbrev pub brought_all : List Mark → List (List Write)
brought_all ms = flat_map (λ m. m.brought) ms

abbrev pub taken_all : List Mark → List Taking
taken_all ms = flat_map (λ m. taken_of_all m.brought m.at.state.axis.drive m.at.dictionary) ms

-- how many are an accepted event 6
abbrev pub reached_all : List Mark → ℕ
reached_all ms = sum (map (λ m. cond (is_accepted m.decision && tells_reached m.step.call) 1 0) ms)

-- ---- the premises, in the order of Feeding

abbrev pub is_answered : Leg → Bool
is_answered l = any (wrote control_word) (brought_all l.marks)

abbrev pub each_but_last : (Leg → Bool) → List Leg → Bool
each_but_last p [] = true
each_but_last p (l ∷ []) = true
each_but_last p (l ∷ l' ∷ ls) = p l && each_but_last p (l' ∷ ls)

-- of each call, by the answer that it follows on
abbrev pub each_call : (Answer → Mark → Bool) → List Leg → Bool
each_call p ls = all (λ l. all (p l.answer) l.marks) ls

abbrev pub premises : List ℤ → List Leg → Stand → List Bool
premises lengths ls a =
    let v = a.state.axis.drive in
    not (is_too_long lengths)
    ∷ all (λ z. ltb (mag z) (2 ^ 31)) lengths
    ∷ is_enabled v.state
    ∷ is_position v.mode
    ∷ is_empty v.store
    ∷ not (bit new_set_point_bit (read a.dictionary control_word))
    ∷ all (λ l. all (λ k. octets k.call) l.turn.calls) ls
    ∷ all (λ l. is_present l.answer l.turn l.at) ls
    ∷ each_but_last is_answered ls
    ∷ all (λ l. comes_first false (brought_all l.marks)) ls
    ∷ each_call (λ u m. all (all (is_answers u)) m.brought) ls
    ∷ each_call (λ u m. not (is_accepted m.decision && tells_fault m.step.call)) ls
    ∷ each_call (λ u m. not (is_accepted m.decision && takes_over m.step.call m.at.state)) ls
    ∷ each_call (λ u m. all (all keeps_mode_one) m.brought) ls
    ∷ each_call (λ u m. stays_inside m.brought m.at.state.axis.drive m.at.dictionary) ls
    ∷ []

-- ---- what is promised

abbrev pub same_integer : ℤ → ℤ → Bool
same_integer x y = le_z x y && le_z y x

abbrev pub point_numbers : SetPoint → List ℕ
point_numbers p = p.target ∷ p.velocity ∷ p.acceleration ∷ p.deceleration ∷ []

abbrev pub same_point : SetPoint → SetPoint → Bool
same_point p q = same_by eqb (point_numbers p) (point_numbers q)

-- FeedsInOrder
abbrev pub is_beginning : List ℤ → List Taking → Bool
is_beginning lengths ts = let fed = lengths_of ts in same_by same_integer fed (take (length fed) lengths)

-- Linked
abbrev pub are_sums : Store → List Taking → Bool
are_sums held [] = true
are_sums held (t ∷ ts) = eqb t.from (last_target t.here held) && are_sums (Moving t.point) ts

-- HoldsWhatIsFed
abbrev pub are_held : List Mark → Stand → List Taking → Bool
are_held ms a ts = same_by same_point (held_at (end ms a)) (drop (reached_all ms) (points_of ts))

-- EachTaken
abbrev pub each_taken : List ℤ → Feeder → List Leg → Bool
each_taken lengths f [] = true
each_taken lengths f (l ∷ ls) =
    let owed = cond (feeds lengths f (read l.at.dictionary status_word)) (next_length lengths f ∷ []) [] in
    (not (is_answered l) || same_by same_integer (lengths_of (taken_all l.marks)) owed) && each_taken lengths l.answer.feeder ls

abbrev pub promised : List ℤ → List Leg → Stand → List Bool
promised lengths ls a =
    once (all_marks ls)
    (λ ms. once (taken_all ms)
    (λ ts. is_beginning lengths ts ∷ each_taken lengths first_feeder ls ∷ are_sums Empty ts ∷ are_held ms a ts ∷ []))

-- ---- a feeder at work

-- how a turn goes: what is told in place of the present status word, and the calls that follow on the answer
pub record Way : Type 0 where
  pub tells : ℕ → ℕ
  pub then : Answer → List Step

abbrev pub way_of : (Answer → List Step) → Way
way_of f = record { tells = λ s. s; then = f }

-- each call is lent enough output
abbrev pub way : (Answer → List Call) → Way
way f = way_of (λ u. map call (f u))

abbrev pub turn_by : List ℤ → Feeder → Way → ℕ → Turn
turn_by lengths f w told = record { told = told; calls = w.then (step lengths f told) }

-- its turns, one for each way
unfoldable pub played : List ℤ → Feeder → List Way → Stand → List Leg
played lengths f [] a = []
played lengths f (w ∷ ws) a =
    once (leg lengths f (turn_by lengths f w (w.tells (read a.dictionary status_word))) a)
    (λ l. l ∷ played lengths l.answer.feeder ws (passed l))

-- ---- THEY ARE FEEDING'S

abbrev feeding_premises : List ℤ → List Turn → Stand → List Bool
feeding_premises lengths turns a =
    let v = a.state.axis.drive in
    let each : Premise → Bool = λ p. throughout p lengths first_feeder turns a in
    not (is_too_long lengths)
    ∷ all (λ z. ltb (mag z) (2 ^ 31)) lengths
    ∷ is_enabled v.state
    ∷ is_position v.mode
    ∷ is_empty v.store
    ∷ not (bit new_set_point_bit (read a.dictionary control_word))
    ∷ each (λ u t b. all (λ k. octets k.call) t.calls)
    ∷ each is_present
    ∷ before_next is_written lengths first_feeder turns a
    ∷ each target_first
    ∷ each without_other_writes
    ∷ each without_faults
    ∷ each without_state_changes
    ∷ each without_mode_changes
    ∷ each inside_limits
    ∷ []

along_is : (p : Step → Stand → Bool) (q : Mark → Bool) → ((k : Step) (a : Stand) → q (mark k a) ≡ p k a) → (ks : List Step) (a : Stand) →
    all q (marks ks a) ≡ along p ks a
unfolding marks along answer_of
along_is p q h [] a = refl
along_is p q h (k ∷ ks) a = ap₂ ◌&&◌ (h k a) (along_is p q h ks (left k a))

brought_is : (ks : List Step) (a : Stand) → brought_all (marks ks a) ≡ brought_in ks a
unfolding marks brought_in answer_of flat_map
brought_is [] a = refl
brought_is (k ∷ ks) a = ap (λ fs. (mark k a).brought ++ fs) (brought_is ks (left k a))

taken_is : (ks : List Step) (a : Stand) → taken_all (marks ks a) ≡ taken_in ks a
unfolding marks taken_in answer_of flat_map
taken_is [] a = refl
taken_is (k ∷ ks) a = ap (λ ts. taken_of_all (mark k a).brought a.state.axis.drive a.dictionary ++ ts) (taken_is ks (left k a))

reached_is : (ks : List Step) (a : Stand) → reached_all (marks ks a) ≡ reached_in ks a
unfolding marks reached_in answer_of
reached_is [] a = refl
reached_is (k ∷ ks) a = ap (λ n. cond (is_accepted (decided_at k a) && tells_reached k.call) 1 0 + n) (reached_is ks (left k a))

end_is : (ks : List Step) (a : Stand) → end (marks ks a) a ≡ after ks a
unfolding marks after answer_of
end_is [] a = refl
end_is (k ∷ ks) a = end_is ks (left k a)

more : {b c : Bool} {bs cs : List Bool} → b ≡ c → bs ≡ cs → b ∷ bs ≡ c ∷ cs
more e h = ap₂ ◌∷◌ e h

module _ (lengths : List ℤ) where
  each-is : (p : Premise) (q : Leg → Bool) → ((f : Feeder) (t : Turn) (a : Stand) → q (leg lengths f t a) ≡ p (answer_at lengths f t) t a) →
      (f : Feeder) (ts : List Turn) (a : Stand) → all q (legs lengths f ts a) ≡ throughout p lengths f ts a
  unfolding legs throughout
  each-is p q h f [] a = refl
  each-is p q h f (t ∷ ts) a =
      let g = (answer_at lengths f t).feeder in
      ap₂ ◌&&◌ (h f t a) (ap (λ b. all q (legs lengths g ts b)) (end_is t.calls a) ∙ each-is p q h g ts (after t.calls a))

  written_is : (f : Feeder) (ts : List Turn) (a : Stand) → each_but_last is_answered (legs lengths f ts a) ≡ before_next is_written lengths f ts a
  unfolding legs before_next
  written_is f [] a = refl
  written_is f (t ∷ []) a = refl
  written_is f (t ∷ t' ∷ ts) a =
      let g = (answer_at lengths f t).feeder in
      ap₂ ◌&&◌ (ap (any (wrote control_word)) (brought_is t.calls a))
      (ap (λ b. each_but_last is_answered (legs lengths g (t' ∷ ts) b)) (end_is t.calls a) ∙ written_is g (t' ∷ ts) (after t.calls a))

  calls_is : (p : Answer → Step → Stand → Bool) (q : Answer → Mark → Bool) → ((u : Answer) (k : Step) (a : Stand) → q u (mark k a) ≡ p u k a) →
      (ts : List Turn) (a : Stand) →
      each_call q (legs lengths first_feeder ts a) ≡ throughout (λ u t b. along (p u) t.calls b) lengths first_feeder ts a
  calls_is p q h ts a =
      each-is (λ u t b. along (p u) t.calls b) (λ l. all (q l.answer) l.marks)
      (λ f t b. along_is (p (answer_at lengths f t)) (q (answer_at lengths f t)) (h (answer_at lengths f t)) t.calls b) first_feeder ts a

  premises_are : (ts : List Turn) (a : Stand) → premises lengths (legs lengths first_feeder ts a) a ≡ feeding_premises lengths ts a
  premises_are ts a =
      more refl (more refl (more refl (more refl (more refl (more refl
      (more (each-is _ _ (λ f t b. refl) first_feeder ts a)
      (more (each-is _ _ (λ f t b. refl) first_feeder ts a)
      (more (written_is first_feeder ts a)
      (more (each-is _ _ (λ f t b. ap (comes_first false) (brought_is t.calls b)) first_feeder ts a)
      (more (calls_is _ _ (λ u k b. refl) ts a)
      (more (calls_is _ _ (λ u k b. refl) ts a)
      (more (calls_is _ _ (λ u k b. refl) ts a)
      (more (calls_is _ _ (λ u k b. refl) ts a)
      (more (calls_is _ _ (λ u k b. refl) ts a) refl))))))))))))))

-- ---- and what is promised: each promise, where it is kept, is told as true

module _ {A : Type 0} (test : A → A → Bool) (same : (x : A) → test x x ≡ true) where
  all_same : (xs ys : List A) → xs ≡ ys → same_by test xs ys ≡ true
  all_same xs ys e = subst (λ (zs : List A). same_by test xs zs ≡ true) e (with_itself xs)
    where
      with_itself : (zs : List A) → same_by test zs zs ≡ true
      with_itself [] = refl
      with_itself (z ∷ zs) = and_both _ _ (same z) (with_itself zs)

same_integer_lem : (z : ℤ) → same_integer z z ≡ true
same_integer_lem z = and_both _ _ (le_z_self z) (le_z_self z)
  where
    le_z_self : (y : ℤ) → le_z y y ≡ true
    le_z_self (pos n) = le-leb n n (omega arith)
    le_z_self (negsuc n) = le-leb n n (omega arith)

marks_both : (ks ls : List Step) (a : Stand) → marks (ks ++ ls) a ≡ marks ks a ++ marks ls (end (marks ks a) a)
unfolding marks
marks_both [] ls a = refl
marks_both (k ∷ ks) ls a = ap (λ ms. mark k a ∷ ms) (marks_both ks ls (leaves (mark k a)))

module _ (lengths : List ℤ) where
  marks_are : (f : Feeder) (ts : List Turn) (a : Stand) → all_marks (legs lengths f ts a) ≡ marks (calls_of ts) a
  unfolding legs calls_of marks flat_map
  marks_are f [] a = refl
  marks_are f (t ∷ ts) a =
      ap (λ ms. marks t.calls a ++ ms) (marks_are (answer_at lengths f t).feeder ts (end (marks t.calls a) a))
      ∙ sym (marks_both t.calls (calls_of ts) a)

  -- played is a run of its own turns
  played_are : (f : Feeder) (ws : List Way) (a : Stand) →
      let ls = played lengths f ws a in
      legs lengths f (map (λ l. l.turn) ls) a ≡ ls
  unfolding legs played
  played_are f [] a = refl
  played_are f (w ∷ ws) a =
      let l = leg lengths f (turn_by lengths f w (w.tells (read a.dictionary status_word))) a in
      ap (λ ls. l ∷ ls) (played_are l.answer.feeder ws (passed l))

  taken_are : (ts : List Turn) (a : Stand) → taken_all (all_marks (legs lengths first_feeder ts a)) ≡ taken_in (calls_of ts) a
  taken_are ts a = ap taken_all (marks_are first_feeder ts a) ∙ taken_is (calls_of ts) a

  order_kept : (ts : List Turn) (a : Stand) →
      (let fed = lengths_of (taken_in (calls_of ts) a) in fed ≡ take (length fed) lengths) →
      is_beginning lengths (taken_all (all_marks (legs lengths first_feeder ts a))) ≡ true
  order_kept ts a h = rw (taken_are ts a) (all_same same_integer same_integer_lem _ _ h)

  sums_kept : (ts : List Turn) (a : Stand) → Linked Empty (taken_in (calls_of ts) a) →
      are_sums Empty (taken_all (all_marks (legs lengths first_feeder ts a))) ≡ true
  unfolding Linked
  sums_kept ts a h = rw (taken_are ts a) (linked Empty (taken_in (calls_of ts) a) h)
    where
      linked : (held : Store) (xs : List Taking) → Linked held xs → are_sums held xs ≡ true
      linked held [] h = refl
      linked held (x ∷ xs) h = and_both _ _ (eq-eqb _ _ h.0) (linked (Moving x.point) xs h.1)

  held_kept : (ts : List Turn) (a : Stand) →
      (let calls = calls_of ts in held_at (after calls a) ≡ drop (reached_in calls a) (points_of (taken_in calls a))) →
      (let ms = all_marks (legs lengths first_feeder ts a) in are_held ms a (taken_all ms)) ≡ true
  held_kept ts a h =
      rw (taken_are ts a, marks_are first_feeder ts a, end_is (calls_of ts) a, reached_is (calls_of ts) a)
      (all_same same_point (λ p. all_same eqb (λ n. eq-eqb n n refl) (point_numbers p) (point_numbers p) refl) _ _ h)

  each_kept : (f : Feeder) (ts : List Turn) (a : Stand) → EachTaken lengths f ts a → each_taken lengths f (legs lengths f ts a) ≡ true
  unfolding legs EachTaken
  each_kept f [] a h = refl
  each_kept f (t ∷ ts) a h =
      let g = (answer_at lengths f t).feeder in
      let l = leg lengths f t a in
      let owed = cond (feeds lengths f (read a.dictionary status_word)) (next_length lengths f ∷ []) [] in
      let first : (not (is_answered l) || same_by same_integer (lengths_of (taken_all l.marks)) owed) ≡ true =
      rw (brought_is t.calls a, taken_is t.calls a) (where_so _ _ (λ e. all_same same_integer same_integer_lem _ _ (h.0 e))) in
      let later : each_taken lengths g (legs lengths g ts (passed l)) ≡ true =
      rw (end_is t.calls a) (each_kept g ts (after t.calls a) h.1) in
      and_both _ _ first later
    where
      where_so : (b c : Bool) → (b ≡ true → c ≡ true) → (not b || c) ≡ true
      where_so true c k = k refl
      where_so false c k = refl

  -- ---- so a premise that is told as false does not hold of the turns played, and a promise that is told as false is not kept there

  module _ (ws : List Way) (a : Stand) where
    abbrev run : List Leg
    run = played lengths first_feeder ws a

    abbrev turns : List Turn
    turns = map (λ l. l.turn) run

    pub premises_told : premises lengths run a ≡ feeding_premises lengths turns a
    premises_told = ap (λ ls. premises lengths ls a) (sym (played_are first_feeder ws a)) ∙ premises_are lengths turns a

    pub promises_told :
        (let fed = lengths_of (taken_in (calls_of turns) a) in fed ≡ take (length fed) lengths) →
        EachTaken lengths first_feeder turns a →
        Linked Empty (taken_in (calls_of turns) a) →
        (let calls = calls_of turns in held_at (after calls a) ≡ drop (reached_in calls a) (points_of (taken_in calls a))) →
        promised lengths run a ≡ true ∷ true ∷ true ∷ true ∷ []
    promises_told order each sums held =
        ap (λ ls. promised lengths ls a) (sym (played_are first_feeder ws a))
        ∙ more (order_kept turns a order)
        (more (each_kept first_feeder turns a each) (more (sums_kept turns a sums) (more (held_kept turns a held) refl)))
