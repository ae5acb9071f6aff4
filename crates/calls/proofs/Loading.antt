-- From what a load leaves to its answer.
-- Assumes nothing.
use Prim.Native.Nat.{ℕ, ◌≤◌}
use mathlib.Core.Path.{◌≡◌, refl, sym, ◌∙◌, ap, subst}
use mathlib.Core.Bool.{Bool, true, false, cond, false≢true}
use mathlib.Core.List.{List, []}
use native.Mathlib.Omega.{arith}
use borrow.Author.Tests.{eq-eqb, leb-true}
use lib.Dec.{eqb, leb}
use lib.ListN.{length}
use Rattle.std.specs.Prelude.{Err}
use Rattle.state.specs.declared.Refusal.{Refusal}
use Rattle.state.specs.declared.Refusal.TheVariants.{Accepted, DictionaryLength, OutputLength, NodeId, NotSound, BadFrame, BadEvent, OutOfPlace}
use Rattle.state.specs.declared.Refusal.TheVariants.{WrongState, FileTooShort, TooManyEntries, FileMisfit, ControlWordEntry, EntryAborted}
use Rattle.state.specs.declared.State.{State}
use Rattle.state.specs.NmtStates.{is_operational, is_pre_operational}
use Rattle.rules_dictionary.specs.Numbers.{are_bytes}
use Rattle.rules_dictionary.specs.Table.{dictionary_length}
use Rattle.rules_dictionary.specs.TheNode.{first_node, last_node}
use Rattle.rules_dictionary.proofs.Tests.{and_left, and_right}
use Rattle.files.specs.ConciseDcf.{entries_in}
use Rattle.rules_services.specs.Effects.{Effect}
use Rattle.rules_services.specs.Load.{Named, may_load}
use Rattle.rules.specs.Outcome.{sent_into}
use Rattle.rules.specs.Sound.{sound}
use Rattle.rules.specs.Calls.{load_call, Decision, refuses, does, load_decision, decision, decided, refused, accepted, answered, answer}
use Rattle.rules.specs.Calls.{output_length}
use Rattle.rules.specs.Calls.{Outcome, LoadOutcome, load_answer, is_aborted}
use Rattle.theorems.proofs.Booleans.{clash}
use Rattle.theorems.proofs.Decisions.{Decided, load_decided, is_given}
use Rattle.theorems.proofs.Lawful.{clauses}
use Rattle.theorems.proofs.Runs.{passed, entries_octets}
use Rattle.theorems.proofs.Services.{Serves, entries_serve}
use Rattle.theorems.proofs.Loads.{unoperational}
use Rattle.theorems.proofs.Loaded.{entries_silent}
use Rattle.form.specs.Form.{state_of, form}
use Rattle.form.specs.Typed.{Typed}
use Rattle.form.proofs.Holding.{held_state}
use Rattle.form.specs.Holding.{Holds}
use Rattle.output.specs.Leaves.{Lent, Leaves, Rests}
use Rattle.load.specs.declared.Loading.{Loading}
use Rattle.load.specs.Loading.{refusal_of, named_for, is_none, Left, LoadsIn}
use Rattle.calls.specs.declared.LoadGiven.{LoadGiven}
use Rattle.calls.specs.Opening.{refused_for, not_refused, loadable_of}
use Rattle.calls.specs.Loads.{is_accepted, load_outcome, LoadStarts, LoadAnswers}
use Rattle.calls.proofs.Refusals.{load_no_length, load_unsound, load_opens_form, why_of, fails_so}
use Rattle.calls.specs.Ending.{Stands, counted_in, MayFinish, Stepped}
use Rattle.calls.proofs.Concluding.{may_finish, concludes}

-- a refusal that is given is no acceptance
given_refused : (r : Refusal) → is_given r ≡ true → is_accepted r ≡ false
given_refused Accepted h = sym h
given_refused DictionaryLength h = refl
given_refused OutputLength h = refl
given_refused NodeId h = refl
given_refused NotSound h = refl
given_refused BadFrame h = refl
given_refused BadEvent h = refl
given_refused OutOfPlace h = refl
given_refused WrongState h = refl
given_refused FileTooShort h = refl
given_refused TooManyEntries h = refl
given_refused FileMisfit h = refl
given_refused ControlWordEntry h = refl
given_refused EntryAborted h = refl

-- ---- with the state by value

-- refused before the file is looked at
module _ (f : List ℕ) (s : State) (d : List ℕ) where
  refused_as : (why : Refusal) → is_aborted why ≡ false → answer (load_call f) s d [] ≡ refused why s d [] →
      load_outcome (record { refusal = why; entry = 0; code = 0; state = s }) d ≡ load_answer f s d
  unfolding load_answer refused
  refused_as why other e = rw (e, other)

  pub load_not_opened : {e : Refusal} → Typed s → Err e ≡ loadable_of (form s) d →
      load_outcome (record { refusal = e; entry = 0; code = 0; state = s }) d ≡ load_answer f s d
  load_not_opened {e} t h = go e (eqb (length d) dictionary_length) (sound s d) refl refl (h ∙ load_opens_form s d t)
    where
      go : (w : Refusal) (a b : Bool) → eqb (length d) dictionary_length ≡ a → sound s d ≡ b →
          Err w ≡ cond a (cond b not_refused (refused_for NotSound)) (refused_for DictionaryLength) →
          load_outcome (record { refusal = w; entry = 0; code = 0; state = s }) d ≡ load_answer f s d
      go w false b x k r = let q : w ≡ DictionaryLength = ap why_of r in rw q (refused_as DictionaryLength refl (load_no_length f s d x))
      go w true false x k r = let q : w ≡ NotSound = ap why_of r in rw q (refused_as NotSound refl (load_unsound f s d x k))
      go w true true x k r = absurd (false≢true (fails_so r))

-- what was given, with the state that the bytes hold
pub load_answers_by : {x : LoadOutcome} {r : LoadGiven} {bs d : List ℕ} → LoadAnswers x r bs d →
    load_outcome (record { refusal = r.refusal; entry = r.entry; code = r.code; state = state_of bs }) d ≡ x
load_answers_by h = rw (h.refusal, h.entry, h.code, held_state h.state, h.dictionary)

-- ---- with the state in its bytes

-- what a load is lent
pub load_lent : {bs d : List ℕ} → LoadStarts bs d → Lent 0 bs d []
load_lent {bs} {d} h =
    record {
      own = h.own;
      whole = h.whole;
      long = h.long;
      room = omega arith;
      id = leb-true _ last_node (and_right (leb first_node (state_of bs).node.id) _ (clauses (state_of bs) d h.sound).id);
    }

module _ (f bs d : List ℕ) (h : LoadStarts bs d) where
  abbrev s : State
  s = state_of bs

  -- the call comes to the load's own decision
  comes : answer (load_call f) s d [] ≡ answered (load_decision f s d) s d []
  unfolding answer decided decision
  comes =
      ap (λ (x : Decision). answered x s d [])
      (passed (eqb (length d) dictionary_length) _ _ (eq-eqb _ _ h.long) ∙ passed (sound s d) _ _ h.sound)

  told : (x : Decision) → (answered x s d []).refusal ≡ refusal_of x
  unfolding answered refused accepted
  told (refuses r) = refl
  told (does e) = refl

  refusal_as : (load_answer f s d).refusal ≡ refusal_of (load_decision f s d)
  unfolding load_answer
  refusal_as = ap (λ (u : Outcome). u.refusal) comes ∙ told (load_decision f s d)

  named_as : (load_answer f s d).named ≡ named_for f s d
  unfolding load_answer
  named_as = rw (comes, told (load_decision f s d))

  module _ (r : Loading) (bs' d' : List ℕ) (l : LoadsIn f bs d r bs' d') where
    -- what is given of it, with bytes that hold its state
    answers_so : (x : Decision) → load_decision f s d ≡ x → {g : LoadGiven} {bs'' d'' : List ℕ} →
        g ≡ record { refusal = r.refusal; entry = r.entry; code = r.code } → Holds bs'' (answered x s d []).state →
        d'' ≡ (answered x s d []).dictionary → LoadAnswers (load_answer f s d) g bs'' d''
    unfolding load_answer
    answers_so x q is held same =
        let at = comes ∙ ap (λ (y : Decision). answered y s d []) q in
        rw is (record {
          refusal = l.refusal ∙ sym refusal_as;
          entry = l.entry ∙ ap (λ (n : Named). n.entry) (sym named_as);
          code = l.code ∙ ap (λ (n : Named). n.code) (sym named_as);
          state = rw at held;
          dictionary = same ∙ ap (λ (u : Outcome). u.dictionary) (sym at);
        })

    -- refused: every byte is as it was
    pub refused_load_lem : {g : LoadGiven} → g ≡ record { refusal = r.refusal; entry = r.entry; code = r.code } → is_accepted r.refusal ≡ false →
        LoadAnswers (load_answer f s d) g bs' d'
    unfolding answered refused
    refused_load_lem {g} given other = go (load_decision f s d) refl l.left
      where
        go : (x : Decision) → load_decision f s d ≡ x → Left x (entries_in f) bs d r.done bs' d' → LoadAnswers (load_answer f s d) g bs' d'
        go (refuses w) q k = answers_so (refuses w) q given (rw k.0 h.own) k.1
        go (does e) q k = clash (is_accepted r.refusal) (rw (l.refusal, q)) other

    -- accepted: its effect, as a service of the state leaves it, whatever output stands beside it
    pub record Taken : Type 0 where
      pub effect : Effect
      pub is : load_decision f s d ≡ does effect
      pub serves : Serves Unit s d effect
      pub leaves : (o : List ℕ) → Leaves s effect d o r.done bs' d' o
      pub rests : Rests (is_none (entries_in f)) s effect r.done
      pub off : is_operational s.node.nmt ≡ false

    taken_load_lem : are_bytes f ≡ true → is_accepted r.refusal ≡ true → Taken
    unfolding sent_into may_load
    taken_load_lem b ok = go (load_decision f s d) (load_decided s d f h.long h.sound) refl
      where
        go : (x : Decision) → Decided s d (load_call f) x → load_decision f s d ≡ x → Taken
        go _ (Decided.refusing w given why) q =
            clash (is_accepted w) (ap is_accepted (sym (l.refusal ∙ ap refusal_of q)) ∙ ok) (given_refused w given)
        go _ (Decided.loading _ e served none taken long sound) q =
            let leaves : Decision → Type 0 = λ x. Left x (entries_in f) bs d r.done bs' d' in
            let k : leaves (does e) = subst leaves q l.left in
            record {
              effect = e;
              is = q;
              serves = Serves.loads (entries_serve taken (λ u x i. (entries_octets f b x i).content));
              leaves = λ o. record {
                state = k.0.state;
                frames = k.0.frames;
                touched = k.0.touched;
                remapped = k.0.remapped;
                occasion = k.0.occasion;
                dictionary = k.0.dictionary;
                output = rw (entries_silent taken none).0 refl;
              };
              rests = k.1;
              off = unoperational s.node.nmt (and_left (is_pre_operational s.node.nmt) _ served);
            }

    module _ (b : are_bytes f ≡ true) (c : are_bytes d ≡ true) (ok : is_accepted r.refusal ≡ true) (o : List ℕ)
        (room : output_length ≤ length o) where
      stands : Stands s d o
      stands = record { long = h.long; room = room; sound = h.sound }

      pub load_finishes : MayFinish false bs' r.done d' o
      load_finishes = let t = taken_load_lem b ok in rw (← t.off) (may_finish stands c t.serves (t.leaves o) t.rests)

      pub load_concludes : {g : LoadGiven} → g ≡ record { refusal = r.refusal; entry = r.entry; code = r.code } → {n : ℕ} {bs'' d'' o'' : List ℕ} →
          Stepped false (counted_in r.done.occasion d' (state_of bs')) r.done d' o n bs'' d'' o'' → LoadAnswers (load_answer f s d) g bs'' d''
      unfolding answered accepted
      load_concludes given {n} {bs''} {d''} {o''} step =
          let t = taken_load_lem b ok in
          let from : Bool → Type 0 = λ was. Stepped was (counted_in r.done.occasion d' (state_of bs')) r.done d' o n bs'' d'' o'' in
          let a = concludes stands c t.serves (t.leaves o) t.rests (subst from (sym t.off) step) in
          answers_so (does t.effect) t.is given a.state a.dictionary
