-- What a load ends in: refused as a whole, refused for an entry, or with all of its entries taken.
-- Assumes nothing.
use Rattle.std.proofs.Common.{◌≡◌, ℕ, ◌<◌, ◌≤◌, Bool, true, false, cond, List, [], ◌∷◌, is_ok, Ok, Err, Result, sym, refl, ap, ◌∙◌, subst, arith}
use borrow.Author.Tests.{ne_eqb, eq-eqb}
use Rattle.std.specs.Prelude.{⊤}
use Rattle.sdo.specs.declared.aborts.Abort as declared
use Rattle.sdo.proofs.Verdicts.{error_code, code_is}
use Rattle.state.specs.declared.State.{State}
use Rattle.state.specs.declared.Refusal.{Refusal}
use Rattle.state.specs.declared.Refusal.TheVariants.{WrongState, FileTooShort, TooManyEntries, FileMisfit, ControlWordEntry}
use Rattle.rules_dictionary.specs.Values.{stored}
use Rattle.rules_dictionary.specs.Table.{lookup, mode, heartbeat_time}
use Rattle.rules_dictionary.proofs.Tests.{and_left, and_right}
use Rattle.files.specs.ConciseDcf.{Entry, entries_in, is_too_short, is_overfull, is_misfit}
use Rattle.drive.specs.DriveStates.{is_at_rest}
use Rattle.state.specs.NmtStates.{is_pre_operational}
use Rattle.rules_services.specs.Effects.{Effect, becomes}
use Rattle.rules_services.specs.Written.{wrote}
use Rattle.rules_services.specs.Load.{may_load, names_control_word, Loaded, loads, fails, load_from, load_all, Named, nothing_named, named_by}
use Rattle.rules.specs.Calls.{refuses, first_refused, loaded_as, load_decision, is_aborted}
use Rattle.rules.specs.Outcome.{sent_into}
use Rattle.theorems.proofs.Booleans.{by_match}
use Rattle.form.specs.Form.{state_of}
use Rattle.form.specs.Holding.{Holds, Puts}
use Rattle.output.specs.Leaves.{keeping, Calm, Rests}
use Rattle.output.proofs.Left.{loud, resting, calm_said}
use Rattle.load.specs.declared.Loading.{Loading}
use Rattle.load.specs.declared.Tally.{Tally}
use Rattle.load.specs.Loading.{refusal_of, is_none, LoadsIn, Ends, refused_load, aborted_load, taken_load, Loadable}
use Rattle.load.specs.Trying.{listing_for, verdict_on, written_by, nothing_tried, Tried, entry_tried, entries_tried, Tries}
use Rattle.load.specs.Trying.{restarted_if, mode_acted_if}
use Rattle.load.specs.Trying.{acted_on}
use Rattle.load.proofs.Offers.{pre_operational_lem}
use Rattle.load.proofs.Steps.{counts_one}
use Rattle.load.proofs.Folding.{Agrees, tried_as_loaded}

-- ---- the refusals of the whole file

-- what names an entry is what it ends in
named_so : (l : Loaded) → cond (is_aborted (refusal_of (loaded_as l))) (named_by l) nothing_named ≡ named_by l
named_so (loads e) = refl
named_so (fails n a) = refl

module _ (f : List ℕ) (bs d : List ℕ) where
  abbrev s : State
  s = state_of bs

  -- nothing is done
  refused_so : (r : Refusal) → is_aborted r ≡ false → load_decision f s d ≡ refuses r → LoadsIn f bs d (refused_load r) bs d
  refused_so r whole e =
      record { refusal = rw e refl; entry = rw (e, whole) refl; code = rw (e, whole) refl; left = rw e (refl, refl) }

  pub wrong_state : may_load s ≡ false → LoadsIn f bs d (refused_load WrongState) bs d
  unfolding load_decision first_refused
  wrong_state h = refused_so WrongState refl (rw h refl)

  module _ (served : may_load s ≡ true) where
    pub too_short : is_too_short f ≡ true → LoadsIn f bs d (refused_load FileTooShort) bs d
    unfolding load_decision first_refused
    too_short h = refused_so FileTooShort refl (rw (served, h) refl)

    module _ (long : is_too_short f ≡ false) where
      pub too_many : is_overfull f ≡ true → LoadsIn f bs d (refused_load TooManyEntries) bs d
      unfolding load_decision first_refused
      too_many h = refused_so TooManyEntries refl (rw (served, long, h) refl)

      module _ (few : is_overfull f ≡ false) where
        pub misfit : is_misfit f ≡ true → LoadsIn f bs d (refused_load FileMisfit) bs d
        unfolding load_decision first_refused
        misfit h = refused_so FileMisfit refl (rw (served, long, few, h) refl)

        module _ (whole : is_misfit f ≡ false) where
          pub control_word_lem : names_control_word (entries_in f) ≡ true → LoadsIn f bs d (refused_load ControlWordEntry) bs d
          unfolding load_decision first_refused
          control_word_lem h = refused_so ControlWordEntry refl (rw (served, long, few, whole, h) refl)

          module _ (others : names_control_word (entries_in f) ≡ false) where
            by_entries : load_decision f s d ≡ loaded_as (load_all (entries_in f) s d)
            unfolding load_decision first_refused
            by_entries = rw (served, long, few, whole, others) refl

            -- THE LAW: else it ends as its entries do
            pub not_refused_lem : {r : Loading} {bs' d' : List ℕ} →
                Ends (load_all (entries_in f) s d) (entries_in f) bs d r bs' d' → LoadsIn f bs d r bs' d'
            not_refused_lem h =
                let e = by_entries in
                let n = named_so (load_all (entries_in f) s d) in
                record {
                  refusal = rw e h.refusal;
                  entry = rw e (h.entry ∙ ap (λ (x : Named). x.entry) (sym n));
                  code = rw e (h.code ∙ ap (λ (x : Named). x.code) (sym n));
                  left = rw e h.left;
                }

-- ---- the entries: one is aborted, or all are taken

-- a result is no error where it is good
not_both : {x : Result ⊤ declared.Abort} {why : declared.Abort} → x ≡ Ok tt → x ≡ Err why → ⊥
not_both e f = cc

-- each entry that is tried counts
counts : (e : Entry) (es : List Entry) (t : Tally) (d : List ℕ) → ((u : Tally) (c : List ℕ) → u.tried ≤ (entries_tried es u c).tally.tried) →
    t.tried < (entries_tried (e ∷ es) t d).tally.tried
unfolding entries_tried
counts e es t d others =
    let l = listing_for e in
    let f = lookup e.index e.subindex in
    let r = entry_tried l t d in
    let n = counts_one (verdict_on l f d) (written_by l f) t d in
    by_match (λ (x : Tried). t.tried < x.tally.tried) (is_ok r.tally.last)
    (λ _. omega (arith, n, others r.tally r.dictionary)) (λ _. omega (arith, n))

counts_on : (es : List Entry) (t : Tally) (d : List ℕ) → t.tried ≤ (entries_tried es t d).tally.tried
unfolding entries_tried
counts_on [] t d = omega arith
counts_on (e ∷ es) t d = omega (arith, counts e es t d (counts_on es))

-- with no entries nothing is left to do
rests : (es : List Entry) (s : State) (d : List ℕ) (r : Tally) (e : Effect) → load_all es s d ≡ loads e →
    r.tried ≡ (entries_tried es nothing_tried d).tally.tried → Rests (is_none es) s e (taken_load r).done
unfolding load_from entries_tried
rests [] s d r e is n =
    let q : becomes s ≡ e = cc in
    resting s e _ (eq-eqb r.tried 0 n) (subst (Calm s) q (calm_said s []))
rests (x ∷ es) s d r e is n = loud s e _ (ne_eqb r.tried 0 (λ z. omega (arith, counts x es nothing_tried d (counts_on es))))

-- plans, ready frames and paces are left to the call's end
acted_keeps : (h m : Bool) (d : List ℕ) (s : State) → keeping s (acted_on h m d s) ≡ acted_on h m d s
acted_keeps true true d s = refl
acted_keeps true false d s = refl
acted_keeps false true d s = refl
acted_keeps false false d s = refl

module _ (es : List Entry) (bs d : List ℕ) {r : Tally} {d' : List ℕ} (tried : Tries (entries_tried es nothing_tried d) r d') where
  abbrev before : State
  before = state_of bs

  ends_aborted : (l : Loaded) → Agrees before d nothing_tried (entries_tried es nothing_tried d) l → {why : declared.Abort} → r.last ≡ Err why →
      Ends l es bs d (aborted_load r why) bs d
  ends_aborted (loads e) h wrong = absurd (not_both (ap (λ (t : Tally). t.last) tried.tally ∙ h.last) wrong)
  ends_aborted (fails n a) h wrong =
      record {
        refusal = refl;
        entry = ap (λ (t : Tally). t.tried) tried.tally ∙ h.0;
        code = ap error_code (sym wrong ∙ ap (λ (t : Tally). t.last) tried.tally ∙ h.1) ∙ code_is a;
        left = (refl, refl);
      }

  ends_taken : {bs' : List ℕ} (l : Loaded) → load_all es before d ≡ l → Agrees before d nothing_tried (entries_tried es nothing_tried d) l →
      r.last ≡ Ok tt → Holds bs' (acted_on r.heartbeat r.mode d' before) → Ends l es bs d (taken_load r) bs' d'
  unfolding sent_into
  ends_taken (fails n a) is h fine held = absurd (not_both fine (ap (λ (t : Tally). t.last) tried.tally ∙ h.1))
  ends_taken (loads e) is h fine held =
      let beat : r.heartbeat ≡ wrote heartbeat_time e.writes = ap (λ (t : Tally). t.heartbeat) tried.tally ∙ h.heartbeat in
      let moded : r.mode ≡ wrote mode e.writes = ap (λ (t : Tally). t.mode) tried.tally ∙ h.mode in
      let put : d' ≡ stored e.writes d = tried.dictionary ∙ h.dictionary in
      record {
        refusal = refl;
        entry = refl;
        code = refl;
        left = (
          record {
            state = rw (h.state, acted_keeps _ _ (stored e.writes d) before) (rw (beat, moded, put) at held);
            frames = rw h.sent refl;
            touched = sym h.unsent;
            remapped = ap (λ (t : Tally). t.mapping) tried.tally ∙ h.mapping;
            occasion = sym h.occasion;
            dictionary = put;
            output = rw h.sent refl;
          },
          rests es before d r e is (ap (λ (t : Tally). t.tried) tried.tally),
        );
      }

-- THE LAWS of the entries of a file that is not refused as a whole
module _ (f bs d : List ℕ) (may : Loadable f (state_of bs)) {r : Tally} {d' : List ℕ}
    (tried : Tries (entries_tried (entries_in f) nothing_tried d) r d') where
  agrees : Agrees (state_of bs) d nothing_tried (entries_tried (entries_in f) nothing_tried d) (load_all (entries_in f) (state_of bs) d)
  unfolding may_load
  agrees =
      let s = state_of bs in
      let a = is_pre_operational s.node.nmt in
      let b = is_at_rest s.axis.drive.state in
      tried_as_loaded (entries_in f) s d nothing_tried (pre_operational_lem s.node.nmt (and_left a b may.served)) (and_right a b may.served)
      may.others refl

  pub one_aborted : {why : declared.Abort} → r.last ≡ Err why →
      Ends (load_all (entries_in f) (state_of bs) d) (entries_in f) bs d (aborted_load r why) bs d
  one_aborted = ends_aborted (entries_in f) bs d tried _ agrees

  pub all_taken : {bs₁ bs' : List ℕ} → r.last ≡ Ok tt → Holds bs (state_of bs) → Puts (restarted_if r.heartbeat) bs bs₁ →
      Puts (mode_acted_if r.mode d') bs₁ bs' → Ends (load_all (entries_in f) (state_of bs) d) (entries_in f) bs d (taken_load r) bs' d'
  all_taken fine own first then =
      ends_taken (entries_in f) bs d tried _ refl agrees fine (then (restarted_if r.heartbeat (state_of bs)) (first (state_of bs) own))
