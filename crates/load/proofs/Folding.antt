-- The entries of a file by the rules, and as the code tries them: for a node in Pre-operational whose drive is at rest, and entries none of which is
-- for 6040h, both come to the same.
-- Assumes nothing.
use Rattle.std.proofs.Common.{◌≡◌, ℕ, suc, Bool, true, false, ◌&&◌, ◌||◌, eqb, List, [], ◌∷◌, ◌++◌, is_ok, Ok, Err, sym, refl, ap, ◌∙◌, subst, inl}
use Rattle.std.proofs.Common.{inr, append-nil, add-one}
use mathlib.Core.Bool.{or-false, or_assoc}
use Rattle.sdo.specs.Verdicts.{abort_of}
use Rattle.state.specs.declared.State.{State}
use Rattle.state.specs.declared.NmtState.TheVariants.{PreOperational}
use Rattle.state.specs.declared.Occasion.TheVariants.{Plain}
use Rattle.drive.specs.DriveStates.{is_at_rest}
use Rattle.rules_dictionary.specs.Numbers.{any}
use Rattle.rules_dictionary.specs.Table.{Row, table, Found, found, the_name, no_object, no_subindex, lookup, same, control_word, mode, heartbeat_time}
use Rattle.rules_dictionary.specs.Table.{is_writable, transmit}
use Rattle.rules_dictionary.specs.Values.{Write, read, stored}
use Rattle.rules_dictionary.specs.Aborts.{Verdict, good, bad}
use Rattle.rules_dictionary.specs.Legal.{suits}
use Rattle.rules_dictionary.specs.Members.{In}
use Rattle.rules_dictionary.proofs.Tests.{none_in}
use Rattle.rules_dictionary.proofs.Members.{in_append}
use Rattle.rules_dictionary.proofs.LookUp.{found_in, is_found}
use Rattle.files.specs.ConciseDcf.{Entry}
use Rattle.rules_services.specs.Effects.{Effect, and_then}
use Rattle.rules_services.specs.Written.{wrote, count_restarted, mode_acted, control_acted, applied}
use Rattle.rules_services.specs.Sdo.{offer_verdict}
use Rattle.rules_services.specs.Load.{is_for_control_word, names_control_word, Loaded, loads, fails, and_rest, goes_on, load_from}
use Rattle.theorems.proofs.Booleans.{eqb_comm, or_false_left, or_false_right, or_both_false}
use Rattle.theorems.proofs.Settled.{mode_in}
use Rattle.theorems.proofs.Writes.{InTable, not_wrote, one_row, stored_append}
use Rattle.output.specs.Leaves.{touches, remaps}
use Rattle.sdo.proofs.Downloading.{good_writable, unsent}
use Rattle.load.specs.declared.Tally.{Tally}
use Rattle.load.specs.Trying.{listing_for, verdict_on, written_by, taking, Tried, tried_with, entries_tried, acted_on}
use Rattle.load.proofs.Offers.{judged_by, entry_judged}
use Rattle.load.proofs.AtRest.{acted_nmt, acted_rests, acted_twice}

-- ---- writes in a row

any_both {ℓ} : {A : Type ℓ} (f : A → Bool) (xs ys : List A) → any f (xs ++ ys) ≡ (any f xs || any f ys)
any_both f [] ys = refl
any_both f (x ∷ xs) ys = ap (λ (b : Bool). f x || b) (any_both f xs ys) ∙ sym (or_assoc (f x) (any f xs) (any f ys))

noted_both : (f : Write → Bool) (b : Bool) (ws vs : List Write) → ((b || any f ws) || any f vs) ≡ (b || any f (ws ++ vs))
noted_both f b ws vs = or_assoc b (any f ws) (any f vs) ∙ ap (λ (c : Bool). b || c) (sym (any_both f ws vs))

-- ---- what an entry writes: a row of the table, not 6040h, and none that is sent

record Fits (ws : List Write) : Type 0 where
  rows : InTable ws
  control : wrote control_word ws ≡ false
  unsent : touches ws ≡ false

-- 6040h has another index
no_control : (x : Row) (i : ℕ) → x.index ≡ i → eqb i control_word.index ≡ false → same control_word x ≡ false
no_control x i is other =
    let c = control_word.index in
    let e : eqb c x.index ≡ false = eqb_comm c x.index ∙ ap (λ (n : ℕ). eqb n c) is ∙ other in
    ap (λ (b : Bool). b && eqb control_word.subindex x.subindex) e

nothing_fits : Fits []
nothing_fits = record { rows = λ w i. absurd (none_in i); control = refl; unsent = refl }

entry_fits : (e : Entry) (d : List ℕ) (f : Found) → lookup e.index e.subindex ≡ f → is_for_control_word e ≡ false →
    verdict_on (listing_for e) f d ≡ good → Fits (written_by (listing_for e) f)
unfolding verdict_on written_by offer_verdict
entry_fits e d (found x) is other fine =
    let i = found_in e.index e.subindex is in
    let at = is_found e.index e.subindex is in
    record {
      rows = one_row (λ w. In w.row table) i;
      control = or_both_false (same control_word x) false (no_control x e.index at.0 other) refl;
      unsent = or_both_false (suits transmit x.mappable) false (unsent i (good_writable (is_writable x.access) _ _ fine)) refl;
    }
entry_fits e d the_name is other fine = nothing_fits
entry_fits e d no_object is other fine = nothing_fits
entry_fits e d no_subindex is other fine = nothing_fits

-- ---- what all of them come to

-- all taken: the effect, and the notes behind those that stood before
pub record Comes (s : State) (d : List ℕ) (t : Tally) (e : Effect) (x : Tried) : Type 0 where
  pub sent : e.sent ≡ []
  pub occasion : e.occasion ≡ Plain
  pub rows : InTable e.writes
  pub unsent : touches e.writes ≡ false
  pub state : e.state ≡ acted_on (wrote heartbeat_time e.writes) (wrote mode e.writes) (stored e.writes d) s
  pub dictionary : x.dictionary ≡ stored e.writes d
  pub last : x.tally.last ≡ Ok tt
  pub heartbeat : x.tally.heartbeat ≡ (t.heartbeat || wrote heartbeat_time e.writes)
  pub mode : x.tally.mode ≡ (t.mode || wrote mode e.writes)
  pub mapping : x.tally.mapping ≡ (t.mapping || remaps e.writes)

-- or the first one that is aborted
abbrev pub Agrees : State → List ℕ → Tally → Tried → Loaded → Type 0
Agrees s d t x (loads e) = Comes s d t e x
Agrees s d t x (fails n a) = (x.tally.tried ≡ n) × (x.tally.last ≡ Err (abort_of a))

module _ (s : State) (d : List ℕ) (rest : is_at_rest s.axis.drive.state ≡ true) {ws : List Write} (fits : Fits ws) where
  -- what one entry leaves
  abbrev left : State
  left = acted_on (wrote heartbeat_time ws) (wrote mode ws) (stored ws d) s

  abbrev taken : Effect
  taken = record { state = left; writes = ws; sent = []; occasion = Plain }

  is_taken_lem : applied ws s d ≡ taken
  unfolding applied count_restarted mode_acted control_acted
  is_taken_lem = rw (fits.control, append-nil)

  -- and then the rest
  and_then_lem : (t : Tally) (x : Tried) (l : Loaded) → Agrees left (stored ws d) (taking ws t) x l → Agrees s d t x (and_rest d (applied ws s d) l)
  unfolding and_then
  and_then_lem t x (fails n a) h = h
  and_then_lem t x (loads e) h =
      let vs = e.writes in
      let sent : Write → Bool = λ v. suits transmit v.row.mappable in
      let is : Row → Write → Bool = λ x v. same x v.row in
      let w : wrote mode vs ≡ false → read (stored vs (stored ws d)) mode ≡ read (stored ws d) mode =
      not_wrote mode vs (stored ws d) mode_in h.rows in
      rw is_taken_lem
      record {
        sent = h.sent;
        occasion = refl;
        rows = λ v i. elim (in_append ws i) [ inl j ↦ fits.rows v j | inr j ↦ h.rows v j ];
        unsent = any_both sent ws vs ∙ or_both_false (touches ws) (touches vs) fits.unsent h.unsent;
        state = rw (any_both (is heartbeat_time) ws vs, any_both (is mode) ws vs, stored_append ws vs d)
            (h.state ∙ acted_twice (wrote heartbeat_time ws) (wrote mode ws) (stored ws d) s rest (wrote heartbeat_time vs) (wrote mode vs) _ w);
        dictionary = h.dictionary ∙ sym (stored_append ws vs d);
        last = h.last;
        heartbeat = h.heartbeat ∙ noted_both _ t.heartbeat ws vs;
        mode = h.mode ∙ noted_both _ t.mode ws vs;
        mapping = h.mapping ∙ noted_both _ t.mapping ws vs;
      }

-- ---- THE LAW

module _ (s : State) (d : List ℕ) (t : Tally) (rest : is_at_rest s.axis.drive.state ≡ true) (es : List Entry) where
  -- by the first one's verdict, where the others come to the same
  by_first : (v : Verdict) (ws : List Write) → (v ≡ good → Fits ws) →
      ((fits : Fits ws) → Agrees (left s d rest fits) (stored ws d) (taking ws t) (entries_tried es (taking ws t) (stored ws d))
      (load_from (suc (suc t.tried)) es (left s d rest fits) (stored ws d))) →
      (let r = tried_with v ws t d in
      Agrees s d t (elim (is_ok r.tally.last) [ true ↦ entries_tried es r.tally r.dictionary | false ↦ r ])
      (goes_on (suc t.tried) d (judged_by v ws s d) (load_from (suc (suc t.tried)) es)))
  unfolding tried_with judged_by goes_on
  by_first (bad a) ws fits others = (add-one t.tried, refl)
  by_first good ws fits others =
      let f = fits refl in
      let is = is_taken_lem s d rest f in
      let x = entries_tried es (taking ws t) (stored ws d) in
      let after : Effect → Loaded = λ e. load_from (suc (suc t.tried)) es e.state (stored e.writes d) in
      and_then_lem s d rest f t x (after (applied ws s d))
      (subst (λ (e : Effect). Agrees (left s d rest f) (stored ws d) (taking ws t) x (after e)) (sym is) (others f))

pub tried_as_loaded : (es : List Entry) (s : State) (d : List ℕ) (t : Tally) → s.node.nmt ≡ PreOperational →
    is_at_rest s.axis.drive.state ≡ true → names_control_word es ≡ false → t.last ≡ Ok tt →
    Agrees s d t (entries_tried es t d) (load_from (suc t.tried) es s d)
unfolding entries_tried load_from stored
tried_as_loaded [] s d t nmt rest other last =
    record {
      sent = refl;
      occasion = refl;
      rows = λ w i. absurd (none_in i);
      unsent = refl;
      state = refl;
      dictionary = refl;
      last = last;
      heartbeat = sym (or-false t.heartbeat);
      mode = sym (or-false t.mode);
      mapping = sym (or-false t.mapping);
    }
tried_as_loaded (e ∷ es) s d t nmt rest other last =
    let f = lookup e.index e.subindex in
    let l = listing_for e in
    let ws = written_by l f in
    rw (entry_judged e s d f nmt refl)
    (by_first s d t rest es (verdict_on l f d) ws (entry_fits e d f refl (or_false_left (is_for_control_word e) (names_control_word es) other))
    (λ fits.
    let u = left s d rest fits in
    let v = taking ws t in
    subst (λ (n : ℕ). Agrees u (stored ws d) v (entries_tried es v (stored ws d)) (load_from (suc n) es u (stored ws d))) (add-one t.tried)
    (tried_as_loaded es u (stored ws d) v (acted_nmt (wrote heartbeat_time ws) (wrote mode ws) (stored ws d) s ∙ nmt)
    (acted_rests (wrote heartbeat_time ws) (wrote mode ws) (stored ws d) s rest)
    (or_false_right (is_for_control_word e) (names_control_word es) other) refl)))
