-- What the rules answer on each way through a call, from the tests that the code makes: the refusals, lowest number first.
-- Assumes nothing.
use Prim.Native.Nat.{ℕ, ◌<◌, ◌≤◌}
use mathlib.Core.Path.{◌≡◌, refl, sym, ◌∙◌, ap}
use mathlib.Core.Bool.{Bool, true, false, cond, ◌&&◌, and-false, false≢true, true≢false}
use mathlib.Core.List.{List, []}
use borrow.Author.Tests.{eq-eqb, ne_eqb, eqb-true, leb-true, le-leb, lt-leb}
use lib.Dec.{eqb, leb}
use lib.ListN.{length}
use Rattle.std.specs.Prelude.{Result, Ok, Err, is_err, IsErrAnd}
use Rattle.std.proofs.lemmas.Result.{err_from_is_err_and}
use Rattle.state.specs.declared.State.{State}
use Rattle.state.specs.declared.Refusal.{Refusal}
use Rattle.state.specs.declared.Refusal.TheVariants.{DictionaryLength, OutputLength, NodeId, NotSound, BadFrame, BadEvent, OutOfPlace}
use Rattle.rules_dictionary.specs.TheNode.{first_node, last_node, is_node_id}
use Rattle.rules_dictionary.specs.Table.{dictionary_length}
use Rattle.rules_dictionary.proofs.Tests.{and_both, and_left, and_right}
use Rattle.rules_services.specs.Nmt.{power_up}
use Rattle.std.specs.Prelude.{Option, Some, None}
use Rattle.rules_services.specs.declared.Event.{Event}
use Rattle.rules_services.specs.Events.{event_of, is_in_place, happens}
use Rattle.rules.specs.Outcome.{most_data}
use Rattle.rules.specs.Sound.{sound}
use Rattle.rules.specs.Calls.{Call, power_up_call, frame_call, event_call, Decision, refuses, does, framed, event_decision, decision}
use Rattle.rules.specs.Calls.{decided, refused}
use Rattle.rules.specs.Calls.{answered, answer, output_length, output_for, last_frame_identifier, load_call}
use Rattle.theorems.proofs.Runs.{passed}
use Rattle.theorems.proofs.Booleans.{clash}
use Rattle.form.specs.Form.{state_length, state_of, form, is_form}
use Rattle.form.specs.Typed.{Typed}
use Rattle.form.proofs.Rows.{length_form}
use Rattle.form.proofs.OneForm.{state_of_form, is_form_form}
use Rattle.calls.specs.Opening.{refused_for, not_refused, lending, then_by, opening, holds_sound, opening_of, loadable_of}
use Rattle.calls.specs.Answers.{outcome, refused_answer}
use Rattle.calls.specs.Ending.{Stands}

-- ---- a decision, where its test is known

fails : (b : Bool) (x y : Decision) → b ≡ false → elim b [ true ↦ x | false ↦ y ] ≡ y
fails b x y e = ap (λ (c : Bool). elim c [ true ↦ x | false ↦ y ]) e

-- ---- the first refusals, by the tests that the code makes

-- the reason, where there is one
abbrev pub why_of : Result (Unit {0}) Refusal → Refusal
why_of (Ok x) = NotSound
why_of (Err e) = e

pub fails_so : {x : Result (Unit {0}) Refusal} {e : Refusal} → Err e ≡ x → is_err x ≡ true
fails_so h = ap (λ (y : Result (Unit {0}) Refusal). is_err y) (sym h)

pub passes_so : {x : Result (Unit {0}) Refusal} {u : Unit {0}} → Ok u ≡ x → is_err x ≡ false
passes_so h = ap (λ (y : Result (Unit {0}) Refusal). is_err y) (sym h)

-- what `?` hands on
pub handed_on : {e : Refusal} {r : Result (Unit {0}) Refusal} → IsErrAnd r (λ w. w ≡ e) → r ≡ Err e
handed_on {e} {r} h =
    let k = err_from_is_err_and r h in
    k.1 ∙ ap (λ (w : Refusal). Err w) k.2

-- bytes that hold a sound state, and bytes that do not
pub held_well : (bs d : List ℕ) (b : Bool) → holds_sound bs d ≡ b → cond b not_refused (refused_for NotSound)
    ≡ cond (holds_sound bs d) not_refused (refused_for NotSound)
held_well bs d b e = ap (λ (c : Bool). cond c not_refused (refused_for NotSound)) (sym e)

module _ (d o : List ℕ) where
  pub other_length : (length d ≡ dictionary_length → ⊥) → refused_for DictionaryLength ≡ lending d o
  unfolding lending
  other_length n = rw (ne_eqb (length d) dictionary_length n)

  module _ (e : length d ≡ dictionary_length) where
    pub no_room : length o < output_length → refused_for OutputLength ≡ lending d o
    unfolding lending
    no_room h = rw (eq-eqb (length d) dictionary_length e, lt-leb output_length (length o) h)

    pub well_lent : output_length ≤ length o → not_refused ≡ lending d o
    unfolding lending
    well_lent h = rw (eq-eqb (length d) dictionary_length e, le-leb output_length (length o) h)

  -- where it is not refused, it is not for any reason
  pub lent_well : is_err (lending d o) ≡ false → lending d o ≡ not_refused
  unfolding lending
  lent_well h = go (eqb (length d) dictionary_length) (leb output_length (length o)) h
    where
      go : (a b : Bool) → is_err (cond a (cond b not_refused (refused_for OutputLength)) (refused_for DictionaryLength)) ≡ false →
          cond a (cond b not_refused (refused_for OutputLength)) (refused_for DictionaryLength) ≡ not_refused
      go true true h = refl
      go true false h = absurd (true≢false h)
      go false b h = absurd (true≢false h)

  pub lengths : is_err (lending d o) ≡ false → (length d ≡ dictionary_length) × (output_length ≤ length o)
  unfolding lending
  lengths h = go (eqb (length d) dictionary_length) (leb output_length (length o)) refl refl h
    where
      go : (a b : Bool) → eqb (length d) dictionary_length ≡ a → leb output_length (length o) ≡ b →
          is_err (cond a (cond b not_refused (refused_for OutputLength)) (refused_for DictionaryLength)) ≡ false →
          (length d ≡ dictionary_length) × (output_length ≤ length o)
      go true true e f k = (eqb-true _ _ e, leb-true _ _ f)
      go true false e f k = absurd (true≢false k)
      go false b e f k = absurd (true≢false k)

  -- and then by another test
  module _ (passes : Bool) (why : Refusal) where
    pub opens_not : {e : Refusal} → Err e ≡ lending d o → Err e ≡ then_by passes why d o
    unfolding then_by
    opens_not h = rw (← h) refl

    pub opens_by : {u : Unit {0}} → Ok u ≡ lending d o → (b : Bool) → passes ≡ b → cond b not_refused (refused_for why) ≡ then_by passes why d o
    unfolding then_by
    opens_by h b e = rw (← h, e)

    pub passes_both : is_err (then_by passes why d o) ≡ false → (is_err (lending d o) ≡ false) × (passes ≡ true)
    unfolding then_by
    passes_both h = go (is_err (lending d o)) passes refl refl h
      where
        go : (a b : Bool) → is_err (lending d o) ≡ a → passes ≡ b → is_err (cond a (lending d o) (cond b not_refused (refused_for why))) ≡ false →
            (is_err (lending d o) ≡ false) × (passes ≡ true)
        go true b e f k = clash (is_err (lending d o)) e k
        go false false e f k = absurd (true≢false k)
        go false true e f k = (e, f)

-- ---- of every call that is lent output: what is lent

module _ (c : Call) (s : State) (d o : List ℕ) (asks : output_for c ≡ output_length) where
  -- a refusal by what is lent
  pub not_lent : is_err (lending d o) ≡ true → outcome (refused_answer (why_of (lending d o)) s) d o ≡ answer c s d o
  unfolding lending answer decided answered refused
  not_lent h =
      let asked : ℕ → Decision = λ n.
      elim (eqb (length d) dictionary_length) [
        | true ↦ elim (leb n (length o)) [ true ↦ decision c s d | false ↦ refuses OutputLength ]
        | false ↦ refuses DictionaryLength
      ] in
      go (eqb (length d) dictionary_length) (leb output_length (length o)) h ∙ ap (λ (n : ℕ). answered (asked n) s d o) (sym asks)
    where
      go : (a b : Bool) → is_err (cond a (cond b not_refused (refused_for OutputLength)) (refused_for DictionaryLength)) ≡ true →
          outcome (refused_answer (why_of (cond a (cond b not_refused (refused_for OutputLength)) (refused_for DictionaryLength))) s) d o
          ≡ answered (elim a [ true ↦ elim b [ true ↦ decision c s d | false ↦ refuses OutputLength ] | false ↦ refuses DictionaryLength ]) s d o
      go false b h = refl
      go true false h = refl
      go true true h = absurd (false≢true h)

  module _ (h : is_err (lending d o) ≡ false) where
    -- then what is decided of the call
    pub decides : (x : Decision) → decision c s d ≡ x → answer c s d o ≡ answered x s d o
    unfolding answer decided
    decides x e =
        let l = lengths d o h in
        ap (λ (y : Decision). answered y s d o)
        (passed (eqb (length d) dictionary_length) _ (refuses DictionaryLength) (eq-eqb (length d) dictionary_length l.0)
        ∙ passed (leb (output_for c) (length o)) (decision c s d) (refuses OutputLength) (rw asks (le-leb output_length (length o) l.1)) ∙ e)

    pub decides_not : (why : Refusal) → decision c s d ≡ refuses why → outcome (refused_answer why s) d o ≡ answer c s d o
    unfolding answered refused
    decides_not why e = sym (decides (refuses why) e)

-- ---- and then by the test of the call

module _ (c : Call) (s : State) (d o : List ℕ) (asks : output_for c ≡ output_length) {passes : Bool} {why : Refusal}
    (fails_by : passes ≡ false → decision c s d ≡ refuses why) where
  not_opened_lem : is_err (then_by passes why d o) ≡ true → outcome (refused_answer (why_of (then_by passes why d o)) s) d o ≡ answer c s d o
  unfolding then_by
  not_opened_lem h = go (is_err (lending d o)) passes refl refl h
    where
      go : (a b : Bool) → is_err (lending d o) ≡ a → passes ≡ b → is_err (cond a (lending d o) (cond b not_refused (refused_for why))) ≡ true →
          outcome (refused_answer (why_of (cond a (lending d o) (cond b not_refused (refused_for why)))) s) d o ≡ answer c s d o
      go true b e f k = not_lent c s d o asks e
      go false false e f k = decides_not c s d o asks e why (fails_by f)
      go false true e f k = absurd (false≢true k)

  pub not_opened : {e : Refusal} → Err e ≡ then_by passes why d o → outcome (refused_answer e s) d o ≡ answer c s d o
  not_opened {e} h =
      let q : e ≡ why_of (then_by passes why d o) = ap why_of h in rw q (not_opened_lem (fails_so h))

-- what stands is lent well
pub stands_lent : {s : State} {d o : List ℕ} → Stands s d o → is_err (lending d o) ≡ false
stands_lent {s} {d} {o} h = rw (← (well_lent d o h.long h.room))

-- a state as its bytes
pub opens_form : (s : State) (d o : List ℕ) → Typed s → opening_of (form s) d o ≡ opening s d o
opens_form s d o t = rw (eq-eqb (length (form s)) state_length (length_form s t), is_form_form s t, state_of_form s t)

-- bytes of the right length, and of another
pub held_by : (bs d : List ℕ) → length bs ≡ state_length → holds_sound bs d ≡ (is_form bs && sound (state_of bs) d)
held_by bs d l = ap (λ (b : Bool). b && (is_form bs && sound (state_of bs) d)) (eq-eqb (length bs) state_length l)

pub held_not : (bs d : List ℕ) → (length bs ≡ state_length → ⊥) → holds_sound bs d ≡ false
held_not bs d n = ap (λ (b : Bool). b && (is_form bs && sound (state_of bs) d)) (ne_eqb (length bs) state_length n)

-- bytes that pass: they hold a state, and it stands
pub opened_in : (bs d o : List ℕ) → is_err (opening_of bs d o) ≡ false → (length bs ≡ state_length) × ((is_form bs ≡ true) × Stands (state_of bs) d o)
opened_in bs d o h =
    let p = passes_both d o (holds_sound bs d) NotSound h in
    let l = lengths d o p.0 in
    let q = and_right (eqb (length bs) state_length) _ p.1 in (
      eqb-true (length bs) state_length (and_left (eqb (length bs) state_length) _ p.1),
      (and_left (is_form bs) _ q, record { long = l.0; room = l.1; sound = and_right (is_form bs) _ q }),
    )

-- ---- a load, which is lent no output

module _ (bs d : List ℕ) where
  pub load_other_length : (length d ≡ dictionary_length → ⊥) → refused_for DictionaryLength ≡ loadable_of bs d
  unfolding loadable_of
  load_other_length n = rw (ne_eqb (length d) dictionary_length n)

  pub load_opens_by : length d ≡ dictionary_length → cond (holds_sound bs d) not_refused (refused_for NotSound) ≡ loadable_of bs d
  unfolding loadable_of
  load_opens_by l = rw (eq-eqb (length d) dictionary_length l)

  -- bytes that pass: they hold a state, and it is sound
  pub loadable_in : is_err (loadable_of bs d) ≡ false →
      (length bs ≡ state_length) × ((is_form bs ≡ true) × ((length d ≡ dictionary_length) × (sound (state_of bs) d ≡ true)))
  unfolding loadable_of
  loadable_in h = go (eqb (length d) dictionary_length) (holds_sound bs d) refl refl h
    where
      go : (a b : Bool) → eqb (length d) dictionary_length ≡ a → holds_sound bs d ≡ b →
          is_err (cond a (cond b not_refused (refused_for NotSound)) (refused_for DictionaryLength)) ≡ false →
          (length bs ≡ state_length) × ((is_form bs ≡ true) × ((length d ≡ dictionary_length) × (sound (state_of bs) d ≡ true)))
      go false b e k r = absurd (true≢false r)
      go true false e k r = absurd (true≢false r)
      go true true e k r =
          let q = and_right (eqb (length bs) state_length) _ k in (
            eqb-true (length bs) state_length (and_left (eqb (length bs) state_length) _ k),
            (and_left (is_form bs) _ q, (eqb-true _ _ e, and_right (is_form bs) _ q)),
          )

-- what the rules answer then, whatever the file
module _ (f : List ℕ) (s : State) (d : List ℕ) where
  pub load_no_length : eqb (length d) dictionary_length ≡ false → answer (load_call f) s d [] ≡ refused DictionaryLength s d []
  unfolding answer decided answered
  load_no_length e = ap (λ (x : Decision). answered x s d []) (fails (eqb (length d) dictionary_length) _ (refuses DictionaryLength) e)

  pub load_unsound : eqb (length d) dictionary_length ≡ true → sound s d ≡ false → answer (load_call f) s d [] ≡ refused NotSound s d []
  unfolding answer decided decision answered
  load_unsound e h =
      ap (λ (x : Decision). answered x s d [])
      (passed (eqb (length d) dictionary_length) _ (refuses DictionaryLength) e ∙ fails (sound s d) _ (refuses NotSound) h)

-- a state as its bytes
pub load_opens_form : (s : State) (d : List ℕ) → Typed s → loadable_of (form s) d
    ≡ cond (eqb (length d) dictionary_length) (cond (sound s d) not_refused (refused_for NotSound)) (refused_for DictionaryLength)
unfolding loadable_of
load_opens_form s d t = rw (eq-eqb (length (form s)) state_length (length_form s t), is_form_form s t, state_of_form s t)

-- ---- power-up: the node-ID

module _ (n : ℕ) where
  pub node_low : n < first_node → is_node_id n ≡ false
  node_low h = ap (λ (b : Bool). b && leb n last_node) (lt-leb first_node n h)

  pub node_high : last_node < n → is_node_id n ≡ false
  node_high h = ap (λ (b : Bool). leb first_node n && b) (lt-leb n last_node h) ∙ and-false (leb first_node n)

  pub a_node_id : first_node ≤ n → n ≤ last_node → is_node_id n ≡ true
  a_node_id l h = and_both (leb first_node n) (leb n last_node) (le-leb first_node n l) (le-leb n last_node h)

  pub node_between : is_node_id n ≡ true → (first_node ≤ n) × (n ≤ last_node)
  node_between h = (leb-true first_node n (and_left (leb first_node n) _ h), leb-true n last_node (and_right (leb first_node n) _ h))

  module _ (s : State) (d : List ℕ) where
    pub no_node : is_node_id n ≡ false → decision (power_up_call n) s d ≡ refuses NodeId
    unfolding decision
    no_node h = fails (is_node_id n) (does (power_up n)) (refuses NodeId) h

    pub a_node : is_node_id n ≡ true → decision (power_up_call n) s d ≡ does (power_up n)
    unfolding decision
    a_node h = passed (is_node_id n) (does (power_up n)) (refuses NodeId) h

-- ---- a frame and an event: soundness first

module _ (i : ℕ) (bs : List ℕ) (s : State) (d : List ℕ) where
  pub unsound_frame : sound s d ≡ false → decision (frame_call i bs) s d ≡ refuses NotSound
  unfolding decision
  unsound_frame h = fails (sound s d) _ (refuses NotSound) h

  module _ (h : sound s d ≡ true) where
    formed : decision (frame_call i bs) s d
        ≡ elim (leb i last_frame_identifier && leb (length bs) most_data) [ true ↦ does (framed i bs s d) | false ↦ refuses BadFrame ]
    unfolding decision
    formed = passed (sound s d) _ (refuses NotSound) h

    malformed : (leb i last_frame_identifier && leb (length bs) most_data) ≡ false → decision (frame_call i bs) s d ≡ refuses BadFrame
    malformed e = formed ∙ fails (leb i last_frame_identifier && leb (length bs) most_data) (does (framed i bs s d)) (refuses BadFrame) e

    pub no_identifier : last_frame_identifier < i → decision (frame_call i bs) s d ≡ refuses BadFrame
    no_identifier g = malformed (ap (λ (b : Bool). b && leb (length bs) most_data) (lt-leb i last_frame_identifier g))

    pub too_long : most_data < length bs → decision (frame_call i bs) s d ≡ refuses BadFrame
    too_long k =
        malformed (ap (λ (b : Bool). leb i last_frame_identifier && b) (lt-leb (length bs) most_data k)
        ∙ and-false (leb i last_frame_identifier))

    pub a_frame : i ≤ last_frame_identifier → length bs ≤ most_data → decision (frame_call i bs) s d ≡ does (framed i bs s d)
    a_frame g k =
        formed
        ∙ passed (leb i last_frame_identifier && leb (length bs) most_data) (does (framed i bs s d)) (refuses BadFrame)
        (and_both (leb i last_frame_identifier) (leb (length bs) most_data) (le-leb i last_frame_identifier g) (le-leb (length bs) most_data k))

module _ (k : ℕ) (xs : List ℕ) (s : State) (d : List ℕ) where
  pub unsound_event : sound s d ≡ false → decision (event_call k xs) s d ≡ refuses NotSound
  unfolding decision
  unsound_event h = fails (sound s d) (event_decision (event_of k xs) s d) (refuses NotSound) h

  an_event : sound s d ≡ true → decision (event_call k xs) s d ≡ event_decision (event_of k xs) s d
  unfolding decision
  an_event h = passed (sound s d) (event_decision (event_of k xs) s d) (refuses NotSound) h

  -- by the event that was told
  pub told_event : sound s d ≡ true → (t : Option Event) → t ≡ event_of k xs → decision (event_call k xs) s d ≡ event_decision t s d
  told_event h t e = an_event h ∙ ap (λ (x : Option Event). event_decision x s d) (sym e)

  -- a bad one, one out of place, and one in place
  pub bad_told : sound s d ≡ true → None ≡ event_of k xs → decision (event_call k xs) s d ≡ refuses BadEvent
  unfolding event_decision
  bad_told h e = told_event h None e

  module _ (h : sound s d ≡ true) (e : Event) (told : Some e ≡ event_of k xs) where
    pub out_of_place : is_in_place e s ≡ false → decision (event_call k xs) s d ≡ refuses OutOfPlace
    unfolding event_decision
    out_of_place p = told_event h (Some e) told ∙ fails (is_in_place e s) (does (happens e s d)) (refuses OutOfPlace) p

    pub in_place : is_in_place e s ≡ true → decision (event_call k xs) s d ≡ does (happens e s d)
    unfolding event_decision
    in_place p = told_event h (Some e) told ∙ passed (is_in_place e s) (does (happens e s d)) (refuses OutOfPlace) p
