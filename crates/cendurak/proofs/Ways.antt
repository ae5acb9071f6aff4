-- What the rules leave on each way through a C call, from the tests that the code makes.
-- Assumes nothing.
use Prim.Native.Nat.{ℕ}
use mathlib.Core.Path.{◌≡◌, refl, sym, ◌∙◌, ap}
use mathlib.Core.Bool.{Bool, true, false, cond, ◌&&◌, false≢true, true≢false}
use mathlib.Core.List.{List, []}
use borrow.Author.Tests.{eq-eqb, ne_eqb}
use lib.Dec.{eqb, leb}
use lib.ListN.{length}
use Rattle.std.specs.Prelude.{Err, is_err}
use Rattle.state.specs.declared.Refusal.{Refusal}
use Rattle.state.specs.declared.Refusal.TheVariants.{Accepted, DictionaryLength, OutputLength, NodeId, NotSound, BadFrame, BadEvent, OutOfPlace}
use Rattle.state.specs.declared.Refusal.TheVariants.{WrongState, FileTooShort, TooManyEntries, FileMisfit, ControlWordEntry, EntryAborted}
use Rattle.rules_dictionary.specs.TheNode.{is_node_id}
use Rattle.rules_services.specs.Nmt.{power_up}
use Rattle.rules_dictionary.specs.Table.{dictionary_length}
use Rattle.rules_dictionary.proofs.Tests.{and_left, and_right}
use Rattle.rules.specs.Sound.{sound}
use Rattle.rules.specs.Calls.{Call, power_up_call, frame_call, event_call, Outcome, decision, decided, refuses, does, refused, accepted, answered}
use Rattle.rules_services.specs.Load.{nothing_named}
use Rattle.rules.specs.Calls.{answer, output_length, output_for, load_call, is_aborted, load_answer}
use Rattle.form.specs.Form.{state_length, state_of, form, is_form}
use Rattle.calls.specs.declared.Given.{Given}
use Rattle.calls.specs.declared.LoadGiven.{LoadGiven}
use Rattle.calls.specs.Answers.{outcome, refused_answer, Answers}
use Rattle.calls.specs.Loads.{LoadAnswers}
use Rattle.calls.specs.Opening.{refused_for, not_refused, lending, then_by, powering, holds_sound, opening_of, loadable_of}
use Rattle.calls.proofs.Refusals.{not_lent, decides, decides_not, passes_both, no_node, a_node, unsound_frame, unsound_event, load_no_length}
use Rattle.calls.proofs.Refusals.{load_unsound, why_of, fails_so}
use Rattle.cendurak.specs.Boundary.{Left, status, state_after, left_by, refused_with, is_given, has_node, without, lent_answer, left}
use Rattle.cendurak.specs.Boundary.{LoadLeft, load_status, left_by_load, load_refused_with, lent_load, load_left}

-- the refusals below 4, by what is lent and the node-ID
without_by : Bool → Bool → Bool → Refusal
without_by a b n =
    elim a [ true ↦ elim b [ true ↦ elim n [ true ↦ NotSound | false ↦ NodeId ] | false ↦ OutputLength ] | false ↦ DictionaryLength ]

module _ (c : Call) (bs d o : List ℕ) where
  -- one of the two ways, by whether the bytes are a state
  lent_by : Bool → Left
  lent_by b = elim b [ true ↦ left_by (answer c (state_of bs) d o) bs | false ↦ refused_with (without c d o) bs d o ]

  -- a refusal, whether or not the bytes are a state
  refuses_by : (why : Refusal) → (is_given c bs ≡ true → outcome (refused_answer why (state_of bs)) d o ≡ answer c (state_of bs) d o) →
      (is_given c bs ≡ false → without c d o ≡ why) → state_after why (form (state_of bs)) bs ≡ bs → left (status why 0) bs d o ≡ lent_answer c bs d o
  unfolding lent_answer lent_by left_by refused_with
  refuses_by why answered w stays = go (is_given c bs) refl
    where
      go : (b : Bool) → is_given c bs ≡ b → left (status why 0) bs d o ≡ lent_by b
      go true g = ap (λ (x : List ℕ). left (status why 0) x d o) (sym stays) ∙ ap (λ (x : Outcome). left_by x bs) (answered g)
      go false g = ap (λ (r : Refusal). refused_with r bs d o) (sym (w g))

  -- a call that asks for output is refused by the output's length
  as_asked : output_for c ≡ output_length →
      without c d o ≡ without_by (eqb (length d) dictionary_length) (leb output_length (length o)) (has_node c)
  unfolding without without_by
  as_asked asks = ap (λ (n : ℕ). without_by (eqb (length d) dictionary_length) (leb n (length o)) (has_node c)) asks

  -- by the lengths of what is lent
  not_lent_in : output_for c ≡ output_length → is_err (lending d o) ≡ true → left (status (why_of (lending d o)) 0) bs d o ≡ lent_answer c bs d o
  unfolding lending without without_by
  not_lent_in asks h =
      let k = go (eqb (length d) dictionary_length) (leb output_length (length o)) h in
      refuses_by (why_of (lending d o)) (λ g. not_lent c (state_of bs) d o asks h) (λ g. as_asked asks ∙ k.0) k.1
    where
      go : (a b : Bool) → is_err (cond a (cond b not_refused (refused_for OutputLength)) (refused_for DictionaryLength)) ≡ true →
          let why = why_of (cond a (cond b not_refused (refused_for OutputLength)) (refused_for DictionaryLength)) in
          (without_by a b (has_node c) ≡ why) × (state_after why (form (state_of bs)) bs ≡ bs)
      go true true h = absurd (false≢true h)
      go true false h = (refl, refl)
      go false b h = (refl, refl)

  -- with the lengths right: the node-ID of power-up, and else that there is no state
  without_lent : output_for c ≡ output_length → is_err (lending d o) ≡ false → (n : Bool) → has_node c ≡ n → without c d o ≡ without_by true true n
  unfolding lending without without_by
  without_lent asks h n e = as_asked asks ∙ go (eqb (length d) dictionary_length) (leb output_length (length o)) h
    where
      go : (a b : Bool) → is_err (cond a (cond b not_refused (refused_for OutputLength)) (refused_for DictionaryLength)) ≡ false →
          without_by a b (has_node c) ≡ without_by true true n
      go true true h = ap (without_by true true) e
      go true false h = absurd (true≢false h)
      go false b h = absurd (true≢false h)

  -- and then by the test of the call
  module _ (asks : output_for c ≡ output_length) {passes : Bool} {why : Refusal}
      (fails : passes ≡ false → is_given c bs ≡ true → decision c (state_of bs) d ≡ refuses why)
      (w : is_err (lending d o) ≡ false → passes ≡ false → without c d o ≡ why) (stays : state_after why (form (state_of bs)) bs ≡ bs) where
    refused_by_lem : is_err (then_by passes why d o) ≡ true → left (status (why_of (then_by passes why d o)) 0) bs d o ≡ lent_answer c bs d o
    unfolding then_by
    refused_by_lem h = go (is_err (lending d o)) passes refl refl h
      where
        go : (a b : Bool) → is_err (lending d o) ≡ a → passes ≡ b → is_err (cond a (lending d o) (cond b not_refused (refused_for why))) ≡ true →
            left (status (why_of (cond a (lending d o) (cond b not_refused (refused_for why)))) 0) bs d o ≡ lent_answer c bs d o
        go true b e f k = not_lent_in asks e
        go false false e f k = refuses_by why (λ g. decides_not c (state_of bs) d o asks e why (fails f g)) (λ g. w e f) stays
        go false true e f k = absurd (false≢true k)

  -- the call was made
  pub made : is_given c bs ≡ true → let x = answer c (state_of bs) d o in form x.state ≡ state_after x.refusal (form x.state) bs →
      (r : Given) (k : ℕ) (bs' d' o' : List ℕ) → Answers x r bs' d' o' → k ≡ status r.refusal r.frames →
      left k bs' d' o' ≡ lent_answer c bs d o
  unfolding lent_answer lent_by left_by
  made g after r k bs' d' o' h e =
      let x = answer c (state_of bs) d o in
      rw (e, h.refusal, h.frames, h.dictionary, h.output)
      (ap (λ (xs : List ℕ). left (status x.refusal x.frames) xs x.dictionary x.output) (h.state.bytes ∙ after) ∙ ap lent_by (sym g))

  -- where the bytes are a state's form, a refused call's answer has them
  pub as_given : form (state_of bs) ≡ bs →
      let x = answer c (state_of bs) d o in form x.state ≡ state_after x.refusal (form x.state) bs
  unfolding answer answered refused accepted
  as_given own =
      elim (decided c (state_of bs) d o) as
      (λ y. form (answered y (state_of bs) d o).state ≡ state_after (answered y (state_of bs) d o).refusal (form (answered y
      (state_of bs) d o).state) bs)
      [ refuses why ↦ either_way why | does e ↦ refl ]
    where
      either_way : (why : Refusal) → form (state_of bs) ≡ state_after why (form (state_of bs)) bs
      either_way Accepted = refl
      either_way DictionaryLength = own
      either_way OutputLength = own
      either_way NodeId = own
      either_way NotSound = own
      either_way BadFrame = own
      either_way BadEvent = own
      either_way OutOfPlace = own
      either_way WrongState = own
      either_way FileTooShort = own
      either_way TooManyEntries = own
      either_way FileMisfit = own
      either_way ControlWordEntry = own
      either_way EntryAborted = own

-- ---- power-up

module _ (n : ℕ) (bs d o : List ℕ) where
  pub not_powered : {e : Refusal} → Err e ≡ powering n d o → left (status e 0) bs d o ≡ lent_answer (power_up_call n) bs d o
  unfolding without_by
  not_powered {e} h =
      let q : e ≡ why_of (powering n d o) = ap why_of h in
      rw q
      (refused_by_lem (power_up_call n) bs d o refl (λ x g. no_node n (state_of bs) d x)
      (λ l x. without_lent (power_up_call n) bs d o refl l false x) refl (fails_so h))

  -- a state of another length
  pub no_room_for_state : is_err (powering n d o) ≡ false → (length bs ≡ state_length → ⊥) →
      left (status NotSound 0) bs d o ≡ lent_answer (power_up_call n) bs d o
  unfolding without_by
  no_room_for_state h l =
      let p = passes_both d o (is_node_id n) NodeId h in
      let other : eqb (length bs) state_length ≡ false = ne_eqb (length bs) state_length l in
      refuses_by (power_up_call n) bs d o NotSound (λ g. absurd (false≢true (sym other ∙ g)))
      (λ g. without_lent (power_up_call n) bs d o refl p.0 true p.1) refl

  -- a power-up that nothing refuses
  pub powered : is_err (powering n d o) ≡ false →
      let x = answer (power_up_call n) (state_of bs) d o in form x.state ≡ state_after x.refusal (form x.state) bs
  unfolding answered accepted
  powered h =
      let p = passes_both d o (is_node_id n) NodeId h in
      rw (decides (power_up_call n) (state_of bs) d o refl p.0 (does (power_up n)) (a_node n (state_of bs) d p.1))

-- ---- a frame or an event: the state that the bytes hold

-- bytes that are a state's, and are not sound
unsound_in : (bs d : List ℕ) → holds_sound bs d ≡ false → (eqb (length bs) state_length && is_form bs) ≡ true → sound (state_of bs) d ≡ false
unsound_in bs d h g =
    let long = and_left (eqb (length bs) state_length) _ g in
    let own = and_right (eqb (length bs) state_length) _ g in
    rw (long, own) at h

module _ (i : ℕ) (xs bs d o : List ℕ) where
  pub frame_not_opened : {e : Refusal} → Err e ≡ opening_of bs d o → left (status e 0) bs d o ≡ lent_answer (frame_call i xs) bs d o
  unfolding without_by
  frame_not_opened {e} h =
      let q : e ≡ why_of (opening_of bs d o) = ap why_of h in
      rw q
      (refused_by_lem (frame_call i xs) bs d o refl (λ x g. unsound_frame i xs (state_of bs) d (unsound_in bs d x g))
      (λ l x. without_lent (frame_call i xs) bs d o refl l true refl) refl (fails_so h))

  pub event_not_opened : {e : Refusal} → Err e ≡ opening_of bs d o → left (status e 0) bs d o ≡ lent_answer (event_call i xs) bs d o
  unfolding without_by
  event_not_opened {e} h =
      let q : e ≡ why_of (opening_of bs d o) = ap why_of h in
      rw q
      (refused_by_lem (event_call i xs) bs d o refl (λ x g. unsound_event i xs (state_of bs) d (unsound_in bs d x g))
      (λ l x. without_lent (event_call i xs) bs d o refl l true refl) refl (fails_so h))

pub a_form : (bs : List ℕ) → length bs ≡ state_length → is_form bs ≡ true → (eqb (length bs) state_length && is_form bs) ≡ true
a_form bs h f = ap (λ (b : Bool). b && is_form bs) (eq-eqb (length bs) state_length h) ∙ f

-- ---- a load

module _ (f bs d : List ℕ) where
  -- one of the two ways, by whether the bytes are a state
  load_by : Bool → LoadLeft
  load_by b = elim b [ true ↦ left_by_load (load_answer f (state_of bs) d) bs | false ↦ load_refused_with (without (load_call f) d []) bs d ]

  -- a refusal before the file is looked at, whether or not the bytes are a state
  load_refuses : (why : Refusal) → is_aborted why ≡ false → state_after why (form (state_of bs)) bs ≡ bs →
      (is_given (load_call f) bs ≡ true → answer (load_call f) (state_of bs) d [] ≡ refused why (state_of bs) d []) →
      (is_given (load_call f) bs ≡ false → without (load_call f) d [] ≡ why) → load_left (load_status why nothing_named) bs d ≡ lent_load f bs d
  unfolding lent_load load_by left_by_load load_refused_with load_answer refused
  load_refuses why other stays answered w = go (is_given (load_call f) bs) refl
    where
      go : (b : Bool) → is_given (load_call f) bs ≡ b → load_left (load_status why nothing_named) bs d ≡ load_by b
      go true g = rw (answered g, other) (ap (λ (x : List ℕ). load_left (load_status why nothing_named) x d) (sym stays))
      go false g = ap (λ (r : Refusal). load_refused_with r bs d) (sym (w g))

  -- without a state, by whether the dictionary is as long as it should be
  unheld : Bool → Refusal
  unheld b = elim b [ true ↦ NotSound | false ↦ DictionaryLength ]

  pub load_not_opened : {e : Refusal} → Err e ≡ loadable_of bs d → load_left (load_status e nothing_named) bs d ≡ lent_load f bs d
  unfolding loadable_of without unheld
  load_not_opened {e} h =
      let q : e ≡ why_of (loadable_of bs d) = ap why_of h in
      rw q (go (eqb (length d) dictionary_length) (holds_sound bs d) refl refl (fails_so h))
    where
      go : (a b : Bool) → eqb (length d) dictionary_length ≡ a → holds_sound bs d ≡ b →
          is_err (cond a (cond b not_refused (refused_for NotSound)) (refused_for DictionaryLength)) ≡ true →
          load_left (load_status (why_of (cond a (cond b not_refused (refused_for NotSound)) (refused_for DictionaryLength))) nothing_named) bs d
          ≡ lent_load f bs d
      go false b e k r = load_refuses DictionaryLength refl refl (λ g. load_no_length f (state_of bs) d e) (λ g. ap unheld e)
      go true false e k r =
          load_refuses NotSound refl refl (λ g. load_unsound f (state_of bs) d e (unsound_in bs d k g)) (λ g. ap unheld e)
      go true true e k r = absurd (false≢true r)

  -- the load was made
  pub load_made : is_given (load_call f) bs ≡ true → form (state_of bs) ≡ bs → (r : LoadGiven) (k : ℕ) (bs' d' : List ℕ) →
      LoadAnswers (load_answer f (state_of bs) d) r bs' d' → k ≡ load_status r.refusal (record { entry = r.entry; code = r.code }) →
      load_left k bs' d' ≡ lent_load f bs d
  unfolding lent_load load_by left_by_load load_answer
  load_made g own r k bs' d' h e =
      let x = load_answer f (state_of bs) d in
      rw (e, h.refusal, h.entry, h.code, h.dictionary)
      (ap (λ (xs : List ℕ). load_left (load_status x.refusal x.named) xs x.dictionary)
      (h.state.bytes ∙ as_given (load_call f) bs d [] own) ∙ ap load_by (sym g))
