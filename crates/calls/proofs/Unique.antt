-- Each public call's promise determines everything: any two answers that it allows, with every lent byte, are the same; so of a call on a state
-- that stays in its bytes. It is stated of the contract as Rattle reads it (`Reads`), and not of a copy.
-- Assumes nothing.
use Prim.Native.Nat.{ℕ}
use mathlib.Core.Path.{◌≡◌, sym, ◌∙◌, ap}
use mathlib.Core.List.{List}
use borrow.Fn.World.{ArgsD, ResD}
use borrow.Fn.Kinds.{ended_of}
use contract.Lifetimes.{Lfts}
use denote.Triple.Clauses.{AtExit}
use Rattle.state.specs.declared.State.{State}
use Rattle.state.specs.declared.Refusal.{Refusal}
use Rattle.state.specs.declared.Answer.{Answer}
use Rattle.rules.specs.Calls.{Outcome, LoadOutcome}
use Rattle.form.specs.Form.{state_of}
use Rattle.calls.specs.declared.Given.{Given}
use Rattle.calls.specs.declared.LoadGiven.{LoadGiven}
use Rattle.calls.specs.declared.LoadAnswer.{LoadAnswer}
use Rattle.calls.specs.Answers.{outcome, Answers}
use Rattle.calls.specs.Loads.{load_outcome}
use Rattle.calls.specs.contracts.power_up as power_up_lem
use Rattle.calls.proofs.power_up.Kinds as power_up_kinds
use Rattle.calls.proofs.power_up.Reads as power_up_reads
use Rattle.calls.specs.contracts.frame as frame
use Rattle.calls.proofs.frame.Kinds as frame_kinds
use Rattle.calls.proofs.frame.Reads as frame_reads
use Rattle.calls.specs.contracts.event as event
use Rattle.calls.proofs.event.Kinds as event_kinds
use Rattle.calls.proofs.event.Reads as event_reads
use Rattle.calls.specs.contracts.power_up_in as power_up_in_lem
use Rattle.calls.proofs.power_up_in.Kinds as power_up_in_kinds
use Rattle.calls.proofs.power_up_in.Reads as power_up_in_reads
use Rattle.calls.specs.contracts.frame_in as frame_in_lem
use Rattle.calls.proofs.frame_in.Kinds as frame_in_kinds
use Rattle.calls.proofs.frame_in.Reads as frame_in_reads
use Rattle.calls.specs.contracts.event_in as event_in_lem
use Rattle.calls.proofs.event_in.Kinds as event_in_kinds
use Rattle.calls.proofs.event_in.Reads as event_in_reads
use Rattle.calls.specs.contracts.load as load
use Rattle.calls.proofs.load.Kinds as load_kinds
use Rattle.calls.proofs.load.Reads as load_reads
use Rattle.calls.specs.contracts.load_in as load_in_lem
use Rattle.calls.proofs.load_in.Kinds as load_in_kinds
use Rattle.calls.proofs.load_in.Reads as load_in_reads

as_answer : {x y : Refusal} {k m : ℕ} {s t : State} → x ≡ y → k ≡ m → s ≡ t →
    ◌≡◌ {A = Answer} (record { refusal = x; frames = k; state = s }) (record { refusal = y; frames = m; state = t })
as_answer e f g = rw (e, f, g)

-- the answer and all lent bytes are the same
abbrev pub Same : Answer → List ℕ → List ℕ → Answer → List ℕ → List ℕ → Type 0
Same r d o r' d' o' = (r ≡ r') × ((d ≡ d') × (o ≡ o'))

same : (r r' : Answer) (d o d' o' : List ℕ) → outcome r d o ≡ outcome r' d' o' → Same r d o r' d' o'
same r r' d o d' o' e = (
  as_answer (ap (λ (x : Outcome). x.refusal) e) (ap (λ (x : Outcome). x.frames) e) (ap (λ (x : Outcome). x.state) e),
  (ap (λ (x : Outcome). x.dictionary) e, ap (λ (x : Outcome). x.output) e),
)

module _ (κs : Lfts 2) (a : ArgsD power_up_lem.signature κs) where
  pub power_up_unique : (r r' : ResD power_up_lem.signature κs) (x x' : AtExit (ended_of 2 power_up_kinds.ps power_up_kinds.r) κs) →
      power_up_reads.Post κs a r x → power_up_reads.Post κs a r' x' → Same r x.1.0.now x.1.1.0.now r' x'.1.0.now
      x'.1.1.0.now
  power_up_unique r r' x x' p q = same r r' x.1.0.now x.1.1.0.now x'.1.0.now x'.1.1.0.now (p ∙ sym q)

module _ (κs : Lfts 3) (a : ArgsD frame.signature κs) where
  pub frame_unique : (r r' : ResD frame.signature κs) (x x' : AtExit (ended_of 3 frame_kinds.ps frame_kinds.r) κs) →
      frame_reads.Post κs a r x → frame_reads.Post κs a r' x' → Same r x.1.0.now x.1.1.0.now r' x'.1.0.now x'.1.1.0.now
  frame_unique r r' x x' p q = same r r' x.1.0.now x.1.1.0.now x'.1.0.now x'.1.1.0.now (p ∙ sym q)

module _ (κs : Lfts 3) (a : ArgsD event.signature κs) where
  pub event_unique : (r r' : ResD event.signature κs) (x x' : AtExit (ended_of 3 event_kinds.ps event_kinds.r) κs) →
      event_reads.Post κs a r x → event_reads.Post κs a r' x' → Same r x.1.0.now x.1.1.0.now r' x'.1.0.now x'.1.1.0.now
  event_unique r r' x x' p q = same r r' x.1.0.now x.1.1.0.now x'.1.0.now x'.1.1.0.now (p ∙ sym q)

-- ---- on a state that stays in its bytes

as_given : {x y : Refusal} {k m : ℕ} → x ≡ y → k ≡ m → ◌≡◌ {A = Given} (record { refusal = x; frames = k }) (record { refusal = y; frames = m })
as_given e f = rw (e, f)

-- what is given and all lent bytes, the state's among them, are the same
abbrev pub SameIn : Given → List ℕ → List ℕ → List ℕ → Given → List ℕ → List ℕ → List ℕ → Type 0
SameIn r bs d o r' bs' d' o' = (r ≡ r') × ((bs ≡ bs') × ((d ≡ d') × (o ≡ o')))

same_in : (x : Outcome) {r r' : Given} {bs d o bs' d' o' : List ℕ} → Answers x r bs d o → Answers x r' bs' d' o' → SameIn r bs d o r' bs' d' o'
same_in x p q = (
  as_given (p.refusal ∙ sym q.refusal) (p.frames ∙ sym q.frames),
  (p.state.bytes ∙ sym q.state.bytes, (p.dictionary ∙ sym q.dictionary, p.output ∙ sym q.output)),
)

module _ (κs : Lfts 3) (a : ArgsD power_up_in_lem.signature κs) where
  pub power_up_in_unique : (r r' : ResD power_up_in_lem.signature κs) (x x' : AtExit (ended_of 3 power_up_in_kinds.ps power_up_in_kinds.r) κs) →
      power_up_in_reads.Post κs a r x → power_up_in_reads.Post κs a r' x' →
      SameIn r x.0.now x.1.0.now x.1.1.0.now r' x'.0.now x'.1.0.now x'.1.1.0.now
  power_up_in_unique r r' x x' p q = let s = state_of a.0.now in same_in _ (p s) (q s)

module _ (κs : Lfts 4) (a : ArgsD frame_in_lem.signature κs) where
  pub frame_in_unique : (r r' : ResD frame_in_lem.signature κs) (x x' : AtExit (ended_of 4 frame_in_kinds.ps frame_in_kinds.r) κs) →
      frame_in_reads.Post κs a r x → frame_in_reads.Post κs a r' x' →
      SameIn r x.0.now x.1.0.now x.1.1.0.now r' x'.0.now x'.1.0.now x'.1.1.0.now
  frame_in_unique r r' x x' p q = same_in _ p q

module _ (κs : Lfts 4) (a : ArgsD event_in_lem.signature κs) where
  pub event_in_unique : (r r' : ResD event_in_lem.signature κs) (x x' : AtExit (ended_of 4 event_in_kinds.ps event_in_kinds.r) κs) →
      event_in_reads.Post κs a r x → event_in_reads.Post κs a r' x' →
      SameIn r x.0.now x.1.0.now x.1.1.0.now r' x'.0.now x'.1.0.now x'.1.1.0.now
  event_in_unique r r' x x' p q = same_in _ p q

-- ---- a load: its answer and the dictionary's bytes, and in its bytes the state too

as_load_answer : {x y : Refusal} {n m k c : ℕ} {s t : State} → x ≡ y → n ≡ m → k ≡ c → s ≡ t →
    ◌≡◌ {A = LoadAnswer} (record { refusal = x; entry = n; code = k; state = s }) (record { refusal = y; entry = m; code = c; state = t })
as_load_answer e f g h = rw (e, f, g, h)

same_load : (r r' : LoadAnswer) (d d' : List ℕ) → load_outcome r d ≡ load_outcome r' d' → (r ≡ r') × (d ≡ d')
same_load r r' d d' e = (
  as_load_answer (ap (λ (x : LoadOutcome). x.refusal) e) (ap (λ (x : LoadOutcome). x.named.entry) e) (ap (λ (x : LoadOutcome). x.named.code) e)
      (ap (λ (x : LoadOutcome). x.state) e),
  ap (λ (x : LoadOutcome). x.dictionary) e,
)

module _ (κs : Lfts 2) (a : ArgsD load.signature κs) where
  pub load_unique : (r r' : ResD load.signature κs) (x x' : AtExit (ended_of 2 load_kinds.ps load_kinds.r) κs) →
      load_reads.Post κs a r x → load_reads.Post κs a r' x' → (r ≡ r') × (x.1.0.now ≡ x'.1.0.now)
  load_unique r r' x x' p q = same_load r r' x.1.0.now x'.1.0.now (p ∙ sym q)

as_load_given : {x y : Refusal} {n m k c : ℕ} → x ≡ y → n ≡ m → k ≡ c →
    ◌≡◌ {A = LoadGiven} (record { refusal = x; entry = n; code = k }) (record { refusal = y; entry = m; code = c })
as_load_given e f g = rw (e, f, g)

module _ (κs : Lfts 3) (a : ArgsD load_in_lem.signature κs) where
  pub load_in_unique : (r r' : ResD load_in_lem.signature κs) (x x' : AtExit (ended_of 3 load_in_kinds.ps load_in_kinds.r) κs) →
      load_in_reads.Post κs a r x → load_in_reads.Post κs a r' x' →
      (r ≡ r') × ((x.0.now ≡ x'.0.now) × (x.1.0.now ≡ x'.1.0.now))
  load_in_unique r r' x x' p q = (
    as_load_given (p.refusal ∙ sym q.refusal) (p.entry ∙ sym q.entry) (p.code ∙ sym q.code),
    (p.state.bytes ∙ sym q.state.bytes, p.dictionary ∙ sym q.dictionary),
  )
