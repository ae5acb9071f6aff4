-- Each C call's promise determines everything: any two answers that it allows, with every byte of the buffers, are the same. It is
-- stated of the contract as Rattle reads it (`Reads`), and not of a copy.
-- Assumes nothing.
use Prim.Native.Nat.{ℕ}
use mathlib.Core.Path.{◌≡◌, sym, ◌∙◌, ap}
use mathlib.Core.List.{List}
use borrow.Fn.World.{ArgsD, ResD}
use borrow.Fn.Kinds.{ended_of}
use contract.Lifetimes.{Lfts}
use denote.Triple.Clauses.{AtExit}
use Rattle.cendurak.specs.Boundary.{Left, left, LoadLeft, load_left}
use Rattle.cendurak.specs.contracts.cendurak_power_up as power_up_lem
use Rattle.cendurak.proofs.cendurak_power_up.Kinds as power_up_kinds
use Rattle.cendurak.proofs.cendurak_power_up.Reads as power_up_reads
use Rattle.cendurak.specs.contracts.cendurak_frame as frame
use Rattle.cendurak.proofs.cendurak_frame.Kinds as frame_kinds
use Rattle.cendurak.proofs.cendurak_frame.Reads as frame_reads
use Rattle.cendurak.specs.contracts.cendurak_event as event
use Rattle.cendurak.proofs.cendurak_event.Kinds as event_kinds
use Rattle.cendurak.proofs.cendurak_event.Reads as event_reads
use Rattle.cendurak.specs.contracts.cendurak_load as load
use Rattle.cendurak.proofs.cendurak_load.Kinds as load_kinds
use Rattle.cendurak.proofs.cendurak_load.Reads as load_reads

-- the number and all lent bytes are the same
abbrev pub Same : ℕ → List ℕ → List ℕ → List ℕ → ℕ → List ℕ → List ℕ → List ℕ → Type 0
Same r s d o r' s' d' o' = (r ≡ r') × ((s ≡ s') × ((d ≡ d') × (o ≡ o')))

same : (r r' : ℕ) (s d o s' d' o' : List ℕ) → left r s d o ≡ left r' s' d' o' → Same r s d o r' s' d' o'
same r r' s d o s' d' o' e =
    (ap (λ (x : Left). x.status) e, (ap (λ (x : Left). x.state) e, (ap (λ (x : Left). x.dictionary) e, ap (λ (x : Left). x.output) e)))

module _ (κs : Lfts 3) (a : ArgsD power_up_lem.signature κs) where
  pub power_up_unique : (r r' : ResD power_up_lem.signature κs) (x x' : AtExit (ended_of 3 power_up_kinds.ps power_up_kinds.r) κs) →
      power_up_reads.Post κs a r x → power_up_reads.Post κs a r' x' →
      Same r x.0.now x.1.0.now x.1.1.0.now r' x'.0.now x'.1.0.now x'.1.1.0.now
  power_up_unique r r' x x' p q =
      same r r' x.0.now x.1.0.now x.1.1.0.now x'.0.now x'.1.0.now x'.1.1.0.now (p ∙ sym q)

module _ (κs : Lfts 4) (a : ArgsD frame.signature κs) where
  pub frame_unique : (r r' : ResD frame.signature κs) (x x' : AtExit (ended_of 4 frame_kinds.ps frame_kinds.r) κs) →
      frame_reads.Post κs a r x → frame_reads.Post κs a r' x' →
      Same r x.0.now x.1.0.now x.1.1.0.now r' x'.0.now x'.1.0.now x'.1.1.0.now
  frame_unique r r' x x' p q =
      same r r' x.0.now x.1.0.now x.1.1.0.now x'.0.now x'.1.0.now x'.1.1.0.now (p ∙ sym q)

module _ (κs : Lfts 4) (a : ArgsD event.signature κs) where
  pub event_unique : (r r' : ResD event.signature κs) (x x' : AtExit (ended_of 4 event_kinds.ps event_kinds.r) κs) →
      event_reads.Post κs a r x → event_reads.Post κs a r' x' →
      Same r x.0.now x.1.0.now x.1.1.0.now r' x'.0.now x'.1.0.now x'.1.1.0.now
  event_unique r r' x x' p q =
      same r r' x.0.now x.1.0.now x.1.1.0.now x'.0.now x'.1.0.now x'.1.1.0.now (p ∙ sym q)

-- a load, by its number and the two buffers
abbrev pub SameLoad : ℕ → List ℕ → List ℕ → ℕ → List ℕ → List ℕ → Type 0
SameLoad r s d r' s' d' = (r ≡ r') × ((s ≡ s') × (d ≡ d'))

same_load : (r r' : ℕ) (s d s' d' : List ℕ) → load_left r s d ≡ load_left r' s' d' → SameLoad r s d r' s' d'
same_load r r' s d s' d' e = (ap (λ (x : LoadLeft). x.status) e, (ap (λ (x : LoadLeft). x.state) e, ap (λ (x : LoadLeft). x.dictionary) e))

module _ (κs : Lfts 3) (a : ArgsD load.signature κs) where
  pub load_unique : (r r' : ResD load.signature κs) (x x' : AtExit (ended_of 3 load_kinds.ps load_kinds.r) κs) →
      load_reads.Post κs a r x → load_reads.Post κs a r' x' → SameLoad r x.0.now x.1.0.now r' x'.0.now x'.1.0.now
  load_unique r r' x x' p q = same_load r r' x.0.now x.1.0.now x'.0.now x'.1.0.now (p ∙ sym q)
