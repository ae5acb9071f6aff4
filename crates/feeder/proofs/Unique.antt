-- Each promise determines the answer: any two that it allows are the same. It is stated of the contract as Rattle reads it (`Reads`), and
-- not of a copy.
-- Assumes nothing.
use mathlib.Core.Path.{◌≡◌, sym, ◌∙◌}
use borrow.Fn.World.{ArgsD, ResD}
use borrow.Fn.Kinds.{ended_of}
use contract.Lifetimes.{Lfts}
use denote.Triple.Clauses.{AtExit}
use Rattle.feeder.specs.contracts.start as start
use Rattle.feeder.proofs.start.Kinds as start_kinds
use Rattle.feeder.proofs.start.Reads as start_reads
use Rattle.feeder.specs.contracts.Feeder.step as step
use Rattle.feeder.proofs.Feeder.step.Kinds as step_kinds
use Rattle.feeder.proofs.Feeder.step.Reads as step_reads
use Rattle.feeder.specs.contracts.for_c.feeder_start as start_in_c
use Rattle.feeder.proofs.for_c.feeder_start.Kinds as start_in_c_kinds
use Rattle.feeder.proofs.for_c.feeder_start.Reads as start_in_c_reads
use Rattle.feeder.specs.contracts.for_c.feeder_step as step_in_c
use Rattle.feeder.proofs.for_c.feeder_step.Kinds as step_in_c_kinds
use Rattle.feeder.proofs.for_c.feeder_step.Reads as step_in_c_reads

module _ (κs : Lfts 1) where
  pub start_unique : (a : ArgsD start.signature κs) (r r' : ResD start.signature κs) (x x' : AtExit (ended_of 1 start_kinds.ps start_kinds.r) κs) →
      start_reads.Post κs a r x → start_reads.Post κs a r' x' → r ≡ r'
  start_unique a r r' x x' p q = p ∙ sym q

  pub step_unique : (a : ArgsD step.signature κs) (r r' : ResD step.signature κs) (x x' : AtExit (ended_of 1 step_kinds.ps step_kinds.r) κs) →
      step_reads.Post κs a r x → step_reads.Post κs a r' x' → r ≡ r'
  step_unique a r r' x x' p q = p ∙ sym q

  pub feeder_start_unique : (a : ArgsD start_in_c.signature κs) (r r' : ResD start_in_c.signature κs)
      (x x' : AtExit (ended_of 1 start_in_c_kinds.ps start_in_c_kinds.r) κs) →
      start_in_c_reads.Post κs a r x → start_in_c_reads.Post κs a r' x' → r ≡ r'
  feeder_start_unique a r r' x x' p q = p ∙ sym q

  pub feeder_step_unique : (a : ArgsD step_in_c.signature κs) (r r' : ResD step_in_c.signature κs)
      (x x' : AtExit (ended_of 1 step_in_c_kinds.ps step_in_c_kinds.r) κs) →
      step_in_c_reads.Post κs a r x → step_in_c_reads.Post κs a r' x' → r ≡ r'
  feeder_step_unique a r r' x x' p q = p ∙ sym q
