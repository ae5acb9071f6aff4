-- The number that C gets, taken apart as include/feeder.h does: refusal, position, control word and target are those of the step.
-- Assumes nothing.
use Prim.Native.Nat.{ℕ, ◌/◌, ◌%◌, ◌<◌, ◌^◌}
use native.Mathlib.Omega.{arith}
use mathlib.Core.Path.{◌≡◌}
use mathlib.Core.List.{List}
use lib.IntN.{ℤ, pos}
use lib.ListN.{get_or}
use mir.Syntax.{w32}
use mir.Val.{SFits, of_z, to_z}
use mir.ValLaws.{of_z_fits, to_z-of_z}
use Rattle.theorems.proofs.Booleans.{whichever}
use Rattle.feeder.specs.declared.Feeder.{Feeder}
use Rattle.feeder.specs.declared.Answer.{Answer}
use Rattle.feeder.specs.Feeder.{refusal_number, is_too_long, is_past, feeds, answered, step, told}
use Rattle.feeder.proofs.Steps.{few}

-- the parts of the number are those of the answer
pub record Parts (number : ℕ) (u : Answer) : Type 0 where
  pub refusal : number / 2 ^ 60 ≡ refusal_number u.refusal
  pub position : number / 2 ^ 48 % 2 ^ 12 ≡ u.feeder.position
  pub word : number / 2 ^ 32 % 2 ^ 16 ≡ u.word
  pub target : number % 2 ^ 32 ≡ of_z w32 u.target
  pub signed : to_z w32 (number % 2 ^ 32) ≡ u.target

module _ (number : ℕ) (u : Answer) (is : number ≡ told u) (p : u.feeder.position < 2 ^ 12) (w : u.word < 2 ^ 16) (t : SFits w32 u.target) where
  low : number % 2 ^ 32 ≡ of_z w32 u.target
  unfolding told
  low = let z : of_z w32 u.target < 2 ^ 32 = (of_z_fits w32 u.target t).fits in omega arith

  pub apart : Parts number u
  unfolding told
  apart =
      let z : of_z w32 u.target < 2 ^ 32 = (of_z_fits w32 u.target t).fits in
      record { refusal = omega arith; position = omega arith; word = omega arith; target = low; signed = rw low (to_z-of_z w32 u.target t) }

-- the lengths are signed words, as those of a `&[i32]` are
abbrev Words : List ℤ → Type 0
Words l = (i : ℕ) → SFits w32 (get_or l i (pos 0))

module _ (l : List ℤ) (f : Feeder) (s : ℕ) (h : Words l) where
  -- the word and the target of a step
  Narrow : Answer → Type 0
  Narrow u = (u.word < 2 ^ 16) × SFits w32 u.target

  narrow : Narrow (step l f s)
  unfolding Narrow step answered
  narrow =
      whichever Narrow (is_too_long l) (omega arith, record { sfits = omega arith })
      (whichever Narrow (is_past l f) (omega arith, record { sfits = omega arith })
      (whichever (λ (w : ℕ). w < 2 ^ 16) (feeds l f s) (omega arith) (omega arith), h f.position))

  -- THE STATEMENT
  pub taken_apart : (number : ℕ) → number ≡ told (step l f s) → Parts number (step l f s)
  unfolding Narrow
  taken_apart number is = apart number (step l f s) is (omega (arith, few l f s)) narrow.0 narrow.1
