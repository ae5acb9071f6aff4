-- Document 01, "Tempting and wrong: .. bit 4 as a level": while bit 4 stays 1, nothing is taken and no mark moves.
-- Assumes nothing.
use Rattle.std.proofs.Common.{ℕ, ◌≡◌, true, List}
use mathlib.Core.Bool.{and-false}
use Rattle.drive.specs.declared.Drive.{Drive}
use Rattle.rules_dictionary.specs.Numbers.{bit}
use Rattle.drive.specs.SetPoints.{set_point_rule, new_set_point_bit}

pub held_bit_takes_nothing : (d : List ℕ) (old word : ℕ) (v : Drive) → bit new_set_point_bit old ≡ true → bit new_set_point_bit word ≡ true →
    set_point_rule d old word v ≡ v
unfolding set_point_rule
held_bit_takes_nothing d old word v before now = simp (before, now, and-false)
