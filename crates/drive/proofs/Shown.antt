-- What the parts of the status word come to, and the ways through its rules.
-- Assumes nothing.
use Rattle.std.proofs.Common.{ℕ, ◌≤◌, refl, Bool, true, false, List, arith, leb-true, leb}
use Rattle.drive.specs.declared.DriveState.{DriveState}
use Rattle.drive.specs.declared.Drive.{Drive}
use Rattle.drive.specs.DriveStates.{state_word}
use Rattle.drive.specs.StatusWord.{shown, ack_in_mode, reached_in_mode, enabled_bits}
use Rattle.drive.proofs.Every.{on_states}

-- ---- how large the parts are

pub shown_most : (w : ℕ) (on : Bool) → shown w on ≤ w
shown_most w true = omega arith
shown_most w false = omega arith

pub state_word_most : (s : DriveState) → state_word s ≤ 0x40
state_word_most s = leb-true _ _ (on_states (λ s. leb (state_word s) 0x40) refl s)

module _ (remote voltage : Bool) (v : Drive) (d : List ℕ) where
  pub enabled_most : enabled_bits v d ≤ 0x1C00
  unfolding enabled_bits
  enabled_most =
      omega (arith, shown_most 0x1000 (ack_in_mode v.mode v d), shown_most 0x800 v.limit, shown_most 0x400 (reached_in_mode v.mode v d))
