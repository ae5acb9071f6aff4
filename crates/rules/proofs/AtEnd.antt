-- What the call's end leaves of the drive as the service left it: all but the ticks inside the window. Whoever reads the drive behind the end goes
-- by these laws and not by the definition.
-- Assumes nothing.
use Prim.Native.Nat.{ℕ}
use mathlib.Core.Path.{◌≡◌, refl}
use mathlib.Core.List.{List}
use Rattle.drive.specs.declared.Drive.{Drive}
use Rattle.drive.specs.Window.{staying}
use Rattle.state.specs.declared.Occasion.{Occasion}
use Rattle.rules.specs.Outcome.{drive_at_end}

pub record SameRules (v v' : Drive) : Type 0 where
  pub state : v'.state ≡ v.state
  pub mode : v'.mode ≡ v.mode
  pub store : v'.store ≡ v.store
  pub taken : v'.taken ≡ v.taken
  pub limit : v'.limit ≡ v.limit
  pub cause : v'.cause ≡ v.cause

pub at-end : (occasion : Occasion) (d : List ℕ) (v : Drive) → SameRules v (drive_at_end occasion d v)
unfolding drive_at_end staying
at-end occasion d v = record { state = refl; mode = refl; store = refl; taken = refl; limit = refl; cause = refl }
