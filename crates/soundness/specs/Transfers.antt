-- The transfer in progress: what stands behind the bytes that a download has brought, byte by byte; and both tests of it.
-- Assumes nothing.
use Rattle.std.specs.Prelude.{ℕ, Bool, ◌&&◌, ◌||◌, List, eqb, ltb}
use Rattle.rules.specs.Sound.{transfer_sound}
use Rattle.form.specs.Form.{transfer_place, state_of}
use Rattle.form.specs.Own.{transfer_own}

-- byte k is one of the first so many, or zero
abbrev pub counted_or_zero : ℕ → ℕ → ℕ → Bool
counted_or_zero k n b = ltb k n || eqb b 0

-- its bytes are its form, and it can be one
unfoldable pub transfer_clear : List ℕ → Bool
transfer_clear bs = transfer_own transfer_place bs && transfer_sound (state_of bs).transfer
