-- What numbers the code is handed: sizes in bytes, PDOs.
-- Assumes nothing.
use Rattle.std.specs.Prelude.{ℕ, ◌*◌, ◌<◌, ◌≡◌, ◌⊎◌}
use Rattle.rules_dictionary.specs.Table.{each_way}

-- 1, 2 or 4
abbrev pub IsSize : ℕ → Type 0
IsSize n = (n ≡ 1) ⊎ ((n ≡ 2) ⊎ (n ≡ 4))

-- 0 to 7: receive, then transmit
abbrev pub IsPdo : ℕ → Type 0
IsPdo p = p < 2 * each_way
