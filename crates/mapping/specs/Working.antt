-- Document 01, 'PDO traffic': a PDO that works in Operational.
-- Assumes nothing.
use Rattle.std.specs.Prelude.{ℕ, List, Bool, ◌&&◌, ltb}
use Rattle.rules_dictionary.specs.Table.{identifier, map_count}
use Rattle.rules_dictionary.specs.Values.{read}
use Rattle.rules_dictionary.specs.Legal.{is_valid}

-- valid, with something mapped
abbrev pub is_open : List ℕ → ℕ → Bool
is_open d p = is_valid (read d (identifier p)) && ltb 0 (read d (map_count p))
