-- Document 01, 'The node': "node-ID N 1 to 127".
-- Assumes nothing.
use Rattle.std.specs.Prelude.{ℕ, Bool}
use Rattle.rules_dictionary.specs.Numbers.{between}

abbrev pub first_node : ℕ
first_node = 1

abbrev pub last_node : ℕ
last_node = 127

-- "N legal"
abbrev pub is_node_id : ℕ → Bool
is_node_id n = between first_node last_node n
