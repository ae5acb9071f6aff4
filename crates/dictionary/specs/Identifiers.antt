-- The default identifiers, which count up from the node-ID: of the four PDOs of a direction, and all of them.
-- Assumes nothing.
use Rattle.std.specs.Prelude.{ℕ, ◌+◌, List, ◌∷◌, map}
use Rattle.rules_dictionary.specs.Table.{Row, emergency_identifier, identifier, pdos}
use Rattle.rules_dictionary.specs.Values.{store}

-- of four PDOs in a row, in steps of 100h
unfoldable pub four_from : ℕ → ℕ → ℕ → List ℕ → List ℕ
four_from p first n d =
    store (identifier (p + 3)) (first + 0x300 + n)
    (store (identifier (p + 2)) (first + 0x200 + n)
    (store (identifier (p + 1)) (first + 0x100 + n)
    (store (identifier p) (first + n) d)))

-- the rows whose default counts up from the node-ID
abbrev pub node_identifiers : List Row
node_identifiers = emergency_identifier ∷ map identifier pdos
