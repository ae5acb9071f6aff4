-- The tests of the dictionary's rows that bytes can fail: a row of any value of its type has none.
-- Assumes nothing.
use Rattle.std.specs.Prelude.{ℕ, ◌+◌, List, [], ◌∷◌, Bool, true, not, ◌&&◌, ◌||◌, eqb, leb}
use Rattle.rules_dictionary.specs.Table.{Row, is_constant, largest, each_way, communication_count, transmission_type, map_count, most_moves}
use Rattle.rules_dictionary.specs.Table.{node_rows, drive_rows, minimum_position, maximum_position}
use Rattle.rules_dictionary.specs.Values.{read, default_of}
use Rattle.rules_dictionary.specs.Legal.{bad_choice, is_type, in_order}

-- the tests of a row with that value, and then the rest; those that say nothing compute away
abbrev pub tests_of : ℕ → Row → ℕ → Bool → Bool
tests_of n x v rest =
    (not (is_constant x.access) || eqb v (default_of n x))
    && ((eqb x.range.least 0 || leb x.range.least v)
    && ((eqb x.range.greatest (largest x.type) || leb v x.range.greatest)
    && (not (bad_choice x.role v) && rest)))

-- the tests of rows, in order
unfoldable pub tests : ℕ → List ℕ → List Row → Bool
tests n d [] = true
tests n d (x ∷ xs) = tests_of n x (read d x) (tests n d xs)

-- ---- the same of PDOs

-- the entries of a communication record
abbrev pub record_entries : ℕ
record_entries = 2

-- a test of the four PDOs from one on
abbrev pub four_from : (ℕ → Bool) → ℕ → Bool
four_from f p = f p && (f (p + 1) && (f (p + 2) && f (p + 3)))

abbrev pub communication_test : List ℕ → ℕ → Bool
communication_test d p = eqb (read d (communication_count p)) record_entries && is_type (read d (transmission_type p))

abbrev pub communication_tests : List ℕ → ℕ → Bool
communication_tests d p = four_from (communication_test d) p

-- all rows but the counts of the mappings, which are tested with the plans
unfoldable pub row_tests : ℕ → List ℕ → Bool
row_tests n d = tests n d node_rows && (communication_tests d 0 && (communication_tests d each_way && tests n d drive_rows))

-- ticket 5: the software limits are in order
abbrev pub limits_in_order : List ℕ → Bool
limits_in_order d = in_order (read d minimum_position) (read d maximum_position)

-- a PDO maps eight objects at the most
abbrev pub few_moves : List ℕ → ℕ → Bool
few_moves d p = leb (read d (map_count p)) most_moves
