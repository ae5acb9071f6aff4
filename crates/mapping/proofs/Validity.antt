-- A PDO's identifier word tells by its size whether the PDO is valid.
-- Assumes nothing.
use Prim.Native.Nat.{ℕ, ◌/◌, ◌%◌, ◌^◌, ◌<◌, ◌≤◌}
use native.Mathlib.Omega.{arith}
use mathlib.Core.Path.{◌≡◌}
use mathlib.Core.Bool.{false}
use mathlib.Core.List.{List}
use borrow.Author.Tests.{eq-eqb, ne_eqb}
use lib.Dec.{ltb}
use Rattle.rules_dictionary.specs.Table.{identifier, map_count}
use Rattle.rules_dictionary.specs.Values.{read}
use Rattle.rules_dictionary.specs.Legal.{invalid_bit}
use Rattle.mapping.specs.Working.{is_open}

module _ (d : List ℕ) (p w : ℕ) (e : w ≡ read d (identifier p)) where
  pub not_valid : 2 ^ invalid_bit ≤ w → w < 2 ^ 32 → false ≡ is_open d p
  not_valid low high =
      let bit : w / 2 ^ invalid_bit % 2 ≡ 1 = omega arith in
      rw (← e, eq-eqb _ _ bit)

  pub valid : w < 2 ^ invalid_bit → ltb 0 (read d (map_count p)) ≡ is_open d p
  valid low =
      let bit : w / 2 ^ invalid_bit % 2 ≡ 1 → ⊥ = λ h. omega arith in
      rw (← e, ne_eqb _ _ bit)
