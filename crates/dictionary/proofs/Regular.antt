-- The records of the PDOs by number: where the first of a direction stands, and so many records on.
-- Assumes nothing.
use Prim.Native.Nat.{ℕ, ◌+◌, ◌-◌, ◌*◌, ◌%◌, ◌<◌, ◌≤◌, ◌^◌}
use native.Mathlib.Omega.{arith}
use mathlib.Core.Path.{◌≡◌, ◌∙◌}
use mathlib.Core.Logic.{⊎_elim}
use borrow.Author.Tests.{lt-ltb, le-ltb}
use Rattle.std.proofs.lemmas.Bool.{cases_lt}
use Rattle.rules_dictionary.specs.Members.{In}
use Rattle.rules_dictionary.specs.Table.{Row, size_of, table, each_way, record_place, place_of, communication_count, identifier, transmission_type}
use Rattle.rules_dictionary.specs.Table.{communication_place}
use Rattle.rules_dictionary.proofs.Packing.{regular, within, short}
use Rattle.rules_dictionary.proofs.Members.{pdo_in}
use Rattle.dictionary.specs.Sizes.{IsPdo}

module _ (place size : ℕ → ℕ) (p : ℕ) (is : place p ≡ record_place place size p) where
  pub receives : p < each_way → place 0 + size 0 * p ≡ place p
  receives h =
      let e : p % each_way ≡ p = omega arith in
      rw (is, lt-ltb p each_way h, e)

  pub transmits : each_way ≤ p → IsPdo p → place each_way + size each_way * (p - each_way) ≡ place p
  transmits h l =
      let e : p % each_way ≡ p - each_way = omega arith in
      rw (is, le-ltb p each_way h, e)

-- .. and so the place is, in one direction or the other
pub recorded : (place size : ℕ → ℕ) (p : ℕ) → place p ≡ record_place place size p → IsPdo p → {at : ℕ} →
    (p < each_way → at ≡ place 0 + size 0 * p) → (each_way ≤ p → at ≡ place each_way + size each_way * (p - each_way)) → at ≡ place p
recorded place size p is l low high =
    ⊎_elim (λ h. low h ∙ receives place size p is h) (λ h. high h ∙ transmits place size p is h l) (cases_lt p each_way)

-- behind the record's place
pub identifier_at : {p at : ℕ} → IsPdo p → at ≡ communication_place p → at + size_of (communication_count 0) ≡ place_of (identifier p)
identifier_at {p} is e = omega (arith, (regular (pdo_in p is)).identifies)

pub type_at : {p at : ℕ} → IsPdo p → at ≡ communication_place p →
    at + (size_of (communication_count 0) + size_of (identifier 0)) ≡ place_of (transmission_type p)
type_at {p} is e = omega (arith, (regular (pdo_in p is)).identifies, (regular (pdo_in p is)).types)

-- a place is a number of 16 bits
pub small : {x : Row} → In x table → place_of x < 2 ^ 16
small i = omega (arith, within i, short)
