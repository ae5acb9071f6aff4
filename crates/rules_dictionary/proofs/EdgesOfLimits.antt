-- Ticket 5, the software limits 607Dh:1 and :2, as numbers: the code that each value gets beside the other limit as it stands; 0 where it is
-- taken. The numbers are written from the ticket: a changed comparison, side or order makes one of them fall.
-- Assumes nothing.
use Prim.Native.Nat.{ℕ}
use mathlib.Core.Path.{◌≡◌, refl}
use mathlib.Core.Bool.{true, false, not}
use mathlib.Core.List.{List, [], ◌∷◌, map}
use Rattle.rules_dictionary.specs.Numbers.{filter}
use Rattle.rules_dictionary.specs.Table.{table, key, ranging, control_word, target_position, minimum_position, maximum_position}
use Rattle.rules_dictionary.specs.Values.{write, read, stored}
use Rattle.rules_dictionary.specs.Legal.{in_order, may_hold}
use Rattle.rules_dictionary.proofs.Edges.{fresh, open_edges}
use Rattle.rules_dictionary.proofs.EdgesOfVerdicts.{answers, times}

-- the defaults of node 5, with that minimum and that maximum
limited : ℕ → ℕ → List ℕ
limited low high = stored (write minimum_position low ∷ write maximum_position high ∷ []) fresh

unfoldable open_limits : Unit {0}
unfolding limited open_edges
open_limits = tt

-- "equal limits are accepted": from -500 to 1500, one below, at and one above the other limit, and the ends of i32
beside_the_other : (answers (limited 0xFFFFFE0C 1500) minimum_position (1499 ∷ 1500 ∷ 1501 ∷ 0x80000000 ∷ 0xFFFFFFFF ∷ 0x7FFFFFFF ∷ [])
    ≡ 0 ∷ 0 ∷ 0x06040043 ∷ 0 ∷ 0 ∷ 0x06040043 ∷ [])
    × (answers (limited 0xFFFFFE0C 1500) maximum_position (0xFFFFFE0D ∷ 0xFFFFFE0C ∷ 0xFFFFFE0B ∷ 0 ∷ 0x7FFFFFFF ∷ 0x80000000 ∷ [])
    ≡ 0 ∷ 0 ∷ 0x06040043 ∷ 0 ∷ 0 ∷ 0x06040043 ∷ [])
unfolding open_limits
beside_the_other = (refl, refl)

-- "minimum above maximum" is of i32: -1 is below 0, though its word is above
signed : (in_order 0xFFFFFFFF 0 ≡ true) × (in_order 0 0xFFFFFFFF ≡ false) × (in_order 0x80000000 0x7FFFFFFF ≡ true)
    × (in_order 0x7FFFFFFF 0x80000000 ≡ false) × (map (λ v. in_order v v) (0 ∷ 0x7FFFFFFF ∷ 0x80000000 ∷ 0xFFFFFFFF ∷ []) ≡ times 4 true)
    × (answers (limited 0xFFFFFFFE 0xFFFFFFFF) minimum_position (0 ∷ 0xFFFFFFFF ∷ []) ≡ 0x06040043 ∷ 0 ∷ [])
    × (answers (limited 0xFFFFFFFE 0xFFFFFFFF) maximum_position (0 ∷ 0xFFFFFFFE ∷ 0xFFFFFFFD ∷ []) ≡ 0 ∷ 0 ∷ 0x06040043 ∷ [])
unfolding open_limits
signed = (refl, refl, refl, refl, refl, refl, refl)

-- "the present dictionary": beside what the other limit is now, not its default and not what this one was
beside_the_present : (answers (limited 100 200) maximum_position (99 ∷ 100 ∷ 50000 ∷ []) ≡ 0x06040043 ∷ 0 ∷ 0 ∷ [])
    × (answers (limited 0x80000000 5) minimum_position (5 ∷ 6 ∷ []) ≡ 0 ∷ 0x06040043 ∷ [])
    × (answers fresh minimum_position (0x7FFFFFFF ∷ []) ≡ 0 ∷ []) × (answers fresh maximum_position (0x80000000 ∷ []) ≡ 0 ∷ [])
unfolding open_limits
beside_the_present = (refl, refl, refl, refl)

-- "after the range aborts": a maximum of a range of its own, 5 to 10, beside a minimum of 7
behind_the_range : answers (limited 7 9) (ranging (record { least = 5; greatest = 10 }) maximum_position) (4 ∷ 5 ∷ 6 ∷ 7 ∷ 10 ∷ 11 ∷ [])
    ≡ 0x06090032 ∷ 0x06040043 ∷ 0x06040043 ∷ 0 ∷ 0 ∷ 0x06090031 ∷ []
unfolding open_limits
behind_the_range = refl

-- no other row meets the rule: with the limits swapped, which no run comes to, these two alone may not hold what they do
others_are_free : (map key (filter (λ x. not (may_hold (limited 10 5) x (read (limited 10 5) x))) table) ≡ 0x607D01 ∷ 0x607D02 ∷ [])
    × (filter (λ x. not (may_hold (limited 5 5) x (read (limited 5 5) x))) table ≡ [])
    × (answers (limited 10 5) target_position (0 ∷ 7 ∷ 0xFFFFFFFF ∷ []) ≡ times 3 0) × (answers (limited 10 5) control_word (0x1F ∷ []) ≡ 0 ∷ [])
unfolding open_limits
others_are_free = (refl, refl, refl, refl)
