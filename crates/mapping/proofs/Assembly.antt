-- Bytes by their elements, and how many the moves of a plan join.
-- Assumes nothing.
use Prim.Native.Nat.{ℕ, suc, ◌<◌, ◌≤◌}
use native.Mathlib.Omega.{arith}
use mathlib.Core.Path.{◌≡◌, refl}
use mathlib.Core.Bool.{true}
use mathlib.Core.List.{List, [], ◌∷◌}
use borrow.Author.Tests.{lt-ltb}
use lib.ListN.{length, take, get_or, length-append, length-take}
use Rattle.rules_dictionary.specs.declared.Move.{Move}
use Rattle.rules_dictionary.specs.Numbers.{part, are_bytes}
use Rattle.rules_dictionary.proofs.Tests.{and_both}
use Rattle.mapping.specs.Moves.{joined_moves, MovesFit}
use Rattle.mapping.specs.Received.{sizes}

-- a list of bytes, by its elements
pub are_bytes_lem : (d : List ℕ) → ((i : ℕ) → i < length d → get_or d i 0 < 256) → are_bytes d ≡ true
are_bytes_lem [] h = refl
are_bytes_lem (b ∷ bs) h = and_both _ _ (lt-ltb b 256 (h 0 (omega arith))) (are_bytes_lem bs (λ i l. h (suc i) (omega arith)))

part_short : (place size : ℕ) (d : List ℕ) → length (part place size d) ≤ size
part_short place size d = rw length-take (omega arith)

joined_short : (d : List ℕ) (ms : List Move) → length (joined_moves d ms) ≤ sizes ms
unfolding joined_moves
joined_short d [] = omega arith
joined_short d (m ∷ ms) = rw length-append (omega (arith, part_short m.place m.size d, joined_short d ms))

-- eight bytes at the most
pub joined_room : (d : List ℕ) (ms : List Move) (n : ℕ) → MovesFit ms n → length (joined_moves d (take n ms)) ≤ 8
joined_room d ms n f = omega (arith, joined_short d (take n ms), f.room)
