-- The elements of an array of bytes, passed by value, are bytes: what owning the parameter tells.
-- Assumes nothing.
use Prim.Native.Nat.{ℕ}
use mathlib.Core.Path.{◌≡◌, refl}
use mathlib.Core.Bool.{true}
use mathlib.Core.List.{List, [], ◌∷◌}
use borrow.Author.Tests.{lt-ltb}
use denote.Array.{Array, each}
use denote.Shadow.{shadow}
use denote.Laws.{Is}
use denote.Plain.{UInt}
use mir.Syntax.{w8}
use mir.Val.{Val}
use Rattle.rules_dictionary.specs.Numbers.{are_bytes}
use Rattle.rules_dictionary.proofs.Tests.{and_both}

each_byte : (xs : List ℕ) (us : List Val) → shadow (each ℕ (UInt w8).own_val xs us) → are_bytes xs ≡ true
each_byte [] us s = refl
each_byte (x ∷ xs) [] s = absurd s
each_byte (x ∷ xs) (u ∷ us) s = and_both _ _ (lt-ltb x 256 s.0.1) (each_byte xs us s.1)

pub array_bytes : (n : ℕ) (xs : List ℕ) (vs : List Val) → Is (Array (UInt w8) n) xs vs → are_bytes xs ≡ true
array_bytes n xs vs p = each_byte xs p.0 p.1.1
