-- Document 01, 'SDO': the code that each PDO identifier word gets, 0 where it is taken. "bit 31 invalid; bit 30 is 1 for transmit, 0 for
-- receive; 29-11 zero; a valid one lies in 181h..57Fh and differs from every other valid PDO; valid to a different valid word is bad".
-- Assumes nothing.
use Prim.Native.Nat.{ℕ, ◌+◌, ◌^◌}
use mathlib.Core.Path.{◌≡◌, refl}
use mathlib.Core.Bool.{true, false}
use mathlib.Core.List.{List, [], ◌∷◌, ◌++◌, map}
use Rattle.rules_dictionary.specs.Table.{pdos, identifier}
use Rattle.rules_dictionary.specs.Values.{store}
use Rattle.rules_dictionary.specs.Legal.{bad_identifier}
use Rattle.rules_dictionary.proofs.Edges.{fresh, open_edges}
use Rattle.rules_dictionary.proofs.EdgesOfVerdicts.{answers, times}

-- the codes that identifier words get in a PDO whose own word is the one in front, an invalid one
abbrev told : ℕ → ℕ → List ℕ → List ℕ
told off p vs = answers (store (identifier p) off fresh) (identifier p) vs

-- "a valid one lies in 181h..57Fh"
receive_ends : map (λ p. told 0x80000000 p (0 ∷ 0x7F ∷ 0x180 ∷ 0x181 ∷ 0x57F ∷ 0x580 ∷ 0x7FF ∷ [])) (0 ∷ 1 ∷ 2 ∷ 3 ∷ [])
    ≡ times 4 (0x06090030 ∷ 0x06090030 ∷ 0x06090030 ∷ 0 ∷ 0 ∷ 0x06090030 ∷ 0x06090030 ∷ [])
unfolding open_edges
receive_ends = refl

transmit_ends : map (λ p. told 0xC0000000 p (0x40000000 ∷ 0x40000180 ∷ 0x40000181 ∷ 0x4000057F ∷ 0x40000580 ∷ 0x400007FF ∷ [])) (4 ∷ 5 ∷ 6 ∷ 7 ∷ [])
    ≡ times 4 (0x06090030 ∷ 0x06090030 ∷ 0 ∷ 0 ∷ 0x06090030 ∷ 0x06090030 ∷ [])
unfolding open_edges
transmit_ends = refl

-- "bit 30 is 1 for transmit, 0 for receive", valid or not
bit_30 : map (λ p. told 0xC0000000 p (0x181 ∷ 0x40000181 ∷ 0x80000181 ∷ 0xC0000181 ∷ [])) pdos
    ≡ times 4 (0 ∷ 0x06090030 ∷ 0 ∷ 0x06090030 ∷ []) ++ times 4 (0x06090030 ∷ 0 ∷ 0x06090030 ∷ 0 ∷ [])
unfolding open_edges
bit_30 = refl

-- "29-11 zero", of an invalid word and of a valid one
abbrev reserved : List ℕ
reserved =
    11 ∷ 12 ∷ 13 ∷ 14 ∷ 15 ∷ 16 ∷ 17 ∷ 18 ∷ 19 ∷ 20 ∷ 21 ∷ 22 ∷ 23 ∷ 24 ∷ 25 ∷ 26 ∷ 27 ∷ 28 ∷ 29 ∷ []

bits_29_11 : map (λ word. told 0x80000000 0 (map (λ k. word + 2 ^ k) reserved)) (0x80000000 ∷ 0x80000205 ∷ 0x205 ∷ [])
    ≡ times 3 (times 19 0x06090030)
unfolding open_edges
bits_29_11 = refl

transmit_29_11 : map (λ word. told 0xC0000000 4 (map (λ k. word + 2 ^ k) reserved)) (0xC0000000 ∷ 0x40000185 ∷ []) ≡ times 2 (times 19 0x06090030)
unfolding open_edges
transmit_29_11 = refl

-- "bit 31 invalid": its eleven bits are free, also another's
bits_10_0 : answers fresh (identifier 0) (0x80000000 ∷ 0x80000180 ∷ 0x80000305 ∷ 0x80000185 ∷ 0x80000400 ∷ 0x80000580 ∷ 0x800007FF ∷ [])
    ≡ times 7 0
unfolding open_edges
bits_10_0 = refl

transmit_10_0 : answers fresh (identifier 7) (0xC0000000 ∷ 0xC0000205 ∷ 0xC0000185 ∷ 0xC00007FF ∷ []) ≡ times 4 0
unfolding open_edges
transmit_10_0 = refl

-- ".. and differs from every other valid PDO": an invalid PDO asked for each of the eight default identifiers takes its own alone
shared : map (λ p. told 0x80000000 p (0x205 ∷ 0x305 ∷ 0x405 ∷ 0x505 ∷ 0x185 ∷ 0x285 ∷ 0x385 ∷ 0x485 ∷ [])) (0 ∷ 1 ∷ 2 ∷ 3 ∷ [])
    ≡ (0 ∷ times 7 0x06090030) ∷ (0x06090030 ∷ 0 ∷ times 6 0x06090030) ∷ (times 2 0x06090030 ++ 0 ∷ times 5 0x06090030)
    ∷ (times 3 0x06090030 ++ 0 ∷ times 4 0x06090030) ∷ []
unfolding open_edges
shared = refl

transmit_shared : map
    (λ p. told 0xC0000000 p
    (0x40000205 ∷ 0x40000305 ∷ 0x40000405 ∷ 0x40000505 ∷ 0x40000185 ∷ 0x40000285 ∷ 0x40000385 ∷ 0x40000485 ∷ [])) (4 ∷ 5 ∷ 6 ∷ 7 ∷ [])
    ≡ (times 4 0x06090030 ++ 0 ∷ times 3 0x06090030) ∷ (times 5 0x06090030 ++ 0 ∷ times 2 0x06090030) ∷ (times 6 0x06090030 ++ 0 ∷ 0x06090030 ∷ [])
    ∷ (times 7 0x06090030 ++ 0 ∷ []) ∷ []
unfolding open_edges
transmit_shared = refl

-- .. every other valid one: the identifier of an invalid PDO is free
freed : answers (store (identifier 1) 0x80000305 (store (identifier 0) 0x80000205 fresh)) (identifier 0) (0x305 ∷ 0x405 ∷ []) ≡ 0 ∷ 0x06090030 ∷ []
unfolding open_edges
freed = refl

-- "valid to a different valid word is bad": not the same word, not to an invalid one
kept : map (λ p. answers fresh (identifier p) (0x205 ∷ 0x206 ∷ 0x80000205 ∷ 0x80000206 ∷ [])) (0 ∷ [])
    ++ map (λ p. answers fresh (identifier p) (0x40000485 ∷ 0x40000486 ∷ 0xC0000485 ∷ 0xC0000486 ∷ [])) (7 ∷ [])
    ≡ times 2 (0 ∷ 0x06090030 ∷ 0 ∷ 0 ∷ [])
unfolding open_edges
kept = refl

-- .. the whole words are compared: the same eleven bits with another bit above them are a different word
whole_words : bad_identifier (0x20000205 ∷ 0x305 ∷ []) 0 0x205 ∷ bad_identifier (0x205 ∷ 0x305 ∷ []) 0 0x205 ∷ [] ≡ true ∷ false ∷ []
unfolding open_edges
whole_words = refl
