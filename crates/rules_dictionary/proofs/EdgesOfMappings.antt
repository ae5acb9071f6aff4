-- Document 01, 'SDO': the code that each mapping word and each count of mapped objects gets, 0 where it is taken.
-- Assumes nothing.
use Prim.Native.Nat.{ℕ}
use mathlib.Core.Path.{◌≡◌, refl}
use mathlib.Core.List.{List, [], ◌∷◌, ◌++◌, map}
use Rattle.rules_dictionary.specs.Table.{pdos, map_count, map_entry}
use Rattle.rules_dictionary.specs.Legal.{count_verdict}
use Rattle.rules_dictionary.proofs.Edges.{fresh, open_edges}
use Rattle.rules_dictionary.proofs.EdgesOfVerdicts.{code, answers, times}

-- ---- mapping entries

-- the codes that mapping words get in the first entry of each of the eight PDOs
abbrev mapped_to : List ℕ → List (List ℕ)
mapped_to ws = map (λ p. answers fresh (map_entry p 1) ws) pdos

-- "R": 6040, 6060, 607A, 6081, 6083, 6084, 60FF in a receive PDO, "wrong direction .. 06040041h" in a transmit PDO
to_receive_lem : mapped_to (0x60400010 ∷ 0x60600008 ∷ 0x607A0020 ∷ 0x60810020 ∷ 0x60830020 ∷ 0x60840020 ∷ 0x60FF0020 ∷ [])
    ≡ times 4 (times 7 0) ++ times 4 (times 7 0x06040041)
unfolding open_edges
to_receive_lem = refl

-- "T": 1001, 603F, 6041, 6061, 6064, 606C the other way
to_transmit_lem : mapped_to (0x10010008 ∷ 0x603F0010 ∷ 0x60410010 ∷ 0x60610008 ∷ 0x60640020 ∷ 0x606C0020 ∷ [])
    ≡ times 4 (times 6 0x06040041) ++ times 4 (times 6 0)
unfolding open_edges
to_transmit_lem = refl

-- neither R nor T: 06040041h both ways
to_neither : mapped_to
    (0x10000020 ∷ 0x10050020 ∷ 0x10140020 ∷ 0x10170010 ∷ 0x10180008 ∷ 0x10180120 ∷ 0x14000008 ∷ 0x14000120 ∷ 0x14000208 ∷ 0x16000008
    ∷ 0x16000120 ∷ 0x60670020 ∷ 0x60680010 ∷ 0x606D0010 ∷ 0x606F0010 ∷ 0x607D0008 ∷ 0x607D0120 ∷ 0x607D0220 ∷ 0x65020020 ∷ [])
    ≡ times 8 (times 19 0x06040041)
unfolding open_edges
to_neither = refl

-- the device name is no target, of its own 152 bits or of any; 1008h:1 and :255 are missing subindices, 1007h and 1009h missing objects
name_as_a_target : mapped_to (0x10080098 ∷ 0x10080000 ∷ 0x10080020 ∷ 0x10080198 ∷ 0x1008FF20 ∷ 0x10070098 ∷ 0x10090098 ∷ [])
    ≡ times 8 (times 3 0x06040041 ++ times 2 0x06090011 ++ times 2 0x06020000)
unfolding open_edges
name_as_a_target = refl

-- "wrong .. length 06040041h": of 6040h 16 bits alone, of 6060h 8, of 607Ah 32
lengths : answers fresh (map_entry 0 1)
    (0x60400000 ∷ 0x60400001 ∷ 0x60400008 ∷ 0x6040000F ∷ 0x60400010 ∷ 0x60400011 ∷ 0x60400020 ∷ 0x60400090 ∷ 0x60600007 ∷ 0x60600009 ∷ 0x60600088
    ∷ 0x607A0010 ∷ 0x607A001F ∷ 0x607A0021 ∷ 0x607A0040 ∷ [])
    ≡ times 4 0x06040041 ++ 0 ∷ times 10 0x06040041
unfolding open_edges
lengths = refl

-- "A mapping entry is 0 or index, subindex, bit length. A missing target gives 06020000h or 06090011h": every bit of index and subindex counts
missing_targets : answers fresh (map_entry 0 1)
    (0 ∷ 1 ∷ 0x00010008 ∷ 0x00070020 ∷ 0x60020010 ∷ 0xE0400010 ∷ 0x70400010 ∷ 0x60400110 ∷ 0x60401010 ∷ 0x60408010 ∷ 0x6040FF10 ∷ [])
    ≡ 0 ∷ times 6 0x06020000 ++ times 4 0x06090011
unfolding open_edges
missing_targets = refl

-- the object before the subindex before direction and length
targets_in_order : answers fresh (map_entry 0 1) (0x60420108 ∷ 0x60400108 ∷ 0x60410110 ∷ 0x60410008 ∷ [])
    ≡ 0x06020000 ∷ 0x06090011 ∷ 0x06090011 ∷ 0x06040041 ∷ []
unfolding open_edges
targets_in_order = refl

-- all eight entries of a PDO alike
every_entry : map (λ k. answers fresh (map_entry 3 k) (0x60400010 ∷ 0x60410010 ∷ [])) (1 ∷ 2 ∷ 3 ∷ 4 ∷ 5 ∷ 6 ∷ 7 ∷ 8 ∷ [])
    ≡ times 8 (0 ∷ 0x06040041 ∷ [])
unfolding open_edges
every_entry = refl

-- ---- counts of mapped objects

-- ":0 has the range 0..8; then a zero among the first n gives 06040041h": the default maps have one object, or two
counts_taken : map (λ p. answers fresh (map_count p) (0 ∷ 1 ∷ 2 ∷ 3 ∷ 8 ∷ 9 ∷ 255 ∷ [])) pdos
    ≡ (0 ∷ 0 ∷ times 3 0x06040041 ++ times 2 0x06090031) ∷ times 3 (0 ∷ 0 ∷ 0 ∷ times 2 0x06040041 ++ times 2 0x06090031)
    ++ (0 ∷ 0 ∷ times 3 0x06040041 ++ times 2 0x06090031) ∷ times 3 (0 ∷ 0 ∷ 0 ∷ times 2 0x06040041 ++ times 2 0x06090031)
unfolding open_edges
counts_taken = refl

-- the codes that counts get over these mapping words
abbrev counted : List ℕ → List ℕ → List ℕ
counted ws ns = map (λ n. code (count_verdict ws n)) ns

-- "over 64 bits 06040042h": 64 are not over, 65 are; the words behind the first n do not count
bits_64 : counted (0x60640020 ∷ 0x606C0020 ∷ 0x60410001 ∷ []) (0 ∷ 1 ∷ 2 ∷ 3 ∷ []) ≡ 0 ∷ 0 ∷ 0 ∷ 0x06040042 ∷ []
unfolding open_edges
bits_64 = refl

eight_bytes : counted (times 8 0x60610008) (0 ∷ 7 ∷ 8 ∷ []) ≡ 0 ∷ 0 ∷ 0 ∷ []
unfolding open_edges
eight_bytes = refl

-- a zero in front, in the middle, at the end of the first n, and behind them
zero_among : counted (0 ∷ 0x60610008 ∷ []) (0 ∷ 1 ∷ 2 ∷ []) ++ counted (0x60610008 ∷ 0 ∷ 0x60610008 ∷ []) (1 ∷ 2 ∷ 3 ∷ [])
    ≡ 0 ∷ 0x06040041 ∷ 0x06040041 ∷ 0 ∷ 0x06040041 ∷ 0x06040041 ∷ []
unfolding open_edges
zero_among = refl

-- the zero before the bits
zero_before_bits : counted (0x60640020 ∷ 0x606C0020 ∷ 0x60640020 ∷ 0 ∷ []) (2 ∷ 3 ∷ 4 ∷ []) ≡ 0 ∷ 0x06040042 ∷ 0x06040041 ∷ []
unfolding open_edges
zero_before_bits = refl
