-- The edges of concise DCF files, by computation: small files written out byte by byte, with what they list. They are what a wrong order, size, place
-- or count breaks.
-- Assumes nothing.
use Rattle.std.proofs.Common.{ℕ, ◌≡◌, refl, true, false, List, [], ◌∷◌, ◌++◌, map, take, drop, replicate}
use Rattle.rules_dictionary.specs.Numbers.{all, open_numbers}
use Rattle.files.specs.ConciseDcf.{Entry, misfit, whole, count_in, reading_of, entries_in, is_too_short, is_overfull, is_misfit, open_concise_dcf}
use Rattle.files.specs.Listings.{listing_of}
use Rattle.files.specs.declared.Listing.{Listing}

abbrev entry : ℕ → ℕ → List ℕ → Entry
entry i s bs = record { index = i; subindex = s; content = bs }

abbrev listing : ℕ → ℕ → ℕ → List ℕ → Listing
listing i s n bs = record { index = i; subindex = s; size = n; first = bs }

-- ---- files

-- "a u32 count": none
empty : List ℕ
empty = 0x00 ∷ 0x00 ∷ 0x00 ∷ 0x00 ∷ []

-- 1400h:02 of one byte
transmission : List ℕ
transmission = 0x00 ∷ 0x14 ∷ 0x02 ∷ 0x01 ∷ 0x00 ∷ 0x00 ∷ 0x00 ∷ 0xFF ∷ []

-- 6081h:00 of four
velocity : List ℕ
velocity = 0x81 ∷ 0x60 ∷ 0x00 ∷ 0x04 ∷ 0x00 ∷ 0x00 ∷ 0x00 ∷ 0x78 ∷ 0x56 ∷ 0x34 ∷ 0x12 ∷ []

one : List ℕ
one = 0x01 ∷ 0x00 ∷ 0x00 ∷ 0x00 ∷ transmission

two : List ℕ
two = 0x02 ∷ 0x00 ∷ 0x00 ∷ 0x00 ∷ transmission ++ velocity

-- one entry of a size that is told so, and the bytes that are there
sized : ℕ → ℕ → ℕ → ℕ → List ℕ → List ℕ
sized a b c d bs = 0x01 ∷ 0x00 ∷ 0x00 ∷ 0x00 ∷ 0x18 ∷ 0x10 ∷ 0x04 ∷ a ∷ b ∷ c ∷ d ∷ bs

unfoldable open_edges : Unit {0}
unfolding empty transmission velocity one two sized open_numbers open_concise_dcf
open_edges = tt

-- ---- "for each entry index u16, subindex u8, size u32 and data, all little-endian"

listed : map reading_of (empty ∷ one ∷ two ∷ [])
    ≡ whole []
    ∷ whole (entry 0x1400 0x02 (0xFF ∷ []) ∷ [])
    ∷ whole (entry 0x1400 0x02 (0xFF ∷ []) ∷ entry 0x6081 0x00 (0x78 ∷ 0x56 ∷ 0x34 ∷ 0x12 ∷ []) ∷ []) ∷ []
unfolding open_edges
listed = refl

-- an entry's size is its own, whatever an object has: no byte, five, 256
of_any_size : map entries_in (sized 0x00 0x00 0x00 0x00 [] ∷ sized 0x05 0x00 0x00 0x00 (1 ∷ 2 ∷ 3 ∷ 4 ∷ 5 ∷ []) ∷ [])
    ≡ (entry 0x1018 0x04 [] ∷ []) ∷ (entry 0x1018 0x04 (1 ∷ 2 ∷ 3 ∷ 4 ∷ 5 ∷ []) ∷ []) ∷ []
unfolding open_edges
of_any_size = refl

of_256 : entries_in (sized 0x00 0x01 0x00 0x00 (replicate 256 0x55)) ≡ entry 0x1018 0x04 (replicate 256 0x55) ∷ []
unfolding open_edges
of_256 = refl

-- ---- "file under 4 bytes"

under_four : map (λ n. is_too_short (take n two)) (0 ∷ 3 ∷ 4 ∷ []) ≡ true ∷ true ∷ false ∷ []
unfolding open_edges
under_four = refl

-- ---- "count over 512": 512, 513, and a count that is large by its third or its fourth byte alone

counts : List (List ℕ)
counts =
    (0x00 ∷ 0x02 ∷ 0x00 ∷ 0x00 ∷ []) ∷ (0x01 ∷ 0x02 ∷ 0x00 ∷ 0x00 ∷ []) ∷ (0x00 ∷ 0x00 ∷ 0x01 ∷ 0x00 ∷ [])
    ∷ (0x00 ∷ 0x00 ∷ 0x00 ∷ 0x01 ∷ []) ∷ []

over_512 : (map count_in counts ≡ 512 ∷ 513 ∷ 65536 ∷ 16777216 ∷ []) × (map is_overfull counts ≡ false ∷ true ∷ true ∷ true ∷ [])
unfolding open_edges counts
over_512 = (refl, refl)

-- ---- "file cut short or with bytes left over"

-- behind the count, in each head and in each data: the file of two entries is whole only with its last byte
cut_short : all (λ n. is_misfit (take n two)) (4 ∷ 5 ∷ 6 ∷ 7 ∷ 8 ∷ 9 ∷ 10 ∷ 11 ∷ 12 ∷ 13 ∷ 14 ∷ 15 ∷ 16 ∷ 17 ∷ 18 ∷ 19 ∷ 20 ∷ 21 ∷ 22 ∷ []) ≡ true
unfolding open_edges
cut_short = refl

left_over : map (λ f. reading_of (f ++ 0x00 ∷ [])) (empty ∷ one ∷ two ∷ []) ≡ misfit ∷ misfit ∷ misfit ∷ []
unfolding open_edges
left_over = refl

-- one entry too few, and one too many
miscounted : map is_misfit ((0x01 ∷ drop 1 two) ∷ (0x03 ∷ drop 1 two) ∷ []) ≡ true ∷ true ∷ []
unfolding open_edges
miscounted = refl

-- a size of which the last byte counts; two that would wrap in 32 bits, with the head to 0 and to 6, and the second of these once more, where an
-- entry of no data would then start at its last byte
near_the_end : map is_misfit
    (sized 0x00 0x00 0x00 0x01 [] ∷ sized 0xF9 0xFF 0xFF 0xFF [] ∷ sized 0xFF 0xFF 0xFF 0xFF (1 ∷ 2 ∷ 3 ∷ 4 ∷ [])
    ∷ (0x02 ∷ drop 1 (sized 0xFF 0xFF 0xFF 0xFF (0x18 ∷ 0x10 ∷ 0x00 ∷ 0x00 ∷ 0x00 ∷ 0x00 ∷ []))) ∷ [])
    ≡ true ∷ true ∷ true ∷ true ∷ []
unfolding open_edges
near_the_end = refl

-- ---- an entry as the code reads it

read_so : map listing_of (transmission ∷ velocity ∷ drop 4 (sized 0x05 0x00 0x00 0x00 (1 ∷ 2 ∷ 3 ∷ 4 ∷ 5 ∷ [])) ∷ [])
    ≡ listing 0x1400 0x02 1 (0xFF ∷ 0 ∷ 0 ∷ 0 ∷ [])
    ∷ listing 0x6081 0x00 4 (0x78 ∷ 0x56 ∷ 0x34 ∷ 0x12 ∷ [])
    ∷ listing 0x1018 0x04 5 (1 ∷ 2 ∷ 3 ∷ 4 ∷ []) ∷ []
unfolding open_edges
read_so = refl
