-- Ticket 6: "concise DCF files (CiA 302): a u32 count, then for each entry index u16, subindex u8, size u32 and data, all little-endian". A file is
-- a list of bytes, and it is read once, from front to back.
-- Assumes nothing.
use Rattle.std.specs.Prelude.{ℕ, zero, suc, ◌+◌, List, [], ◌∷◌, Bool, true, false, cond, not, leb, ltb, length, take, drop}
use Rattle.rules_dictionary.specs.Numbers.{value, part}

-- ---- the count

abbrev pub count_size : ℕ
count_size = 4

abbrev pub count_in : List ℕ → ℕ
count_in f = value (take count_size f)

-- "count over 512"
abbrev pub most_entries : ℕ
most_entries = 512

-- ---- the entry at the front of some bytes: its head, and behind it its data

abbrev pub index_size : ℕ
index_size = 2

abbrev pub subindex_size : ℕ
subindex_size = 1

abbrev pub size_size : ℕ
size_size = 4

abbrev pub head_size : ℕ
head_size = index_size + subindex_size + size_size

-- how many bytes its data is said to have
abbrev pub size_at : List ℕ → ℕ
size_at bs = value (part (index_size + subindex_size) size_size bs)

abbrev pub entry_size : List ℕ → ℕ
entry_size bs = head_size + size_at bs

pub record Entry : Type 0 where
  pub index : ℕ
  pub subindex : ℕ
  pub content : List ℕ

abbrev pub entry_at : List ℕ → Entry
entry_at bs =
    record {
      index = value (take index_size bs);
      subindex = value (part index_size subindex_size bs);
      content = part head_size (size_at bs) bs;
    }

-- it is all there, head and data
abbrev pub is_there : List ℕ → Bool
is_there bs = leb (entry_size bs) (length bs)

-- ---- so many entries, and nothing behind them

pub data Reading : Type 0 where
  misfit : Reading
  whole : List Entry → Reading

abbrev pub in_front : Entry → Reading → Reading
in_front e misfit = misfit
in_front e (whole es) = whole (e ∷ es)

-- "cut short or with bytes left over"
unfoldable pub reading : ℕ → List ℕ → Reading
reading zero [] = whole []
reading zero (b ∷ bs) = misfit
reading (suc n) bs = cond (is_there bs) (in_front (entry_at bs) (reading n (drop (entry_size bs) bs))) misfit

abbrev pub is_whole : Reading → Bool
is_whole misfit = false
is_whole (whole es) = true

abbrev pub entries_of : Reading → List Entry
entries_of misfit = []
entries_of (whole es) = es

-- ---- a file

abbrev pub reading_of : List ℕ → Reading
reading_of f = reading (count_in f) (drop count_size f)

-- its entries, in order; none of a file that is not whole
abbrev pub entries_in : List ℕ → List Entry
entries_in f = entries_of (reading_of f)

-- "file under 4 bytes"
abbrev pub is_too_short : List ℕ → Bool
is_too_short f = ltb (length f) count_size

-- "count over 512"
abbrev pub is_overfull : List ℕ → Bool
is_overfull f = ltb most_entries (count_in f)

-- "file cut short or with bytes left over"
abbrev pub is_misfit : List ℕ → Bool
is_misfit f = not (is_whole (reading_of f))

-- opens every definition of this module, where a proof computes
unfoldable pub open_concise_dcf : Unit {0}
unfolding reading
open_concise_dcf = tt
