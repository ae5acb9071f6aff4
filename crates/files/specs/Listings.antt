-- An entry of a file as the code reads it, at a place of the file.
-- Assumes nothing.
use Rattle.std.specs.Prelude.{ℕ, ◌≤◌, ◌≡◌, true, List, length, take, drop}
use Rattle.rules_dictionary.specs.Numbers.{value, part, padded}
use Rattle.files.specs.ConciseDcf.{index_size, subindex_size, head_size, size_at, is_there, count_size, count_in, most_entries}
use Rattle.files.specs.declared.Listing.{Listing}

-- no object has more bytes
abbrev pub first_bytes : ℕ
first_bytes = 4

-- index and subindex, how many bytes of data it has, and the first four of these, zero where it has fewer
abbrev pub listing_of : List ℕ → Listing
listing_of bs =
    record {
      index = value (take index_size bs);
      subindex = value (part index_size subindex_size bs);
      size = size_at bs;
      first = padded 0 first_bytes (part head_size (size_at bs) bs);
    }

-- an entry stands at that place of the file
pub record StandsAt (at : ℕ) (f : List ℕ) : Type 0 where
  pub inside : at ≤ length f
  pub there : is_there (drop at f) ≡ true

-- a file whose count may be believed
pub record Counted (f : List ℕ) : Type 0 where
  pub long : count_size ≤ length f
  pub few : count_in f ≤ most_entries
