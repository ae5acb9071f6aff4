-- Laws of reading entries from the front of some bytes.
-- Assumes nothing.
use Rattle.std.proofs.Common.{ℕ, zero, suc, arith, ◌≡◌, refl, Bool, true, false, cond, List, [], ◌∷◌, leb-true, length, drop, length-take}
use Rattle.std.proofs.Common.{length-drop}
use mathlib.Core.Bool.{false≢true}
use Rattle.rules_dictionary.specs.Numbers.{padded}
use Rattle.files.specs.ConciseDcf.{Entry, Reading, misfit, whole, in_front, reading, is_whole, entries_of, entry_at, entry_size, is_there}
use Rattle.files.specs.Listings.{first_bytes, listing_of}

-- ---- no entries

pub none_left : (bs : List ℕ) → entries_of (reading zero bs) ≡ []
unfolding reading
none_left [] = refl
none_left (b ∷ bs) = refl

-- ---- one entry and the rest

-- where there are more to come, the one in front is all there
pub front_there : (n : ℕ) (bs : List ℕ) → is_whole (reading (suc n) bs) ≡ true → is_there bs ≡ true
unfolding reading
front_there n bs h = go (is_there bs) h
  where
    go : (b : Bool) → is_whole (cond b (in_front (entry_at bs) (reading n (drop (entry_size bs) bs))) misfit) ≡ true → b ≡ true
    go true h = refl
    go false h = absurd (false≢true h)

pub front_read : (n : ℕ) (bs : List ℕ) → is_there bs ≡ true → reading (suc n) bs ≡ in_front (entry_at bs) (reading n (drop (entry_size bs) bs))
unfolding reading
front_read n bs h = rw h refl

pub front_cut : (n : ℕ) (bs : List ℕ) → is_there bs ≡ false → reading (suc n) bs ≡ misfit
unfolding reading
front_cut n bs h = rw h refl

pub whole_behind : (e : Entry) (r : Reading) → is_whole (in_front e r) ≡ is_whole r
whole_behind e misfit = refl
whole_behind e (whole es) = refl

pub entries_behind : (e : Entry) (r : Reading) → is_whole r ≡ true → entries_of (in_front e r) ≡ e ∷ entries_of r
entries_behind e misfit h = absurd (false≢true h)
entries_behind e (whole es) h = refl

pub as_whole : (r : Reading) → is_whole r ≡ true → r ≡ whole (entries_of r)
as_whole misfit h = absurd (false≢true h)
as_whole (whole es) h = refl

-- ---- an entry as the code reads it

pub listed_index : (bs : List ℕ) → (listing_of bs).index ≡ (entry_at bs).index
listed_index bs = refl

pub listed_subindex : (bs : List ℕ) → (listing_of bs).subindex ≡ (entry_at bs).subindex
listed_subindex bs = refl

pub listed_size : (bs : List ℕ) → is_there bs ≡ true → (listing_of bs).size ≡ length (entry_at bs).content
listed_size bs h = simp (length-take, length-drop) (omega (arith, leb-true (entry_size bs) (length bs) h))

pub listed_first : (bs : List ℕ) → (listing_of bs).first ≡ padded 0 first_bytes (entry_at bs).content
listed_first bs = refl
