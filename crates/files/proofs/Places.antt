-- The entries of a file by their places, for a loop over them: with n of them left, what is still to be read is `reading n (drop at f)`.
-- Assumes nothing.
use Rattle.std.proofs.Common.{ℕ, zero, suc, ◌+◌, ◌-◌, ◌≤◌, arith, ◌≡◌, refl, ◌∙◌, sym, ap, true, false, List, [], ◌∷◌, leb-true, eqb, length, drop}
use Rattle.std.proofs.Common.{length-drop, drop-drop}
use lib.Dec.{eqb-zero-suc, eqb-suc-suc}
use Rattle.files.specs.ConciseDcf.{count_in, in_front, reading, is_whole, entries_of, entry_at, entry_size, is_there}
use Rattle.files.specs.Listings.{StandsAt}
use Rattle.files.proofs.Readings.{front_there, front_read, front_cut, whole_behind, entries_behind}

-- how many entries are left behind so many
abbrev pub left : List ℕ → ℕ → ℕ
left f k = count_in f - k

-- with none left, the file ends there
pub ends : (at : ℕ) (f : List ℕ) → at ≤ length f → is_whole (reading zero (drop at f)) ≡ eqb at (length f)
unfolding reading
ends zero [] h = refl
ends zero (b ∷ f) h = rw eqb-zero-suc refl
ends (suc at) [] h = absurd (omega arith)
ends (suc at) (b ∷ f) h = rw eqb-suc-suc (ends at f (omega arith))

module _ (at : ℕ) (f : List ℕ) where
  -- the place behind the entry there
  abbrev pub after : ℕ
  after = at + entry_size (drop at f)

  pub stands : is_there (drop at f) ≡ true → StandsAt at f
  stands h = record { inside = omega (arith, leb-true (entry_size (drop at f)) (length (drop at f)) h, length-drop at f); there = h }

  -- n are left, and m behind the one there
  module _ (n m : ℕ) (one_more : n ≡ suc m) where
    pub cut_short : is_there (drop at f) ≡ false → is_whole (reading n (drop at f)) ≡ false
    cut_short h = rw one_more (ap is_whole (front_cut m (drop at f) h))

    pub read_there : is_there (drop at f) ≡ true → reading n (drop at f) ≡ in_front (entry_at (drop at f)) (reading m (drop after f))
    read_there h =
        rw one_more
        (front_read m (drop at f) h ∙ ap (λ (bs : List ℕ). in_front (entry_at (drop at f)) (reading m bs)) (drop-drop (entry_size (drop at f)) at f))

    pub goes_on : is_there (drop at f) ≡ true → is_whole (reading n (drop at f)) ≡ is_whole (reading m (drop after f))
    goes_on h = ap is_whole (read_there h) ∙ whole_behind (entry_at (drop at f)) (reading m (drop after f))

    -- .. and what is left is whole
    module _ (fits : is_whole (reading n (drop at f)) ≡ true) where
      pub next_stands : StandsAt at f
      next_stands = stands (front_there m (drop at f) (rw one_more at fits))

      pub next_read : reading n (drop at f) ≡ in_front (entry_at (drop at f)) (reading m (drop after f))
      next_read = read_there next_stands.there

      pub rest_whole : is_whole (reading m (drop after f)) ≡ true
      rest_whole = sym (goes_on next_stands.there) ∙ fits

      pub next_entries : entries_of (reading n (drop at f)) ≡ entry_at (drop at f) ∷ entries_of (reading m (drop after f))
      next_entries = ap entries_of next_read ∙ entries_behind (entry_at (drop at f)) (reading m (drop after f)) rest_whole
