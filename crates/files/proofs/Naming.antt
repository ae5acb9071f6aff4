-- Is there an entry of an index among those that are left? By the one in front.
-- Assumes nothing.
use Rattle.std.proofs.Common.{ℕ, suc, ◌≡◌, refl, ◌∙◌, ap, Bool, true, false, List, eqb, drop}
use Rattle.rules_dictionary.specs.Numbers.{any}
use Rattle.files.specs.ConciseDcf.{Entry, reading, is_whole, entries_of, entry_at}
use Rattle.files.proofs.Places.{after, next_entries}

abbrev pub is_named : ℕ → List Entry → Bool
is_named index es = any (λ (e : Entry). eqb e.index index) es

module _ (index at : ℕ) (f : List ℕ) (n m : ℕ) (one_more : n ≡ suc m) (fits : is_whole (reading n (drop at f)) ≡ true) where
  pub found : eqb (entry_at (drop at f)).index index ≡ true → is_named index (entries_of (reading n (drop at f))) ≡ true
  found h = ap (is_named index) (next_entries at f n m one_more fits) ∙ rw h refl

  pub passed : eqb (entry_at (drop at f)).index index ≡ false
      → is_named index (entries_of (reading n (drop at f))) ≡ is_named index (entries_of (reading m (drop (after at f) f)))
  passed h = ap (is_named index) (next_entries at f n m one_more fits) ∙ rw h refl
