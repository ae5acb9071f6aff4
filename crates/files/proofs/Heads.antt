-- The head and the data of the entry at a place, in the bytes of the file.
-- Assumes nothing.
use Rattle.std.proofs.Common.{ℕ, ◌+◌, ◌-◌, ◌<◌, ◌≤◌, arith, ◌≡◌, refl, sym, ◌∙◌, ap, Bool, true, false, List, le-leb, leb-true, leb-false, leb}
use Rattle.std.proofs.Common.{length, get_or, take, drop, length-drop, drop-drop}
use borrow.Author.Tests.{lt-leb}
use Rattle.rules_dictionary.specs.Numbers.{value, part}
use Rattle.files.specs.ConciseDcf.{index_size, subindex_size, size_size, head_size, size_at, entry_size, is_there}
use Rattle.files.specs.Listings.{StandsAt}
use Rattle.dictionary.proofs.Bytes.{value_step, value_none}

-- a test by a difference is the test by a sum
leb_sub : (k a b : ℕ) → k ≤ b → leb a (b - k) ≡ leb (k + a) b
leb_sub k a b h = go (leb a (b - k)) refl
  where
    go : (t : Bool) → leb a (b - k) ≡ t → t ≡ leb (k + a) b
    go true e = sym (le-leb (k + a) b (omega (arith, leb-true a (b - k) e)))
    go false e = sym (lt-leb (k + a) b (omega (arith, leb-false a (b - k) e)))

module _ (at : ℕ) (f : List ℕ) where
  pub subindex_there : value (part index_size subindex_size (drop at f)) ≡ get_or f (at + index_size) 0
  subindex_there = ap (λ (bs : List ℕ). value (take subindex_size bs)) (drop-drop index_size at f) ∙ rw (value_step 0, value_none) (omega arith)

  pub size_there : size_at (drop at f) ≡ value (part (at + (index_size + subindex_size)) size_size f)
  size_there = ap (λ (bs : List ℕ). value (take size_size bs)) (drop-drop (index_size + subindex_size) at f)

  pub content_there : (n : ℕ) → part head_size n (drop at f) ≡ part (at + head_size) n f
  content_there n = ap (take n) (drop-drop head_size at f)

  -- ---- is it there?

  pub no_head : length f - at < head_size → is_there (drop at f) ≡ false
  no_head h = lt-leb (entry_size (drop at f)) (length (drop at f)) (simp length-drop (omega arith))

  pub has_head : head_size ≤ length f - at → leb (size_at (drop at f)) (length f - at - head_size) ≡ is_there (drop at f)
  has_head h = leb_sub head_size (size_at (drop at f)) (length f - at) h ∙ ap (leb (entry_size (drop at f))) (sym (length-drop at f))

  -- it is, and so nothing of it lies behind the end
  pub all_inside : StandsAt at f → at + entry_size (drop at f) ≤ length f
  all_inside s = omega (arith, leb-true (entry_size (drop at f)) (length (drop at f)) s.there, length-drop at f)
