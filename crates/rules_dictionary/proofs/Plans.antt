-- What a mapping names: rows of the table, whose bytes alone a ready frame is made of.
-- Assumes nothing.
use Prim.Native.Nat.{ℕ}
use mathlib.Core.Path.{◌≡◌, refl, ap₂}
use mathlib.Core.List.{List, [], ◌∷◌, ◌++◌}
use Rattle.rules_dictionary.specs.Members.{In, here, there}
use Rattle.rules_dictionary.specs.Table.{Row, table, word_index, word_subindex, Found, found, the_name, no_object, no_subindex, lookup}
use Rattle.rules_dictionary.specs.Values.{field}
use Rattle.rules_dictionary.specs.Plans.{and_then, targets, mapped, joined}
use Rattle.rules_dictionary.proofs.Tests.{none_in}
use Rattle.rules_dictionary.proofs.LookUp.{found_in}

pub targets_in : (ws : List ℕ) {x : Row} → In x (targets ws) → In x table
unfolding targets and_then
targets_in [] i = absurd (none_in i)
targets_in (w ∷ ws) {x} i = go (lookup (word_index w) (word_subindex w)) refl i (λ j. targets_in ws j)
  where
    go : (f : Found) → lookup (word_index w) (word_subindex w) ≡ f → In x (and_then f (targets ws)) → (In x (targets ws) → In x table) → In x table
    go (found y) e here rest = found_in (word_index w) (word_subindex w) e
    go (found y) e (there j) rest = rest j
    go the_name e j rest = rest j
    go no_object e j rest = rest j
    go no_subindex e j rest = rest j

pub mapped_in : (d : List ℕ) (p : ℕ) {x : Row} → In x (mapped d p) → In x table
unfolding mapped
mapped_in d p i = targets_in _ i

pub joined_same : (d d' : List ℕ) (xs : List Row) → ((x : Row) → In x xs → field d' x ≡ field d x) → joined d' xs ≡ joined d xs
unfolding joined
joined_same d d' [] h = refl
joined_same d d' (x ∷ xs) h = ap₂ ◌++◌ (h x here) (joined_same d d' xs (λ y i. h y (there i)))
