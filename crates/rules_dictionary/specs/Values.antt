-- Document 01, 'The dictionary': the values of the rows in the packed bytes, and what a call writes.
-- Assumes nothing.
use Rattle.std.specs.Prelude.{ℕ, ◌+◌, List, [], ◌∷◌, ◌++◌, map, take, drop}
use Rattle.std.proofs.lemmas.List.Edits.{sets}
use Rattle.rules_dictionary.specs.Numbers.{value, bytes, part}
use Rattle.rules_dictionary.specs.Table.{Row, Default, fixed, plus_node, size_of, place_of}

-- the bytes of a row
abbrev pub field : List ℕ → Row → List ℕ
field d x = part (place_of x) (size_of x) d

-- the value of a row
unfoldable pub read : List ℕ → Row → ℕ
read d x = value (field d x)

-- the dictionary with that value in the row
unfoldable pub store : Row → ℕ → List ℕ → List ℕ
store x v d = sets d (place_of x) (bytes (size_of x) v)

-- a value for a row
pub record Write : Type 0 where
  pub row : Row
  pub value : ℕ

abbrev pub write : Row → ℕ → Write
write x v = record { row = x; value = v }

-- the dictionary after writes, in order
unfoldable pub stored : List Write → List ℕ → List ℕ
stored [] d = d
stored (w ∷ ws) d = stored ws (store w.row w.value d)

-- the values that stand packed in bytes for those rows, one after another
unfoldable pub unpacked : List Row → List ℕ → List Write
unpacked [] bs = []
unpacked (x ∷ xs) bs = write x (value (take (size_of x) bs)) ∷ unpacked xs (drop (size_of x) bs)

-- ---- defaults

abbrev pub default_for : ℕ → Default → ℕ
default_for n (fixed v) = v
default_for n (plus_node v) = v + n

-- the row's default on node n
abbrev pub default_of : ℕ → Row → ℕ
default_of n x = default_for n x.default

-- those rows, each to its default
abbrev pub to_defaults : ℕ → List Row → List Write
to_defaults n xs = map (λ x. write x (default_of n x)) xs

-- their bytes, packed
unfoldable pub packed_defaults : ℕ → List Row → List ℕ
packed_defaults n [] = []
packed_defaults n (x ∷ xs) = bytes (size_of x) (default_of n x) ++ packed_defaults n xs

-- opens every definition of this module, where a proof computes
unfoldable pub open_values : Unit {0}
unfolding read store stored unpacked packed_defaults
open_values = tt
