-- What a good verdict on a value says, test by test, and back.
-- Assumes nothing.
use Rattle.theorems.proofs.Words.{ℕ, ◌≡◌, refl, ap, Bool, true, false, not, ◌&&◌, List, [], ◌∷◌, Role, Plain, ModeOfOperation, MinimumLimit}
use Rattle.theorems.proofs.Words.{MaximumLimit, PdoIdentifier, PdoType, MappingCount, MappingEntry, clash, by_match}
use Rattle.rules_dictionary.specs.Table.{Row}
use Rattle.rules_dictionary.specs.Aborts.{Verdict, good, bad, is_good, Test, first_firing}
use Rattle.rules_dictionary.specs.Legal.{value_verdict, other_bad_value, swaps_limits, mapping_verdict, bad_choice, is_below, is_above}

-- ---- where the verdict is good, no test fired

pub good_passes : (t : Test) (ts : List Test) (v : Verdict) → first_firing (t ∷ ts) v ≡ good → (t.fires ≡ false) × (first_firing ts v ≡ good)
unfolding first_firing
good_passes t ts v h =
    by_match (λ w. w ≡ good → (t.fires ≡ false) × (first_firing ts v ≡ good)) t.fires (λ e k. clash (is_good (bad t.abort)) (ap is_good k) refl)
    (λ e k. (e, k)) h

pub good_last : (v : Verdict) → first_firing [] v ≡ good → v ≡ good
unfolding first_firing
good_last v h = h

-- a good verdict of a value, taken apart
pub record GoodValue (d : List ℕ) (x : Row) (v : ℕ) : Type 0 where
  pub not_below : is_below x v ≡ false
  pub not_above : is_above x v ≡ false
  pub choice : other_bad_value d x.role v ≡ false
  pub ordered : swaps_limits d x.role v ≡ false
  pub mapping : mapping_verdict d x.role v ≡ good

pub good_value : (d : List ℕ) (x : Row) (v : ℕ) → value_verdict d x v ≡ good → GoodValue d x v
unfolding value_verdict
good_value d x v h =
    let a = good_passes _ _ _ h in
    let b = good_passes _ _ _ a.1 in
    let c = good_passes _ _ _ b.1 in
    let e = good_passes _ _ _ c.1 in
    record { not_below = a.0; not_above = b.0; choice = c.0; ordered = e.0; mapping = good_last _ e.1 }

-- a value of which all that holds has a good verdict
pub value_good : (d : List ℕ) (x : Row) (v : ℕ) → GoodValue d x v → value_verdict d x v ≡ good
unfolding value_verdict first_firing
value_good d x v g = rw (g.not_below, g.not_above, g.choice, g.ordered) g.mapping

-- ---- what a row may hold whatever the others do: what is in its range, and no bad choice

unfoldable pub in_range : Row → ℕ → Bool
in_range x v = not (is_below x v) && not (is_above x v) && not (bad_choice x.role v)

choice_known : (d : List ℕ) (r : Role) (v : ℕ) → other_bad_value d r v ≡ false → bad_choice r v ≡ false
unfolding other_bad_value
choice_known d Plain v h = refl
choice_known d ModeOfOperation v h = h
choice_known d MinimumLimit v h = refl
choice_known d MaximumLimit v h = refl
choice_known d (PdoIdentifier p) v h = refl
choice_known d (PdoType p) v h = h
choice_known d (MappingCount p) v h = refl
choice_known d (MappingEntry p) v h = refl

pub good_range : (d : List ℕ) (x : Row) (v : ℕ) → GoodValue d x v → in_range x v ≡ true
unfolding in_range
good_range d x v g = rw (g.not_below, g.not_above, choice_known d x.role v g.choice)
