-- THE LAWS FOR CALLERS: kept plans and ready frames that passed their tests are those of the dictionary.
-- Assumes nothing.
use Prim.Native.Nat.{ℕ, ◌+◌, ◌*◌, ◌<◌}
use native.Mathlib.Omega.{arith}
use mathlib.Core.Path.{◌≡◌, refl, ◌∙◌, ap, ap₂}
use mathlib.Core.Bool.{Bool, true, false≢true}
use mathlib.Core.List.{List, [], ◌∷◌}
use borrow.Author.Tests.{eqb-true}
use lib.Dec.{eqb}
use Rattle.rules_dictionary.specs.declared.PdoData.{PdoData}
use Rattle.state.specs.declared.State.{State}
use Rattle.rules_dictionary.specs.Table.{each_way}
use Rattle.rules_dictionary.specs.Plans.{plans_of, ready_of}
use Rattle.rules_dictionary.proofs.Tests.{and_left, and_right}
use Rattle.rules.specs.Outcome.{same_by, same_plan, same_data}
use Rattle.rules.specs.Sound.{plans_fresh, ready_fresh}
use Rattle.form.proofs.Back.{as_data}
use Rattle.form.specs.Form.{plan_place, plan_at, plan_in, data_at}
use Rattle.form.specs.Own.{plan_own}
use Rattle.form.proofs.OneForm.{plan_stands}
use Rattle.mapping.specs.Kept.{plan_kept_in, frame_place, frame_kept_at}
use Rattle.mapping.proofs.Worked.{tested, same_plan_lem}
use Rattle.soundness.specs.Kept.{plan_kept, plans_kept_in}
use Rattle.soundness.proofs.Every.{every_in, plans_by_pdo, framed}

-- each of the plans that a state's bytes keep, where all are kept
module _ (bs d : List ℕ) (p : ℕ) (h : p < 2 * each_way) (kept : plans_kept_in bs d ≡ true) where
  pub kept_at : plan_kept_in bs d p ≡ true
  kept_at = every_in (plan_kept_in bs d) p (plans_by_pdo bs d ∙ kept) h

  plan_at_lem : plan_kept d p (plan_at (plan_place p) bs) ≡ true
  unfolding plan_kept_in
  plan_at_lem = and_right (plan_own (plan_place p) bs) _ kept_at

  pub plan_in_lem : plan_kept d p (plan_in bs p) ≡ true
  plan_in_lem = rw (plan_stands bs p h) plan_at_lem

-- a ready frame that its plan gives is the one that its mapping gives
pub frame_at : (bs d : List ℕ) (t : ℕ) {frame plan : ℕ} → t < each_way → plans_kept_in bs d ≡ true → frame ≡ frame_place t →
    plan ≡ plan_place (each_way + t) → frame_kept_at frame plan bs d ≡ framed bs d t
frame_at bs d t h kept ef ep =
    let p = each_way + t in
    rw (ef, ep) (ap (same_data (data_at (frame_place t) bs)) (tested d p (plan_at (plan_place p) bs) (plan_at_lem bs d p (omega arith) kept)).ready)

-- ---- lists that are the same, element by element, are equal

same_by_lem : {A : Type 0} (f : A → A → Bool) → ((x y : A) → f x y ≡ true → x ≡ y) → (xs ys : List A) → same_by f xs ys ≡ true → xs ≡ ys
same_by_lem f h [] [] e = refl
same_by_lem f h [] (y ∷ ys) e = absurd (false≢true e)
same_by_lem f h (x ∷ xs) [] e = absurd (false≢true e)
same_by_lem f h (x ∷ xs) (y ∷ ys) e = ap₂ (λ (z : _) (zs : _). z ∷ zs) (h x y (and_left (f x y) _ e)) (same_by_lem f h xs ys (and_right (f x y) _ e))

same_data_lem : (a b : PdoData) → same_data a b ≡ true → a ≡ b
same_data_lem a b h =
    as_data (eqb-true _ _ (and_left (eqb a.length b.length) _ h))
    (same_by_lem eqb (λ x y e. eqb-true x y e) a.bytes b.bytes (and_right (eqb a.length b.length) _ h))

-- the plans and the ready frames of a sound state
pub plans_are : (s : State) (d : List ℕ) → plans_fresh s d ≡ true → s.axis.plans ≡ plans_of d
unfolding plans_fresh
plans_are s d h = same_by_lem same_plan same_plan_lem s.axis.plans (plans_of d) h

pub ready_are : (s : State) (d : List ℕ) → ready_fresh s d ≡ true → s.axis.ready ≡ ready_of d
unfolding ready_fresh
ready_are s d h = same_by_lem same_data same_data_lem s.axis.ready (ready_of d) h
