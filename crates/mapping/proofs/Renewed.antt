-- A plan that is fresh, where every mapping gives one: its moves fit, and the ready frame by it is its PDO's.
-- Assumes nothing.
use Prim.Native.Nat.{ℕ, ◌+◌, ◌<◌, ◌≤◌}
use native.Mathlib.Numerals.{add-one}
use native.Mathlib.Omega.{arith}
use mathlib.Core.Path.{◌≡◌, refl, sym, ◌∙◌, ap, subst}
use mathlib.Core.Bool.{Bool, false, not}
use mathlib.Core.List.{List, [], ◌∷◌}
use lib.ListN.{get_or, set}
use Rattle.rules_dictionary.specs.declared.Plan.{Plan}
use Rattle.rules_dictionary.specs.Table.{each_way}
use Rattle.rules_dictionary.specs.Plans.{mapped, plan_for, plans_of, ready_for, ready_of}
use Rattle.rules_dictionary.proofs.Members.{pdo_in}
use Rattle.state.specs.declared.State.{State}
use Rattle.rules.specs.Outcome.{same_data}
use Rattle.theorems.proofs.Dictionary.{of_pdo_lem}
use Rattle.dictionary.specs.Sizes.{IsPdo}
use Rattle.form.specs.Form.{state_of, plan_in, ready_in}
use Rattle.form.specs.Holding.{Holds, with_ready, readying}
use Rattle.form.proofs.Holding.{held_state}
use Rattle.mapping.specs.Afresh.{GivesPlans, which_change}
use Rattle.mapping.specs.Moves.{ready_by, MovesFit}
use Rattle.mapping.proofs.Filling.{filled, one_filled, unfilled}
use Rattle.mapping.proofs.Worked.{plan_fits, ready_mapped}

module _ (d : List ℕ) (g : GivesPlans d) (p : ℕ) (i : IsPdo p) {plan : Plan} (own : plan ≡ plan_for (mapped d p)) where
  pub fresh_fits : MovesFit plan.moves plan.count
  fresh_fits = subst (λ (q : Plan). MovesFit q.moves q.count) (sym own) (plan_fits d p (g.1 p i).1 (g.1 p i).0)

  pub fresh_ready : ready_by d plan ≡ ready_for d p
  fresh_ready = ap (ready_by d) own ∙ ready_mapped d p (g.1 p i).1 (g.1 p i).0

pub kept_plan : (d : List ℕ) {plans : List Plan} → plans ≡ plans_of d → (p : ℕ) → IsPdo p → (x : Plan) → get_or plans p x ≡ plan_for (mapped d p)
unfolding plans_of
kept_plan d {plans} own p i x = ap (λ (l : List Plan). get_or l p x) own ∙ of_pdo_lem (λ q. plan_for (mapped d q)) x (pdo_in p i)

-- ---- the ready frames worked again, one after another

-- nothing told of them yet
abbrev pub untold : List Bool
untold = false ∷ false ∷ false ∷ false ∷ []

-- those of the first k transmit PDOs; which of them changed is told
pub record Renewing (d start bs : List ℕ) (changed : List Bool) (k : ℕ) : Type 0 where
  pub few : k ≤ each_way
  pub holds : Holds bs (with_ready (filled (λ i. ready_for d (each_way + i)) k (state_of start).axis.ready) (state_of start))
  pub told : changed ≡ filled (λ i. not (same_data (ready_in start i) (ready_for d (each_way + i)))) k untold

module _ {d start : List ℕ} (own : Holds start (state_of start)) (g : GivesPlans d) (fresh : (state_of start).axis.plans ≡ plans_of d) where
  pub none_renewed : Renewing d start start untold 0
  unfolding filled
  none_renewed = record { few = omega arith; holds = own; told = refl }

  module _ {bs : List ℕ} {changed : List Bool} {k : ℕ} (r : Renewing d start bs changed k) (h : k < each_way) where
    pub own_yet : Holds bs (state_of bs)
    own_yet = rw (held_state r.holds) r.holds

    plan_yet : plan_in bs (each_way + k) ≡ plan_for (mapped d (each_way + k))
    plan_yet =
        ap (λ (s : State). get_or s.axis.plans (each_way + k) (record { count = 0; moves = [] })) (held_state r.holds)
        ∙ kept_plan d fresh (each_way + k) (omega arith) (record { count = 0; moves = [] })

    pub fits_yet : MovesFit (plan_in bs (each_way + k)).moves (plan_in bs (each_way + k)).count
    fits_yet = fresh_fits d g (each_way + k) (omega arith) plan_yet

    frame_yet : ready_by d (plan_in bs (each_way + k)) ≡ ready_for d (each_way + k)
    frame_yet = fresh_ready d g (each_way + k) (omega arith) plan_yet

    kept_yet : ready_in bs k ≡ ready_in start k
    kept_yet =
        ap (λ (s : State). get_or s.axis.ready k (record { length = 0; bytes = [] })) (held_state r.holds)
        ∙ unfilled (λ i. ready_for d (each_way + i)) k (state_of start).axis.ready k (record { length = 0; bytes = [] }) (omega arith)

    pub one_renewed : {bs' : List ℕ} {b : Bool} →
        Holds bs' (readying k (ready_by d (plan_in bs (each_way + k))) (state_of bs))
        × (b ≡ not (same_data (ready_in bs k) (ready_by d (plan_in bs (each_way + k))))) → Renewing d start bs' (set changed k b) (k + 1)
    unfolding filled
    one_renewed e =
        record {
          few = omega arith;
          holds = rw (add-one k) (rw (frame_yet, held_state r.holds) at e.0);
          told = one_filled (λ i. not (same_data (ready_in start i) (ready_for d (each_way + i)))) k untold changed _ r.told
              (e.1 ∙ rw (kept_yet, frame_yet));
        }

  -- all of them
  pub all_renewed : {bs : List ℕ} {changed : List Bool} {k : ℕ} → Renewing d start bs changed k → each_way ≤ k →
      Holds bs (with_ready (ready_of d) (state_of start)) × (changed ≡ which_change (state_of start).axis.ready (ready_of d))
  unfolding filled ready_of state_of
  all_renewed {k = k} r h =
      let all : k ≡ each_way = omega (arith, r.few) in
      (rw all at r.holds, rw all at r.told)
