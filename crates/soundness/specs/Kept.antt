-- What is kept of a PDO's mapping, beside the mapping: its plan and its ready frame.
-- Assumes nothing.
use Rattle.std.specs.Prelude.{ℕ, zero, suc, ◌+◌, List, Bool, true, ◌&&◌}
use Rattle.rules_dictionary.specs.declared.Plan.{Plan}
use Rattle.rules_dictionary.specs.declared.PdoData.{PdoData}
use Rattle.rules_dictionary.specs.Table.{Direction, pdos, transmit_pdos}
use Rattle.rules_dictionary.specs.Plans.{mapped, plan_for, ready_for}
use Rattle.rules.specs.Outcome.{same_plan, same_data}
use Rattle.rules.specs.Sound.{pairwise}
use Rattle.form.specs.Form.{plan_length, state_of}
use Rattle.form.specs.Own.{plans_own}
use Rattle.mapping.specs.Words.{mapping_legal}
use Rattle.mapping.specs.Kept.{record_length, plan_kept_at}
use Rattle.soundness.specs.Rows.{few_moves}

-- a PDO's mapping is legal, its count in range, and the kept plan the one that it gives
abbrev pub plan_kept : List ℕ → ℕ → Plan → Bool
plan_kept d p plan = few_moves d p && (mapping_legal d p && same_plan plan (plan_for (mapped d p)))

-- so of all eight
unfoldable pub plans_kept : List ℕ → List Plan → Bool
plans_kept d plans = pairwise (plan_kept d) pdos plans

-- so of the plans that a state's bytes keep, in the form of plans
unfoldable pub plans_kept_in : List ℕ → List ℕ → Bool
plans_kept_in bs d = plans_own bs && plans_kept d (state_of bs).axis.plans

-- so of so many PDOs of a direction by places, one plan and one mapping record behind another
unfoldable pub plans_kept_from : ℕ → Direction → ℕ → ℕ → List ℕ → List ℕ → Bool
plans_kept_from zero way plan map bs d = true
plans_kept_from (suc n) way plan map bs d =
    plan_kept_at way plan map bs d && plans_kept_from n way (plan + plan_length) (map + record_length) bs d

-- the kept ready frame is the one that the mapping gives
abbrev pub frame_kept : List ℕ → ℕ → PdoData → Bool
frame_kept d p f = same_data f (ready_for d p)

-- so of all four transmit PDOs
unfoldable pub ready_kept : List ℕ → List PdoData → Bool
ready_kept d ready = pairwise (frame_kept d) transmit_pdos ready
