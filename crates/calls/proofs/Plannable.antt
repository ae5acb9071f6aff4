-- A legal dictionary gives every plan, and its ready frames are data.
-- Assumes nothing.
use Prim.Native.Nat.{ℕ, zero, suc, ◌+◌, ◌<◌, ◌≤◌}
use native.Mathlib.Omega.{arith}
use mathlib.Core.Path.{◌≡◌, refl, sym, subst}
use mathlib.Core.Bool.{true}
use mathlib.Core.List.{List}
use borrow.Author.Tests.{ltb-false}
use lib.ListN.{length, get_or}
use Rattle.rules_dictionary.specs.declared.PdoData.{PdoData}
use Rattle.rules_dictionary.specs.Members.{In}
use Rattle.rules_dictionary.specs.Table.{dictionary_length, each_way, map_count, most_moves, pdos}
use Rattle.rules_dictionary.specs.Values.{read}
use Rattle.rules_dictionary.specs.Plans.{mapped, plan_for, ready_for, ready_of}
use Rattle.rules_dictionary.proofs.Tests.{and_both}
use Rattle.rules_dictionary.proofs.Members.{count_in_lem, pdo_in}
use Rattle.theorems.proofs.Dictionary.{DictionaryOk, not_above_lem, words_legal}
use Rattle.mapping.specs.Words.{mapping_legal}
use Rattle.mapping.specs.Afresh.{GivesPlans}
use Rattle.mapping.specs.Moves.{ready_by}
use Rattle.mapping.proofs.Assembly.{joined_room}
use Rattle.mapping.proofs.Worked.{plan_fits, ready_mapped}
use Rattle.output.specs.Laying.{IsData}
use Rattle.output.proofs.Frames.{is_data}

module _ {n : ℕ} {d : List ℕ} (ok : DictionaryOk n d) {p : ℕ} (i : In p pdos) where
  legal : mapping_legal d p ≡ true
  unfolding mapping_legal
  legal = and_both _ _ (words_legal ok i) (ok.counts p i)

  few : read d (map_count p) ≤ most_moves
  few = ltb-false most_moves (read d (map_count p)) (not_above_lem ok (count_in_lem i))

pub plannable : {n : ℕ} {d : List ℕ} → length d ≡ dictionary_length → DictionaryOk n d → GivesPlans d
plannable l ok = (l, λ p h. (few ok (pdo_in p h), legal ok (pdo_in p h)))

-- the ready frame of transmit PDO t
ready_at : (d : List ℕ) (x : PdoData) (t : ℕ) → t < each_way → get_or (ready_of d) t x ≡ ready_for d (each_way + t)
unfolding ready_of
ready_at d x zero h = refl
ready_at d x (suc zero) h = refl
ready_at d x (suc (suc zero)) h = refl
ready_at d x (suc (suc (suc zero))) h = refl
ready_at d x (suc (suc (suc (suc t)))) h = absurd (omega arith)

module _ (d : List ℕ) (g : GivesPlans d) (t : ℕ) (h : t < each_way) where
  ready_data : IsData (ready_for d (each_way + t))
  unfolding ready_by
  ready_data =
      let k = g.1 (each_way + t) (omega arith) in
      let f = plan_fits d (each_way + t) k.1 k.0 in
      subst IsData (ready_mapped d (each_way + t) k.1 k.0)
      (is_data _ (joined_room d (plan_for (mapped d (each_way + t))).moves (plan_for (mapped d (each_way + t))).count f))

  pub data_at_lem : (x : PdoData) → IsData (get_or (ready_of d) t x)
  data_at_lem x = subst IsData (sym (ready_at d x t h)) ready_data
