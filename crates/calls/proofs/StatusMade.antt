-- 6041h and 6061h made, or standing already; and what they leave of the PDOs.
-- Assumes nothing.
use Prim.Native.Nat.{ℕ}
use native.Mathlib.Omega.{arith}
use mathlib.Core.Path.{◌≡◌, refl, sym, ◌∙◌, ap}
use mathlib.Core.Bool.{Bool, true, false, true≢false, not, ◌||◌}
use mathlib.Core.List.{List}
use lib.Dec.{eqb}
use lib.ListN.{length}
use borrow.Author.Tests.{eqb-true, eq-eqb, ne_eqb}
use Rattle.drive.specs.declared.Drive.{Drive}
use Rattle.state.specs.declared.Node.{Node}
use Rattle.rules_dictionary.specs.Numbers.{are_bytes}
use Rattle.rules_dictionary.specs.Members.{In}
use Rattle.rules_dictionary.specs.Table.{Row, table, dictionary_length, status_word, mode_display, pdos}
use Rattle.rules_dictionary.specs.Values.{read, store}
use Rattle.rules_dictionary.specs.Legal.{mode_number}
use Rattle.rules_dictionary.specs.Plans.{mapped, plan_for, plans_of}
use Rattle.rules_dictionary.proofs.Packing.{within}
use Rattle.rules_dictionary.proofs.Members.{pdo_in}
use Rattle.rules_dictionary.proofs.Tests.{and_left, and_right}
use Rattle.rules.specs.Outcome.{settled, status_of}
use Rattle.mapping.specs.Words.{mapping_legal}
use Rattle.theorems.proofs.Dictionary.{is_pdo, mapped_alike, words_alike, count_alike, map_same}
use Rattle.theorems.proofs.Demands.{store_self}
use Rattle.theorems.proofs.Settled.{status_in, display_in, settled_length, settled_pdo}
use Rattle.mapping.specs.Afresh.{GivesPlans}
use Rattle.state.specs.declared.State.{State}
use Rattle.calls.specs.Ending.{status_by, settled_by, is_settled, written_by}

module _ (node : Node) (drive : Drive) (d : List ℕ) (word shown : ℕ) (w : word ≡ status_by node drive d) (m : shown ≡ mode_number drive.mode) where
  -- written, they are made
  pub both_written : store mode_display shown (store status_word word d) ≡ settled_by node drive d
  unfolding settled_by
  both_written = rw (w, m)

  -- where both stand there already, nothing is to be made
  pub both_stand : are_bytes d ≡ true → length d ≡ dictionary_length → read d status_word ≡ word → read d mode_display ≡ shown →
      d ≡ settled_by node drive d
  unfolding settled_by
  both_stand b l p q =
      let first : store status_word (status_by node drive d) d ≡ d =
      ap (λ (v : ℕ). store status_word v d) (sym (p ∙ w)) ∙ store_self status_word d b (omega (arith, within status_in)) in
      let second : store mode_display (mode_number drive.mode) d ≡ d =
      ap (λ (v : ℕ). store mode_display v d) (sym (q ∙ m)) ∙ store_self mode_display d b (omega (arith, within display_in)) in
      sym (ap (store mode_display (mode_number drive.mode)) first ∙ second)

  -- whether both stand there
  pub settled_both : read d status_word ≡ word → read d mode_display ≡ shown → is_settled node drive d ≡ true
  unfolding is_settled
  settled_both p q = rw (eq-eqb _ _ (p ∙ w), eq-eqb _ _ (q ∙ m))

  pub unsettled_word : (read d status_word ≡ word → ⊥) → is_settled node drive d ≡ false
  unfolding is_settled
  unsettled_word n = rw (ne_eqb _ _ (λ e. n (e ∙ sym w)))

  pub unsettled_display : read d status_word ≡ word → (read d mode_display ≡ shown → ⊥) → is_settled node drive d ≡ false
  unfolding is_settled
  unsettled_display p n = rw (eq-eqb _ _ (p ∙ w), ne_eqb _ _ (λ e. n (e ∙ sym m)))

neither : (s t : Bool) → (not s || t) ≡ false → (s ≡ true) × (t ≡ false)
neither true t h = (refl, h)
neither false t h = absurd (true≢false h)

-- where nothing that may be mapped is written then, nothing was, and nothing is made
pub unwritten : (touched : Bool) (node : Node) (drive : Drive) (d : List ℕ) → are_bytes d ≡ true → length d ≡ dictionary_length →
    written_by touched node drive d ≡ false → (touched ≡ false) × (d ≡ settled_by node drive d)
unfolding is_settled
unwritten touched node drive d b l h =
    let n = neither (is_settled node drive d) touched h in
    let p = eqb (read d status_word) (status_by node drive d) in
    let q = eqb (read d mode_display) (mode_number drive.mode) in (
      n.1,
      both_stand node drive d _ _ refl refl b l (eqb-true _ _ (and_left p q n.0)) (eqb-true _ _ (and_right p q n.0)),
    )

-- ---- dictionaries that are alike in the rows of the PDOs

abbrev pub AlikeInPdos : List ℕ → List ℕ → Type 0
AlikeInPdos d d' = (y : Row) → In y table → is_pdo y.role ≡ true → read d' y ≡ read d y

module _ (d d' : List ℕ) (alike : AlikeInPdos d d') where
  pub plans_alike : plans_of d' ≡ plans_of d
  unfolding plans_of
  plans_alike = map_same (λ p. plan_for (mapped d' p)) (λ p. plan_for (mapped d p)) pdos (λ p i. ap plan_for (mapped_alike d d' alike i))

  pub plannable_alike : length d' ≡ length d → GivesPlans d → GivesPlans d'
  unfolding mapping_legal
  plannable_alike l g = (
    l ∙ g.0,
    λ p h.
        let i = pdo_in p h in
        rw (count_alike d d' alike i, words_alike d d' alike i) (g.1 p h),
  )

-- ---- 6041h and 6061h are no rows of a PDO

settled_by_lem : (t : State) (d : List ℕ) → settled t d ≡ settled_by t.node t.axis.drive d
unfolding settled status_of settled_by
settled_by_lem t d = refl

pub made_long : (t : State) (d : List ℕ) → length (settled_by t.node t.axis.drive d) ≡ length d
made_long t d = rw (← settled_by_lem) (settled_length t d)

pub made_alike : (t : State) (d : List ℕ) → AlikeInPdos d (settled_by t.node t.axis.drive d)
made_alike t d y i h = rw (← settled_by_lem) (settled_pdo t d y i h)
