-- Plans and ready frames after a service's writes: where no mapping and nothing that may be mapped to transmit is written, they stay.
-- Assumes nothing.
use Prim.Native.Nat.{ℕ}
use mathlib.Core.Path.{◌≡◌, refl, sym, ◌∙◌, ap, ap₂}
use mathlib.Core.Logic.{◌⊎◌, inl, inr}
use mathlib.Core.Bool.{Bool, true, false}
use mathlib.Core.List.{List}
use lib.ListN.{take}
use Rattle.rules_dictionary.specs.Numbers.{any, value}
use Rattle.rules_dictionary.specs.Members.{In}
use Rattle.rules_dictionary.specs.Table.{Row, table, transmit, receive_pdos, transmit_pdos, pdos, map_count, map_entry, map_slots, direction_of}
use Rattle.rules_dictionary.specs.Values.{Write, read, field, stored}
use Rattle.rules_dictionary.specs.Legal.{suits, map_words}
use Rattle.rules_dictionary.specs.Plans.{targets, mapped, plan_for, plans_of, joined, pdo_data, ready_for, ready_of}
use Rattle.rules_dictionary.proofs.Tests.{each_in}
use Rattle.rules_dictionary.proofs.Members.{all_of, in_right, words_read, count_in_lem, entry_in}
use Rattle.rules_dictionary.proofs.Packing.{apart, same_or_apart}
use Rattle.rules_dictionary.proofs.Rows.{field_stored}
use Rattle.rules_dictionary.proofs.Plans.{joined_same}
use Rattle.rules_dictionary.proofs.Plans.{mapped_in}
use Rattle.theorems.proofs.Dictionary.{DictionaryOk, map_same}
use Rattle.theorems.proofs.Booleans.{clash, any_false_in}
use Rattle.theorems.proofs.Mapped.{mapped_way}
use Rattle.theorems.proofs.Writes.{InTable}
use Rattle.output.specs.Leaves.{touches, remaps, is_mapping}

transmits : {p : ℕ} → In p transmit_pdos → direction_of p ≡ transmit
transmits i = each_in (λ p. direction_of p ≡ transmit) i (refl, (refl, (refl, (refl, tt))))

module _ (ws : List Write) (d : List ℕ) (rows : InTable ws) where
  -- rows of a kind of which none is written
  unwritten : (f : Row → Bool) → any (λ w. f w.row) ws ≡ false → (y : Row) → In y table → f y ≡ true → field (stored ws d) y ≡ field d y
  unwritten f none y j h =
      field_stored y ws d (all_of (λ w. apart w.row y) ws (λ w k. go w (same_or_apart (rows w k) j) (any_false_in (λ v. f v.row) k none)))
    where
      go : (w : Write) → (w.row ≡ y) ⊎ (apart w.row y ≡ true) → f w.row ≡ false → apart w.row y ≡ true
      go w (inl e) n = clash (f y) h (ap f (sym e) ∙ n)
      go w (inr a) n = a

  module _ (none : remaps ws ≡ false) where
    mapping_stays : (y : Row) → In y table → is_mapping y.role ≡ true → read (stored ws d) y ≡ read d y
    unfolding read
    mapping_stays y j h = ap value (unwritten (λ x. is_mapping x.role) none y j h)

    mapped_stays : {q : ℕ} → In q pdos → mapped (stored ws d) q ≡ mapped d q
    unfolding mapped
    mapped_stays {q} i = ap₂ (λ (n : ℕ) (vs : List ℕ). targets (take n vs)) (mapping_stays (map_count q) (count_in_lem i) refl) words
      where
        words : map_words (stored ws d) q ≡ map_words d q
        words =
            words_read (stored ws d) i
            ∙ map_same (λ k. read (stored ws d) (map_entry q k)) (λ k. read d (map_entry q k)) map_slots
            (λ k j. mapping_stays (map_entry q k) (entry_in i j) refl)
            ∙ sym (words_read d i)

    pub plans_stay : plans_of (stored ws d) ≡ plans_of d
    unfolding plans_of
    plans_stay = map_same (λ p. plan_for (mapped (stored ws d) p)) (λ p. plan_for (mapped d p)) pdos (λ q i. ap plan_for (mapped_stays i))

    pub ready_stays : touches ws ≡ false → {n : ℕ} → DictionaryOk n d → ready_of (stored ws d) ≡ ready_of d
    unfolding ready_of ready_for
    ready_stays quiet {n} ok = map_same (ready_for (stored ws d)) (ready_for d) transmit_pdos (λ p i. ap pdo_data (go p i))
      where
        go : (p : ℕ) → In p transmit_pdos → joined (stored ws d) (mapped (stored ws d) p) ≡ joined d (mapped d p)
        go p i =
            let j : In p pdos = in_right receive_pdos i in
            ap (joined (stored ws d)) (mapped_stays j)
            ∙ joined_same d (stored ws d) (mapped d p)
            (λ x k. unwritten (λ y. suits transmit y.mappable) quiet x (mapped_in d p k)
            (ap (λ way. suits way x.mappable) (sym (transmits i)) ∙ mapped_way ok j x k))
