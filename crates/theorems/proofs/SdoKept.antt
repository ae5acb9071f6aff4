-- SDO leaves a lawful state: what its tests let through is what a row may hold, at a time when it may.
-- Assumes nothing.
use Rattle.theorems.proofs.Words.{ℕ, ◌^◌, ◌<◌, ◌≡◌, refl, sym, ◌∙◌, ap, ◌⊎◌, inl, inr, true, false, not, ◌||◌, Bool·not-not, List, [], ◌∷◌}
use Rattle.theorems.proofs.Words.{eqb-true, eqb, NmtState, PreOperational, Operational, Stopped, State, Role, Plain, ModeOfOperation}
use Rattle.theorems.proofs.Words.{MinimumLimit, MaximumLimit, PdoIdentifier, PdoType, MappingCount, MappingEntry, Access, Constant}
use Rattle.theorems.proofs.Words.{NodeWritten, Writable, In, is_pre_operational, is_operational, clash, or_false_left, or_false_right, false_not}
use Rattle.theorems.proofs.GoodValues.{good_passes, good_last, good_value, good_range}
use Rattle.theorems.proofs.Dictionary.{MayHold, store_ok, is_pdo}
use Rattle.theorems.proofs.{Lawful.Lawful, Writes.MayApply, Writes.one_row}
use Rattle.rules_dictionary.specs.Table.{table, size_of, is_constant, is_writable, identifier, map_count}
use Rattle.rules_dictionary.specs.Aborts.{good, is_good}
use Rattle.rules_dictionary.specs.Legal.{value_verdict, other_bad_value, mapping_verdict, is_valid}
use Rattle.rules_dictionary.specs.{Values.write, Values.read, Values.stored}
use Rattle.rules_services.specs.Sdo.{Offer, is_wrong_time, offer_verdict}

writable_varies : (a : Access) → not (is_writable a) ≡ false → is_constant a ≡ false
writable_varies Constant h = clash true refl h
writable_varies NodeWritten h = refl
writable_varies Writable h = refl

-- ---- what a good download may write: what it offers the row, in one part or joined out of segments

module _ (t : Offer) (nmt : NmtState) (n : ℕ) (d : List ℕ) (fits : t.value < 256 ^ size_of t.row) (fine : offer_verdict nmt d t ≡ good) where
  checked : (not (is_writable t.row.access) ≡ false) × (is_wrong_time nmt d t.row.role ≡ false)
      × (value_verdict d t.row t.value ≡ good)
  unfolding offer_verdict
  checked =
      let a = good_passes _ _ _ fine in
      let e = good_passes _ _ _ (good_passes _ _ _ (good_passes _ _ _ a.1).1).1 in
      (a.0, e.0, good_last _ e.1)

  pub may : MayHold n d t.row t.value
  unfolding is_wrong_time other_bad_value mapping_verdict
  may =
      let x = t.row in
      let v = t.value in
      let value = good_value d x v checked.2 in
      let mapping : (r : Role) → x.role ≡ r → is_good (mapping_verdict d r v) ≡ true =
      λ r e. ap is_good (ap (λ (q : Role). mapping_verdict d q v) (sym e) ∙ value.mapping) in
      record {
        fits = fits;
        listed = λ k. clash (is_constant x.access) k (writable_varies x.access checked.0);
        ranged = good_range d x v value;
        entry = λ p e.
            let late = or_false_right (not (is_pre_operational nmt) || is_valid (read d (identifier p))) _ (rw e at checked.1) in
            (mapping (MappingEntry p) e, eqb-true _ _ (simp Bool·not-not at (false_not (not (eqb (read d (map_count p)) 0)) late)));
        count = λ p e. mapping (MappingCount p) e;
        named = λ p e. ap (λ (q : Role). other_bad_value d q v) (sym e) ∙ value.choice;
        ordered = value.ordered;
      }

  pre_idle : (m : NmtState) → not (is_pre_operational m) ≡ false → is_operational m ≡ false
  pre_idle PreOperational h = refl
  pre_idle Operational h = clash true refl h
  pre_idle Stopped h = clash true refl h

  idle_or_quiet : (r : Role) → t.row.role ≡ r → (is_operational nmt ≡ false) ⊎ (is_pdo r ≡ false)
  unfolding is_wrong_time
  idle_or_quiet Plain e = inr refl
  idle_or_quiet ModeOfOperation e = inr refl
  idle_or_quiet MinimumLimit e = inr refl
  idle_or_quiet MaximumLimit e = inr refl
  idle_or_quiet (PdoIdentifier p) e = inl (pre_idle nmt (rw e at checked.1))
  idle_or_quiet (PdoType p) e = inl (pre_idle nmt (rw e at checked.1))
  idle_or_quiet (MappingCount p) e = inl (pre_idle nmt (or_false_left (not (is_pre_operational nmt)) _ (rw e at checked.1)))
  idle_or_quiet (MappingEntry p) e =
      let early = or_false_left (not (is_pre_operational nmt) || is_valid (read d (identifier p))) _ (rw e at checked.1) in
      inl (pre_idle nmt (or_false_left (not (is_pre_operational nmt)) _ early))

pub offer_may : (t : Offer) (s : State) (d : List ℕ) → In t.row table → t.value < 256 ^ size_of t.row → offer_verdict s.node.nmt d t ≡ good →
    Lawful s d → MayApply s d (write t.row t.value ∷ [])
unfolding stored
offer_may t s d i fits e law =
    let m = may t s.node.nmt s.node.id d fits e in
    record {
      fit = one_row (λ w. In w.row table × (w.value < 256 ^ size_of w.row)) (i, fits);
      quiet =
          elim (idle_or_quiet t s.node.nmt s.node.id d fits e t.row.role refl) [
            | inl h ↦ inl h
            | inr h ↦ inr (one_row (λ w. is_pdo w.row.role ≡ false) h)
          ];
      ok = store_ok s.node.id d t.row t.value i law.long law.dictionary m;
    }
