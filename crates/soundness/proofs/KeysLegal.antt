-- THE LAW of keys: the PDO identifiers are legal where every key is legal and no two are alike.
-- Assumes nothing.
use Prim.Native.Nat.{ℕ, ◌<◌}
use native.Mathlib.Omega.{arith}
use mathlib.Core.Path.{◌≡◌, refl, sym, ◌∙◌, ap, ap₂}
use mathlib.Core.Bool.{true, false, not, ◌&&◌}
use mathlib.Core.List.{List, map}
use borrow.Author.Tests.{ltb-true, not-true}
use lib.Dec.{eqb, ltb}
use lib.ListN.{length}
use Rattle.rules_dictionary.specs.Numbers.{all, are_bytes}
use Rattle.rules_dictionary.specs.Table.{pdos, receive_pdos, transmit_pdos, identifier, dictionary_length}
use Rattle.rules_dictionary.specs.Values.{read}
use Rattle.rules_dictionary.specs.Legal.{is_valid, frame_identifier, identifiers, bad_identifier}
use Rattle.rules_dictionary.specs.Members.{In}
use Rattle.rules_dictionary.proofs.Tests.{and_left, and_right, and_both, all_in}
use Rattle.rules_dictionary.proofs.Packing.{within}
use Rattle.rules_dictionary.proofs.Rows.{read_fits}
use Rattle.rules_dictionary.proofs.Members.{all_of, in_map, identifier_in}
use Rattle.theorems.proofs.Booleans.{false_not, and_false_if, and_then_false, eqb_comm}
use Rattle.theorems.proofs.Dictionary.{Fits, fits, fits_back, bad_alone}
use Rattle.mapping.proofs.Orders.{both_ways}
use Rattle.soundness.specs.Keys.{identifiers_legal, key_in, is_legal_key, distinct, are_apart}
use Rattle.soundness.proofs.Distinct.{all_mapped, apart_in, of_apart, by_direction_lem}
use Rattle.soundness.proofs.KeyMeaning.{meaning, key_means, legal_alone, alike}

abbrev pub keys : List ℕ → List ℕ
keys d = map (key_in d) pdos

numbered : {p : ℕ} → In p pdos → p < 8
numbered {p} i = ltb-true p 8 (all_in (λ p. ltb p 8) i refl)

module _ (d : List ℕ) (long : length d ≡ dictionary_length) (bytes : are_bytes d ≡ true) where
  word : ℕ → ℕ
  word p = read d (identifier p)

  -- ---- by PDO

  key_of : {p : ℕ} → In p pdos → key_in d p ≡ meaning p (word p)
  unfolding key_in word
  key_of {p} i = key_means p (word p) (read_fits (identifier p) d bytes (omega (arith, within (identifier_in i))))

  legal_of : {p : ℕ} → In p pdos → is_legal_key (key_in d p) ≡ not (bad_alone p (word p))
  legal_of {p} i = ap is_legal_key (key_of i) ∙ legal_alone p (word p) (numbered i)

  alike_of : {p q : ℕ} → In p pdos → In q pdos → eqb p q ≡ false → bad_alone p (word p) ≡ false → bad_alone q (word q) ≡ false →
      eqb (key_in d p) (key_in d q) ≡ (is_valid (word p) && is_valid (word q) && eqb (frame_identifier (word p)) (frame_identifier (word q)))
  alike_of {p} {q} i j e h k = ap₂ eqb (key_of i) (key_of j) ∙ alike p q (word p) (word q) e h k

  -- ---- words that fit have legal keys, no two alike, and back

  to_keys : ((p : ℕ) → In p pdos → Fits word p (word p)) → (all is_legal_key (keys d) && distinct (keys d)) ≡ true
  unfolding distinct
  to_keys g =
      and_both _ _ (all_mapped is_legal_key (key_in d) pdos (λ p i. legal_of i ∙ false_not _ (g p i).alone))
      (of_apart (key_in d) pdos refl (λ p q i j e.
      alike_of i j e (g p i).alone (g q j).alone
      ∙ and_false_if (is_valid (word p) && is_valid (word q)) _ (λ v.
      (g p i).unlike j (eqb_comm q p ∙ e) (and_left (is_valid (word p)) (is_valid (word q)) v) (and_right (is_valid (word p)) (is_valid (word q)) v))))

  from_keys : (all is_legal_key (keys d) && distinct (keys d)) ≡ true → (p : ℕ) → In p pdos → Fits word p (word p)
  from_keys h p i =
      record {
        alone = alone i;
        unlike = λ {q} j other v v'.
            let e = eqb_comm p q ∙ other in
            and_then_false (is_valid (word p) && is_valid (word q)) _
            (sym (alike_of i j e (alone i) (alone j)) ∙ apart_in (key_in d) i j (and_right (all is_legal_key (keys d)) (distinct (keys d)) h) e)
            (and_both (is_valid (word p)) (is_valid (word q)) v v');
      }
    where
      alone : {q : ℕ} → In q pdos → bad_alone q (word q) ≡ false
      alone j = not-true _ (sym (legal_of j) ∙ all_in is_legal_key (in_map (key_in d) j) (and_left (all is_legal_key (keys d)) (distinct (keys d)) h))

  -- ---- words that fit are legal identifiers, and back

  legal_fits : identifiers_legal d ≡ true → (p : ℕ) → In p pdos → Fits word p (word p)
  unfolding identifiers_legal identifiers word
  legal_fits h p i = fits word (word p) i (not-true _ (all_in (λ p. not (bad_identifier (map word pdos) p (word p))) i h))

  fits_legal : ((p : ℕ) → In p pdos → Fits word p (word p)) → identifiers_legal d ≡ true
  unfolding identifiers_legal identifiers word
  fits_legal g =
      all_of (λ p. not (bad_identifier (map word pdos) p (word p))) pdos (λ p i. false_not _ (fits_back word (word p) i (g p i) refl))

  keys_legal : (all is_legal_key (keys d) && distinct (keys d)) ≡ identifiers_legal d
  keys_legal = both_ways _ _ (λ h. fits_legal (from_keys h)) (λ h. to_keys (legal_fits h))

  -- the same, tested by direction
  pub by_keys : {rs ts : List ℕ} → rs ≡ map (key_in d) receive_pdos → ts ≡ map (key_in d) transmit_pdos →
      ((all is_legal_key rs && all is_legal_key ts) && ((distinct rs && distinct ts) && are_apart rs ts)) ≡ identifiers_legal d
  by_keys {rs} {ts} e f = by_direction_lem is_legal_key rs ts ∙ rw (e, f) keys_legal
