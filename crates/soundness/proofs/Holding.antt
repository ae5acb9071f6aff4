-- The bytes of a held frame: what is mapped, and zeros behind.
-- Assumes nothing.
use Prim.Native.Nat.{ℕ, zero, suc, ◌+◌, ◌*◌, ◌<◌, ◌≤◌}
use native.Mathlib.Numerals.{add-one}
use native.Mathlib.Omega.{arith}
use mathlib.Core.Path.{◌≡◌, refl, ◌∙◌, ap}
use mathlib.Core.Bool.{Bool, true, ◌&&◌, and_assoc}
use mathlib.Core.List.{List, [], ◌∷◌}
use borrow.Author.Tests.{eqb-true, eq-eqb, ne_eqb, lt-ltb, le-ltb, le-leb}
use lib.Dec.{eqb}
use lib.ListN.{length, take, get_or, drop_of_length-le}
use lib.Seq.{drop-cons, length-take-le}
use Rattle.rules_dictionary.specs.declared.PdoData.{PdoData}
use Rattle.rules_dictionary.specs.declared.Plan.{Plan}
use Rattle.state.specs.declared.NmtState.{NmtState}
use Rattle.rules_dictionary.specs.Numbers.{value, part, all, padded}
use Rattle.rules_dictionary.specs.Table.{each_way}
use Rattle.rules_dictionary.specs.Values.{unpacked}
use Rattle.rules_dictionary.specs.Legal.{is_synchronous, last_synchronous}
use Rattle.rules_dictionary.specs.Plans.{pdo_data, mapped}
use Rattle.rules_dictionary.proofs.Tests.{and_left}
use Rattle.rules_services.specs.PdoTraffic.{works, type_of, no_data, mapped_length, are_legal}
use Rattle.rules.specs.Outcome.{same_by, same_data}
use Rattle.rules.specs.Sound.{held_sound}
use Rattle.dictionary.proofs.Bytes.{value_step, value_none}
use Rattle.form.specs.Form.{each, data_at}
use Rattle.mapping.specs.Received.{moves_of, sizes, Receives}
use Rattle.mapping.proofs.Worked.{tested}
use Rattle.mapping.proofs.Unpacked.{length_is, tested_receives}
use Rattle.soundness.specs.Kept.{plan_kept}
use Rattle.soundness.specs.Waiting.{zero_from}

pub zero_step : (bs : List ℕ) (k : ℕ) → k < length bs → zero_from k bs ≡ (eqb (get_or bs k 0) 0 && zero_from (k + 1) bs)
zero_step bs k h = rw (add-one k, drop-cons bs k 0 h)

pub zero_end : (bs : List ℕ) (k : ℕ) → length bs ≤ k → zero_from k bs ≡ true
zero_end bs k h = rw (drop_of_length-le bs {i = k} h)

-- bytes are the first of them and zeros, where zeros stand behind
same_front : (n m : ℕ) (bs : List ℕ) → length bs ≡ m → same_by eqb bs (padded 0 m (take n bs)) ≡ zero_from n bs
same_front zero zero [] l = refl
same_front (suc n) zero [] l = refl
same_front n (suc m) [] l = absurd (omega arith)
same_front n zero (b ∷ bs) l = absurd (omega arith)
same_front zero (suc m) (b ∷ bs) l = ap (λ (r : Bool). eqb b 0 && r) (same_front zero m bs (omega arith))
same_front (suc n) (suc m) (b ∷ bs) l = rw (eq-eqb b b refl) (same_front n m bs (omega arith))

pub full : (f : PdoData) (n : ℕ) → length f.bytes ≡ 8 → n ≤ 8 →
    same_data f (pdo_data (take n f.bytes)) ≡ (eqb f.length n && zero_from n f.bytes)
unfolding pdo_data
full f n l h = rw (length-take-le n f.bytes (omega arith)) (ap (λ (r : Bool). eqb f.length n && r) (same_front n 8 f.bytes l))

-- ---- no frame

-- a number is zero just where its bytes are
zero_bytes : (bs : List ℕ) (n place : ℕ) → eqb (value (part place n bs)) 0 ≡ all (λ b. eqb b 0) (each n place 1 (λ i. get_or bs i 0))
zero_bytes bs zero place = rw (value_none place bs)
zero_bytes bs (suc n) place = rw (value_step n place bs, ← zero_bytes bs n (place + 1)) (go (get_or bs place 0) (value (part (place + 1) n bs)))
  where
    go : (b v : ℕ) → eqb (b + 256 * v) 0 ≡ (eqb b 0 && eqb v 0)
    go zero zero = refl
    go zero (suc v) = rw (ne_eqb (suc v) 0 (λ e. omega arith)) (ne_eqb (0 + 256 * suc v) 0 (λ e. omega arith))
    go (suc b) v = rw (ne_eqb (suc b) 0 (λ e. omega arith)) (ne_eqb (suc b + 256 * v) 0 (λ e. omega arith))

-- nothing is held where the length and two words are zero
pub none_held_lem : (bs : List ℕ) (at : ℕ) →
    (eqb (get_or bs at 0) 0 && (eqb (value (part (at + 1) 4 bs)) 0 && eqb (value (part (at + 1 + 4) 4 bs)) 0)) ≡ same_data (data_at at bs) no_data
none_held_lem bs at =
    let z : at + 1 + 4 ≡ at + 1 + 1 + 1 + 1 + 1 = omega arith in
    rw (zero_bytes bs 4 (at + 1), z, zero_bytes bs 4 (at + 1 + 1 + 1 + 1 + 1)) (simp (and_assoc))

-- ---- a held frame, test by test

pub receives : (d : List ℕ) (p : ℕ) (plan : Plan) → p < each_way → plan_kept d p plan ≡ true → Receives plan (mapped d p)
receives d p plan h k = tested_receives h (tested d p plan k)

module _ (m : NmtState) (d : List ℕ) (p : ℕ) (f : PdoData) where
  pub held_none : f.length ≡ 0 → held_sound m d p f ≡ same_data f no_data
  unfolding held_sound
  held_none h = rw (le-ltb 0 f.length (omega arith))

  pub unheld : same_data f no_data ≡ true → held_sound m d p f ≡ true
  unheld h = held_none (eqb-true _ _ (and_left (eqb f.length 0) _ h)) ∙ h

  pub held_some : (f.length ≡ 0 → ⊥) →
      held_sound m d p f
      ≡ (works m d p && is_synchronous (type_of d p) && same_data f (pdo_data (take (mapped_length (mapped d p)) f.bytes))
      && are_legal d (unpacked (mapped d p) f.bytes))
  unfolding held_sound
  held_some h = rw (lt-ltb 0 f.length (omega arith))

  -- of a working synchronous PDO what is left to test goes by its plan
  pub held_by : {plan : Plan} → (f.length ≡ 0 → ⊥) → works m d p ≡ true → type_of d p ≤ last_synchronous → Receives plan (mapped d p) →
      held_sound m d p f ≡ (same_data f (pdo_data (take (sizes (moves_of plan)) f.bytes)) && are_legal d (unpacked (mapped d p) f.bytes))
  held_by h w t r = held_some h ∙ rw (w, le-leb (type_of d p) last_synchronous t, ← length_is r)
