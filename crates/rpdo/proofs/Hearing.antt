-- The receive PDOs by number, and which of them a frame on an identifier is for.
-- Assumes nothing.
use Prim.Native.Nat.{ℕ, zero, suc, ◌+◌, ◌%◌, ◌<◌}
use native.Mathlib.Omega.{arith}
use mathlib.Core.Path.{◌≡◌, refl, sym, ◌∙◌, ap, ap₂}
use mathlib.Core.Bool.{Bool, true, false, cond, ◌&&◌, and-true}
use mathlib.Core.List.{List, [], ◌∷◌}
use borrow.Author.Tests.{eq-eqb, ne_eqb}
use lib.Dec.{eqb}
use lib.ListN.{drop}
use Rattle.state.specs.declared.State.{State}
use Rattle.rules_dictionary.specs.Table.{each_way, receive_pdos, identifier}
use Rattle.rules_dictionary.specs.Values.{read}
use Rattle.rules_dictionary.specs.Legal.{frame_identifier}
use Rattle.rules_dictionary.specs.Members.{In, here, there}
use Rattle.rules_services.specs.Effects.{Effect, becomes}
use Rattle.state.specs.NmtStates.{is_operational}
use Rattle.rules_services.specs.PdoTraffic.{works, listens, received, received_by}
use Rattle.theorems.proofs.Booleans.{and_false_if}
use Rattle.theorems.proofs.Writes.{idle}
use Rattle.mapping.specs.Working.{is_open}
use Rattle.rpdo.specs.Traffic.{hears, received_rests, received_by_rests}

pub receiver : (p : ℕ) → p < each_way → In p receive_pdos × (drop p receive_pdos ≡ p ∷ drop (p + 1) receive_pdos)
receiver zero h = (here, refl)
receiver (suc zero) h = (there here, refl)
receiver (suc (suc zero)) h = (there (there here), refl)
receiver (suc (suc (suc zero))) h = (there (there (there here)), refl)
receiver (suc (suc (suc (suc p)))) h = absurd (omega arith)

-- ---- whether a PDO listens, by its identifier's word

module _ (d : List ℕ) (p i w : ℕ) (is : w ≡ read d (identifier p)) where
  low : frame_identifier (read d (identifier p)) ≡ w % 0x800
  low = ap frame_identifier (sym is) ∙ omega arith

  pub for_another : (w % 0x800 ≡ i → ⊥) → false ≡ hears i d p
  unfolding hears
  for_another n = sym (and_false_if (is_open d p) _ (λ e. rw (low, ne_eqb _ _ n)))

  pub heard : w % 0x800 ≡ i → is_open d p ≡ hears i d p
  unfolding hears
  heard e = sym (ap (λ (b : Bool). is_open d p && b) (rw (low, eq-eqb _ _ e)) ∙ and-true (is_open d p))

-- ---- the PDO that a frame is for

module _ (i : ℕ) (bs : List ℕ) (s : State) (d : List ℕ) where
  -- what is done for one of those PDOs, and whether it is quiet
  abbrev pub outcome : List ℕ → Effect × Bool
  outcome ps = (received_by ps i bs s d, received_by_rests ps i bs s d)

  by : Bool → ℕ → Effect × Bool → Effect × Bool
  by b p x = (elim b [ true ↦ received p bs s d | false ↦ x.0 ], cond b (received_rests p bs s d) x.1)

  -- outside Operational none listens
  pub not_served : is_operational s.node.nmt ≡ false → (ps : List ℕ) → outcome ps ≡ (becomes s, true)
  unfolding received_by received_by_rests by listens
  not_served h [] = refl
  not_served h (p ∷ ps) =
      ap₂ (λ (b : Bool). by (b && eqb (frame_identifier (read d (identifier p))) i) p) (idle s.node.nmt d p h) (not_served h ps)

  -- from PDO p on: it is for p, or for those behind
  module _ (op : is_operational s.node.nmt ≡ true) {p : ℕ} (l : p < each_way) {b : Bool} (h : b ≡ hears i d p) where
    onward : outcome (drop p receive_pdos) ≡ by b p (outcome (drop (p + 1) receive_pdos))
    unfolding received_by received_by_rests by listens works hears
    onward = rw (receiver p l).1 (ap (λ (c : Bool). by c p (outcome (drop (p + 1) receive_pdos))) same)
      where
        same : listens i s.node.nmt d p ≡ b
        same = rw (op, h)

    pub for_it : b ≡ true → outcome (drop p receive_pdos) ≡ (received p bs s d, received_rests p bs s d)
    unfolding by
    for_it t = onward ∙ rw t

    pub for_others : b ≡ false → outcome (drop p receive_pdos) ≡ outcome (drop (p + 1) receive_pdos)
    unfolding by
    for_others t = onward ∙ rw t

  pub for_none : outcome [] ≡ (becomes s, true)
  unfolding received_by received_by_rests
  for_none = refl
