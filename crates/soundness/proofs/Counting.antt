-- The ways through the test of a SYNC count: what the code answers on each is what the definition says.
-- Assumes nothing.
use Prim.Native.Nat.{ℕ, zero, suc, ◌<◌, ◌≤◌}
use native.Mathlib.Omega.{arith}
use mathlib.Core.Path.{◌≡◌, refl, sym, ◌∙◌}
use mathlib.Core.Bool.{Bool, true, false, cond, ◌&&◌, and-false}
use mathlib.Core.List.{List}
use borrow.Author.Tests.{eqb-true, ne_eqb, le-leb, lt-leb, le-ltb}
use lib.Dec.{eqb, leb, ltb}
use Rattle.state.specs.declared.NmtState.{NmtState}
use Rattle.rules_dictionary.specs.Legal.{is_cyclic, last_synchronous}
use Rattle.rules_dictionary.proofs.Tests.{and_left, and_right}
use Rattle.rules_services.specs.PdoTraffic.{works, type_of}
use Rattle.rules.specs.Sound.{count_sound, due_sound, pace_sound}
use Rattle.form.specs.Form.{flag_of}

module _ (m : NmtState) (d : List ℕ) (p : ℕ) where
  pub no_count : count_sound m d p 0 ≡ true
  unfolding count_sound
  no_count = go (works m d p) (leb 1 (type_of d p)) (leb (type_of d p) last_synchronous) refl
    where
      go : (w a b : Bool) → leb 1 (type_of d p) ≡ a → cond (w && (a && b)) (ltb 0 (type_of d p)) true ≡ true
      go true true true e = e
      go true true false e = refl
      go true false b e = refl
      go false a b e = refl

  module _ (count : ℕ) (some : count ≡ 0 → ⊥) where
    unpaced : (works m d p && is_cyclic (type_of d p)) ≡ false → count_sound m d p count ≡ false
    unfolding count_sound
    unpaced h = rw h (ne_eqb count 0 some)

    pub unworking_count : works m d p ≡ false → count_sound m d p count ≡ false
    unworking_count h = unpaced (rw h)

    pub event_count : last_synchronous < type_of d p → count_sound m d p count ≡ false
    event_count h = unpaced (rw (lt-leb (type_of d p) last_synchronous h, and-false (leb 1 (type_of d p))) (and-false (works m d p)))

    pub working_count : works m d p ≡ true → type_of d p ≤ last_synchronous → count_sound m d p count ≡ ltb count (type_of d p)
    unfolding count_sound
    working_count w h = rw (w, le-leb (type_of d p) last_synchronous h) (go (type_of d p))
      where
        go : (t : ℕ) → cond (leb 1 t && true) (ltb count t) (eqb count 0) ≡ ltb count t
        go zero = ne_eqb count 0 some ∙ sym (le-ltb count 0 (omega arith))
        go (suc t) = rw (le-leb 1 (suc t) (omega arith))

  -- nothing is counted, nor is the PDO due
  pub idle : (count mark : ℕ) → (eqb count 0 && eqb mark 0) ≡ true → pace_sound m d p (record { count = count; due = flag_of mark }) ≡ true
  unfolding pace_sound due_sound
  idle count mark h = rw (eqb-true count 0 (and_left (eqb count 0) _ h), eqb-true mark 0 (and_right (eqb count 0) _ h), no_count)
