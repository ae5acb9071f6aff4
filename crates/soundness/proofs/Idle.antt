-- Where nothing waits, what waits is sound.
-- Assumes nothing.
use Prim.Native.Nat.{ℕ, ◌+◌, ◌-◌, ◌*◌, ◌/◌, ◌<◌, ◌≤◌}
use native.Mathlib.Omega.{arith}
use mathlib.Core.Path.{◌≡◌, refl, sym, ◌∙◌}
use mathlib.Core.Bool.{true}
use mathlib.Core.List.{List}
use borrow.Author.Tests.{eqb-true, eq-eqb}
use lib.ListN.{get_or}
use Rattle.state.specs.declared.NmtState.{NmtState}
use Rattle.rules_dictionary.specs.Numbers.{value, part}
use Rattle.rules_dictionary.specs.Table.{each_way}
use Rattle.rules_dictionary.proofs.Tests.{and_both}
use Rattle.rules_services.specs.PdoTraffic.{no_data}
use Rattle.rules.specs.Outcome.{same_data}
use Rattle.form.specs.Form.{word_length, word_at, data_at, due_offset, held_place, plans_place, state_of}
use Rattle.form.specs.Own.{is_zero, every_word}
use Rattle.mapping.proofs.Ends.{at_one}
use Rattle.mapping.proofs.Framed.{zeros_of, zeros_to}
use Rattle.soundness.specs.Waiting.{pace_place, held_frame_place, waiting_words, none_waiting, wait_sound}
use Rattle.soundness.proofs.Counting.{idle}
use Rattle.soundness.proofs.Every.{waits, waits_by_pdo}
use Rattle.soundness.proofs.Holding.{none_held_lem, unheld}

module _ (bs : List ℕ) (none : none_waiting bs ≡ true) where
  zero_byte : (at : ℕ) → held_place ≤ at → at < plans_place → get_or bs at 0 ≡ 0
  unfolding none_waiting every_word
  zero_byte at h l =
      let k = (at - held_place) / word_length in
      let place = held_place + word_length * k in
      let e = at_one (λ i. is_zero (word_at i bs)) waiting_words held_place word_length k none (omega arith) in
      let z : place + (at - place) ≡ at = omega arith in
      rw z at (zeros_of bs word_length place (eqb-true _ 0 e) (at - place) (omega arith))

  zero_word : (at : ℕ) → held_place ≤ at → at + word_length ≤ plans_place → value (part at word_length bs) ≡ 0
  zero_word at h l = zeros_to bs word_length at (λ i k. zero_byte (at + i) (omega arith) (omega arith))

  none_at : (p : ℕ) → p < each_way → same_data (data_at (held_frame_place p) bs) no_data ≡ true
  none_at p h =
      let at = held_frame_place p in
      sym (none_held_lem bs at)
      ∙ rw (zero_byte at (omega arith) (omega arith), zero_word (at + 1) (omega arith) (omega arith))
      (eq-eqb _ 0 (zero_word (at + 1 + 4) (omega arith) (omega arith)))

  module _ (m : NmtState) (d : List ℕ) where
    waits_none : (t : ℕ) → t < each_way → waits bs d m t ≡ true
    waits_none t h =
        let place = pace_place t in
        let count = eq-eqb _ 0 (zero_byte place (omega arith) (omega arith)) in
        let mark = eq-eqb _ 0 (zero_byte (place + due_offset) (omega arith) (omega arith)) in
        and_both _ _ (idle m d (t + each_way) (get_or bs place 0) (get_or bs (place + due_offset) 0) (and_both _ _ count mark))
        (unheld m d t (data_at (held_frame_place t) bs) (none_at t h))

    -- THE LAW: nothing that waits is unsound
    pub none_waits : wait_sound m d (state_of bs).axis.paces (state_of bs).axis.held ≡ true
    none_waits =
        sym (waits_by_pdo bs d m)
        ∙ and_both _ _ (waits_none 0 (omega arith)) (and_both _ _ (waits_none 1 (omega arith)) (and_both _ _ (waits_none 2 (omega arith))
        (and_both _ _ (waits_none 3 (omega arith)) refl)))
