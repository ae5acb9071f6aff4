-- A step, by the tests that the code makes on its way; and the position that it answers.
-- Assumes nothing.
use Prim.Native.Nat.{ℕ, ◌≤◌, ◌<◌}
use native.Mathlib.Omega.{arith}
use mathlib.Core.Path.{◌≡◌, ◌∙◌}
use mathlib.Core.Bool.{true, false, not, and-false}
use mathlib.Core.List.{List}
use borrow.Author.Tests.{lt-ltb, le-ltb, ltb-true, ltb-false}
use lib.IntN.{ℤ, pos}
use lib.ListN.{length, get_or, get_or-eq_default}
use Rattle.rules_dictionary.specs.Numbers.{bit}
use Rattle.rules_dictionary.proofs.Tests.{and_right}
use Rattle.drive.specs.StatusWord.{ack_shown}
use Rattle.theorems.proofs.Booleans.{by_test}
use Rattle.feeder.specs.declared.Refusal.TheVariants.{Accepted, ListTooLong, PastTheList}
use Rattle.feeder.specs.declared.Feeder.{Feeder}
use Rattle.feeder.specs.declared.Answer.{Answer}
use Rattle.feeder.specs.Feeder.{most_lengths, is_too_long, is_past, feeds, feed_word, wait_word, moved, refused, answered, step}

module _ (l : List ℤ) (f : Feeder) (s : ℕ) where
  pub too_long : most_lengths < length l → step l f s ≡ refused ListTooLong
  unfolding step
  too_long h = simp (lt-ltb _ _ h)

  module _ (short : length l ≤ most_lengths) where
    pub past : length l < f.position → step l f s ≡ refused PastTheList
    unfolding step
    past h = simp (le-ltb _ _ short, lt-ltb _ _ h)

    pub accepted : f.position ≤ length l → step l f s ≡ answered l f s
    unfolding step
    accepted h = simp (le-ltb _ _ short, le-ltb _ _ h)

    pub used_up : f.position ≡ length l → step l f s ≡ record { refusal = Accepted; feeder = f; word = wait_word; target = pos 0 }
    unfolding answered
    used_up h =
        accepted (omega arith)
        ∙ simp (le-ltb f.position (length l) (omega arith), and-false, get_or-eq_default l (pos 0) {n = f.position} (omega arith))

    module _ (h : f.position < length l) where
      abbrev next : ℤ
      next = get_or l f.position (pos 0)

      pub waits : bit ack_shown s ≡ true → step l f s ≡ record { refusal = Accepted; feeder = f; word = wait_word; target = next }
      unfolding answered
      waits e = accepted (omega arith) ∙ simp e

      pub goes : bit ack_shown s ≡ false → step l f s ≡ record { refusal = Accepted; feeder = moved f; word = feed_word; target = next }
      unfolding answered
      goes e = accepted (omega arith) ∙ simp (e, lt-ltb _ _ h)

  -- ---- what it answers

  abbrev Few : Answer → Type 0
  Few u = u.feeder.position ≤ most_lengths

  few_answered : length l ≤ most_lengths → f.position ≤ length l → Few (answered l f s)
  unfolding answered
  few_answered h k =
      by_test (λ (g : Feeder). g.position ≤ most_lengths) (feeds l f s)
      (λ e. let below : f.position < length l = ltb-true f.position (length l) (and_right (not (bit ack_shown s)) _ e) in omega arith)
      (λ e. omega arith)

  -- no more than the longest list has
  pub few : Few (step l f s)
  unfolding step
  few =
      by_test Few (is_too_long l) (λ e. omega arith)
      (λ e. by_test Few (is_past l f) (λ e. omega arith)
      (λ k. few_answered (ltb-false most_lengths (length l) e) (ltb-false (length l) f.position k)))
