-- Words that are zero, read from both ends: each of them is, and nothing is mapped or kept there.
-- Assumes nothing.
use Prim.Native.Nat.{ℕ, zero, suc, ◌+◌, ◌-◌, ◌*◌, ◌<◌, ◌≤◌}
use native.Mathlib.Omega.{arith}
use mathlib.Core.Path.{◌≡◌, refl}
use mathlib.Core.Bool.{Bool, true, false}
use mathlib.Core.List.{List}
use borrow.Author.Tests.{eqb-true, ltb-true, ltb-false}
use lib.Dec.{ltb}
use Rattle.rules_dictionary.specs.Table.{Direction}
use Rattle.rules_dictionary.proofs.Tests.{and_left, and_right}
use Rattle.form.specs.Form.{word_at}
use Rattle.form.specs.Own.{every_at, every_word, is_zero}
use Rattle.mapping.specs.Slots.{words_from}
use Rattle.mapping.specs.Kept.{spare_kept, ends_empty}

-- a test that holds at every place, at one of them
pub at_one : (test : ℕ → Bool) (n place width i : ℕ) → every_at test n place width ≡ true → i < n → test (place + width * i) ≡ true
at_one test zero place width i h l = absurd (omega arith)
at_one test (suc n) place width zero h l = let e : place + width * 0 ≡ place = omega arith in rw e (and_left (test place) _ h)
at_one test (suc n) place width (suc i) h l =
    let e : place + width + width * i ≡ place + width * suc i = omega arith in
    rw (← e) (at_one test n (place + width) width i (and_right (test place) _ h) (omega arith))

pub ends_empty_lem : (n place : ℕ) (bs : List ℕ) → ends_empty n place bs ≡ true → 4 ≤ n → n ≤ 8 → (i : ℕ) → i < n → word_at (place + 4 * i) bs ≡ 0
unfolding ends_empty every_word
ends_empty_lem n place bs h few most i l = go (ltb i 4) refl
  where
    go : (b : Bool) → ltb i 4 ≡ b → word_at (place + 4 * i) bs ≡ 0
    go true e =
        eqb-true _ 0 (at_one (λ k. is_zero (word_at k bs)) 4 place 4 i (and_left (every_word is_zero 4 place bs) _ h) (ltb-true i 4 e))
    go false e =
        let far = ltb-false i 4 e in
        let k : place + 4 * (n - 4) + 4 * (i - (n - 4)) ≡ place + 4 * i = omega arith in
        rw (← k) (eqb-true _ 0 (at_one (λ x. is_zero (word_at x bs)) 4 (place + 4 * (n - 4)) 4 (i - (n - 4))
        (and_right (every_word is_zero 4 place bs) _ h) (omega arith)))

pub none_spare : (way : Direction) (n words moves : ℕ) (d bs : List ℕ) → ((i : ℕ) → i < n → word_at (words + 4 * i) d ≡ 0) →
    ((i : ℕ) → i < n → word_at (moves + 4 * i) bs ≡ 0) → spare_kept way (words_from n words d) (words_from n moves bs) ≡ true
unfolding words_from spare_kept
none_spare way zero words moves d bs f g = refl
none_spare way (suc n) words moves d bs f g =
    let zero_words_lem : words + 4 * 0 ≡ words = omega arith in
    let zero_moves : moves + 4 * 0 ≡ moves = omega arith in
    let w : word_at words d ≡ 0 = rw zero_words_lem at (f 0 (omega arith)) in
    let k : word_at moves bs ≡ 0 = rw zero_moves at (g 0 (omega arith)) in
    let later : (p i : ℕ) → p + 4 + 4 * i ≡ p + 4 * suc i = λ p i. omega arith in
    rw (w, k) (none_spare way n (words + 4) (moves + 4) d bs (λ i l. rw (later words i) (f (suc i) (omega arith)))
    (λ i l. rw (later moves i) (g (suc i) (omega arith))))
