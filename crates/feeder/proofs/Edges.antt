-- The edges of the feeder's step, by computation: the bits of its two words, the steps that wait, feed and find nothing left, the first list and the
-- first position that are refused, the number that C gets. They are what a wrong word, bit, end or weight breaks.
-- Assumes nothing.
use Prim.Native.Nat.{ℕ}
use mathlib.Core.Path.{◌≡◌, refl}
use mathlib.Core.Bool.{true, false}
use mathlib.Core.List.{List, [], ◌∷◌, map}
use lib.IntN.{ℤ, pos, negsuc}
use lib.ListN.{replicate}
use Rattle.rules_dictionary.specs.Numbers.{bit}
use Rattle.drive.specs.declared.Command.TheVariants.{Enable}
use Rattle.drive.specs.DriveStates.{command}
use Rattle.feeder.specs.declared.Refusal.TheVariants.{Accepted, ListTooLong, PastTheList}
use Rattle.feeder.specs.declared.Feeder.{Feeder}
use Rattle.feeder.specs.declared.Answer.{Answer}
use Rattle.feeder.specs.Feeder.{started, feed_word, wait_word, refused, step, told, open_feeder}

-- ---- the words

-- the node takes both as Enable, whatever stood there before
enables : (old : ℕ) → (command old feed_word ≡ Enable) × (command old wait_word ≡ Enable)
unfolding command
enables old = (refl, refl)

-- bit 4, a new set-point, and bit 6, a relative one; never bit 5, at once, nor bit 8, halt
feed_bits : map (λ k. bit k feed_word) (4 ∷ 6 ∷ 5 ∷ 8 ∷ []) ≡ true ∷ true ∷ false ∷ false ∷ []
feed_bits = refl

wait_bits : map (λ k. bit k wait_word) (4 ∷ 6 ∷ 5 ∷ 8 ∷ []) ≡ false ∷ false ∷ false ∷ false ∷ []
wait_bits = refl

-- ---- the steps of a list

abbrev at : ℕ → Feeder
at p = record { position = p }

-- an accepted step: the new position, the word, the target
abbrev gives : ℕ → ℕ → ℤ → Answer
gives p w z = record { refusal = Accepted; feeder = at p; word = w; target = z }

-- by the status words: bit 12 clear, and all others set; bit 12 alone, and all bits
abbrev answers : List ℤ → ℕ → List Answer
answers lengths p = map (step lengths (at p)) (0x0000 ∷ 0xEFFF ∷ 0x1000 ∷ 0xFFFF ∷ [])

-- that one where bit 12 is clear, this one where it is set
abbrev clear_and_set : Answer → Answer → List Answer
clear_and_set u v = u ∷ u ∷ v ∷ v ∷ []

nothing_to_feed : answers [] 0 ≡ clear_and_set (gives 0 0x000F (pos 0)) (gives 0 0x000F (pos 0))
unfolding open_feeder
nothing_to_feed = refl

-- a negative length, 0, the greatest and the least
abbrev four : List ℤ
four = negsuc 449 ∷ pos 0 ∷ pos 2147483647 ∷ negsuc 2147483647 ∷ []

each_fed_or_waited : map (answers four) (0 ∷ 1 ∷ 2 ∷ 3 ∷ [])
    ≡ clear_and_set (gives 1 0x005F (negsuc 449)) (gives 0 0x000F (negsuc 449))
    ∷ clear_and_set (gives 2 0x005F (pos 0)) (gives 1 0x000F (pos 0))
    ∷ clear_and_set (gives 3 0x005F (pos 2147483647)) (gives 2 0x000F (pos 2147483647))
    ∷ clear_and_set (gives 4 0x005F (negsuc 2147483647)) (gives 3 0x000F (negsuc 2147483647))
    ∷ []
unfolding open_feeder
each_fed_or_waited = refl

used_up : answers four 4 ≡ clear_and_set (gives 4 0x000F (pos 0)) (gives 4 0x000F (pos 0))
unfolding open_feeder
used_up = refl

-- ---- the refusals, with all else zero

all_zero : map told (refused ListTooLong ∷ refused PastTheList ∷ []) ≡ 0x1000000000000000 ∷ 0x2000000000000000 ∷ []
unfolding open_feeder
all_zero = refl

past_the_end : (answers four 5 ≡ clear_and_set (refused PastTheList) (refused PastTheList)) × (step [] (at 1) 0 ≡ refused PastTheList)
unfolding open_feeder
past_the_end = (refl, refl)

-- so many times 7
abbrev sevens : ℕ → List ℤ
sevens n = replicate n (pos 7)

longest_list : map (λ p. step (sevens 1024) (at p) 0) (0 ∷ 1023 ∷ 1024 ∷ 1025 ∷ [])
    ≡ gives 1 0x005F (pos 7) ∷ gives 1024 0x005F (pos 7) ∷ gives 1024 0x000F (pos 0) ∷ refused PastTheList ∷ []
unfolding open_feeder
longest_list = refl

-- it is looked at before the position
too_long : map (λ p. step (sevens 1025) (at p) 0) (0 ∷ 1024 ∷ 1025 ∷ 1026 ∷ [])
    ≡ refused ListTooLong ∷ refused ListTooLong ∷ refused ListTooLong ∷ refused ListTooLong ∷ []
unfolding open_feeder
too_long = refl

starts : map started ([] ∷ four ∷ sevens 1024 ∷ sevens 1025 ∷ []) ≡ Accepted ∷ Accepted ∷ Accepted ∷ ListTooLong ∷ []
unfolding open_feeder
starts = refl

-- ---- the number that C gets

numbers : map told (step four (at 0) 0x0237 ∷ step four (at 0) 0x1237 ∷ step four (at 3) 0x0237 ∷ step (sevens 1024) (at 1023) 0x0237 ∷ [])
    ≡ 0x0001005FFFFFFE3E ∷ 0x0000000FFFFFFE3E ∷ 0x0004005F80000000 ∷ 0x0400005F00000007 ∷ []
unfolding open_feeder
numbers = refl
