-- Ticket 3, 'The feeder product': "a list of signed 32-bit lengths, lent by the caller, and wants each fed once .. at each step it is told the status
-- word and gives the next control word and target, as relative set-points, up to two ahead".
-- Assumes nothing.
use Rattle.std.specs.Prelude.{ℕ, ◌+◌, ◌*◌, ◌^◌, Bool, cond, not, ◌&&◌, List, ltb, ℤ, pos, length, get_or}
use Rattle.std.specs.Int.{w32}
use Rattle.std.proofs.Common.{of_z}
use Rattle.feeder.specs.declared.Refusal.{Refusal}
use Rattle.feeder.specs.declared.Refusal.TheVariants.{Accepted, ListTooLong, PastTheList}
use Rattle.feeder.specs.declared.Feeder.{Feeder}
use Rattle.feeder.specs.declared.Answer.{Answer}
use Rattle.rules_dictionary.specs.Numbers.{bit}
use Rattle.drive.specs.StatusWord.{ack_shown}

-- ---- the refusals

-- their numbers; 0 is none
abbrev pub refusal_number : Refusal → ℕ
refusal_number Accepted = 0
refusal_number ListTooLong = 1
refusal_number PastTheList = 2

-- "a list over 1,024 lengths"
abbrev pub most_lengths : ℕ
most_lengths = 1024

abbrev pub is_too_long : List ℤ → Bool
is_too_long lengths = ltb most_lengths (length lengths)

-- the position is none that a feeder of this list comes to
abbrev pub is_past : List ℤ → Feeder → Bool
is_past lengths f = ltb (length lengths) f.position

-- "before the first step, with no word given"
unfoldable pub started : List ℤ → Refusal
started lengths = cond (is_too_long lengths) ListTooLong Accepted

-- ---- a step

-- the position at the first step
abbrev pub first_feeder : Feeder
first_feeder = record { position = 0 }

-- Enable alone: bit 4 is zero
abbrev pub wait_word : ℕ
wait_word = 0x000F

-- Enable with bit 4, a new set-point, and bit 6, a relative one
abbrev pub feed_word : ℕ
feed_word = 0x005F

-- "whenever it shows bit 12 clear and lengths remain"
abbrev pub feeds : List ℤ → Feeder → ℕ → Bool
feeds lengths f status = not (bit ack_shown status) && ltb f.position (length lengths)

-- the next length, 0 when none remains
abbrev pub next_length : List ℤ → Feeder → ℤ
next_length lengths f = get_or lengths f.position (pos 0)

abbrev pub moved : Feeder → Feeder
moved f = record { position = f.position + 1 }

-- the words of an accepted step
unfoldable pub answered : List ℤ → Feeder → ℕ → Answer
answered lengths f status =
    let fed = feeds lengths f status in
    record {
      refusal = Accepted;
      feeder = cond fed (moved f) f;
      word = cond fed feed_word wait_word;
      target = next_length lengths f;
    }

-- "all else then zero"
abbrev pub refused : Refusal → Answer
refused why = record { refusal = why; feeder = first_feeder; word = 0; target = pos 0 }

-- THE STEP
unfoldable pub step : List ℤ → Feeder → ℕ → Answer
step lengths f status =
    cond (is_too_long lengths) (refused ListTooLong)
    (cond (is_past lengths f) (refused PastTheList)
    (answered lengths f status))

-- ---- the number that C gets: "refusal times 2^60 .., plus the new position times 2^48, the control word times 2^32, the target as u32"
unfoldable pub told : Answer → ℕ
told u = refusal_number u.refusal * 2 ^ 60 + u.feeder.position * 2 ^ 48 + u.word * 2 ^ 32 + of_z w32 u.target

-- opens every definition of this module, where a proof computes
unfoldable pub open_feeder : Unit {0}
unfolding started answered step told
open_feeder = tt
