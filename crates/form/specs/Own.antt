-- Which bytes are a state's form, tested where bytes can be another's: the numbers of enums, flags, what a transfer's kind does not use,
-- set-points that a store does not hold, and the zero byte of each move. Every other byte is its own form. Assumes nothing.
use Rattle.std.specs.Prelude.{ℕ, ◌+◌, ◌*◌, ◌^◌, Bool, ◌&&◌, cond, List, eqb, ltb, get_or}
use Rattle.rules_dictionary.specs.Numbers.{all, value, part}
use Rattle.rules_dictionary.specs.Table.{each_way, most_moves}
use Rattle.rules_dictionary.specs.Legal.{mode_number}
use Rattle.drive.specs.SetPoints.{mode_of}
use Rattle.form.specs.Form.{flag_number, flag_of, nmt_number, nmt_of, state_number, drive_state_of, each}
use Rattle.form.specs.Form.{nmt_offset, voltage_offset, word_length, word_at}
use Rattle.form.specs.Form.{velocity_offset, numbers_behind, set_point_words, set_point_length, mode_offset, taken_offset, drive_marks, store_offset}
use Rattle.form.specs.Form.{step_offset, object_offset, toggle_offset, receipt_words, due_offset, pace_length}
use Rattle.form.specs.Form.{plan_length, node_place, transfer_place}
use Rattle.form.specs.Form.{drive_place, paces_place, plans_place}

-- does a test hold at each of so many places, one width apart
abbrev pub every_at : (ℕ → Bool) → ℕ → ℕ → ℕ → Bool
every_at test n place width = all (λ t. t) (each n place width test)

-- ---- flags

abbrev pub own_flag : ℕ → Bool
own_flag b = eqb (flag_number (flag_of b)) b

unfoldable pub flags_own : ℕ → ℕ → List ℕ → Bool
flags_own n place bs = every_at (λ i. own_flag (get_or bs i 0)) n place 1

-- ---- words

-- does a test hold of each of so many words
unfoldable pub every_word : (ℕ → Bool) → ℕ → ℕ → List ℕ → Bool
every_word test n place bs = every_at (λ i. test (word_at i bs)) n place word_length

abbrev pub is_zero : ℕ → Bool
is_zero word = eqb word 0

-- is the last byte of a word zero
abbrev pub small : ℕ → Bool
small word = ltb word (2 ^ 24)

-- ---- the parts

unfoldable pub node_own : ℕ → List ℕ → Bool
node_own place bs =
    eqb (nmt_number (nmt_of (get_or bs (place + nmt_offset) 0))) (get_or bs (place + nmt_offset) 0) && own_flag (get_or bs (place + voltage_offset) 0)

-- nothing runs: every byte of the transfer is zero
unfoldable pub idle_at : ℕ → List ℕ → Bool
idle_at place bs = is_zero (value (part place (step_offset + object_offset) bs))
    && every_word is_zero receipt_words (place + step_offset + object_offset) bs

-- a transfer, by its kind: of its step and the words behind it, what it does not use is zero
unfoldable pub transfer_own : ℕ → List ℕ → Bool
transfer_own place bs =
    cond (eqb (get_or bs place 0) 0)
    (is_zero (get_or bs (place + step_offset) 0) && every_word is_zero receipt_words (place + step_offset + object_offset) bs)
    (cond (eqb (get_or bs place 0) 1) (every_word is_zero receipt_words (place + step_offset + object_offset) bs)
    (eqb (get_or bs place 0) 2 && own_flag (get_or bs (place + step_offset + toggle_offset) 0)))

-- a store, by its kind: the words of its two set-points that it does not use are zero
unfoldable pub store_own : ℕ → List ℕ → Bool
store_own place bs =
    cond (eqb (get_or bs place 0) 0) (every_word is_zero (2 * set_point_words) (place + 1) bs)
    (cond (eqb (get_or bs place 0) 1) (every_word is_zero (numbers_behind + set_point_words) (place + 1 + velocity_offset) bs)
    (cond (eqb (get_or bs place 0) 2) (every_word is_zero set_point_words (place + 1 + set_point_length) bs) (eqb (get_or bs place 0) 3)))

unfoldable pub drive_own : ℕ → List ℕ → Bool
drive_own place bs =
    eqb (state_number (drive_state_of (get_or bs place 0))) (get_or bs place 0)
    && (eqb (mode_number (mode_of (get_or bs (place + mode_offset) 0))) (get_or bs (place + mode_offset) 0)
    && (flags_own drive_marks (place + taken_offset) bs && store_own (place + store_offset) bs))

-- the due mark of each transmit PDO
unfoldable pub paces_own : List ℕ → Bool
paces_own bs = every_at (λ i. own_flag (get_or bs (i + due_offset) 0)) each_way paces_place pace_length

unfoldable pub plan_own : ℕ → List ℕ → Bool
plan_own place bs = every_word small most_moves (place + 1) bs

unfoldable pub plans_own : List ℕ → Bool
plans_own bs = every_at (λ i. plan_own i bs) (2 * each_way) plans_place plan_length

-- all but the transfer and the plans
unfoldable pub head_own : List ℕ → Bool
head_own bs = node_own node_place bs && (drive_own drive_place bs && paces_own bs)

unfoldable pub is_own : List ℕ → Bool
is_own bs = head_own bs && (transfer_own transfer_place bs && plans_own bs)
