-- Runs of node 5 with a feeder, computed: three lengths are fed with two ahead, however the answers are written; and for each premise a run that
-- breaks it alone, on which what is promised fails. What is told and answered is computed from where the node stands.
-- Assumes nothing.
use Prim.Native.Nat.{ℕ, ◌-◌}
use mathlib.Core.Path.{◌≡◌, refl}
use mathlib.Core.Bool.{Bool, true, false, not, ◌&&◌, beq}
use mathlib.Core.List.{List, [], ◌∷◌, ◌++◌, map}
use lib.Dec.{eqb}
use lib.IntN.{ℤ, pos, negsuc}
use lib.ListN.{replicate}
use mir.Syntax.{w32}
use mir.Val.{of_z}
use Rattle.rules_dictionary.specs.Numbers.{all, bytes}
use Rattle.drive.specs.SetPoints.{is_queued}
use Rattle.rules.specs.Outcome.{same_by}
use Rattle.rules.specs.Calls.{Call, power_up_call, frame_call, event_call}
use Rattle.rules.specs.Scripts.{open_rules}
use Rattle.rules.specs.Examples.{request, nmt}
use Rattle.theorems.specs.Promises.{Step, Stand, after, open_promises}
use Rattle.theorems.specs.PromisesOfDrive.{open_drive_promises}
use Rattle.theorems.proofs.Telling.{step as whole, ran, flag, started, control, write1, readied, operational, sync_of, held_for_sync}
use Rattle.feeder.specs.declared.Answer.{Answer}
use Rattle.feeder.specs.Feeder.{first_feeder, open_feeder}
use Rattle.feeder.specs.Feeding.{points_of, open_feeding}
use Rattle.feeder.proofs.Played.{once, Leg, all_marks, taken_all, premises, promised, Way, way_of, way, marks, legs, played}

unfoldable open_telling : Unit {0}
unfolding marks legs played open_rules open_promises open_drive_promises open_feeder open_feeding
open_telling = tt

-- ---- the calls

-- 607Ah and 6040h by SDO, 6040h in receive PDO 1, both in receive PDO 3, 607Ah in receive PDO 4
abbrev aims : Answer → Call
aims u = request (0x23 ∷ 0x7A ∷ 0x60 ∷ 0x00 ∷ bytes 4 (of_z w32 u.target))

abbrev commands : Answer → Call
commands u = request (0x2B ∷ 0x40 ∷ 0x60 ∷ 0x00 ∷ bytes 4 u.word)

abbrev in_first : Answer → Call
in_first u = frame_call 0x205 (bytes 2 u.word)

abbrev in_third : Answer → Call
in_third u = frame_call 0x405 (bytes 2 u.word ++ bytes 4 (of_z w32 u.target))

abbrev in_fourth : Answer → Call
in_fourth u = frame_call 0x505 (bytes 4 (of_z w32 u.target))

-- an entry of four bytes by SDO
abbrev write4 : ℕ → ℕ → ℕ → ℕ → Call
write4 low high subindex n = request (0x23 ∷ low ∷ high ∷ subindex ∷ bytes 4 n)

abbrev at : ℕ → Call
at n = event_call 5 (bytes 4 n ++ bytes 4 0)

abbrev reached : Call
reached = event_call 6 []

abbrev tick : Call
tick = event_call 7 []

-- lent no output, and so refused
abbrev without : Call → Step
without c = record { call = c; output = [] }

-- ---- feeds-three: 300, -450 and 7 from 1000 on

abbrev enabled : List Call
enabled = readied ++ (control 0x0F ∷ at 1000 ∷ [])

abbrev three : List ℤ
three = pos 300 ∷ negsuc 449 ∷ pos 7 ∷ []

abbrev all_true : List Bool → Bool
all_true bs = all (λ b. b) bs

abbrev by_sdo : Way
by_sdo = way (λ u. aims u ∷ commands u ∷ [])

abbrev targets_taken : List Leg → List ℕ
targets_taken ls = map (λ p. p.target) (points_of (taken_all (all_marks ls)))

abbrev behind : (Answer → List Call) → List Call → Way
behind f cs = way (λ u. f u ++ cs)

-- the first is fed, waited for, and the second fed: two ahead; two steps wait, and behind the second of them the first is reached; the third is
-- fed. Then nothing is left, the last two are reached, and the last answer is not written
abbrev eight : (Answer → List Call) → List Way
eight f =
    behind f []
    ∷ behind f []
    ∷ behind f []
    ∷ behind f []
    ∷ behind f (reached ∷ [])
    ∷ behind f []
    ∷ behind f (reached ∷ reached ∷ [])
    ∷ way (λ u. [])
    ∷ []

abbrev is_fed : List Leg → Stand → Bool
is_fed ls a =
    same_by eqb (map (λ l. l.turn.told) ls) (0x0227 ∷ 0x1227 ∷ 0x0227 ∷ 0x1227 ∷ 0x1227 ∷ 0x0227 ∷ 0x1227 ∷ 0x0627 ∷ [])
    && same_by eqb (map (λ l. flag (is_queued l.at.state.axis.drive.store)) ls) (0 ∷ 0 ∷ 0 ∷ 1 ∷ 1 ∷ 0 ∷ 1 ∷ 0 ∷ [])
    && same_by eqb (map (λ l. l.answer.feeder.position) ls) (1 ∷ 1 ∷ 2 ∷ 2 ∷ 2 ∷ 3 ∷ 3 ∷ 3 ∷ [])
    && same_by eqb (targets_taken ls) (1300 ∷ 850 ∷ 857 ∷ [])
    && all_true (premises three ls a)
    && all_true (promised three ls a)

abbrev feeds_three : List Way → Stand → Bool
feeds_three ways a = once (played three first_feeder ways a) (λ ls. is_fed ls a)

-- receive PDO 4 maps 607Ah alone
abbrev remapped : List Call
remapped =
    write4 0x03 0x14 0x01 0x80000505
    ∷ write1 0x03 0x16 0x00 0x00
    ∷ write4 0x03 0x16 0x01 0x607A0020
    ∷ write1 0x03 0x16 0x00 0x01
    ∷ write4 0x03 0x14 0x01 0x00000505
    ∷ []

-- both by SDO
feeds_three_by_sdo : feeds_three (eight (λ u. aims u ∷ commands u ∷ [])) (ran enabled) ≡ true
unfolding open_telling
feeds_three_by_sdo = refl

-- by process data: both in one frame; the target by SDO; the target in a frame, and the word by SDO; each in a frame of its own
feeds_three_by_pdo :
    once (ran (remapped ++ enabled ++ (operational ∷ [])))
    (λ a. feeds_three (eight (λ u. in_third u ∷ [])) a
    && feeds_three (eight (λ u. aims u ∷ in_first u ∷ [])) a
    && feeds_three (eight (λ u. in_fourth u ∷ commands u ∷ [])) a
    && feeds_three (eight (λ u. in_fourth u ∷ in_first u ∷ [])) a)
    ≡ true
unfolding open_telling
feeds_three_by_pdo = refl

-- held for SYNC
feeds_three_at_sync : feeds_three (eight (λ u. in_third u ∷ sync_of [] ∷ [])) (ran (held_for_sync 2 ∷ enabled ++ (operational ∷ []))) ≡ true
unfolding open_telling
feeds_three_at_sync = refl

-- with other calls before, between and behind: a tick, feedback, SYNC, voltage on, 01h and 80h, 02h for another node; 6081h, 607Dh and 6060h; and
-- refused ones, events out of place and 6040h with no output lent
abbrev amid : List Way
amid =
    way (λ u. tick ∷ aims u ∷ at 1000 ∷ operational ∷ write4 0x81 0x60 0x00 5000 ∷ in_first u ∷ sync_of [] ∷ [])
    ∷ way (λ u. at 1100 ∷ in_third u ∷ nmt 0x80 ∷ event_call 2 [] ∷ [])
    ∷ way (λ u. write1 0x60 0x60 0x00 0x01 ∷ aims u ∷ write4 0x7D 0x60 0x02 1300 ∷ commands u ∷ [])
    ∷ way_of (λ u. without (control 0x00) ∷ whole (aims u) ∷ whole (frame_call 0x000 (0x02 ∷ 0x06 ∷ [])) ∷ whole (commands u) ∷ [])
    ∷ way (λ u. aims u ∷ commands u ∷ aims u ∷ commands u ∷ event_call 4 [] ∷ reached ∷ [])
    ∷ way (λ u. operational ∷ in_third u ∷ in_third u ∷ [])
    ∷ way (λ u. in_third u ∷ reached ∷ reached ∷ reached ∷ [])
    ∷ way (λ u. aims u ∷ [])
    ∷ []

feeds_three_amid_others : feeds_three amid (ran enabled) ≡ true
unfolding open_telling
feeds_three_amid_others = refl

-- a list of no lengths: bit 4 stays zero, and nothing is taken. A length of 0: a set-point to where the drive stands
feeds_nothing_and_zero :
    once (ran enabled)
    (λ a. once (played [] first_feeder (by_sdo ∷ by_sdo ∷ []) a)
    (λ ls. all_true (premises [] ls a) && all_true (promised [] ls a) && same_by eqb (targets_taken ls) [])
    && once (played (pos 0 ∷ []) first_feeder (by_sdo ∷ by_sdo ∷ []) a)
    (λ ls. all_true (premises (pos 0 ∷ []) ls a) && all_true (promised (pos 0 ∷ []) ls a) && same_by eqb (targets_taken ls) (1000 ∷ [])))
    ≡ true
unfolding open_telling
feeds_nothing_and_zero = refl

-- ---- for each premise a run that breaks it alone

-- their places in the order of Feeding; the seventh, that all data are bytes, is broken by no slice of u8
abbrev short : ℕ
short = 0

abbrev signed : ℕ
signed = 1

abbrev is_enabled_first : ℕ
is_enabled_first = 2

abbrev is_in_mode_one : ℕ
is_in_mode_one = 3

abbrev is_empty_first : ℕ
is_empty_first = 4

abbrev has_bit_four_zero : ℕ
has_bit_four_zero = 5

abbrev is_present : ℕ
is_present = 7

abbrev is_written : ℕ
is_written = 8

abbrev is_target_first : ℕ
is_target_first = 9

abbrev no_other_writes : ℕ
no_other_writes = 10

abbrev no_faults : ℕ
no_faults = 11

abbrev no_state_changes : ℕ
no_state_changes = 12

abbrev no_mode_changes : ℕ
no_mode_changes = 13

abbrev is_inside : ℕ
is_inside = 14

-- that one alone does not hold
abbrev all_but : ℕ → List Bool
all_but n = replicate n true ++ false ∷ replicate (14 - n) true

-- and what is promised: the list's beginning, each step's length, the sums, what is held
abbrev breaks : ℕ → List Bool → List ℤ → List Way → Stand → Bool
breaks n kept lengths ways a =
    once (played lengths first_feeder ways a)
    (λ ls. same_by beq (premises lengths ls a) (all_but n) && same_by beq (promised lengths ls a) kept && not (all_true kept))

-- a length that is not taken at its step; another one in its place; one left out; what is no longer held
abbrev not_taken : List Bool
not_taken = true ∷ false ∷ true ∷ true ∷ []

abbrev wrong_length : List Bool
wrong_length = false ∷ false ∷ true ∷ true ∷ []

abbrev left_out : List Bool
left_out = false ∷ true ∷ true ∷ true ∷ []

abbrev not_held : List Bool
not_held = true ∷ true ∷ true ∷ false ∷ []

-- ---- the list: 1,025 lengths, answered by zeros; 2^32 - 5, which no slice of i32 holds, and which is -5 in its word
lists_broken :
    once (ran enabled)
    (λ a. breaks short not_taken (replicate 1025 (pos 7)) (by_sdo ∷ []) a && breaks signed wrong_length (pos 0xFFFFFFFB ∷ []) (by_sdo ∷ []) a)
    ≡ true
unfolding open_telling
lists_broken = refl

-- ---- the start

abbrev from : List Call → (Stand → Bool) → Stand → Bool
from cs test a = test (after (map whole cs) a)

abbrev mode_one : Call
mode_one = write1 0x60 0x60 0x00 0x01

-- Switch on disabled; mode 0; a set-point held, to 500; bit 4 set in mode 0, where nothing was taken
starts_broken :
    once (ran (started ∷ []))
    (λ a. from (mode_one ∷ []) (breaks is_enabled_first not_taken three (by_sdo ∷ [])) a
    && once (after (map whole (control 0x06 ∷ control 0x0F ∷ [])) a)
    (λ b. breaks is_in_mode_one not_taken three (by_sdo ∷ []) b
    && from (mode_one ∷ write4 0x7A 0x60 0x00 500 ∷ control 0x1F ∷ control 0x0F ∷ [])
    (breaks is_empty_first (true ∷ true ∷ false ∷ false ∷ []) three (by_sdo ∷ [])) b
    && from (control 0x1F ∷ mode_one ∷ []) (breaks has_bit_four_zero not_taken three (by_sdo ∷ [])) b))
    ≡ true
unfolding open_telling
starts_broken = refl

-- ---- the answers

-- the status word of before, at the second step: the second length is answered, and then the third is taken
abbrev stale : Way
stale = record { tells = λ s. 0x0227; then = λ u. whole (aims u) ∷ whole (commands u) ∷ [] }

-- the first answer is not written; its calls are lent no output, and so are refused; the word comes before the target; another target between the
-- two; bit 4 lowered and raised again; an absolute set-point before the word, at once
answers_broken :
    once (ran enabled)
    (λ a. breaks is_present left_out three (by_sdo ∷ stale ∷ by_sdo ∷ by_sdo ∷ []) a
    && breaks is_written left_out three (way (λ u. []) ∷ by_sdo ∷ []) a
    && breaks is_written left_out three (way_of (λ u. without (aims u) ∷ without (commands u) ∷ []) ∷ by_sdo ∷ []) a
    && breaks is_target_first wrong_length three (way (λ u. commands u ∷ aims u ∷ []) ∷ []) a
    && breaks no_other_writes wrong_length three (way (λ u. aims u ∷ write4 0x7A 0x60 0x00 500 ∷ commands u ∷ []) ∷ []) a
    && breaks no_other_writes wrong_length three (way (λ u. aims u ∷ commands u ∷ control 0x0F ∷ commands u ∷ []) ∷ []) a
    && breaks no_other_writes wrong_length three (way (λ u. aims u ∷ control 0x3F ∷ commands u ∷ []) ∷ []) a)
    ≡ true
unfolding open_telling
answers_broken = refl

-- ---- the drive: a fault before the word; 02h, 82h, 81h and power-up behind it; mode 3 behind it and before it; a maximum of 1299, and 1000 and the
-- greatest length, which leave i32. An enabled drive has no other way out: event 2 and event 4 are out of place there, and refused
drive_broken :
    once (ran enabled)
    (λ a. breaks no_faults not_taken three (way (λ u. aims u ∷ event_call 3 (0x10 ∷ 0x23 ∷ 0x02 ∷ []) ∷ commands u ∷ []) ∷ []) a
    && all (λ c. breaks no_state_changes not_held three (way (λ u. aims u ∷ commands u ∷ c ∷ []) ∷ []) a)
    (nmt 0x02 ∷ nmt 0x82 ∷ nmt 0x81 ∷ power_up_call 5 ∷ [])
    && breaks no_mode_changes not_held three (way (λ u. aims u ∷ commands u ∷ write1 0x60 0x60 0x00 0x03 ∷ []) ∷ []) a
    && breaks no_mode_changes not_taken three (way (λ u. write1 0x60 0x60 0x00 0x03 ∷ aims u ∷ commands u ∷ []) ∷ []) a
    && breaks is_inside not_taken three (way (λ u. write4 0x7D 0x60 0x02 1299 ∷ aims u ∷ commands u ∷ []) ∷ []) a
    && breaks is_inside not_taken (pos 2147483647 ∷ []) (by_sdo ∷ []) a)
    ≡ true
unfolding open_telling
drive_broken = refl
