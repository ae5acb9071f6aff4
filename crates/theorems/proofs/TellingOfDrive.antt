-- The telling runs of the promise on an enabled drive, beside those of Telling: node 5, enabled in mode 1, computed. The drive is told as numbers,
-- its state, mode and marks and the set-points that it holds; of the objects 6040h, 607Ah and 6064h.
-- Assumes nothing.
use Rattle.theorems.proofs.Words.{ℕ, ◌≡◌, refl, Bool, true, not, ◌&&◌, ◌||◌, List, [], ◌∷◌, ◌++◌, eqb, Drive}
use Rattle.theorems.proofs.Telling.{step, ran, seen, flag, control, readied, operational, passes, then, sync_of, held_for_sync, store_numbers}
use Rattle.rules_dictionary.specs.Table.{control_word, target_position, position}
use Rattle.rules_dictionary.specs.Values.{read}
use Rattle.rules_dictionary.specs.Legal.{mode_number}
use Rattle.drive.specs.DriveStates.{is_enabled, state_word}
use Rattle.rules.specs.Outcome.{same_by}
use Rattle.rules.specs.Calls.{Call, power_up_call, frame_call, event_call, load_call}
use Rattle.rules.specs.Scripts.{open_rules}
use Rattle.rules.specs.Examples.{request, nmt}
use Rattle.theorems.specs.Promises.{Stand, left, decided_at, is_accepted, open_promises}
use Rattle.theorems.specs.PromisesOfDrive.{brought_by, driven_by, stored_all, takes_over, tells_fault, open_drive_promises}

abbrev drive_numbers : Drive → List ℕ
drive_numbers v = state_word v.state ∷ mode_number v.mode ∷ flag v.taken ∷ flag v.limit ∷ store_numbers v.store

abbrev object_numbers : List ℕ → List ℕ
object_numbers d = read d control_word ∷ read d target_position ∷ read d position ∷ []

-- an accepted call that the promise leaves out
abbrev is_left_out : Call → Stand → Bool
is_left_out c a = is_accepted (decided_at (step c) a) && (takes_over c a.state || tells_fault c)

-- the promise's premises
abbrev meets : Call → Stand → Bool
meets c a = is_enabled a.state.axis.drive.state && not (is_left_out c a)

-- that is promised of the drive and of the objects, and it stands there so
abbrev follows : List ℕ → List ℕ → Call → Stand → Bool
follows drive objects c a =
    meets c a
    && same_by eqb (drive_numbers (driven_by (step c) a)) drive
    && same_by eqb (object_numbers (stored_all (brought_by (step c) a) a.dictionary)) objects
    && seen (left (step c) a)
    (λ b. same_by eqb (drive_numbers b.state.axis.drive) drive && same_by eqb (object_numbers b.dictionary) objects)

-- a call that is left out, and the drive is then not the one promised
abbrev departs : Call → Stand → Bool
departs c a =
    is_enabled a.state.axis.drive.state
    && is_left_out c a
    && not (same_by eqb (drive_numbers (left (step c) a).state.axis.drive) (drive_numbers (driven_by (step c) a)))

abbrev enabled : List Call
enabled = readied ++ (control 0x0F ∷ [])

-- nothing held, and with a set-point to that target
abbrev waits : List ℕ
waits = 0x27 ∷ 1 ∷ 0 ∷ 0 ∷ []

abbrev moves : ℕ → List ℕ
moves t = 0x27 ∷ 1 ∷ 1 ∷ 0 ∷ t ∷ 0 ∷ 1 ∷ 1 ∷ []

-- a position of 04030201h, and a velocity
abbrev feedback : Call
feedback = event_call 5 (0x01 ∷ 0x02 ∷ 0x03 ∷ 0x04 ∷ 0x05 ∷ 0x06 ∷ 0x07 ∷ 0x08 ∷ [])

-- ---- in Pre-operational: 607Ah and 6040h by SDO, Shutdown with it, feedback, a tick, voltage on, 01h; 02h for another node, and refused calls:
-- event 6 with nothing held, power-up as node 0 and a load
follows_idle :
    passes
    (follows waits (0x0F ∷ 1500 ∷ 0 ∷ []) (request (0x23 ∷ 0x7A ∷ 0x60 ∷ 0x00 ∷ 0xDC ∷ 0x05 ∷ 0x00 ∷ 0x00 ∷ []))
    ∷ follows (moves 0) (0x1F ∷ 0 ∷ 0 ∷ []) (control 0x1F)
    ∷ follows (0x21 ∷ 1 ∷ 0 ∷ 0 ∷ []) (0x06 ∷ 0 ∷ 0 ∷ []) (control 0x06)
    ∷ follows waits (0x0F ∷ 0 ∷ 0x04030201 ∷ []) feedback
    ∷ follows waits (0x0F ∷ 0 ∷ 0 ∷ []) (event_call 7 [])
    ∷ follows waits (0x0F ∷ 0 ∷ 0 ∷ []) (event_call 9 (0x01 ∷ []))
    ∷ follows waits (0x0F ∷ 0 ∷ 0 ∷ []) operational
    ∷ follows waits (0x0F ∷ 0 ∷ 0 ∷ []) (frame_call 0x000 (0x02 ∷ 0x06 ∷ []))
    ∷ follows waits (0x0F ∷ 0 ∷ 0 ∷ []) (event_call 6 [])
    ∷ follows waits (0x0F ∷ 0 ∷ 0 ∷ []) (power_up_call 0)
    ∷ follows waits (0x0F ∷ 0 ∷ 0 ∷ []) (load_call [])
    ∷ [])
    (ran enabled)
    ≡ true
unfolding open_rules open_promises open_drive_promises
follows_idle = refl

-- receive PDO 3: 6040h and 607Ah, 1280 and so many
abbrev aimed : ℕ → ℕ → Call
aimed word b = frame_call 0x405 (word ∷ 0x00 ∷ b ∷ 0x05 ∷ 0x00 ∷ 0x00 ∷ [])

-- ---- in Operational: receive PDO 3 with both, and 80h; with a set-point held feedback, a tick and 80h; with two held event 6. What the promise
-- leaves out departs from it: a fault, 02h, 82h and 81h
follows_operational :
    passes
    (follows (moves 1500) (0x1F ∷ 1500 ∷ 0 ∷ []) (aimed 0x1F 0xDC)
    ∷ follows waits (0x0F ∷ 0 ∷ 0 ∷ []) (nmt 0x80)
    ∷ then (aimed 0x1F 0xDC)
    (follows (moves 1500) (0x1F ∷ 1500 ∷ 0x04030201 ∷ []) feedback
    ∷ follows (moves 1500) (0x1F ∷ 1500 ∷ 0 ∷ []) (event_call 7 [])
    ∷ follows (moves 1500) (0x1F ∷ 1500 ∷ 0 ∷ []) (nmt 0x80)
    ∷ then (aimed 0x0F 0xDC) (then (aimed 0x1F 0xDD) (follows (moves 1501) (0x1F ∷ 1501 ∷ 0 ∷ []) (event_call 6 []) ∷ []) ∷ [])
    ∷ [])
    ∷ departs (event_call 3 (0x10 ∷ 0x23 ∷ 0x02 ∷ []))
    ∷ departs (nmt 0x02)
    ∷ departs (nmt 0x82)
    ∷ departs (nmt 0x81)
    ∷ [])
    (ran (enabled ++ (operational ∷ [])))
    ≡ true
unfolding open_rules open_promises open_drive_promises
follows_operational = refl

-- ---- SYNC with two frames held, one after another: the first takes the target that stood there, and the second brings no edge with its own
follows_sync :
    passes (then (frame_call 0x205 (0x1F ∷ 0x00 ∷ [])) (then (aimed 0x1F 0xDC) (follows (moves 0) (0x1F ∷ 1500 ∷ 0 ∷ []) (sync_of []) ∷ []) ∷ []) ∷ [])
    (ran (held_for_sync 0 ∷ held_for_sync 2 ∷ enabled ++ (operational ∷ [])))
    ≡ true
unfolding open_rules open_promises open_drive_promises
follows_sync = refl
