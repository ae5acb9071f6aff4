-- The telling runs of the promises on the limits, beside those of Telling: runs of node 5, computed. It is enabled in mode 1, and the limits are
-- -500 and 1500.
-- Assumes nothing.
use Rattle.theorems.proofs.Words.{ℕ, ◌≡◌, refl, Bool, true, false, not, ◌&&◌, ◌||◌, Bool·beq, List, [], ◌∷◌, ◌++◌, eqb}
use Rattle.theorems.proofs.Telling.{step, ran, seen, control, readied, operational, passes, then, held_for_sync, store_numbers, why, says_why}
use Rattle.drive.specs.declared.DriveState.TheVariants.{SwitchedOn}
use Rattle.rules_dictionary.specs.Numbers.{bit, integer}
use Rattle.rules_dictionary.specs.Table.{status_word, mode, control_word, target_position, minimum_position, maximum_position}
use Rattle.rules_dictionary.specs.Values.{Write, read, stored}
use Rattle.drive.specs.DriveStates.{is_enabled, command, next}
use Rattle.drive.specs.SetPoints.{new_set_point_bit, at_once_bit, relative_bit, positions, is_queued, within_limits}
use Rattle.rules.specs.Outcome.{same_by}
use Rattle.rules.specs.Calls.{Call, frame_call, refusal_number}
use Rattle.rules.specs.Scripts.{open_rules}
use Rattle.rules.specs.Examples.{request}
use Rattle.theorems.specs.Promises.{Stand, does, applies, open_promises}

-- enabled, and 607Dh written
abbrev ready : List Call
ready =
    readied
    ++ (control 0x0F
    ∷ request (0x23 ∷ 0x7D ∷ 0x60 ∷ 0x01 ∷ 0x0C ∷ 0xFE ∷ 0xFF ∷ 0xFF ∷ [])
    ∷ request (0x23 ∷ 0x7D ∷ 0x60 ∷ 0x02 ∷ 0xDC ∷ 0x05 ∷ 0x00 ∷ 0x00 ∷ [])
    ∷ [])

-- ---- LimitsInOrder, LimitsAreTargets: a maximum of -501 is refused, and the limits stay; one of -500 is taken, and each limit is then the one
-- target between them
abbrev maximum : ℕ → List ℕ
maximum b = 0x23 ∷ 0x7D ∷ 0x60 ∷ 0x02 ∷ b ∷ 0xFE ∷ 0xFF ∷ 0xFF ∷ []

abbrev are_limits : ℕ → ℕ → Stand → Bool
are_limits low high a = eqb (read a.dictionary minimum_position) low && eqb (read a.dictionary maximum_position) high

abbrev is_inside : Stand → ℕ → Bool
is_inside a t = within_limits a.dictionary (integer t)

limits_kept :
    passes
    (are_limits 0xFFFFFE0C 1500
    ∷ (λ a. says_why a (why 0x06040043 (maximum 0x0B) (0x85 ∷ 0x05 ∷ 0x08 ∷ 0x80 ∷ 0x7D ∷ 0x60 ∷ 0x02 ∷ 0x43 ∷ 0x00 ∷ 0x04 ∷ 0x06 ∷ [])))
    ∷ then (request (maximum 0x0B)) (are_limits 0xFFFFFE0C 1500 ∷ [])
    ∷ then (request (maximum 0x0C))
    (are_limits 0xFFFFFE0C 0xFFFFFE0C ∷ (λ a. is_inside a 0xFFFFFE0C && not (is_inside a 0xFFFFFE0B) && not (is_inside a 0xFFFFFE0D)) ∷ [])
    ∷ [])
    (ran ready)
    ≡ true
unfolding open_rules open_promises
limits_kept = refl

-- 607Ah, 1280 and so many
abbrev aim : ℕ → Call
aim b = request (0x23 ∷ 0x7A ∷ 0x60 ∷ 0x00 ∷ b ∷ 0x05 ∷ 0x00 ∷ 0x00 ∷ [])

-- the promise's premises, with the target inside the limits or not. Enable is the one command that leads from Switched on to Operation enabled
abbrev meets : Bool → List (List Write) → Stand → Bool
meets inside [] a = false
meets inside (ws ∷ []) a =
    let v = a.state.axis.drive in
    let d = stored ws a.dictionary in
    let old = read a.dictionary control_word in
    let word = read d control_word in
    positions v
    && not (bit new_set_point_bit old)
    && eqb (read d mode) 1
    && is_enabled (next false SwitchedOn (command old word))
    && bit new_set_point_bit word
    && not (bit relative_bit word)
    && (bit at_once_bit word || not (is_queued v.store))
    && Bool·beq (within_limits d (integer (read d target_position))) inside
meets inside (ws ∷ vs ∷ fs) a = false

-- that frame meets them; behind it those set-points are held, the taken mark or the limit mark is set, and 6041h is that word
abbrev rises : Bool → List ℕ → ℕ → ℕ → List ℕ → Stand → Bool
rises inside points word i bs a =
    meets inside (applies i bs a.state a.dictionary) a
    && seen (does (step (frame_call i bs)) a)
    (λ u. let v = u.state.axis.drive in
    eqb (refusal_number u.refusal) 0
    && same_by eqb (store_numbers v.store) points
    && Bool·beq v.taken inside
    && Bool·beq v.limit (not inside)
    && eqb (read u.dictionary status_word) word)

-- 1500 is taken, and bit 12 shows; 1501 is not, and bit 11 shows instead
abbrev takes : ℕ → List ℕ → Stand → Bool
takes i bs a = rises true (1500 ∷ 0 ∷ 1 ∷ 1 ∷ []) 0x1227 i bs a

abbrev leaves : ℕ → List ℕ → Stand → Bool
leaves i bs a = rises false [] 0x0A27 i bs a

-- ---- TakesBetweenLimits: 1Fh by an expedited write, by the last segment, by receive PDO 3 with the target at once, and by this held until SYNC
abbrev edge : List ℕ
edge = 0x2B ∷ 0x40 ∷ 0x60 ∷ 0x00 ∷ 0x1F ∷ 0x00 ∷ 0x00 ∷ 0x00 ∷ []

abbrev edge_and_aim : List ℕ
edge_and_aim = 0x1F ∷ 0x00 ∷ 0xDC ∷ 0x05 ∷ 0x00 ∷ 0x00 ∷ []

taken_between :
    passes
    (then (aim 0xDC)
    (takes 0x605 edge
    ∷ then (request (0x20 ∷ 0x40 ∷ 0x60 ∷ 0x00 ∷ 0x00 ∷ 0x00 ∷ 0x00 ∷ 0x00 ∷ []))
    (takes 0x605 (0x0B ∷ 0x1F ∷ 0x00 ∷ 0x00 ∷ 0x00 ∷ 0x00 ∷ 0x00 ∷ 0x00 ∷ []) ∷ [])
    ∷ [])
    ∷ then (aim 0xDD) (leaves 0x605 edge ∷ [])
    ∷ then operational (takes 0x405 edge_and_aim ∷ [])
    ∷ [])
    (ran ready)
    ≡ true
unfolding open_rules open_promises
taken_between = refl

taken_at_sync : passes (then (frame_call 0x405 edge_and_aim) (takes 0x080 [] ∷ []) ∷ []) (ran (held_for_sync 2 ∷ ready ++ (operational ∷ []))) ≡ true
unfolding open_rules open_promises
taken_at_sync = refl
