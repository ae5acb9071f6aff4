-- The telling runs of the promises on the window time, beside those of Telling: runs of node 5, computed. A feeder in Operational is on its way to
-- 1000, with a window of 10 about it.
-- Assumes nothing.
use Rattle.theorems.proofs.Words.{ℕ, ◌+◌, ◌*◌, ◌≡◌, refl, Bool, true, false, not, ◌&&◌, List, [], ◌∷◌, ◌++◌, map, eqb, take}
use Rattle.theorems.proofs.Telling.{step, ran, seen, started, write1, operational, flag, same_stand, sent_by}
use Rattle.theorems.proofs.Runs.{standing}
use Rattle.rules_dictionary.specs.Numbers.{bit}
use Rattle.rules_dictionary.specs.Table.{status_word, mode_display, control_word, position_window, window_time}
use Rattle.rules_dictionary.specs.Values.{read, store}
use Rattle.drive.specs.Window.{inside}
use Rattle.drive.specs.StatusWord.{halt_bit, reached_shown, status}
use Rattle.rules.specs.Outcome.{same_by}
use Rattle.rules.specs.Sound.{sound, stay_sound}
use Rattle.rules.specs.Calls.{Call, frame_call, event_call, Outcome, refusal_number}
use Rattle.rules.specs.Scripts.{open_rules}
use Rattle.rules.specs.Examples.{request}
use Rattle.theorems.specs.Promises.{Stand, does, open_promises}
use Rattle.theorems.specs.PromisesOfWindow.{status_before, uncounted, but_count, does_before, Past, past_of, open_window_promises}

-- ---- the calls of the runs

-- 6067h, the window
abbrev window : Call
window = request (0x23 ∷ 0x67 ∷ 0x60 ∷ 0x00 ∷ 0x0A ∷ 0x00 ∷ 0x00 ∷ 0x00 ∷ [])

-- 6068h, below 256
abbrev waiting : ℕ → Call
waiting n = request (0x2B ∷ 0x68 ∷ 0x60 ∷ 0x00 ∷ n ∷ 0x00 ∷ 0x00 ∷ 0x00 ∷ [])

-- feedback: the position, 768 and so many
abbrev at : ℕ → Call
at b = event_call 5 (b ∷ 0x03 ∷ 0x00 ∷ 0x00 ∷ 0x00 ∷ 0x00 ∷ 0x00 ∷ 0x00 ∷ [])

abbrev tick : Call
tick = event_call 7 []

-- under way in mode 1, with that window time: receive PDO 2 brings 06h and the mode, receive PDO 3 brings 1Fh and the target
abbrev feeding : ℕ → List Call
feeding n =
    operational ∷ started ∷ frame_call 0x305 (0x06 ∷ 0x00 ∷ 0x01 ∷ []) ∷ window ∷ waiting n
    ∷ frame_call 0x405 (0x1F ∷ 0x00 ∷ 0xE8 ∷ 0x03 ∷ 0x00 ∷ 0x00 ∷ []) ∷ []

-- it glides through the window, 992, 1000 and 1012, comes back to 1008, and stops at 1000
abbrev glide : List Call
glide = at 0xE0 ∷ tick ∷ at 0xE8 ∷ tick ∷ at 0xF4 ∷ tick ∷ at 0xF0 ∷ tick ∷ tick ∷ at 0xE8 ∷ tick ∷ []

abbrev shows : List ℕ → Bool
shows d = bit reached_shown (read d status_word)

-- of each call of a run, the last one first: 4 where bit 10 shows behind it, 2 where it was a tick, 1 where it left the position inside the window
abbrev past_number : Past → ℕ
past_number p =
    let b = p.stand in
    4 * flag (shows b.dictionary) + 2 * flag p.ticked + flag (inside b.state.axis.drive.store b.dictionary)

abbrev past_numbers : List Call → List ℕ
past_numbers cs = map past_number (past_of (map step cs) (ran []) [])

-- ---- KnifeWaits: while it glides, bit 10 does not show. Once it is back, it shows at the third tick, in that tick's own call
glides_and_stops : take 12 (past_numbers (feeding 3 ++ glide)) ≡ 7 ∷ 1 ∷ 3 ∷ 3 ∷ 1 ∷ 2 ∷ 0 ∷ 3 ∷ 1 ∷ 3 ∷ 1 ∷ 0 ∷ []
unfolding open_rules open_promises open_window_promises
glides_and_stops = refl

-- the promise's premises, which the third tick below meets
abbrev by_window : List ℕ → Bool
by_window d = eqb (read d mode_display) 1 && not (bit halt_bit (read d control_word)) && shows d && eqb (read d window_time) 3

-- ---- TickChangesOneObject, TickSendsLittle: a heartbeat is due at each tick, transmit PDO 2 is of type 1 and transmit PDO 3 of type 0. The second
-- tick inside sends the heartbeat; the third shows bit 10, and sends the transmit PDOs 1 and 4 behind it
abbrev beating : List Call
beating = request (0x2B ∷ 0x17 ∷ 0x10 ∷ 0x00 ∷ 0x01 ∷ 0x00 ∷ 0x00 ∷ 0x00 ∷ []) ∷ write1 0x01 0x18 0x02 0x01 ∷ write1 0x02 0x18 0x02 0x00 ∷ []

abbrev sends : List (List ℕ) → Outcome → Bool
sends fs u = same_by (same_by eqb) (sent_by u) fs

-- the objects but 6041h are the same
abbrev keeps_all_but : List ℕ → List ℕ → Bool
keeps_all_but d d' = same_by eqb (store status_word 0 d') (store status_word 0 d)

tick_shows :
    seen (does (step tick) (ran (beating ++ feeding 3 ++ (at 0xE0 ∷ tick ∷ []))))
    (λ u. sends ((0x705 ∷ 1 ∷ 0x0005 ∷ []) ∷ []) u
    && not (shows u.dictionary)
    && seen (does (step tick) (standing u))
    (λ w. sends ((0x705 ∷ 1 ∷ 0x0005 ∷ []) ∷ (0x185 ∷ 2 ∷ 0x1627 ∷ []) ∷ (0x485 ∷ 6 ∷ 0x1627 ∷ []) ∷ []) w
    && by_window w.dictionary
    && keeps_all_but u.dictionary w.dictionary))
    ≡ true
unfolding open_rules open_promises
tick_shows = refl

-- ---- WordAsBefore: at rest, out of the window; with a window time the word is another
abbrev same_word : Stand → Bool
same_word a = let v = a.state.axis.drive in eqb (status true false v a.dictionary) (status_before true false v a.dictionary)

abbrev rests_far : ℕ → Stand
rests_far n = ran (feeding n ++ (at 0xE8 ∷ event_call 6 [] ∷ at 0xF4 ∷ []))

rests_far_lem :
    (seen (rests_far 0) (λ a. same_word a && shows a.dictionary) ≡ true)
    × (seen (rests_far 1) (λ a. not (same_word a) && not (shows a.dictionary)) ≡ true)
unfolding open_rules open_promises open_window_promises
rests_far_lem = (refl, refl)

-- ---- SoundAsBefore: at rest and two ticks inside; with another window, and the position out of it, all is sound but the count
abbrev rests_near : Stand
rests_near = ran (feeding 0 ++ (at 0xE0 ∷ event_call 6 [] ∷ tick ∷ tick ∷ []))

count_alone :
    seen rests_near
    (λ a. let narrow = store position_window 0 a.dictionary in eqb a.state.axis.drive.stay 2
    && sound a.state a.dictionary
    && sound (uncounted a.state) narrow
    && not (stay_sound a.state.axis.drive narrow)
    && not (sound a.state narrow))
    ≡ true
unfolding open_rules open_promises
count_alone = refl

-- ---- AnswersAsBefore: the feedback that comes inside, and a tick there, whose count alone is new. With 6068h = 1 the feedback is answered otherwise
abbrev same_outcome : Outcome → Outcome → Bool
same_outcome u w =
    eqb (refusal_number u.refusal) (refusal_number w.refusal)
    && eqb u.frames w.frames
    && same_stand (standing u) (standing w)
    && same_by eqb u.output w.output

abbrev as_before : Call → Stand → Bool
as_before c a = same_outcome (but_count (does (step c) a)) (but_count (does_before (step c) a))

answered_alike :
    seen (ran (feeding 0))
    (λ a. as_before (at 0xE0) a
    && seen (does (step (at 0xE0)) a)
    (λ u. let b = standing u in shows u.dictionary && as_before tick b && not (same_outcome (does (step tick) b) (does_before (step tick) b))))
    ≡ true
unfolding open_rules open_promises open_window_promises
answered_alike = refl

answered_otherwise : seen (ran (feeding 1)) (λ a. not (as_before (at 0xE0) a)) ≡ true
unfolding open_rules open_promises open_window_promises
answered_otherwise = refl
