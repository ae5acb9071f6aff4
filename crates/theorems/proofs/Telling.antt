-- For each promise a telling run of node 5, computed: the promise's premises are met there, and what it promises is seen. Each is a run on which
-- a wrong rule of docs/PROMISES.md shows.
-- Assumes nothing.
use Rattle.theorems.proofs.Words.{ℕ, zero, suc, ◌+◌, ◌≡◌, refl, Bool, true, not, ◌&&◌, List, [], ◌∷◌, ◌++◌, map, eqb, ltb, length, get_or}
use Rattle.theorems.proofs.Words.{PdoData, ap, arith, drop, and-eq-true_iff, false, false≢true, Refusal, Accepted, OutOfPlace, SetPoint, ◌*◌}
use Rattle.theorems.proofs.Words.{cond, Empty, Rested, Moving, Queued, Store, is_stopped, Pace, State, Transfer, NoTransfer, Uploading}
use Rattle.theorems.proofs.Words.{Downloading}
use Rattle.theorems.proofs.Runs.{standing}
use Rattle.rules_dictionary.specs.Plans.{mapped, plans_of}
use Rattle.rules_dictionary.specs.Numbers.{all, are_bytes, value, part, bit}
use Rattle.rules_dictionary.specs.Table.{Row, status_word, each_way, control_word, mode, same, mode_display}
use Rattle.rules_dictionary.specs.Values.{write, read, stored, unpacked}
use Rattle.rules_dictionary.specs.Aborts.{Verdict, abort_code, good, bad}
use Rattle.rules_dictionary.specs.Legal.{mode_number}
use Rattle.drive.specs.SetPoints.{new_set_point_bit}
use Rattle.drive.specs.DriveStates.{state_word}
use Rattle.rules_services.specs.Effects.{frame, Frame}
use Rattle.rules_services.specs.PdoTraffic.{listens, mapped_length, no_data, works, are_legal}
use Rattle.rules_services.specs.Nmt.{state_byte}
use Rattle.rules_services.specs.Segments.{object_in, bytes_in}
use Rattle.rules.specs.Outcome.{status_of, same_by, same_plan, same_data, encoded, frame_size, sent_into}
use Rattle.rules.specs.Calls.{Call, power_up_call, frame_call, event_call, load_call, Outcome, refusal_number, answer}
use Rattle.rules.specs.Sound.{sound}
use Rattle.rules.specs.Scripts.{blank, nothing, zeros, open_rules, Answers, given_by}
use Rattle.rules.specs.Examples.{request, nmt, reply, example4, open_examples}
use Rattle.theorems.specs.Promises.{Step, Stand, does, left, after, may_change, open_promises, in_order_of_cause, held_at, edges, edges_in, reached_in}
use Rattle.theorems.specs.Promises.{Passed, keeps_bit_four, HoldsBitFour, keeps_examples, RefusesEverything, RepliesAlike, SendsAlways}
use Rattle.theorems.specs.Promises.{SendsNothingLater, ChangesNothingLater, frame_at, data_from, upload_status, nothing_runs, verdict_at}

-- ---- the calls of the runs

abbrev pub step : Call → Step
step c = record { call = c; output = blank }

-- a run of node 5 from an empty dictionary
abbrev pub ran : List Call → Stand
ran cs = after (map step (power_up_call 5 ∷ cs)) (record { state = nothing; dictionary = zeros })

-- the call at the end of such a run
abbrev pub answers : Call → List Call → Outcome
answers c cs = does (step c) (ran cs)

-- a test of a stand or an outcome, which is then worked out once
abbrev pub seen : {A : Type 0} → A → (A → Bool) → Bool
seen a test = test a

abbrev pub started : Call
started = event_call 1 []

-- 6040h by SDO
abbrev pub control : ℕ → Call
control w = request (0x2B ∷ 0x40 ∷ 0x60 ∷ 0x00 ∷ w ∷ 0x00 ∷ 0x00 ∷ 0x00 ∷ [])

-- an entry of one byte by SDO
abbrev pub write1 : ℕ → ℕ → ℕ → ℕ → Call
write1 low high subindex b = request (0x2F ∷ low ∷ high ∷ subindex ∷ b ∷ 0x00 ∷ 0x00 ∷ 0x00 ∷ [])

abbrev pub operational : Call
operational = nmt 0x01

-- Ready in mode 1
abbrev pub readied : List Call
readied = started ∷ write1 0x60 0x60 0x00 0x01 ∷ control 0x06 ∷ []

-- ---- SoundAlways: a frame is held for SYNC when the node is stopped
sound_after_stop :
    let a =
    ran (write1 0x00 0x14 0x02 0x01 ∷ operational ∷ frame_call 0x205 (0x06 ∷ 0x00 ∷ []) ∷ nmt 0x02 ∷ []) in sound a.state a.dictionary ≡ true
unfolding open_rules open_promises
sound_after_stop = refl

-- ---- NeverUnsound: the heartbeat's count at its end
served_after_tick :
    refusal_number (answers (event_call 7 []) (request (0x2B ∷ 0x17 ∷ 0x10 ∷ 0x00 ∷ 0x01 ∷ 0x00 ∷ 0x00 ∷ 0x00 ∷ []) ∷ event_call 7 [] ∷ [])).refusal ≡ 0
unfolding open_rules open_promises
served_after_tick = refl

-- ---- OutputOfBytes: boot-up on 705h
bytes_of_boot_up : are_bytes (answers (nmt 0x81) []).output ≡ true
unfolding open_rules open_promises
bytes_of_boot_up = refl

-- ---- NothingStale: 6041h after the drive has started
abbrev pub is_fresh : Stand → Bool
is_fresh a =
    eqb (read a.dictionary status_word) (status_of a.state a.dictionary) && same_by same_plan a.state.axis.plans (plans_of a.dictionary)

fresh_when_started : is_fresh (ran (started ∷ [])) ≡ true
unfolding open_rules open_promises
fresh_when_started = refl

-- ---- ChangesNoOther: the list, by indices, and the bytes of all other rows
-- with zeros in those rows
abbrev blanked : List Row → List ℕ → List ℕ
blanked xs d = stored (map (λ x. write x 0) xs) d

abbrev pub keeps_others : Call → Stand → Bool
keeps_others c a =
    let xs = may_change c a.state a.dictionary in same_by eqb (blanked xs (does (step c) a).dictionary) (blanked xs a.dictionary)

-- the list of the call is 6041h, 6061h and those indices, and the bytes of all other rows stay
abbrev pub lists : Call → List ℕ → Stand → Bool
lists c xs a = same_by eqb (map (λ x. x.index) (may_change c a.state a.dictionary)) (0x6041 ∷ 0x6061 ∷ xs) && keeps_others c a

-- tests of one stand, worked out once; and of the one that a further call leaves
abbrev pub passes : List (Stand → Bool) → Stand → Bool
passes ts a = all (λ t. t a) ts

abbrev pub then : Call → List (Stand → Bool) → Stand → Bool
then c ts a = passes ts (left (step c) a)

abbrev pub sync_of : List ℕ → Call
sync_of bs = frame_call 0x080 bs

-- in Pre-operational: 6040h outside Fault, a request of seven bytes, and a mode that 6060h does not take, by SDO; 82h for another node, and of
-- three bytes; SYNC; a fault, feedback, voltage on. And while Stopped, 6040h by SDO
idle_keeps_others :
    passes
    (lists (control 0x80) (0x6040 ∷ [])
    ∷ lists (request (0x2B ∷ 0x40 ∷ 0x60 ∷ 0x00 ∷ 0x06 ∷ 0x00 ∷ 0x00 ∷ [])) []
    ∷ lists (write1 0x60 0x60 0x00 0x07) []
    ∷ lists (frame_call 0x000 (0x82 ∷ 0x06 ∷ [])) []
    ∷ lists (frame_call 0x000 (0x82 ∷ 0x05 ∷ 0x00 ∷ [])) []
    ∷ lists (sync_of []) []
    ∷ lists (event_call 3 (0x10 ∷ 0x23 ∷ 0x02 ∷ [])) (0x603F ∷ 0x1001 ∷ [])
    ∷ lists (event_call 5 (0x01 ∷ 0x02 ∷ 0x03 ∷ 0x04 ∷ 0x05 ∷ 0x06 ∷ 0x07 ∷ 0x08 ∷ [])) (0x6064 ∷ 0x606C ∷ [])
    ∷ lists (event_call 9 (0x01 ∷ [])) []
    ∷ then (nmt 0x02) (lists (control 0x06) [] ∷ [])
    ∷ [])
    (ran (started ∷ []))
    ≡ true
unfolding open_rules open_promises
idle_keeps_others = refl

-- receive PDO of that number, from 0, to be held for SYNC
abbrev pub held_for_sync : ℕ → Call
held_for_sync p = write1 p 0x14 0x02 0x01

abbrev shutdown : Call
shutdown = frame_call 0x205 (0x06 ∷ 0x00 ∷ [])

-- in Operational, with receive PDO 1 to be held: receive PDO 2, too short, and with a mode that 6060h does not take; receive PDO 1; SYNC with
-- nothing held. With a frame held, SYNC, and of one byte
operational_keeps_others :
    passes
    (lists (frame_call 0x305 (0x06 ∷ 0x00 ∷ 0x01 ∷ [])) (0x6040 ∷ 0x6060 ∷ [])
    ∷ lists (frame_call 0x305 (0x06 ∷ 0x00 ∷ [])) []
    ∷ lists (frame_call 0x305 (0x06 ∷ 0x00 ∷ 0x07 ∷ [])) []
    ∷ lists shutdown []
    ∷ lists (sync_of []) []
    ∷ then shutdown (lists (sync_of []) (0x6040 ∷ []) ∷ lists (sync_of (0x00 ∷ [])) [] ∷ [])
    ∷ [])
    (ran (held_for_sync 0 ∷ operational ∷ []))
    ≡ true
unfolding open_rules open_promises
operational_keeps_others = refl

-- in Fault, 6040h with bit 7: with the cause present; with the cause gone, where the fault is reset; and where bit 7 was 1 before. Then SYNC with
-- two frames held, of which the first clears bit 7 and the second sets it again
reset_keeps_others :
    passes
    (lists (control 0x80) (0x6040 ∷ [])
    ∷ then (event_call 8 []) (lists (control 0x80) (0x6040 ∷ 0x1001 ∷ []) ∷ [])
    ∷ then (control 0x80)
    (then (event_call 8 [])
    (lists (control 0x80) (0x6040 ∷ [])
    ∷ then shutdown (then (frame_call 0x305 (0x80 ∷ 0x00 ∷ 0x01 ∷ [])) (lists (sync_of []) (0x6040 ∷ 0x6040 ∷ 0x6060 ∷ 0x1001 ∷ []) ∷ []) ∷ [])
    ∷ [])
    ∷ [])
    ∷ [])
    (ran (held_for_sync 0 ∷ held_for_sync 1 ∷ operational ∷ started ∷ event_call 3 (0x10 ∷ 0x23 ∷ 0x02 ∷ []) ∷ event_call 4 [] ∷ []))
    ≡ true
unfolding open_rules open_promises
reset_keeps_others = refl

-- power-up as node 0, which is refused
refused_lists_nothing : may_change (power_up_call 0) nothing zeros ≡ []
unfolding open_rules open_promises
refused_lists_nothing = refl

-- ---- ReadyFrameStays: feedback, and transmit PDO 1 that maps 6041h alone
abbrev ready_at : ℕ → Stand → PdoData
ready_at t a = get_or a.state.axis.ready t no_data

unmapped_stays :
    same_data (ready_at 0 (ran (event_call 5 (0x01 ∷ 0x02 ∷ 0x03 ∷ 0x04 ∷ 0x05 ∷ 0x06 ∷ 0x07 ∷ 0x08 ∷ []) ∷ []))) (ready_at 0 (ran [])) ≡ true
unfolding open_rules open_promises
unmapped_stays = refl

-- ---- RefusedMeansNothing: an event that is not known
abbrev is_refused : Outcome → Bool
is_refused u = not (eqb (refusal_number u.refusal) 0) && eqb u.frames 0 && same_by eqb u.output blank

refused_keeps_output : is_refused (answers (event_call 10 []) []) ≡ true
unfolding open_rules open_promises
refused_keeps_output = refl

-- ---- two stands, part by part

abbrev pub flag : Bool → ℕ
flag b = cond b 1 0

abbrev point_numbers : SetPoint → List ℕ
point_numbers p = p.target ∷ p.velocity ∷ p.acceleration ∷ p.deceleration ∷ []

abbrev pub store_numbers : Store → List ℕ
store_numbers Empty = []
store_numbers (Rested t) = t ∷ []
store_numbers (Moving p) = point_numbers p
store_numbers (Queued p q) = point_numbers p ++ point_numbers q

abbrev pub transfer_numbers : Transfer → List ℕ
transfer_numbers NoTransfer = 0 ∷ []
transfer_numbers (Uploading k) = 1 ∷ k ∷ []
transfer_numbers (Downloading g) = 2 ∷ flag g.toggle ∷ g.count ∷ object_in g ++ bytes_in g

-- the node's part, the transfer and the drive
abbrev state_numbers : State → List ℕ
state_numbers s =
    let v = s.axis.drive in
    s.node.id
    ∷ state_byte s.node.nmt
    ∷ flag s.node.voltage
    ∷ s.node.heartbeat
    ∷ state_word v.state
    ∷ mode_number v.mode
    ∷ flag v.taken
    ∷ flag v.limit
    ∷ flag v.cause
    ∷ v.stay
    ∷ transfer_numbers s.transfer ++ store_numbers v.store

abbrev same_pace : Pace → Pace → Bool
same_pace k l = eqb k.count l.count && eqb (flag k.due) (flag l.due)

abbrev pub same_stand : Stand → Stand → Bool
same_stand a b =
    let x = a.state.axis in
    let y = b.state.axis in
    same_by eqb (state_numbers a.state) (state_numbers b.state)
    && same_by same_plan x.plans y.plans
    && same_by same_data x.ready y.ready
    && same_by same_data x.held y.held
    && same_by same_pace x.paces y.paces
    && same_by eqb a.dictionary b.dictionary

-- the call is accepted, sends so many frames, which are these bytes, and leaves that stand: its whole answer
abbrev pub says_and_leaves : Call → Stand → ℕ → List ℕ → Stand → Bool
says_and_leaves c a n bs b =
    let u = does (step c) a in
    eqb (refusal_number u.refusal) 0
    && eqb u.frames n
    && same_stand (standing u) b
    && same_by eqb u.output (bs ++ drop (frame_size * n) blank)

-- .. and leaves it as it was
abbrev pub only_says : Call → Stand → ℕ → List ℕ → Bool
only_says c a n bs = says_and_leaves c a n bs a

-- a stand with much to lose: transmit PDO 3 of type 0 is due, transmit PDO 2 of type 3 and the heartbeat are counted once, and receive PDO 4
-- of type 1 holds a frame
abbrev pub busy : List Call
busy =
    write1 0x02 0x18 0x02 0x00
    ∷ write1 0x01 0x18 0x02 0x03
    ∷ write1 0x03 0x14 0x02 0x01
    ∷ request (0x2B ∷ 0x17 ∷ 0x10 ∷ 0x00 ∷ 0x05 ∷ 0x00 ∷ 0x00 ∷ 0x00 ∷ [])
    ∷ operational
    ∷ frame_call 0x080 []
    ∷ event_call 5 (0x01 ∷ 0x02 ∷ 0x03 ∷ 0x04 ∷ 0x05 ∷ 0x06 ∷ 0x07 ∷ 0x08 ∷ [])
    ∷ frame_call 0x505 (0x06 ∷ 0x00 ∷ 0x01 ∷ 0x02 ∷ 0x03 ∷ 0x04 ∷ [])
    ∷ event_call 7 []
    ∷ []

abbrev pub is_busy : Stand → Bool
is_busy a =
    let x = a.state.axis in
    same_by eqb (map (λ k. k.count) x.paces) (0 ∷ 1 ∷ 0 ∷ 0 ∷ [])
    && same_by eqb (map (λ k. flag k.due) x.paces) (0 ∷ 0 ∷ 1 ∷ 0 ∷ [])
    && same_by eqb (map (λ f. f.length) x.held) (0 ∷ 0 ∷ 0 ∷ 6 ∷ [])
    && eqb a.state.node.heartbeat 1

-- ---- RefusedWriteChangesNothing: a write of the constant 1000h

-- the code of a verdict; good is 0
abbrev pub verdict_code : Verdict → ℕ
verdict_code good = 0
verdict_code (bad c) = abort_code c

abbrev pub code_at : Stand → List ℕ → ℕ
code_at a rq = verdict_code (verdict_at rq a)

abbrev pub write_constant : List ℕ
write_constant = 0x23 ∷ 0x00 ∷ 0x10 ∷ 0x00 ∷ 0x01 ∷ 0x00 ∷ 0x00 ∷ 0x00 ∷ []

refused_write_stores_nothing :
    seen (ran busy) (λ a. is_busy a && eqb (code_at a write_constant) 0x06010002 && same_stand (left (step (request write_constant)) a) a) ≡ true
unfolding open_rules open_promises
refused_write_stores_nothing = refl

-- ---- AbortSaysWhy, FourteenCodes: each of the fourteen, from one stand: transmit PDO 1 is invalid and maps nothing, with nine bytes in its
-- entries, 607Dh:1 is 0, and a download of 6060h by segments runs, which each of them ends
abbrev unmapped : List Call
unmapped =
    request (0x23 ∷ 0x00 ∷ 0x18 ∷ 0x01 ∷ 0x85 ∷ 0x01 ∷ 0x00 ∷ 0xC0 ∷ [])
    ∷ write1 0x00 0x1A 0x00 0x00
    ∷ request (0x23 ∷ 0x00 ∷ 0x1A ∷ 0x01 ∷ 0x20 ∷ 0x00 ∷ 0x64 ∷ 0x60 ∷ [])
    ∷ request (0x23 ∷ 0x00 ∷ 0x1A ∷ 0x02 ∷ 0x20 ∷ 0x00 ∷ 0x6C ∷ 0x60 ∷ [])
    ∷ request (0x23 ∷ 0x00 ∷ 0x1A ∷ 0x03 ∷ 0x08 ∷ 0x00 ∷ 0x61 ∷ 0x60 ∷ [])
    ∷ request (0x23 ∷ 0x7D ∷ 0x60 ∷ 0x01 ∷ 0x00 ∷ 0x00 ∷ 0x00 ∷ 0x00 ∷ [])
    ∷ request (0x20 ∷ 0x60 ∷ 0x60 ∷ 0x00 ∷ 0x00 ∷ 0x00 ∷ 0x00 ∷ 0x00 ∷ [])
    ∷ []

-- a request, the code of its verdict, and the bytes of its reply
pub record Why : Type 0 where
  code : ℕ
  request : List ℕ
  reply : List ℕ

abbrev pub why : ℕ → List ℕ → List ℕ → Why
why code rq bs = record { code = code; request = rq; reply = bs }

-- the verdict is that code, and the reply is the whole answer; then nothing runs
abbrev pub says_why : Stand → Why → Bool
says_why a w =
    not (is_stopped a.state.node.nmt)
    && eqb (code_at a w.request) w.code
    && says_and_leaves (request w.request) a 1 w.reply (nothing_runs a)

-- a segment of the name, asked for
abbrev pub ask_segment : List ℕ
ask_segment = 0x60 ∷ 0x00 ∷ 0x00 ∷ 0x00 ∷ 0x00 ∷ 0x00 ∷ 0x00 ∷ 0x00 ∷ []

fourteen_told :
    all (says_why (ran unmapped))
    (
    why 0x05040001 (0xE0 ∷ 0x40 ∷ 0x60 ∷ 0x00 ∷ 0x06 ∷ 0x00 ∷ 0x00 ∷ 0x00 ∷ [])
    (0x85 ∷ 0x05 ∷ 0x08 ∷ 0x80 ∷ 0x40 ∷ 0x60 ∷ 0x00 ∷ 0x01 ∷ 0x00 ∷ 0x04 ∷ 0x05 ∷ [])
    ∷ why 0x05040001 ask_segment (0x85 ∷ 0x05 ∷ 0x08 ∷ 0x80 ∷ 0x60 ∷ 0x60 ∷ 0x00 ∷ 0x01 ∷ 0x00 ∷ 0x04 ∷ 0x05 ∷ [])
    ∷ why 0x05030000 (0x1D ∷ 0x01 ∷ 0x00 ∷ 0x00 ∷ 0x00 ∷ 0x00 ∷ 0x00 ∷ 0x00 ∷ [])
    (0x85 ∷ 0x05 ∷ 0x08 ∷ 0x80 ∷ 0x60 ∷ 0x60 ∷ 0x00 ∷ 0x00 ∷ 0x00 ∷ 0x03 ∷ 0x05 ∷ [])
    ∷ why 0x06020000 (0x40 ∷ 0x00 ∷ 0x20 ∷ 0x00 ∷ 0x00 ∷ 0x00 ∷ 0x00 ∷ 0x00 ∷ [])
    (0x85 ∷ 0x05 ∷ 0x08 ∷ 0x80 ∷ 0x00 ∷ 0x20 ∷ 0x00 ∷ 0x00 ∷ 0x00 ∷ 0x02 ∷ 0x06 ∷ [])
    ∷ why 0x06090011 (0x40 ∷ 0x00 ∷ 0x10 ∷ 0x01 ∷ 0x00 ∷ 0x00 ∷ 0x00 ∷ 0x00 ∷ [])
    (0x85 ∷ 0x05 ∷ 0x08 ∷ 0x80 ∷ 0x00 ∷ 0x10 ∷ 0x01 ∷ 0x11 ∷ 0x00 ∷ 0x09 ∷ 0x06 ∷ [])
    ∷ why 0x06010002 (0x23 ∷ 0x00 ∷ 0x10 ∷ 0x00 ∷ 0x01 ∷ 0x00 ∷ 0x00 ∷ 0x00 ∷ [])
    (0x85 ∷ 0x05 ∷ 0x08 ∷ 0x80 ∷ 0x00 ∷ 0x10 ∷ 0x00 ∷ 0x02 ∷ 0x00 ∷ 0x01 ∷ 0x06 ∷ [])
    ∷ why 0x06070012 (0x2B ∷ 0x60 ∷ 0x60 ∷ 0x00 ∷ 0x01 ∷ 0x00 ∷ 0x00 ∷ 0x00 ∷ [])
    (0x85 ∷ 0x05 ∷ 0x08 ∷ 0x80 ∷ 0x60 ∷ 0x60 ∷ 0x00 ∷ 0x12 ∷ 0x00 ∷ 0x07 ∷ 0x06 ∷ [])
    ∷ why 0x06070013 (0x2F ∷ 0x40 ∷ 0x60 ∷ 0x00 ∷ 0x06 ∷ 0x00 ∷ 0x00 ∷ 0x00 ∷ [])
    (0x85 ∷ 0x05 ∷ 0x08 ∷ 0x80 ∷ 0x40 ∷ 0x60 ∷ 0x00 ∷ 0x13 ∷ 0x00 ∷ 0x07 ∷ 0x06 ∷ [])
    ∷ why 0x08000022 (0x2F ∷ 0x01 ∷ 0x16 ∷ 0x00 ∷ 0x00 ∷ 0x00 ∷ 0x00 ∷ 0x00 ∷ [])
    (0x85 ∷ 0x05 ∷ 0x08 ∷ 0x80 ∷ 0x01 ∷ 0x16 ∷ 0x00 ∷ 0x22 ∷ 0x00 ∷ 0x00 ∷ 0x08 ∷ [])
    ∷ why 0x06090032 (0x23 ∷ 0x83 ∷ 0x60 ∷ 0x00 ∷ 0x00 ∷ 0x00 ∷ 0x00 ∷ 0x00 ∷ [])
    (0x85 ∷ 0x05 ∷ 0x08 ∷ 0x80 ∷ 0x83 ∷ 0x60 ∷ 0x00 ∷ 0x32 ∷ 0x00 ∷ 0x09 ∷ 0x06 ∷ [])
    ∷ why 0x06090031 (0x23 ∷ 0x67 ∷ 0x60 ∷ 0x00 ∷ 0x00 ∷ 0x00 ∷ 0x00 ∷ 0x80 ∷ [])
    (0x85 ∷ 0x05 ∷ 0x08 ∷ 0x80 ∷ 0x67 ∷ 0x60 ∷ 0x00 ∷ 0x31 ∷ 0x00 ∷ 0x09 ∷ 0x06 ∷ [])
    ∷ why 0x06090030 (0x2F ∷ 0x60 ∷ 0x60 ∷ 0x00 ∷ 0x07 ∷ 0x00 ∷ 0x00 ∷ 0x00 ∷ [])
    (0x85 ∷ 0x05 ∷ 0x08 ∷ 0x80 ∷ 0x60 ∷ 0x60 ∷ 0x00 ∷ 0x30 ∷ 0x00 ∷ 0x09 ∷ 0x06 ∷ [])
    ∷ why 0x06040043 (0x23 ∷ 0x7D ∷ 0x60 ∷ 0x02 ∷ 0xFF ∷ 0xFF ∷ 0xFF ∷ 0xFF ∷ [])
    (0x85 ∷ 0x05 ∷ 0x08 ∷ 0x80 ∷ 0x7D ∷ 0x60 ∷ 0x02 ∷ 0x43 ∷ 0x00 ∷ 0x04 ∷ 0x06 ∷ [])
    ∷ why 0x06040041 (0x23 ∷ 0x00 ∷ 0x1A ∷ 0x04 ∷ 0x10 ∷ 0x00 ∷ 0x40 ∷ 0x60 ∷ [])
    (0x85 ∷ 0x05 ∷ 0x08 ∷ 0x80 ∷ 0x00 ∷ 0x1A ∷ 0x04 ∷ 0x41 ∷ 0x00 ∷ 0x04 ∷ 0x06 ∷ [])
    ∷ why 0x06040042 (0x2F ∷ 0x00 ∷ 0x1A ∷ 0x00 ∷ 0x03 ∷ 0x00 ∷ 0x00 ∷ 0x00 ∷ [])
    (0x85 ∷ 0x05 ∷ 0x08 ∷ 0x80 ∷ 0x00 ∷ 0x1A ∷ 0x00 ∷ 0x42 ∷ 0x00 ∷ 0x04 ∷ 0x06 ∷ [])
    ∷ []) ≡ true
unfolding open_rules open_promises
fourteen_told = refl

-- where none runs, a segment's abort names zeros
none_to_name :
    seen (ran []) (λ a. says_why a (why 0x05040001 ask_segment (0x85 ∷ 0x05 ∷ 0x08 ∷ 0x80 ∷ 0x00 ∷ 0x00 ∷ 0x00 ∷ 0x01 ∷ 0x00 ∷ 0x04 ∷ 0x05 ∷ [])))
    ≡ true
unfolding open_rules open_promises
none_to_name = refl

-- ---- GoodIsServed: a download of 6040h, whose 60h goes before the transmit PDOs; an upload of 6041h; a client abort
abbrev shutdown_request : List ℕ
shutdown_request = 0x2B ∷ 0x40 ∷ 0x60 ∷ 0x00 ∷ 0x06 ∷ 0x00 ∷ 0x00 ∷ 0x00 ∷ []

abbrev pub client_aborts : List ℕ
client_aborts = 0x80 ∷ 0x40 ∷ 0x60 ∷ 0x00 ∷ 0x00 ∷ 0x00 ∷ 0x04 ∷ 0x05 ∷ []

good_served :
    seen (ran (started ∷ operational ∷ []))
    (λ a. same_by eqb (map (code_at a) (shutdown_request ∷ upload_status ∷ client_aborts ∷ [])) (0 ∷ 0 ∷ 0 ∷ [])
    && same_by eqb (frame_at 0 (does (step (request shutdown_request)) a).output)
    (0x85 ∷ 0x05 ∷ 0x08 ∷ 0x60 ∷ 0x40 ∷ 0x60 ∷ 0x00 ∷ 0x00 ∷ 0x00 ∷ 0x00 ∷ 0x00 ∷ [])
    && only_says (request upload_status) a 1 (0x85 ∷ 0x05 ∷ 0x08 ∷ 0x4B ∷ 0x41 ∷ 0x60 ∷ 0x00 ∷ 0x40 ∷ 0x02 ∷ 0x00 ∷ 0x00 ∷ [])
    && only_says (request client_aborts) a 0 [])
    ≡ true
unfolding open_rules open_promises
good_served = refl

-- ---- DroppedFrameChangesNothing: receive PDO 2, three bytes long, with mode 7, which 6060h does not take; and the same with a byte too many
abbrev mode_seven : List ℕ
mode_seven = 0x06 ∷ 0x00 ∷ 0x07 ∷ []

bad_value_dropped :
    seen (ran (operational ∷ []))
    (λ a. listens 0x305 a.state.node.nmt a.dictionary 1
    && not (are_legal a.dictionary (unpacked (mapped a.dictionary 1) mode_seven))
    && only_says (frame_call 0x305 mode_seven) a 1 (0x85 ∷ 0x00 ∷ 0x08 ∷ 0x00 ∷ 0x82 ∷ 0x00 ∷ 0x00 ∷ 0x00 ∷ 0x00 ∷ 0x00 ∷ 0x00 ∷ [])
    && only_says (frame_call 0x305 (mode_seven ++ (0x00 ∷ []))) a 2
    (0x85 ∷ 0x00 ∷ 0x08 ∷ 0x20 ∷ 0x82 ∷ 0x00 ∷ 0x00 ∷ 0x00 ∷ 0x00 ∷ 0x00 ∷ 0x00
    ∷ 0x85 ∷ 0x00 ∷ 0x08 ∷ 0x00 ∷ 0x82 ∷ 0x00 ∷ 0x00 ∷ 0x00 ∷ 0x00 ∷ 0x00 ∷ 0x00 ∷ []))
    ≡ true
unfolding open_rules open_promises
bad_value_dropped = refl

-- ---- AtMostSixInOrder

-- of each frame of an answer the identifier, the length, and the first two data bytes as a word: an emergency's code, a PDO's 6041h
abbrev cut : ℕ → List ℕ → List (List ℕ)
cut zero o = []
cut (suc n) o = (value (part 0 2 o) ∷ get_or o 2 0 ∷ value (part 3 2 o) ∷ []) ∷ cut n (drop frame_size o)

abbrev pub sent_by : Outcome → List (List ℕ)
sent_by u = cut u.frames u.output

-- a fault whose cause is gone, in Operational
abbrev pub in_fault : List Call
in_fault = event_call 3 (0x10 ∷ 0x23 ∷ 0x02 ∷ []) ∷ event_call 4 [] ∷ event_call 8 [] ∷ operational ∷ []

-- an SDO write that resets it: the reply on 585h, the emergency on 085h, and behind them the four transmit PDOs
reply_comes_first :
    sent_by (answers (control 0x80) in_fault)
    ≡ (0x585 ∷ 8 ∷ 0x4060 ∷ []) ∷ (0x085 ∷ 8 ∷ 0x0000 ∷ []) ∷ (0x185 ∷ 2 ∷ 0x0240 ∷ []) ∷ (0x285 ∷ 3 ∷ 0x0240 ∷ []) ∷ (0x385 ∷ 6 ∷ 0x0240 ∷ [])
    ∷ (0x485 ∷ 6 ∷ 0x0240 ∷ []) ∷ []
unfolding open_rules open_promises
reply_comes_first = refl

-- receive PDO 1 with a byte too many resets it: 8220h, and then 0000h
long_then_reset :
    sent_by (answers (frame_call 0x205 (0x80 ∷ 0x00 ∷ 0x00 ∷ [])) in_fault)
    ≡ (0x085 ∷ 8 ∷ 0x8220 ∷ []) ∷ (0x085 ∷ 8 ∷ 0x0000 ∷ []) ∷ (0x185 ∷ 2 ∷ 0x0240 ∷ []) ∷ (0x285 ∷ 3 ∷ 0x0240 ∷ []) ∷ (0x385 ∷ 6 ∷ 0x0240 ∷ [])
    ∷ (0x485 ∷ 6 ∷ 0x0240 ∷ []) ∷ []
unfolding open_rules open_promises
long_then_reset = refl

-- receive PDO 2 with a byte too many and mode 7: 8220h, and then 8200h
long_then_refused :
    sent_by (answers (frame_call 0x305 (0x06 ∷ 0x00 ∷ 0x07 ∷ 0x00 ∷ [])) (operational ∷ []))
    ≡ (0x085 ∷ 8 ∷ 0x8220 ∷ []) ∷ (0x085 ∷ 8 ∷ 0x8200 ∷ []) ∷ []
unfolding open_rules open_promises
long_then_refused = refl

-- so they are in order; the other way round, with another second, or three, they are not
order_of_cause :
    (map in_order_of_cause ((0x8220 ∷ 0x0000 ∷ []) ∷ (0x8220 ∷ 0x8200 ∷ []) ∷ []) ≡ true ∷ true ∷ [])
    × (map in_order_of_cause ((0x0000 ∷ 0x8220 ∷ []) ∷ (0x8200 ∷ 0x8220 ∷ []) ∷ (0x8220 ∷ 0x8210 ∷ []) ∷ (0x8220 ∷ 0x8200 ∷ 0x0000 ∷ []) ∷ [])
    ≡ false ∷ false ∷ false ∷ false ∷ [])
order_of_cause = (refl, refl)

-- ---- ElevenBytes: a heartbeat, which has one data byte
one_data_byte : length (encoded (frame 0x705 (0x05 ∷ []))) ≡ frame_size
unfolding open_rules
one_data_byte = refl

-- ---- ShortFrameChangesNothing: receive PDO 3 with five bytes of six
short_dropped :
    seen (ran busy)
    (λ a. is_busy a && listens 0x405 a.state.node.nmt a.dictionary 2
    && ltb 5 (mapped_length (mapped a.dictionary 2))
    && only_says (frame_call 0x405 (0x06 ∷ 0x00 ∷ 0x39 ∷ 0x05 ∷ 0x00 ∷ [])) a 1
    (0x85 ∷ 0x00 ∷ 0x08 ∷ 0x10 ∷ 0x82 ∷ 0x00 ∷ 0x00 ∷ 0x00 ∷ 0x00 ∷ 0x00 ∷ 0x00 ∷ []))
    ≡ true
unfolding open_rules open_promises
short_dropped = refl

-- ---- NoOldMapping: receive PDO 1 made invalid, and its mapping emptied
abbrev new_mapping : List Call
new_mapping = request (0x23 ∷ 0x00 ∷ 0x14 ∷ 0x01 ∷ 0x05 ∷ 0x02 ∷ 0x00 ∷ 0x80 ∷ []) ∷ write1 0x00 0x16 0x00 0x00 ∷ []

no_old_plan : (is_fresh (ran new_mapping) ≡ true) × (mapped (ran new_mapping).dictionary 0 ≡ [])
unfolding open_rules open_promises
no_old_plan = (refl, refl)

-- ---- SameStatusWord: transmit PDO 1 maps 6061h and then 6041h; a control word changes 6041h to 0221h, and the frame on 185h is the second sent
abbrev word_behind_mode : List Call
word_behind_mode =
    request (0x23 ∷ 0x00 ∷ 0x18 ∷ 0x01 ∷ 0x85 ∷ 0x01 ∷ 0x00 ∷ 0xC0 ∷ [])
    ∷ write1 0x00 0x1A 0x00 0x00
    ∷ request (0x23 ∷ 0x00 ∷ 0x1A ∷ 0x01 ∷ 0x08 ∷ 0x00 ∷ 0x61 ∷ 0x60 ∷ [])
    ∷ request (0x23 ∷ 0x00 ∷ 0x1A ∷ 0x02 ∷ 0x10 ∷ 0x00 ∷ 0x41 ∷ 0x60 ∷ [])
    ∷ write1 0x00 0x1A 0x00 0x02
    ∷ request (0x23 ∷ 0x00 ∷ 0x18 ∷ 0x01 ∷ 0x85 ∷ 0x01 ∷ 0x00 ∷ 0x40 ∷ [])
    ∷ started
    ∷ operational
    ∷ []

same_word :
    seen (answers (control 0x06) word_behind_mode)
    (λ u. works u.state.node.nmt u.dictionary each_way
    && same_by same (mapped u.dictionary each_way) (mode_display ∷ status_word ∷ [])
    && eqb (data_from + mapped_length (mode_display ∷ [])) 4
    && eqb u.frames 5
    && same_by eqb (frame_at 1 u.output) (0x85 ∷ 0x01 ∷ 0x03 ∷ 0x00 ∷ 0x21 ∷ 0x02 ∷ 0x00 ∷ 0x00 ∷ 0x00 ∷ 0x00 ∷ 0x00 ∷ [])
    && only_says (request upload_status) (standing u) 1
    (0x85 ∷ 0x05 ∷ 0x08 ∷ 0x4B ∷ 0x41 ∷ 0x60 ∷ 0x00 ∷ 0x21 ∷ 0x02 ∷ 0x00 ∷ 0x00 ∷ []))
    ≡ true
unfolding open_rules open_promises
same_word = refl

-- ---- the set-points, over calls from a stand on: bit 4's edges, the set-points reached, and those held before and now

record Counted : Type 0 where
  edges : ℕ
  reached : ℕ
  before : List SetPoint
  now : List SetPoint

abbrev counted : List Step → Stand → Counted
counted ks a = record { edges = edges_in ks a; reached = reached_in ks a; before = held_at a; now = held_at (after ks a) }

-- what is taken: 607Ah, 6081h, 6083h and 6084h as power-up leaves them
abbrev point : SetPoint
point = record { target = 0; velocity = 0; acceleration = 1; deceleration = 1 }

-- ---- OneEdgeTakesOne: 1Fh, which enables and is an edge
edge_takes_one :
    (counted (map step (control 0x1F ∷ [])) (ran readied) ≡ record { edges = 1; reached = 0; before = []; now = point ∷ [] })
    × Passed 1 0 [] (point ∷ [])
unfolding open_rules open_promises
edge_takes_one = (
  refl,
  record { taken = point ∷ []; gone = 0; rest = refl; few = omega arith; counted = omega arith; inside = omega arith },
)

-- along the writes of one call each of 6040h counts
edges_along : edges 0x0F (write control_word 0x1F ∷ write mode 0x01 ∷ write control_word 0x0F ∷ write control_word 0x1F ∷ []) ≡ 2
unfolding open_rules open_promises
edges_along = refl

-- ---- NeverMoreThanEdges: one edge since power-up, and its set-point is reached
never_more : counted (map step (readied ++ (control 0x1F ∷ event_call 6 [] ∷ []))) (ran []) ≡ record { edges = 1; reached = 1; before = []; now = [] }
unfolding open_rules open_promises
never_more = refl

-- ---- HeldBitTakesNothing: two set-points with the same numbers are held; the first is reached, and 1Fh is written again: the second alone is left

abbrev two_held : Stand
two_held = ran (readied ++ (control 0x1F ∷ control 0x0F ∷ control 0x1F ∷ []))

abbrev while_held : List Step
while_held = map step (event_call 6 [] ∷ control 0x1F ∷ [])

-- the conditions of HoldsBitFour
abbrev holds : List Step → Stand → Bool
holds [] a = true
holds (k ∷ ks) a = bit new_set_point_bit (read a.dictionary control_word) && keeps_bit_four k a && holds ks (left k a)

abbrev held_and_counted : List Step → Stand → Bool × Counted
held_and_counted ks a = (holds ks a, counted ks a)

held_takes_none : held_and_counted while_held two_held ≡ (true, record { edges = 0; reached = 1; before = point ∷ point ∷ []; now = point ∷ [] })
unfolding open_rules open_promises
held_takes_none = refl

-- so that the promise's premise is met there
holding : (ks : List Step) (a : Stand) → holds ks a ≡ true → HoldsBitFour ks a
unfolding HoldsBitFour
holding [] a h = tt
holding (k ∷ ks) a h = let e = simp and-eq-true_iff at h in (e.0.0, e.0.1, holding ks (left k a) e.1)

bit_held : HoldsBitFour while_held two_held
bit_held = holding while_held two_held (ap (λ p. p.0) held_takes_none)

-- ---- ShutsOut: a node of each kind

abbrev node_with : Refusal → Answers
node_with r c s d o = record { refusal = r; frames = 0; state = s; dictionary = d; output = o }

-- it refuses everything
refusing_falls : RefusesEverything (node_with OutOfPlace) × (keeps_examples (node_with OutOfPlace) ≡ false)
unfolding open_rules open_examples
refusing_falls = (λ c s d o e. omega arith, refl)

-- it does nothing
doing_nothing_falls : SendsAlways (node_with Accepted) 0 × (keeps_examples (node_with Accepted) ≡ false)
unfolding open_rules open_examples
doing_nothing_falls = (λ c s d o. refl, refl)

-- it is the node after power-up, and idle then, but that it loads files
abbrev idle_node : Answers
idle_node (power_up_call n) s d o = answer (power_up_call n) s d o
idle_node (frame_call i bs) s d o = node_with Accepted (frame_call i bs) s d o
idle_node (event_call k xs) s d o = node_with Accepted (event_call k xs) s d o
idle_node (load_call f) s d o = answer (load_call f) s d o

idle_falls : SendsNothingLater idle_node × ChangesNothingLater idle_node × (keeps_examples idle_node ≡ false)
unfolding open_rules open_examples
idle_falls = (quiet, still, refl)
  where
    quiet : SendsNothingLater idle_node
    quiet (power_up_call n) s d o h = absurd (false≢true h)
    quiet (frame_call i bs) s d o h = refl
    quiet (event_call k xs) s d o h = refl
    quiet (load_call f) s d o h = absurd (false≢true h)

    still : ChangesNothingLater idle_node
    still (power_up_call n) s d o h = absurd (false≢true h)
    still (frame_call i bs) s d o h = refl
    still (event_call k xs) s d o h = refl
    still (load_call f) s d o h = absurd (false≢true h)

-- it is the node, and answers each frame as if 6040h had been written: right up to the upload of example 4
abbrev constant_reply : List Frame
constant_reply = reply (0x60 ∷ 0x40 ∷ 0x60 ∷ 0x00 ∷ 0x00 ∷ 0x00 ∷ 0x00 ∷ 0x00 ∷ []) ∷ []

abbrev replying_node : Answers
replying_node (power_up_call n) s d o = answer (power_up_call n) s d o
replying_node (frame_call i bs) s d o =
    let u = answer (frame_call i bs) s d o in
    record { refusal = u.refusal; frames = 1; state = u.state; dictionary = u.dictionary; output = sent_into o constant_reply }
replying_node (event_call k xs) s d o = answer (event_call k xs) s d o
replying_node (load_call f) s d o = answer (load_call f) s d o

replying_falls : RepliesAlike replying_node constant_reply × (given_by replying_node example4 ≡ false)
unfolding open_rules open_examples
replying_falls = (λ bs s d o. refl, refl)

-- it is the node, and reports six frames
abbrev six_frames : Answers
six_frames c s d o =
    let u = answer c s d o in
    record { refusal = u.refusal; frames = 6; state = u.state; dictionary = u.dictionary; output = u.output }

six_frames_fall : SendsAlways six_frames 6 × (keeps_examples six_frames ≡ false)
unfolding open_rules open_examples
six_frames_fall = (λ c s d o. refl, refl)
