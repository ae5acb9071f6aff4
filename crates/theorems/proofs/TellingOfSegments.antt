-- The telling runs of the promises on segments, beside those of Telling: runs of node 5, computed.
-- Assumes nothing.
use mathlib.Core.List.{flat_map}
use Rattle.theorems.proofs.Words.{ℕ, ◌≡◌, refl, Bool, true, ◌&&◌, List, [], ◌∷◌, ◌++◌, eqb, drop}
use Rattle.theorems.proofs.Telling.{step, ran, seen, control, operational, passes, then, sync_of, transfer_numbers, same_stand, says_and_leaves}
use Rattle.theorems.proofs.Telling.{busy, is_busy, code_at, ask_segment, why, says_why, write_constant, client_aborts, in_fault}
use Rattle.theorems.proofs.Runs.{standing}
use Rattle.rules_dictionary.specs.DeviceName.{device_name}
use Rattle.rules_services.specs.Segments.{carried}
use Rattle.rules.specs.Outcome.{same_by, frame_size}
use Rattle.rules.specs.Calls.{Call, power_up_call, frame_call, event_call, refusal_number}
use Rattle.rules.specs.Scripts.{blank, open_rules}
use Rattle.rules.specs.Examples.{request, nmt}
use Rattle.theorems.specs.Promises.{Stand, does, left, after_call, is_before_last, command_in, nothing_runs, frame_at, upload_status, after_requests}
use Rattle.theorems.specs.Promises.{replies_to, open_promises}

-- ---- the requests

-- a download by segments of 6000h and so many begins; the size that it tells, nine bytes, is ignored
abbrev begin : ℕ → List ℕ
begin low = 0x21 ∷ low ∷ 0x60 ∷ 0x00 ∷ 0x09 ∷ 0x00 ∷ 0x00 ∷ 0x00 ∷ []

-- segments of one byte, by the command byte
abbrev carries : ℕ → ℕ → List ℕ
carries command b = command ∷ b ∷ 0x00 ∷ 0x00 ∷ 0x00 ∷ 0x00 ∷ 0x00 ∷ 0x00 ∷ []

-- the last one, of toggle 0
abbrev one_last : ℕ → List ℕ
one_last b = carries 0x0D b

-- of toggle 0, with seven bytes and with none, and another to follow
abbrev seven_more : List ℕ
seven_more = 0x00 ∷ 0x11 ∷ 0x22 ∷ 0x33 ∷ 0x44 ∷ 0x55 ∷ 0x66 ∷ 0x77 ∷ []

abbrev none_more : List ℕ
none_more = carries 0x0E 0x00

-- the upload of the device name begins; `ask_segment` asks with toggle 0, this one with toggle 1
abbrev pub ask_name : List ℕ
ask_name = 0x40 ∷ 0x08 ∷ 0x10 ∷ 0x00 ∷ 0x00 ∷ 0x00 ∷ 0x00 ∷ 0x00 ∷ []

abbrev ask_other : List ℕ
ask_other = carries 0x70 0x00

-- a download of 6060h runs; the name is uploaded
abbrev downloading : Stand
downloading = ran (request (begin 0x60) ∷ [])

abbrev uploading : Stand
uploading = ran (request ask_name ∷ [])

-- ---- EndsTransfers: what runs after each call, as the list has it and as the call leaves it
abbrev pub turns_to : List ℕ → Call → Stand → Bool
turns_to t c a = same_by eqb (transfer_numbers (after_call c a.state)) t && same_by eqb (transfer_numbers (left (step c) a).state.transfer) t

-- nothing runs
abbrev ends : Call → Stand → Bool
ends c a = turns_to (0 ∷ []) c a

abbrev pub stays : Call → Stand → Bool
stays c a = turns_to (transfer_numbers a.state.transfer) c a

-- 01h, 80h, 82h for another node, SYNC, a tick, a fault, a request of seven bytes and one to another node leave a download
download_stays :
    passes
    (stays operational
    ∷ stays (nmt 0x80)
    ∷ stays (frame_call 0x000 (0x82 ∷ 0x06 ∷ []))
    ∷ stays (sync_of [])
    ∷ stays (event_call 7 [])
    ∷ stays (event_call 3 (0x10 ∷ 0x23 ∷ 0x02 ∷ []))
    ∷ stays (request (0x0D ∷ 0x01 ∷ 0x00 ∷ 0x00 ∷ 0x00 ∷ 0x00 ∷ 0x00 ∷ []))
    ∷ stays (frame_call 0x606 (one_last 0x01))
    ∷ [])
    downloading
    ≡ true
unfolding open_rules open_promises
download_stays = refl

-- 02h, 81h, 82h, power-up; initiates, a refused one too; a client abort of another object; command 7; a segment of the other direction, and of the
-- wrong toggle; the last segment, and one that is refused
download_ends :
    passes
    (ends (nmt 0x02)
    ∷ ends (nmt 0x81)
    ∷ ends (nmt 0x82)
    ∷ ends (power_up_call 6)
    ∷ ends (control 0x06)
    ∷ ends (request write_constant)
    ∷ ends (request upload_status)
    ∷ ends (request client_aborts)
    ∷ ends (request (carries 0xE0 0x00))
    ∷ ends (request ask_segment)
    ∷ ends (request (carries 0x1D 0x01))
    ∷ ends (request (one_last 0x01))
    ∷ ends (request (one_last 0x07))
    ∷ [])
    downloading
    ≡ true
unfolding open_rules open_promises
download_ends = refl

-- another transfer begins, or the next segment is due
transfer_turns :
    (passes
    (turns_to (1 ∷ 0 ∷ []) (request ask_name)
    ∷ turns_to (2 ∷ 0 ∷ 0 ∷ 0x40 ∷ 0x60 ∷ 0x00 ∷ 0x00 ∷ 0x00 ∷ 0x00 ∷ 0x00 ∷ []) (request (begin 0x40))
    ∷ turns_to (2 ∷ 1 ∷ 5 ∷ 0x60 ∷ 0x60 ∷ 0x00 ∷ 0x11 ∷ 0x22 ∷ 0x33 ∷ 0x44 ∷ []) (request seven_more)
    ∷ [])
    downloading
    && passes (ends (request ask_other) ∷ turns_to (1 ∷ 1 ∷ []) (request ask_segment) ∷ ends (request seven_more) ∷ []) uploading)
    ≡ true
unfolding open_rules open_promises
transfer_turns = refl

-- ---- NothingBeforeTheLast: from a stand with much to lose, the initiate of 6060h and segments, one of them with the wrong toggle
abbrev only_transfer : List ℕ → Stand → Bool
only_transfer rq a = is_before_last (command_in rq) rq && same_stand (nothing_runs (left (step (request rq)) a)) (nothing_runs a)

nothing_yet :
    passes
    (is_busy
    ∷ only_transfer (begin 0x60)
    ∷ then (request (begin 0x60)) (only_transfer seven_more ∷ only_transfer none_more ∷ only_transfer (carries 0x1E 0x00) ∷ [])
    ∷ [])
    (ran busy)
    ≡ true
unfolding open_rules open_promises
nothing_yet = refl

-- ---- SegmentsWriteAsExpedited

-- both calls leave the same, and send as many frames, the same ones behind the first
abbrev alike_behind : List ℕ → List ℕ → Stand → Bool
alike_behind last rq a =
    let u = does (step (request last)) a in
    let w = does (step (request rq)) a in
    eqb (refusal_number u.refusal) 0
    && eqb (refusal_number w.refusal) 0
    && same_stand (standing u) (standing w)
    && eqb u.frames w.frames
    && same_by eqb (drop frame_size u.output) (drop frame_size w.output)

-- 80h to 6040h in Fault: the reply 20h, and behind it the emergency and the transmit PDOs of a fault reset, as behind 60h
reset_by_segment :
    seen (ran (in_fault ++ (request (begin 0x40) ∷ [])))
    (λ a. alike_behind (carries 0x0B 0x80) (0x2B ∷ 0x40 ∷ 0x60 ∷ 0x00 ∷ 0x80 ∷ 0x00 ∷ 0x00 ∷ 0x00 ∷ []) a
    && eqb (does (step (request (carries 0x0B 0x80))) a).frames 6
    && same_by eqb (frame_at 0 (does (step (request (carries 0x0B 0x80))) a).output)
    (0x85 ∷ 0x05 ∷ 0x08 ∷ 0x20 ∷ 0x00 ∷ 0x00 ∷ 0x00 ∷ 0x00 ∷ 0x00 ∷ 0x00 ∷ 0x00 ∷ []))
    ≡ true
unfolding open_rules open_promises
reset_by_segment = refl

-- mode 7 to 6060h is aborted as an expedited write is, whole; and five bytes, or none, are told at the last segment
refused_by_segment :
    passes
    ((λ a. says_why a (why 0x06090030 (one_last 0x07) (0x85 ∷ 0x05 ∷ 0x08 ∷ 0x80 ∷ 0x60 ∷ 0x60 ∷ 0x00 ∷ 0x30 ∷ 0x00 ∷ 0x09 ∷ 0x06 ∷ [])))
    ∷ (λ a. alike_behind (one_last 0x07) (0x2F ∷ 0x60 ∷ 0x60 ∷ 0x00 ∷ 0x07 ∷ 0x00 ∷ 0x00 ∷ 0x00 ∷ []) a)
    ∷ (λ a. says_why a (why 0x06070012 (carries 0x05 0x01) (0x85 ∷ 0x05 ∷ 0x08 ∷ 0x80 ∷ 0x60 ∷ 0x60 ∷ 0x00 ∷ 0x12 ∷ 0x00 ∷ 0x07 ∷ 0x06 ∷ [])))
    ∷ (λ a. says_why a (why 0x06070013 (carries 0x0F 0x00) (0x85 ∷ 0x05 ∷ 0x08 ∷ 0x80 ∷ 0x60 ∷ 0x60 ∷ 0x00 ∷ 0x13 ∷ 0x00 ∷ 0x07 ∷ 0x06 ∷ [])))
    ∷ [])
    downloading
    ≡ true
unfolding open_rules open_promises
refused_by_segment = refl

-- ---- SegmentsJoin: seven bytes and one; and one, none and two
abbrev keeps : List (List ℕ) → List ℕ → Stand → Bool
keeps rqs t a = same_by eqb (transfer_numbers (after_requests rqs blank a).state.transfer) t

all_kept :
    (keeps (seven_more ∷ carries 0x1C 0x88 ∷ []) (2 ∷ 0 ∷ 5 ∷ 0x60 ∷ 0x60 ∷ 0x00 ∷ 0x11 ∷ 0x22 ∷ 0x33 ∷ 0x44 ∷ []) downloading
    && keeps (carries 0x0C 0x11 ∷ carries 0x1E 0x00 ∷ (0x0A ∷ 0x22 ∷ 0x33 ∷ 0x00 ∷ 0x00 ∷ 0x00 ∷ 0x00 ∷ 0x00 ∷ []) ∷ [])
    (2 ∷ 1 ∷ 3 ∷ 0x60 ∷ 0x60 ∷ 0x00 ∷ 0x11 ∷ 0x22 ∷ 0x33 ∷ 0x00 ∷ []) downloading)
    ≡ true
unfolding open_rules open_promises
all_kept = refl

-- ---- TogglesAlternate: a segment is taken, and the same again, a tick later, is not; so either way
abbrev taken_once : List ℕ → Stand → Bool
taken_once rq a = eqb (code_at a rq) 0 && then (request rq) (then (event_call 7 []) ((λ b. eqb (code_at b rq) 0x05030000) ∷ []) ∷ []) a

taken_once_lem : (taken_once none_more downloading && taken_once ask_segment uploading) ≡ true
unfolding open_rules open_promises
taken_once_lem = refl

-- ---- NameBySegments: 41h with the length, three segments, and the name
abbrev name_asked : List (List ℕ)
name_asked = ask_segment ∷ ask_other ∷ ask_segment ∷ []

name_read :
    (replies_to name_asked blank uploading
    ≡ (0x00 ∷ 0x43 ∷ 0x65 ∷ 0x6E ∷ 0x64 ∷ 0x75 ∷ 0x72 ∷ 0x61 ∷ [])
    ∷ (0x10 ∷ 0x6B ∷ 0x20 ∷ 0x73 ∷ 0x65 ∷ 0x72 ∷ 0x76 ∷ 0x6F ∷ [])
    ∷ (0x05 ∷ 0x20 ∷ 0x6E ∷ 0x6F ∷ 0x64 ∷ 0x65 ∷ 0x00 ∷ 0x00 ∷ [])
    ∷ [])
    × (flat_map carried (replies_to name_asked blank uploading) ≡ device_name)
    × (keeps name_asked (0 ∷ []) uploading ≡ true)
    × (says_and_leaves (request ask_name) (ran []) 1 (0x85 ∷ 0x05 ∷ 0x08 ∷ 0x41 ∷ 0x08 ∷ 0x10 ∷ 0x00 ∷ 0x13 ∷ 0x00 ∷ 0x00 ∷ 0x00 ∷ []) uploading ≡ true)
unfolding open_rules open_promises flat_map
name_read = (refl, refl, refl, refl)
