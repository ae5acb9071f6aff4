-- The telling runs of the promises on loads, beside those of Telling: runs of node 5 in Pre-operational, computed. The customer's file sets the
-- heartbeat's time and the mode, and maps transmit PDO 1 anew in its steps; another one fails at its third entry.
-- Assumes nothing.
use Rattle.theorems.proofs.Words.{ℕ, ◌≡◌, refl, Bool, true, not, ◌&&◌, List, [], ◌∷◌, ◌++◌, map, eqb, get_or, take, length}
use Rattle.theorems.proofs.Telling.{ran, seen, started, operational, passes, then, lists, is_fresh, transfer_numbers, same_stand, only_says}
use Rattle.theorems.proofs.Telling.{code_at, verdict_code}
use Rattle.theorems.proofs.TellingOfSegments.{ask_name, stays}
use lib.ListN.{replicate}
use Rattle.rules_dictionary.specs.Numbers.{all}
use Rattle.rules_dictionary.specs.Table.{Row, heartbeat_time, mode, mode_display, status_word}
use Rattle.rules_dictionary.specs.Values.{read}
use Rattle.files.specs.ConciseDcf.{Entry, entries_in}
use Rattle.rules_services.specs.PdoTraffic.{no_data}
use Rattle.rules_services.specs.Load.{may_load}
use Rattle.rules.specs.Outcome.{same_by}
use Rattle.rules.specs.Sound.{sound}
use Rattle.rules.specs.Calls.{Call, event_call, load_call, refusal_number}
use Rattle.rules.specs.Scripts.{blank, open_rules}
use Rattle.rules.specs.Examples.{request}
use Rattle.theorems.specs.Promises.{Stand, does, left, nothing_runs, requested, after_requests, open_promises}
use Rattle.theorems.specs.PromisesOfLoad.{loading, request_for, is_requestable, is_in_order, entry_verdict, load_at, empty_file, open_load_promises}

-- ---- the files

-- 1017h, 1000 ms; 6060h, 3
abbrev beat : List ℕ
beat = 0x17 ∷ 0x10 ∷ 0x00 ∷ 0x02 ∷ 0x00 ∷ 0x00 ∷ 0x00 ∷ 0xE8 ∷ 0x03 ∷ []

abbrev speed : List ℕ
speed = 0x60 ∷ 0x60 ∷ 0x00 ∷ 0x01 ∷ 0x00 ∷ 0x00 ∷ 0x00 ∷ 0x03 ∷ []

-- transmit PDO 1 is taken back, emptied, maps 6061h and 6041h, and is valid again
abbrev mapped : List ℕ
mapped =
    (0x00 ∷ 0x18 ∷ 0x01 ∷ 0x04 ∷ 0x00 ∷ 0x00 ∷ 0x00 ∷ 0x85 ∷ 0x01 ∷ 0x00 ∷ 0xC0 ∷ [])
    ++ (0x00 ∷ 0x1A ∷ 0x00 ∷ 0x01 ∷ 0x00 ∷ 0x00 ∷ 0x00 ∷ 0x00 ∷ [])
    ++ (0x00 ∷ 0x1A ∷ 0x01 ∷ 0x04 ∷ 0x00 ∷ 0x00 ∷ 0x00 ∷ 0x08 ∷ 0x00 ∷ 0x61 ∷ 0x60 ∷ [])
    ++ (0x00 ∷ 0x1A ∷ 0x02 ∷ 0x04 ∷ 0x00 ∷ 0x00 ∷ 0x00 ∷ 0x10 ∷ 0x00 ∷ 0x41 ∷ 0x60 ∷ [])
    ++ (0x00 ∷ 0x1A ∷ 0x00 ∷ 0x01 ∷ 0x00 ∷ 0x00 ∷ 0x00 ∷ 0x02 ∷ [])
    ++ (0x00 ∷ 0x18 ∷ 0x01 ∷ 0x04 ∷ 0x00 ∷ 0x00 ∷ 0x00 ∷ 0x85 ∷ 0x01 ∷ 0x00 ∷ 0x40 ∷ [])

-- 607Dh:1, 0; 607Dh:2, -1, which is refused behind it and not without it
abbrev lowest : List ℕ
lowest = 0x7D ∷ 0x60 ∷ 0x01 ∷ 0x04 ∷ 0x00 ∷ 0x00 ∷ 0x00 ∷ 0x00 ∷ 0x00 ∷ 0x00 ∷ 0x00 ∷ []

abbrev swapped : List ℕ
swapped = 0x7D ∷ 0x60 ∷ 0x02 ∷ 0x04 ∷ 0x00 ∷ 0x00 ∷ 0x00 ∷ 0xFF ∷ 0xFF ∷ 0xFF ∷ 0xFF ∷ []

-- 6040h, 6
abbrev shutdown : List ℕ
shutdown = 0x40 ∷ 0x60 ∷ 0x00 ∷ 0x02 ∷ 0x00 ∷ 0x00 ∷ 0x00 ∷ 0x06 ∷ 0x00 ∷ []

abbrev counted : ℕ → List ℕ → List ℕ
counted n es = n ∷ 0x00 ∷ 0x00 ∷ 0x00 ∷ es

abbrev customers : List ℕ
customers = counted 8 (beat ++ speed ++ mapped)

abbrev failing : List ℕ
failing = counted 4 (beat ++ lowest ++ swapped ++ speed)

-- the heartbeat of 5 ms is counted once, and the device name is uploaded
abbrev waiting : List Call
waiting = request (0x2B ∷ 0x17 ∷ 0x10 ∷ 0x00 ∷ 0x05 ∷ 0x00 ∷ 0x00 ∷ 0x00 ∷ []) ∷ event_call 7 [] ∷ request ask_name ∷ []

abbrev waits : ℕ → Stand → Bool
waits n a = eqb a.state.node.heartbeat n && same_by eqb (transfer_numbers a.state.transfer) (1 ∷ 0 ∷ [])

-- refusal, entry and code of a load
abbrev says : List ℕ → ℕ → ℕ → ℕ → Stand → Bool
says f refusal entry code a =
    let u = load_at f a in
    same_by eqb (refusal_number u.refusal ∷ u.named.entry ∷ u.named.code ∷ []) (refusal ∷ entry ∷ code ∷ [])

-- what stands there after it
abbrev holds : List Row → List ℕ → Stand → Bool
holds xs vs a = same_by eqb (map (read a.dictionary) xs) vs

-- ---- LoadsAsDownloads, LoadsWhatIsTaken: the customer's file, which is in order, beside its eight requests, none of which is aborted, while an
-- upload waits. The heartbeat's count starts again; the upload goes on behind the load, and not behind the requests

requests_of_entries :
    map request_for (entries_in customers)
    ≡ (0x2B ∷ 0x17 ∷ 0x10 ∷ 0x00 ∷ 0xE8 ∷ 0x03 ∷ 0x00 ∷ 0x00 ∷ [])
    ∷ (0x2F ∷ 0x60 ∷ 0x60 ∷ 0x00 ∷ 0x03 ∷ 0x00 ∷ 0x00 ∷ 0x00 ∷ [])
    ∷ (0x23 ∷ 0x00 ∷ 0x18 ∷ 0x01 ∷ 0x85 ∷ 0x01 ∷ 0x00 ∷ 0xC0 ∷ [])
    ∷ (0x2F ∷ 0x00 ∷ 0x1A ∷ 0x00 ∷ 0x00 ∷ 0x00 ∷ 0x00 ∷ 0x00 ∷ [])
    ∷ (0x23 ∷ 0x00 ∷ 0x1A ∷ 0x01 ∷ 0x08 ∷ 0x00 ∷ 0x61 ∷ 0x60 ∷ [])
    ∷ (0x23 ∷ 0x00 ∷ 0x1A ∷ 0x02 ∷ 0x10 ∷ 0x00 ∷ 0x41 ∷ 0x60 ∷ [])
    ∷ (0x2F ∷ 0x00 ∷ 0x1A ∷ 0x00 ∷ 0x02 ∷ 0x00 ∷ 0x00 ∷ 0x00 ∷ [])
    ∷ (0x23 ∷ 0x00 ∷ 0x18 ∷ 0x01 ∷ 0x85 ∷ 0x01 ∷ 0x00 ∷ 0x40 ∷ [])
    ∷ []
unfolding open_rules open_promises open_load_promises
requests_of_entries = refl

-- the codes of requests in a row, 0 where one is taken
abbrev codes_along : List (List ℕ) → Stand → List ℕ
codes_along [] a = []
codes_along (rq ∷ rqs) a = code_at a rq ∷ codes_along rqs (left (requested rq blank a) a)

abbrev same_as_requests : List (List ℕ) → Stand → Stand → Bool
same_as_requests rqs a b =
    same_by eqb (codes_along rqs a) (replicate (length rqs) 0)
    && seen (after_requests rqs blank a)
    (λ c. same_by eqb (transfer_numbers c.state.transfer) (0 ∷ []) && same_stand (nothing_runs b) (nothing_runs c))

loaded_as_downloaded :
    seen (ran (started ∷ waiting))
    (λ a. waits 1 a
    && (may_load a.state && is_in_order customers && all is_requestable (entries_in customers))
    && says customers 0 0 0 a
    && seen (left (loading customers []) a)
    (λ b. waits 0 b
    && holds (heartbeat_time ∷ mode ∷ mode_display ∷ status_word ∷ []) (1000 ∷ 3 ∷ 3 ∷ 0x0240 ∷ []) b
    && same_as_requests (map request_for (entries_in customers)) a b))
    ≡ true
unfolding open_rules open_promises open_load_promises
loaded_as_downloaded = refl

-- ---- SoundAlways, NothingStale, NoOldMapping: behind it all is sound and fresh, and transmit PDO 1 is ready with 6061h and 6041h.
-- EndsTransfers: the upload stays. ListsWhatIsWritten, ChangesNoOther: the objects of the entries
loaded_and_sound :
    passes
    (then (load_call customers)
    ((λ b. sound b.state b.dictionary)
    ∷ is_fresh
    ∷ (λ b. let k = get_or b.state.axis.ready 0 no_data in eqb k.length 3 && same_by eqb (take 3 k.bytes) (0x03 ∷ 0x00 ∷ 0x02 ∷ []))
    ∷ [])
    ∷ stays (load_call customers)
    ∷ lists (load_call customers) (0x1017 ∷ 0x6060 ∷ 0x1800 ∷ 0x1A00 ∷ 0x1A00 ∷ 0x1A00 ∷ 0x1A00 ∷ 0x1800 ∷ [])
    ∷ [])
    (ran waiting)
    ≡ true
unfolding open_rules open_promises
loaded_and_sound = refl

-- ---- NamesFirstFailing: its third entry is taken where the run stands, and refused behind the two before it. RefusedLoadChangesNothing: these leave
-- nothing, and the heartbeat is counted on

abbrev entry : ℕ → ℕ → List ℕ → Entry
entry i j bs = record { index = i; subindex = j; content = bs }

abbrev third : Entry
third = entry 0x607D 2 (0xFF ∷ 0xFF ∷ 0xFF ∷ 0xFF ∷ [])

entries_of_failing :
    entries_in failing
    ≡ entry 0x1017 0 (0xE8 ∷ 0x03 ∷ []) ∷ entry 0x607D 1 (0x00 ∷ 0x00 ∷ 0x00 ∷ 0x00 ∷ []) ∷ third ∷ entry 0x6060 0 (0x03 ∷ []) ∷ []
unfolding open_rules
entries_of_failing = refl

abbrev third_at : ℕ → Stand → Bool
third_at code a = eqb (verdict_code (entry_verdict third a.state.node.nmt a.dictionary)) code

third_named :
    seen (ran (started ∷ waiting))
    (λ a. let rqs = map request_for (take 2 (entries_in failing)) in says failing 14 3 0x06040043 a
    && same_by eqb (codes_along rqs a) (0 ∷ 0 ∷ [])
    && third_at 0 a
    && third_at 0x06040043 (after_requests rqs blank a)
    && waits 1 a
    && same_stand (left (loading failing []) a) a)
    ≡ true
unfolding open_rules open_promises open_load_promises
third_named = refl

-- ---- NamesNothingElse: accepted; refused by 10, 11, 12 and 13, which comes before the entry that fails; in Operational, by 9
nothing_named_lem :
    passes
    (says customers 0 0 0
    ∷ says (take 3 customers) 10 0 0
    ∷ says (0x01 ∷ 0x02 ∷ 0x00 ∷ 0x00 ∷ []) 11 0 0
    ∷ says (counted 2 (beat ++ take 7 speed)) 12 0 0
    ∷ says (counted 3 (lowest ++ swapped ++ shutdown)) 13 0 0
    ∷ then operational (says failing 9 0 0 ∷ [])
    ∷ [])
    (ran (started ∷ waiting))
    ≡ true
unfolding open_rules open_promises open_load_promises
nothing_named_lem = refl

-- ---- LoadSendsNothing: no frame, and the output as it was, of a file that is accepted and of one that is refused
abbrev is_silent : List ℕ → List ℕ → Stand → Bool
is_silent f o a = seen (does (loading f o) a) (λ u. eqb u.frames 0 && same_by eqb u.output o)

sent_nothing : passes (is_silent customers blank ∷ is_silent customers [] ∷ is_silent failing blank ∷ []) (ran (started ∷ waiting)) ≡ true
unfolding open_rules open_promises open_load_promises
sent_nothing = refl

-- ---- EmptyFileChangesNothing: Not ready, and then Switch on disabled; in Operational it is not served
empty_file_served :
    (empty_file ≡ 0x00 ∷ 0x00 ∷ 0x00 ∷ 0x00 ∷ [])
    × (seen (ran waiting)
    (λ a. waits 1 a
    && only_says (load_call empty_file) a 0 []
    && then started ((λ b. may_load b.state && only_says (load_call empty_file) b 0 []) ∷ []) a
    && then operational ((λ b. not (may_load b.state) && says empty_file 9 0 0 b) ∷ []) a)
    ≡ true)
unfolding open_rules open_promises open_load_promises
empty_file_served = (refl, refl)
