-- Ticket 6, whole files written out byte by byte: each refusal on both sides of its bound, the lower of two that both apply, what is named, and what
-- a load leaves. By computation.
-- Assumes nothing.
use Prim.Native.Nat.{ℕ}
use mathlib.Core.Path.{◌≡◌, refl}
use mathlib.Core.Bool.{true}
use mathlib.Core.List.{List, [], ◌∷◌, ◌++◌, map}
use lib.ListN.{replicate, take}
use Rattle.state.specs.declared.NmtState.TheVariants.{Operational}
use Rattle.state.specs.declared.Transfer.TheVariants.{Uploading}
use Rattle.state.specs.declared.State.{State}
use Rattle.state.specs.declared.Refusal.TheVariants.{Accepted}
use Rattle.rules_dictionary.specs.Numbers.{bytes}
use Rattle.rules_dictionary.specs.Table.{mode, mode_display, heartbeat_time, status_word}
use Rattle.rules_dictionary.specs.Values.{read}
use Rattle.rules_services.specs.Effects.{with_nmt, with_heartbeat, with_transfer}
use Rattle.rules.specs.Sound.{sound}
use Rattle.rules.specs.Calls.{load_call, answer, load_answer, LoadOutcome, refusal_number}
use Rattle.rules.proofs.Edges.{state, dictionary, open_edges}

-- a count, and then entries: index, subindex, size, data
abbrev file : ℕ → List ℕ → List ℕ
file n es = bytes 4 n ++ es

-- 1017h 1000 ms, 6060h 3, 6040h 6
abbrev beat : List ℕ
beat = 0x17 ∷ 0x10 ∷ 0x00 ∷ 0x02 ∷ 0x00 ∷ 0x00 ∷ 0x00 ∷ 0xE8 ∷ 0x03 ∷ []

abbrev speed : List ℕ
speed = 0x60 ∷ 0x60 ∷ 0x00 ∷ 0x01 ∷ 0x00 ∷ 0x00 ∷ 0x00 ∷ 0x03 ∷ []

abbrev control : List ℕ
control = 0x40 ∷ 0x60 ∷ 0x00 ∷ 0x02 ∷ 0x00 ∷ 0x00 ∷ 0x00 ∷ 0x06 ∷ 0x00 ∷ []

-- 1002h does not exist
abbrev absent : List ℕ
absent = 0x02 ∷ 0x10 ∷ 0x00 ∷ 0x00 ∷ 0x00 ∷ 0x00 ∷ 0x00 ∷ []

-- the refusal, the entry and the code of a load into node 5 just powered up
record Gives : Type 0 where
  refusal : ℕ
  entry : ℕ
  code : ℕ

abbrev gives : ℕ → ℕ → ℕ → Gives
gives r n c = record { refusal = r; entry = n; code = c }

told : LoadOutcome → Gives
told u = gives (refusal_number u.refusal) u.named.entry u.named.code

load : List ℕ → Gives
load f = told (load_answer f state dictionary)

-- "file under 4 bytes", also where three of them are 513, "count over 512", "file cut short or with bytes left over"
bounds_of_files : (map (λ n. load (replicate n 0)) (0 ∷ 3 ∷ 4 ∷ 5 ∷ []) ≡ gives 10 0 0 ∷ gives 10 0 0 ∷ gives 0 0 0 ∷ gives 12 0 0 ∷ [])
    × (load (0x01 ∷ 0x02 ∷ 0x00 ∷ []) ≡ gives 10 0 0)
    × (map (λ n. load (bytes 4 n)) (512 ∷ 513 ∷ 0xFFFFFFFF ∷ []) ≡ gives 12 0 0 ∷ gives 11 0 0 ∷ gives 11 0 0 ∷ [])
    × (map (λ n. load (take n (file 1 beat))) (10 ∷ 11 ∷ 12 ∷ 13 ∷ []) ≡ gives 12 0 0 ∷ gives 12 0 0 ∷ gives 12 0 0 ∷ gives 0 0 0 ∷ [])
    × (map load (file 1 (beat ++ 0x00 ∷ []) ∷ file 0 beat ∷ file 2 beat ∷ []) ≡ gives 12 0 0 ∷ gives 12 0 0 ∷ gives 12 0 0 ∷ [])
unfolding load told state dictionary open_edges
bounds_of_files = (refl, refl, refl, refl, refl)

-- "no count or size wraps": a size of FFFFFFFFh, of FFFFFFF9h, which with its head would be 2^32, and of 2^24 more than there is
sizes_exact : map (λ n. load (file 1 (0x17 ∷ 0x10 ∷ 0x00 ∷ bytes 4 n ++ 0xE8 ∷ 0x03 ∷ []))) (0xFFFFFFFF ∷ 0xFFFFFFF9 ∷ 0x01000002 ∷ 0x00000002 ∷ [])
    ≡ gives 12 0 0 ∷ gives 12 0 0 ∷ gives 12 0 0 ∷ gives 0 0 0 ∷ []
unfolding load told state dictionary open_edges
sizes_exact = refl

-- "Refusals, in order": 13 behind 12 and before 14, for the whole file before any entry is tried; 14 names its entry and code, no other does
order_of_refusals : map load
    (file 1 (take 8 control) ∷ file 1 control ∷ file 2 (absent ++ control) ∷ file 3 (beat ++ speed ++ absent) ∷ file 2 (speed ++ beat) ∷ [])
    ≡ gives 12 0 0 ∷ gives 13 0 0 ∷ gives 13 0 0 ∷ gives 14 3 0x06020000 ∷ gives 0 0 0 ∷ []
unfolding load told state dictionary open_edges
order_of_refusals = refl

-- "after 01's 1 and 4: wrong state": 1 before 4, 4 before 9, 9 before 10
into : State → List ℕ → List ℕ → Gives
into s d f = told (load_answer f s d)

states_first : (into (with_heartbeat 9 state) (0x00 ∷ dictionary) [] ≡ gives 1 0 0)
    × (into (with_nmt Operational (with_heartbeat 9 state)) dictionary [] ≡ gives 4 0 0)
    × (into (with_nmt Operational state) dictionary [] ≡ gives 9 0 0)
    × (sound (with_nmt Operational state) dictionary ≡ true)
unfolding into told state dictionary open_edges
states_first = (refl, refl, refl, refl)

-- a load is lent no output and sends nothing, whatever stands there
no_output_asked : map (λ o. (answer (load_call (file 1 beat)) state dictionary o).refusal) ([] ∷ replicate 66 0xA5 ∷ []) ≡ Accepted ∷ Accepted ∷ []
unfolding state dictionary open_edges
no_output_asked = refl

-- what an accepted one leaves: its entries' objects, 6061h, a transfer as it was, nothing stale
leaves : (map (read (load_answer (file 2 (beat ++ speed)) (with_transfer (Uploading 1) state) dictionary).dictionary)
    (heartbeat_time ∷ mode ∷ mode_display ∷ status_word ∷ []) ≡ 1000 ∷ 3 ∷ 3 ∷ 0x0200 ∷ [])
    × ((load_answer (file 2 (beat ++ speed)) (with_transfer (Uploading 1) state) dictionary).state.transfer ≡ Uploading 1)
    × (sound (load_answer (file 2 (beat ++ speed)) state dictionary).state (load_answer (file 2 (beat ++ speed)) state dictionary).dictionary ≡ true)
unfolding state dictionary open_edges
leaves = (refl, refl, refl)

-- one that is refused at its last entry leaves all
nothing_left : (load_answer (file 3 (beat ++ speed ++ absent)) state dictionary).dictionary ≡ dictionary
unfolding state dictionary open_edges
nothing_left = refl
