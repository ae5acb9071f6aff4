-- The edges of 'Calls and refusals', by computation: each refusal and the order of them, the output's bytes, the order of the frames,
-- and for each clause of soundness a state or a dictionary that breaks it alone.
-- Assumes nothing.
use Prim.Native.Nat.{ℕ, ◌+◌, ◌-◌}
use mathlib.Core.Path.{◌≡◌, refl}
use mathlib.Core.Bool.{Bool, true, false}
use mathlib.Core.List.{List, [], ◌∷◌, ◌++◌, map}
use lib.ListN.{replicate}
use Rattle.state.specs.declared.NmtState.TheVariants.{PreOperational, Operational}
use Rattle.rules_dictionary.specs.declared.Mode.TheVariants.{ProfilePosition}
use Rattle.drive.specs.declared.DriveState.TheVariants.{OperationEnabled}
use Rattle.drive.specs.declared.Store.TheVariants.{Rested}
use Rattle.drive.specs.declared.Drive.{Drive}
use Rattle.rules_dictionary.specs.declared.PdoData.{PdoData}
use Rattle.state.specs.declared.State.{State}
use Rattle.state.specs.declared.Pace.{Pace}
use Rattle.rules_dictionary.specs.TheNode.{first_node, last_node}
use Rattle.rules_dictionary.specs.Table.{table, device_type, position_window, transmission_type, map_entry, identifier, status_word, mode_display, mode}
use Rattle.rules_dictionary.specs.Table.{control_word, heartbeat_time, position, dictionary_length, open_table}
use Rattle.rules_dictionary.specs.Values.{Write, write, stored, packed_defaults}
use Rattle.drive.specs.SetPoints.{with_store, with_marks, with_cause}
use Rattle.rules_services.specs.Effects.{frame, writes, becomes, with_node, with_drive, with_held, with_paces, with_nmt, with_heartbeat}
use Rattle.rules_services.specs.PdoTraffic.{no_data, idle, all_idle}
use Rattle.rules_services.specs.Nmt.{fresh_state}
use Rattle.rules.specs.Outcome.{End, ended, encoded, sent_into}
use Rattle.rules.specs.Sound.{sound}
use Rattle.rules.specs.Calls.{Call, power_up_call, frame_call, event_call, answer, refusal_number, output_length}
use Rattle.rules.specs.Scripts.{line, from_nothing, nothing, open_rules}
use Rattle.rules.specs.Examples.{example1, example7, request, emergency, nmt, write1, write2, four_pdos, open_examples}

-- ---- refusals

number : Call → ℕ → ℕ → ℕ
number c dictionary output = refusal_number (answer c nothing (replicate dictionary 0) (replicate output 0)).refusal

-- ticket 2: "01's length is 391"; "output (at least 66)", "node-ID N 1 to 127": what follows from the definitions is what the document says
as_lent : (dictionary_length ≡ 391) × (output_length ≡ 66) × (first_node ≡ 1) × (last_node ≡ 127)
unfolding open_table
as_lent = (refl, refl, refl, refl)

-- "dictionary not 391 bytes", "output under 66 bytes", "N outside 1..127", "lowest number first"
lengths_first :
    let d = dictionary_length in
    let o = output_length in
    (map (λ n. number (power_up_call 5) n o) (0 ∷ (d - 1) ∷ (d + 1) ∷ d ∷ []) ≡ 1 ∷ 1 ∷ 1 ∷ 0 ∷ [])
    × (map (number (power_up_call 5) d) (0 ∷ (o - 1) ∷ o ∷ (o + 1) ∷ []) ≡ 2 ∷ 2 ∷ 0 ∷ 0 ∷ [])
    × (map (λ n. number (power_up_call n) d o) (0 ∷ first_node ∷ last_node ∷ (last_node + 1) ∷ []) ≡ 3 ∷ 0 ∷ 0 ∷ 3 ∷ [])
    × (number (power_up_call 0) (d - 1) (o - 1) ≡ 1)
    × (number (power_up_call 0) d (o - 1) ≡ 2)
    × (number (frame_call 0x800 []) d o ≡ 4)
    × (number (event_call 0 []) d (o - 1) ≡ 2)
unfolding number open_rules
lengths_first = (refl, refl, refl, refl, refl, refl, refl)

-- "frame identifier over 7FFh or length over 8", "event number unknown ..", "event out of place"; a frame for others does nothing
refused_later : from_nothing (example1
    ++ line (frame_call 0x7FF (1 ∷ 2 ∷ 3 ∷ 4 ∷ 5 ∷ 6 ∷ 7 ∷ 8 ∷ [])) 0 0x0250 []
    ∷ line (frame_call 0x800 []) 5 0x0250 []
    ∷ line (frame_call 0x606 (1 ∷ 2 ∷ 3 ∷ 4 ∷ 5 ∷ 6 ∷ 7 ∷ 8 ∷ 9 ∷ [])) 5 0x0250 []
    ∷ line (frame_call 0x606 (0x2B ∷ 0x40 ∷ 0x60 ∷ 0x00 ∷ 0x06 ∷ 0x00 ∷ 0x00 ∷ 0x00 ∷ [])) 0 0x0250 []
    ∷ line (request (0x2B ∷ 0x40 ∷ 0x60 ∷ 0x00 ∷ 0x06 ∷ [])) 0 0x0250 []
    ∷ line (event_call 10 []) 6 0x0250 []
    ∷ line (event_call 1 (0 ∷ [])) 6 0x0250 []
    ∷ line (event_call 1 []) 7 0x0250 []
    ∷ []) ≡ true
unfolding open_rules open_examples
refused_later = refl

-- ---- the output: "identifier (2, little-endian), length, eight data bytes, unused ones zero. Bytes past the frames reported stay."

eleven_bytes : encoded (frame 0x705 (0x7F ∷ [])) ≡ 0x05 ∷ 0x07 ∷ 0x01 ∷ 0x7F ∷ 0x00 ∷ 0x00 ∷ 0x00 ∷ 0x00 ∷ 0x00 ∷ 0x00 ∷ 0x00 ∷ []
unfolding open_rules
eleven_bytes = refl

one_after_another : sent_into (replicate 24 0xA5) (frame 0x085 (0x10 ∷ 0x82 ∷ []) ∷ frame 0x705 [] ∷ [])
    ≡ 0x85 ∷ 0x00 ∷ 0x02 ∷ 0x10 ∷ 0x82 ∷ 0x00 ∷ 0x00 ∷ 0x00 ∷ 0x00 ∷ 0x00 ∷ 0x00
    ∷ 0x05 ∷ 0x07 ∷ 0x00 ∷ 0x00 ∷ 0x00 ∷ 0x00 ∷ 0x00 ∷ 0x00 ∷ 0x00 ∷ 0x00 ∷ 0x00 ∷ 0xA5 ∷ 0xA5 ∷ []
unfolding open_rules
one_after_another = refl

-- "At most 6 frames. Order: SDO reply; emergencies ..; TPDOs rising": a fault reset by SDO in Operational sends all six
six_in_order : from_nothing (example7
    ++ line (event_call 3 (0x10 ∷ 0x23 ∷ 0x00 ∷ [])) 0 0x021F
    (emergency (0x10 ∷ 0x23 ∷ 0x01 ∷ 0x00 ∷ 0x00 ∷ 0x00 ∷ 0x00 ∷ 0x00 ∷ []) ∷ four_pdos 0x1F 0x02)
    ∷ line (event_call 4 []) 0 0x0218 (four_pdos 0x18 0x02)
    ∷ line (event_call 8 []) 0 0x0218 []
    ∷ write2 0x40 0x60 0x00 0x80 0x00 0x0250 (emergency (0x00 ∷ 0x00 ∷ 0x00 ∷ 0x00 ∷ 0x00 ∷ 0x00 ∷ 0x00 ∷ 0x00 ∷ []) ∷ four_pdos 0x50 0x02)
    ∷ []) ≡ true
unfolding open_rules open_examples
six_in_order = refl

-- a transmit PDO of type 0: nothing on entering, due at the first SYNC, then only after a change; the others go on entering
entering : from_nothing (example1
    ++ write1 0x00 0x18 0x02 0x00 0x0250 []
    ∷ write1 0x01 0x18 0x02 0x02 0x0250 []
    ∷ line (nmt 0x01) 0 0x0250
    (frame 0x385 (0x50 ∷ 0x02 ∷ 0x00 ∷ 0x00 ∷ 0x00 ∷ 0x00 ∷ []) ∷ frame 0x485 (0x50 ∷ 0x02 ∷ 0x00 ∷ 0x00 ∷ 0x00 ∷ 0x00 ∷ []) ∷ [])
    ∷ line (frame_call 0x080 []) 0 0x0250 (frame 0x185 (0x50 ∷ 0x02 ∷ []) ∷ [])
    ∷ line (frame_call 0x080 []) 0 0x0250 (frame 0x285 (0x50 ∷ 0x02 ∷ 0x00 ∷ []) ∷ [])
    ∷ line (frame_call 0x080 []) 0 0x0250 []
    ∷ []) ≡ true
unfolding open_rules open_examples
entering = refl

-- ---- soundness: node 5 after power-up is sound; each line breaks one clause

pub good : End
good = ended nothing (packed_defaults 5 table) (becomes (fresh_state 5))

unfoldable pub open_edges : Unit {0}
unfolding good packed_defaults open_rules
open_edges = tt

unfoldable pub state : State
state = good.state

unfoldable pub dictionary : List ℕ
dictionary = good.dictionary

with : (State → State) → Bool
with f = sound (f state) dictionary

onto : List Write → Bool
onto ws = sound state (stored ws dictionary)

itself : sound state dictionary ≡ true
unfolding state dictionary open_edges
itself = refl

-- "N legal; constants as listed, values in range, mappings and PDO identifiers legal; 6041h, 6061h as the rules make them"
broken_dictionary : map (λ w. onto (w ∷ []))
    (write device_type 0x00020193 ∷ write position_window 0x80000000 ∷ write (transmission_type 3) 241 ∷ write mode 2 ∷ write (map_entry 0 8) 0x60410010
    ∷ write (map_entry 0 1) 0 ∷ write (identifier 0) 0x305 ∷ write status_word 0x0240 ∷ write mode_display 1 ∷ write mode 1 ∷ [])
    ≡ replicate 10 false
unfolding onto state dictionary open_edges
broken_dictionary = refl

-- "plans and ready frames as worked afresh": a legal word behind the count is no part of the plan, a changed value is of the frame
stale : (onto (write (map_entry 0 8) 0x60400010 ∷ []) ≡ true) × (onto (write (map_entry 1 2) 0x607A0020 ∷ []) ≡ false)
    × (onto (write position 1 ∷ []) ≡ false)
unfolding onto state dictionary open_edges
stale = (refl, refl, refl)

with_drive_by : (Drive → Drive) → State → State
with_drive_by f s = with_drive (f s.axis.drive) s

one : PdoData
one = record { length = 2; bytes = 6 ∷ 0 ∷ 0 ∷ 0 ∷ 0 ∷ 0 ∷ 0 ∷ 0 ∷ [] }

abbrev counted : ℕ → Pace
counted k = record { count = k; due = false }

abbrev due : Pace
due = record { count = 0; due = true }

-- the store, both marks and the cause out of their place; a count, a due mark, a held frame outside Operational; spare bytes; the heartbeat
broken_state : map with
    (with_drive_by (with_store (Rested 0)) ∷ with_drive_by (with_marks true false) ∷ with_drive_by (with_marks false true) ∷ with_drive_by (with_cause true)
    ∷ with_paces (counted 1 ∷ idle ∷ idle ∷ idle ∷ []) ∷ with_paces (due ∷ idle ∷ idle ∷ idle ∷ []) ∷ with_held (one ∷ no_data ∷ no_data ∷ no_data ∷ [])
    ∷ with_held (record { length = 0; bytes = 0 ∷ 0 ∷ 0 ∷ 0 ∷ 0 ∷ 0 ∷ 0 ∷ 1 ∷ [] } ∷ no_data ∷ no_data ∷ no_data ∷ []) ∷ with_heartbeat 1
    ∷ with_node (record { id = 6; nmt = PreOperational; voltage = false; heartbeat = 0 }) ∷ [])
    ≡ replicate 10 false
unfolding with with_drive_by one state dictionary open_edges
broken_state = refl

-- what waits in Operational: of type 3 a count of 2 but not 3; due for type 0 alone; held for a synchronous receive PDO, at full length
-- and with legal values; "heartbeat count zero or below 1017h"
waiting : List Write → (State → State) → Bool
waiting ws f =
    let e = ended nothing (packed_defaults 5 table) (writes ws (becomes (with_nmt Operational (fresh_state 5)))) in
    sound (f (with_paces all_idle e.state)) e.dictionary

waits : (map (λ k. waiting (write (transmission_type 5) 3 ∷ []) (with_paces (idle ∷ counted k ∷ idle ∷ idle ∷ []))) (0 ∷ 2 ∷ 3 ∷ [])
    ≡ true ∷ true ∷ false ∷ [])
    × (map (λ k. waiting (write (transmission_type 5) k ∷ []) (with_paces (idle ∷ due ∷ idle ∷ idle ∷ []))) (0 ∷ 1 ∷ 255 ∷ [])
    ≡ true ∷ false ∷ false ∷ [])
    × (map (λ k. waiting (write (transmission_type 0) k ∷ []) (with_held (one ∷ no_data ∷ no_data ∷ no_data ∷ []))) (0 ∷ 240 ∷ 255 ∷ [])
    ≡ true ∷ true ∷ false ∷ [])
    × (waiting (write (transmission_type 1) 1 ∷ []) (with_held (no_data ∷ one ∷ no_data ∷ no_data ∷ [])) ≡ false)
    × (waiting (write (transmission_type 1) 1 ∷ [])
    (with_held (no_data ∷ record { length = 3; bytes = 6 ∷ 0 ∷ 2 ∷ 0 ∷ 0 ∷ 0 ∷ 0 ∷ 0 ∷ [] } ∷ no_data ∷ no_data ∷ [])) ≡ false)
    × (waiting (write (transmission_type 1) 1 ∷ [])
    (with_held (no_data ∷ record { length = 3; bytes = 6 ∷ 0 ∷ 3 ∷ 0 ∷ 0 ∷ 0 ∷ 0 ∷ 0 ∷ [] } ∷ no_data ∷ no_data ∷ [])) ≡ true)
    × (map (λ k. waiting (write heartbeat_time 3 ∷ []) (with_heartbeat k)) (2 ∷ 3 ∷ []) ≡ true ∷ false ∷ [])
unfolding waiting one open_edges
waits = (refl, refl, refl, refl, refl, refl, refl)

-- "taken mark only while bit 4 of 6040h is 1": an enabled drive in mode 1, at rest, under 1Fh and under 0Fh
marked : ℕ → Bool → Bool
marked word taken =
    let v : Drive =
    record { state = OperationEnabled; mode = ProfilePosition; store = Rested 0; taken = taken; limit = false; cause = false; stay = 0 } in
    let e = ended nothing (packed_defaults 5 table) (writes (write mode 1 ∷ write control_word word ∷ []) (becomes (with_drive v (fresh_state 5)))) in
    sound e.state e.dictionary

marks : (marked 0x1F true ≡ true) × (marked 0x0F true ≡ false) × (marked 0x0F false ≡ true)
unfolding marked open_edges
marks = (refl, refl, refl)
