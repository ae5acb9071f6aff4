-- 'Calls and refusals' in literal numbers, by computation: each refusal on both sides of its bound, the lower of any two that both apply,
-- what a refusal leaves, the bytes of a frame, and which calls send which PDO.
-- Assumes nothing.
use Prim.Native.Nat.{ℕ}
use mathlib.Core.Path.{◌≡◌, refl}
use mathlib.Core.Bool.{true, false}
use mathlib.Core.List.{List, [], ◌∷◌, ◌++◌, map}
use lib.ListN.{replicate}
use Rattle.rules_dictionary.specs.declared.Move.{Move}
use Rattle.rules_dictionary.specs.declared.Plan.{Plan}
use Rattle.rules_dictionary.specs.declared.PdoData.{PdoData}
use Rattle.state.specs.declared.NmtState.TheVariants.{Stopped}
use Rattle.state.specs.declared.Transfer.{Transfer}
use Rattle.state.specs.declared.Transfer.TheVariants.{Uploading, Downloading}
use Rattle.state.specs.declared.State.{State}
use Rattle.state.specs.declared.Refusal.{Refusal}
use Rattle.state.specs.declared.Refusal.TheVariants.{Accepted, DictionaryLength, OutputLength, NodeId, NotSound, BadFrame, BadEvent, OutOfPlace}
use Rattle.state.specs.declared.Refusal.TheVariants.{WrongState, FileTooShort, TooManyEntries, FileMisfit, ControlWordEntry, EntryAborted}
use Rattle.rules_services.specs.Effects.{frame, becomes, with_nmt, with_transfer}
use Rattle.rules.specs.Outcome.{encoded, sent_into, same_move, same_plan, same_data}
use Rattle.rules.specs.Calls.{Call, power_up_call, frame_call, event_call, framed, answer, refusal_number}
use Rattle.rules.specs.Scripts.{line, from_nothing, nothing, open_rules}
use Rattle.rules.specs.Examples.{example1, example7, request, reply, emergency, nmt, write1, four_pdos, open_examples}
use Rattle.rules.proofs.Edges.{state, dictionary, open_edges}

-- ---- the numbers

numbers : map refusal_number (Accepted ∷ DictionaryLength ∷ OutputLength ∷ NodeId ∷ NotSound ∷ BadFrame ∷ BadEvent ∷ OutOfPlace
    ∷ WrongState ∷ FileTooShort ∷ TooManyEntries ∷ FileMisfit ∷ ControlWordEntry ∷ EntryAborted ∷ [])
    ≡ 0 ∷ 1 ∷ 2 ∷ 3 ∷ 4 ∷ 5 ∷ 6 ∷ 7 ∷ 9 ∷ 10 ∷ 11 ∷ 12 ∷ 13 ∷ 14 ∷ []
numbers = refl

-- the refusal of a call before power-up, with so many bytes of dictionary and output
unborn : Call → ℕ → ℕ → ℕ
unborn c d o = refusal_number (answer c nothing (replicate d 0) (replicate o 0)).refusal

-- of node 5 after power-up, with 66 bytes of output
awake : Call → ℕ
awake c = refusal_number (answer c state dictionary (replicate 66 0xA5)).refusal

-- "dictionary not 391 bytes", "output under 66 bytes", "N outside 1..127"
bounds_of_lengths : (map (λ n. unborn (power_up_call 5) n 66) (390 ∷ 391 ∷ 392 ∷ []) ≡ 1 ∷ 0 ∷ 1 ∷ [])
    × (map (unborn (power_up_call 5) 391) (65 ∷ 66 ∷ 67 ∷ []) ≡ 2 ∷ 0 ∷ 0 ∷ [])
    × (map (λ n. unborn (power_up_call n) 391 66) (0 ∷ 1 ∷ 127 ∷ 128 ∷ []) ≡ 3 ∷ 0 ∷ 0 ∷ 3 ∷ [])
unfolding unborn open_rules
bounds_of_lengths = (refl, refl, refl)

-- "Lowest number first": 1 before 2, 3 and 4; 2 before 3 and 4; 4 before 5, 6 and 7. Power-up looks at no state
lowest_first : (map (λ c. unborn c 388 65) (power_up_call 0 ∷ frame_call 0x800 [] ∷ event_call 10 [] ∷ []) ≡ 1 ∷ 1 ∷ 1 ∷ [])
    × (map (λ c. unborn c 391 65) (power_up_call 0 ∷ frame_call 0x800 [] ∷ event_call 10 [] ∷ []) ≡ 2 ∷ 2 ∷ 2 ∷ [])
    × (map (λ c. unborn c 391 66) (frame_call 0x800 [] ∷ frame_call 0 (replicate 9 0) ∷ event_call 10 [] ∷ event_call 2 [] ∷ power_up_call 128 ∷ [])
    ≡ 4 ∷ 4 ∷ 4 ∷ 4 ∷ 3 ∷ [])
unfolding unborn open_rules
lowest_first = (refl, refl, refl)

-- "frame identifier over 7FFh or length over 8", each alone and both
bounds_of_frames : map awake (frame_call 0x7FF (replicate 8 0) ∷ frame_call 0x800 (replicate 8 0) ∷ frame_call 0x7FF (replicate 9 0)
    ∷ frame_call 0x800 (replicate 9 0) ∷ []) ≡ 0 ∷ 5 ∷ 5 ∷ 5 ∷ []
unfolding awake state dictionary open_edges
bounds_of_frames = refl

-- "event number unknown, wrong argument size" before "event out of place": events 2 and 8 are out of place in Not ready
bounds_of_events : (map (λ k. awake (event_call k [])) (0 ∷ 1 ∷ 2 ∷ 10 ∷ []) ≡ 6 ∷ 0 ∷ 7 ∷ 6 ∷ [])
    × (map (λ k. awake (event_call k (0 ∷ []))) (2 ∷ 8 ∷ []) ≡ 6 ∷ 6 ∷ [])
unfolding awake state dictionary open_edges
bounds_of_events = (refl, refl)

-- ---- what a call leaves

-- that refusal, with no frames and nothing changed
keeps : Refusal → Call → State → List ℕ → List ℕ → Type 0
keeps r c s d o = answer c s d o ≡ record { refusal = r; frames = 0; state = s; dictionary = d; output = o }

-- "Each returns zero frames and the state given; dictionary and output keep every byte."
refused_keeps : keeps DictionaryLength (power_up_call 5) nothing (replicate 388 0xA5) (replicate 66 0xA5)
    × keeps OutputLength (power_up_call 5) nothing (replicate 391 0xA5) (replicate 65 0xA5)
    × keeps NodeId (power_up_call 0) nothing (replicate 391 0xA5) (replicate 66 0xA5)
    × keeps NotSound (frame_call 0x605 []) nothing (replicate 391 0xA5) (replicate 66 0xA5)
    × keeps BadFrame (frame_call 0x800 []) state dictionary (replicate 66 0xA5)
    × keeps BadEvent (event_call 9 (2 ∷ [])) state dictionary (replicate 66 0xA5)
    × keeps OutOfPlace (event_call 2 []) state dictionary (replicate 66 0xA5)
unfolding keeps state dictionary open_edges
refused_keeps = (refl, refl, refl, refl, refl, refl, refl)

-- "A frame for others, or of no kind served now, is accepted with no frames and no change": 606h, 604h, 585h; an SDO request of 7 bytes; a PDO
-- in Pre-operational; NMT for node 6
DoesNothing : ℕ → List ℕ → Type 0
DoesNothing i bs = framed i bs state dictionary ≡ becomes state

served_nothing : DoesNothing 0x606 (0x40 ∷ 0x41 ∷ 0x60 ∷ 0 ∷ 0 ∷ 0 ∷ 0 ∷ 0 ∷ []) × DoesNothing 0x604 (0x40 ∷ 0x41 ∷ 0x60 ∷ 0 ∷ 0 ∷ 0 ∷ 0 ∷ 0 ∷ [])
    × DoesNothing 0x585 (0x40 ∷ 0x41 ∷ 0x60 ∷ 0 ∷ 0 ∷ 0 ∷ 0 ∷ 0 ∷ []) × DoesNothing 0x605 (0x40 ∷ 0x41 ∷ 0x60 ∷ 0 ∷ 0 ∷ 0 ∷ 0 ∷ [])
    × DoesNothing 0x205 (0x06 ∷ 0 ∷ []) × DoesNothing 0x000 (0x01 ∷ 6 ∷ [])
unfolding DoesNothing state dictionary open_edges
served_nothing = (refl, refl, refl, refl, refl, refl)

-- "Served in Pre-operational and Operational": an upload of 6061h in each NMT state
served_where : from_nothing (example1
    ++ line (request (0x40 ∷ 0x61 ∷ 0x60 ∷ 0 ∷ 0 ∷ 0 ∷ 0 ∷ 0 ∷ [])) 0 0x0250 (reply (0x4F ∷ 0x61 ∷ 0x60 ∷ 0 ∷ 0 ∷ 0 ∷ 0 ∷ 0 ∷ []) ∷ [])
    ∷ line (nmt 0x01) 0 0x0250 (four_pdos 0x50 0x02)
    ∷ line (nmt 0x01) 0 0x0250 []
    ∷ line (request (0x40 ∷ 0x61 ∷ 0x60 ∷ 0 ∷ 0 ∷ 0 ∷ 0 ∷ 0 ∷ [])) 0 0x0250 (reply (0x4F ∷ 0x61 ∷ 0x60 ∷ 0 ∷ 0 ∷ 0 ∷ 0 ∷ 0 ∷ []) ∷ [])
    ∷ line (nmt 0x02) 0 0x0050 []
    ∷ line (request (0x40 ∷ 0x61 ∷ 0x60 ∷ 0 ∷ 0 ∷ 0 ∷ 0 ∷ 0 ∷ [])) 0 0x0050 []
    ∷ []) ≡ true
unfolding open_rules open_examples
served_where = refl

-- ---- transfers

abbrev of_eight : (b0 b1 b2 b3 b4 b5 b6 b7 : ℕ) → List ℕ
of_eight b0 b1 b2 b3 b4 b5 b6 b7 = b0 ∷ b1 ∷ b2 ∷ b3 ∷ b4 ∷ b5 ∷ b6 ∷ b7 ∷ []

-- the name from its second segment on; 6040h, of which the first byte came
running_ones : List Transfer
running_ones =
    Uploading 1
    ∷ Downloading (record {
      low = 0x40;
      high = 0x60;
      subindex = 0x00;
      toggle = true;
      count = 1;
      first = 0x06;
      second = 0x00;
      third = 0x00;
      fourth = 0x00;
    }) ∷ []

-- "A frame of another length on 600h+N is not served and ends nothing": no byte, a client's abort of one, an initiate of seven; nor does a
-- request to another node. In Stopped nothing is served, and there a transfer, which no run has, stays too
ends_nothing : (map (λ t. map (λ bs. framed 0x605 bs (with_transfer t state) dictionary)
    ([] ∷ (0x80 ∷ []) ∷ (0x40 ∷ 0x08 ∷ 0x10 ∷ 0x00 ∷ 0x00 ∷ 0x00 ∷ 0x00 ∷ []) ∷ [])) running_ones
    ≡ map (λ t. replicate 3 (becomes (with_transfer t state))) running_ones)
    × (map (λ t. map (λ i. framed i (of_eight 0x80 0x08 0x10 0x00 0x00 0x00 0x00 0x00) (with_transfer t state) dictionary)
    (0x604 ∷ 0x606 ∷ 0x585 ∷ [])) running_ones
    ≡ map (λ t. replicate 3 (becomes (with_transfer t state))) running_ones)
    × (map (λ t. map (λ c. framed 0x605 (of_eight c 0x08 0x10 0x00 0x00 0x00 0x00 0x00) (with_nmt Stopped (with_transfer t state)) dictionary)
    (0x00 ∷ 0x10 ∷ 0x23 ∷ 0x40 ∷ 0x70 ∷ 0x80 ∷ 0xA0 ∷ [])) running_ones
    ≡ map (λ t. replicate 7 (becomes (with_nmt Stopped (with_transfer t state)))) running_ones)
unfolding running_ones state dictionary open_edges
ends_nothing = (refl, refl, refl)

-- the name from call to call: between its segments stand a request of seven bytes, refused calls, a tick, 01h, an event, a SYNC and 80h
name_read : from_nothing (example1
    ++ line (request (of_eight 0x40 0x08 0x10 0x00 0x00 0x00 0x00 0x00)) 0 0x0250 (reply (of_eight 0x41 0x08 0x10 0x00 0x13 0x00 0x00 0x00) ∷ [])
    ∷ line (request (0x80 ∷ 0x08 ∷ 0x10 ∷ 0x00 ∷ 0x00 ∷ 0x00 ∷ 0x00 ∷ [])) 0 0x0250 []
    ∷ line (frame_call 0x605 (replicate 9 0x80)) 5 0x0250 []
    ∷ line (request (of_eight 0x60 0x00 0x00 0x00 0x00 0x00 0x00 0x00)) 0 0x0250 (reply (of_eight 0x00 0x43 0x65 0x6E 0x64 0x75 0x72 0x61) ∷ [])
    ∷ line (event_call 2 []) 7 0x0250 []
    ∷ line (event_call 7 []) 0 0x0250 []
    ∷ line (nmt 0x01) 0 0x0250 (four_pdos 0x50 0x02)
    ∷ line (request (of_eight 0x70 0x00 0x00 0x00 0x00 0x00 0x00 0x00)) 0 0x0250 (reply (of_eight 0x10 0x6B 0x20 0x73 0x65 0x72 0x76 0x6F) ∷ [])
    ∷ line (event_call 9 (0 ∷ [])) 0 0x0240 (four_pdos 0x40 0x02)
    ∷ line (frame_call 0x080 []) 0 0x0240 []
    ∷ line (nmt 0x80) 0 0x0240 []
    ∷ line (request (of_eight 0x60 0x00 0x00 0x00 0x00 0x00 0x00 0x00)) 0 0x0240 (reply (of_eight 0x05 0x20 0x6E 0x6F 0x64 0x65 0x00 0x00) ∷ [])
    ∷ line (request (of_eight 0x70 0x00 0x00 0x00 0x00 0x00 0x00 0x00)) 0 0x0240 (reply (of_eight 0x80 0x00 0x00 0x00 0x01 0x00 0x04 0x05) ∷ [])
    ∷ []) ≡ true
unfolding open_rules open_examples
name_read = refl

-- a last segment does what an expedited write does, behind its reply: 6040h 07h in Operational, and its transmit PDOs; a fault reset with its
-- emergency, six frames in all. A PDO between the segments acts at once
written_by_segments : from_nothing (example7
    ++ line (request (of_eight 0x21 0x40 0x60 0x00 0x02 0x00 0x00 0x00)) 0 0x0231 (reply (of_eight 0x60 0x40 0x60 0x00 0x00 0x00 0x00 0x00) ∷ [])
    ∷ line (request (of_eight 0x0C 0x07 0x00 0x00 0x00 0x00 0x00 0x00)) 0 0x0231 (reply (of_eight 0x20 0x00 0x00 0x00 0x00 0x00 0x00 0x00) ∷ [])
    ∷ line (frame_call 0x205 (0x00 ∷ 0x00 ∷ [])) 0 0x0250 (four_pdos 0x50 0x02)
    ∷ line (frame_call 0x205 (0x06 ∷ 0x00 ∷ [])) 0 0x0231 (four_pdos 0x31 0x02)
    ∷ line (request (of_eight 0x1D 0x00 0x00 0x00 0x00 0x00 0x00 0x00)) 0 0x0233
    (reply (of_eight 0x30 0x00 0x00 0x00 0x00 0x00 0x00 0x00) ∷ four_pdos 0x33 0x02)
    ∷ line (event_call 3 (0x10 ∷ 0x23 ∷ 0x00 ∷ [])) 0 0x021F
    (emergency (of_eight 0x10 0x23 0x01 0x00 0x00 0x00 0x00 0x00) ∷ four_pdos 0x1F 0x02)
    ∷ line (event_call 4 []) 0 0x0218 (four_pdos 0x18 0x02)
    ∷ line (event_call 8 []) 0 0x0218 []
    ∷ line (request (of_eight 0x20 0x40 0x60 0x00 0x00 0x00 0x00 0x00)) 0 0x0218 (reply (of_eight 0x60 0x40 0x60 0x00 0x00 0x00 0x00 0x00) ∷ [])
    ∷ line (request (of_eight 0x0B 0x80 0x00 0x00 0x00 0x00 0x00 0x00)) 0 0x0250
    (reply (of_eight 0x20 0x00 0x00 0x00 0x00 0x00 0x00 0x00) ∷ emergency (of_eight 0x00 0x00 0x00 0x00 0x00 0x00 0x00 0x00) ∷ four_pdos 0x50 0x02)
    ∷ []) ≡ true
unfolding open_rules open_examples
written_by_segments = refl

-- "leaving the NMT states that serve SDO ends a running transfer": behind 02h a segment is not served, and behind 80h none runs; nor behind 82h
-- and 81h
stopped_between : from_nothing (example1
    ++ line (request (of_eight 0x20 0x40 0x60 0x00 0x00 0x00 0x00 0x00)) 0 0x0250 (reply (of_eight 0x60 0x40 0x60 0x00 0x00 0x00 0x00 0x00) ∷ [])
    ∷ line (nmt 0x02) 0 0x0050 []
    ∷ line (request (of_eight 0x0B 0x06 0x00 0x00 0x00 0x00 0x00 0x00)) 0 0x0050 []
    ∷ line (nmt 0x80) 0 0x0250 []
    ∷ line (request (of_eight 0x0B 0x06 0x00 0x00 0x00 0x00 0x00 0x00)) 0 0x0250 (reply (of_eight 0x80 0x00 0x00 0x00 0x01 0x00 0x04 0x05) ∷ [])
    ∷ line (request (of_eight 0x40 0x08 0x10 0x00 0x00 0x00 0x00 0x00)) 0 0x0250 (reply (of_eight 0x41 0x08 0x10 0x00 0x13 0x00 0x00 0x00) ∷ [])
    ∷ line (nmt 0x82) 0 0x0250 (frame 0x705 (0x00 ∷ []) ∷ [])
    ∷ line (request (of_eight 0x60 0x00 0x00 0x00 0x00 0x00 0x00 0x00)) 0 0x0250 (reply (of_eight 0x80 0x00 0x00 0x00 0x01 0x00 0x04 0x05) ∷ [])
    ∷ line (request (of_eight 0x40 0x08 0x10 0x00 0x00 0x00 0x00 0x00)) 0 0x0250 (reply (of_eight 0x41 0x08 0x10 0x00 0x13 0x00 0x00 0x00) ∷ [])
    ∷ line (nmt 0x81) 0 0x0200 (frame 0x705 (0x00 ∷ []) ∷ [])
    ∷ line (request (of_eight 0x60 0x00 0x00 0x00 0x00 0x00 0x00 0x00)) 0 0x0200 (reply (of_eight 0x80 0x00 0x00 0x00 0x01 0x00 0x04 0x05) ∷ [])
    ∷ []) ≡ true
unfolding open_rules open_examples
stopped_between = refl

-- ---- the output

-- "identifier (2, little-endian), length, eight data bytes": the largest frame there is, and the smallest
frame_bytes : (encoded (frame 0x7FF (1 ∷ 2 ∷ 3 ∷ 4 ∷ 5 ∷ 6 ∷ 7 ∷ 8 ∷ [])) ≡ 0xFF ∷ 0x07 ∷ 8 ∷ 1 ∷ 2 ∷ 3 ∷ 4 ∷ 5 ∷ 6 ∷ 7 ∷ 8 ∷ [])
    × (encoded (frame 0x185 []) ≡ 0x85 ∷ 0x01 ∷ 0 ∷ 0 ∷ 0 ∷ 0 ∷ 0 ∷ 0 ∷ 0 ∷ 0 ∷ 0 ∷ [])
    × (sent_into (replicate 3 0xA5) [] ≡ 0xA5 ∷ 0xA5 ∷ 0xA5 ∷ [])
unfolding open_rules
frame_bytes = (refl, refl, refl)

-- a script is held to the refusal, 6041h, the number of frames, and every byte of them
lines_hold : map (λ l. from_nothing (l ∷ []))
    (line (power_up_call 5) 0 0x0200 (frame 0x705 (0 ∷ []) ∷ []) ∷ line (power_up_call 5) 1 0x0200 (frame 0x705 (0 ∷ []) ∷ [])
    ∷ line (power_up_call 5) 0 0x0201 (frame 0x705 (0 ∷ []) ∷ []) ∷ line (power_up_call 5) 0 0x0200 []
    ∷ line (power_up_call 5) 0 0x0200 (frame 0x705 (1 ∷ []) ∷ []) ∷ line (power_up_call 5) 0 0x0200 (frame 0x704 (0 ∷ []) ∷ []) ∷ [])
    ≡ true ∷ replicate 5 false
unfolding open_rules
lines_hold = refl

-- ---- transmit PDOs

-- "6061h follows 6060h at once": mode 1 by SDO in Operational, and the one PDO that maps 6061h goes behind the reply; type 254 is as 255
mode_shown_at_once : from_nothing (example1
    ++ write1 0x01 0x18 0x02 0xFE 0x0250 []
    ∷ line (nmt 0x01) 0 0x0250 (four_pdos 0x50 0x02)
    ∷ write1 0x60 0x60 0x00 0x01 0x0250 (frame 0x285 (0x50 ∷ 0x02 ∷ 0x01 ∷ []) ∷ [])
    ∷ write1 0x60 0x60 0x00 0x01 0x0250 []
    ∷ []) ≡ true
unfolding open_rules open_examples
mode_shown_at_once = refl

-- "Type 0: if any call, this one included, changed its ready frame since last sent": there and back is due; a SYNC that applies a held 06h
-- sends the new word, of type 0 and of type 255 in one rising order; "A PDO works only .. valid": transmit 2 is not, and sends nothing
due_by_any_call : from_nothing (example1
    ++ line (request (0x23 ∷ 0x01 ∷ 0x18 ∷ 0x01 ∷ 0x85 ∷ 0x02 ∷ 0x00 ∷ 0xC0 ∷ [])) 0 0x0250
    (reply (0x60 ∷ 0x01 ∷ 0x18 ∷ 0x01 ∷ 0 ∷ 0 ∷ 0 ∷ 0 ∷ []) ∷ [])
    ∷ write1 0x02 0x18 0x02 0x00 0x0250 []
    ∷ write1 0x03 0x18 0x02 0x01 0x0250 []
    ∷ write1 0x00 0x14 0x02 0x00 0x0250 []
    ∷ line (nmt 0x01) 0 0x0250 (frame 0x185 (0x50 ∷ 0x02 ∷ []) ∷ [])
    ∷ line (frame_call 0x080 []) 0 0x0250 (frame 0x385 (0x50 ∷ 0x02 ∷ 0 ∷ 0 ∷ 0 ∷ 0 ∷ []) ∷ frame 0x485 (0x50 ∷ 0x02 ∷ 0 ∷ 0 ∷ 0 ∷ 0 ∷ []) ∷ [])
    ∷ line (frame_call 0x080 []) 0 0x0250 (frame 0x485 (0x50 ∷ 0x02 ∷ 0 ∷ 0 ∷ 0 ∷ 0 ∷ []) ∷ [])
    ∷ line (event_call 9 (0 ∷ [])) 0 0x0240 (frame 0x185 (0x40 ∷ 0x02 ∷ []) ∷ [])
    ∷ line (event_call 9 (1 ∷ [])) 0 0x0250 (frame 0x185 (0x50 ∷ 0x02 ∷ []) ∷ [])
    ∷ line (frame_call 0x080 []) 0 0x0250 (frame 0x385 (0x50 ∷ 0x02 ∷ 0 ∷ 0 ∷ 0 ∷ 0 ∷ []) ∷ frame 0x485 (0x50 ∷ 0x02 ∷ 0 ∷ 0 ∷ 0 ∷ 0 ∷ []) ∷ [])
    ∷ line (frame_call 0x205 (0x06 ∷ 0 ∷ [])) 0 0x0250 []
    ∷ line (frame_call 0x080 []) 0 0x0231 (frame 0x185 (0x31 ∷ 0x02 ∷ []) ∷ frame 0x385 (0x31 ∷ 0x02 ∷ 0 ∷ 0 ∷ 0 ∷ 0 ∷ [])
    ∷ frame 0x485 (0x31 ∷ 0x02 ∷ 0 ∷ 0 ∷ 0 ∷ 0 ∷ []) ∷ [])
    ∷ []) ≡ true
unfolding open_rules open_examples
due_by_any_call = refl

-- "Changed means call end against call start": one SYNC applies a held 06h and then a held 00h, from disabled to Ready and back. No transmit
-- PDO of type 255 is sent, and the one of type 0 is not due at the next SYNC either
back_within_one_sync : from_nothing (example1
    ++ write1 0x00 0x14 0x02 0x00 0x0250 []
    ∷ write1 0x01 0x14 0x02 0x00 0x0250 []
    ∷ write1 0x00 0x18 0x02 0x00 0x0250 []
    ∷ line (nmt 0x01) 0 0x0250
    (frame 0x285 (0x50 ∷ 0x02 ∷ 0 ∷ []) ∷ frame 0x385 (0x50 ∷ 0x02 ∷ 0 ∷ 0 ∷ 0 ∷ 0 ∷ []) ∷ frame 0x485 (0x50 ∷ 0x02 ∷ 0 ∷ 0 ∷ 0 ∷ 0 ∷ []) ∷ [])
    ∷ line (frame_call 0x080 []) 0 0x0250 (frame 0x185 (0x50 ∷ 0x02 ∷ []) ∷ [])
    ∷ line (frame_call 0x205 (0x06 ∷ 0x00 ∷ [])) 0 0x0250 []
    ∷ line (frame_call 0x305 (0x00 ∷ 0x00 ∷ 0x00 ∷ [])) 0 0x0250 []
    ∷ line (frame_call 0x080 []) 0 0x0250 []
    ∷ line (frame_call 0x080 []) 0 0x0250 []
    ∷ []) ≡ true
unfolding open_rules open_examples
back_within_one_sync = refl

-- ---- what counts as the same

abbrev move : ℕ → ℕ → Move
move p n = record { place = p; size = n }

abbrev plan : ℕ → List Move → Plan
plan n ms = record { count = n; moves = ms }

abbrev data8 : ℕ → List ℕ → PdoData
data8 n bs = record { length = n; bytes = bs }

-- a move by place and size, a plan by its count and every slot, a frame by its length and every byte, spare ones too
same_told : (map (same_move (move 334 2)) (move 334 2 ∷ move 335 2 ∷ move 334 1 ∷ []) ≡ true ∷ false ∷ false ∷ [])
    × (map (same_plan (plan 1 (move 334 2 ∷ move 0 0 ∷ [])))
    (plan 1 (move 334 2 ∷ move 0 0 ∷ []) ∷ plan 2 (move 334 2 ∷ move 0 0 ∷ []) ∷ plan 1 (move 334 2 ∷ move 0 1 ∷ []) ∷ plan 1 (move 334 2 ∷ []) ∷ [])
    ≡ true ∷ false ∷ false ∷ false ∷ [])
    × (map (same_data (data8 2 (0x50 ∷ 2 ∷ 0 ∷ [])))
    (data8 2 (0x50 ∷ 2 ∷ 0 ∷ []) ∷ data8 3 (0x50 ∷ 2 ∷ 0 ∷ []) ∷ data8 2 (0x50 ∷ 3 ∷ 0 ∷ []) ∷ data8 2 (0x50 ∷ 2 ∷ 1 ∷ [])
    ∷ data8 2 (0x50 ∷ 2 ∷ []) ∷ [])
    ≡ true ∷ false ∷ false ∷ false ∷ false ∷ [])
same_told = (refl, refl, refl)
