-- Document 01, 'PDO traffic', as numbers: plans as moves of place and size, and ready frames byte by byte.
-- The places follow from the sizes of the paper's rows (Printed.antt): 1001h at 4, 603Fh at 332, 6040h at 334, .. , 60FFh at 381.
-- Assumes nothing.
use Prim.Native.Nat.{ℕ, suc}
use mathlib.Core.Path.{◌≡◌, refl}
use mathlib.Core.List.{List, [], ◌∷◌, ◌++◌, map}
use lib.ListN.{get_or}
use Rattle.rules_dictionary.specs.declared.Plan.{Plan}
use Rattle.rules_dictionary.specs.declared.PdoData.{PdoData}
use Rattle.rules_dictionary.specs.Table.{error_register, error_code, status_word, mode_display, position, velocity, identifier, map_count, map_entry}
use Rattle.rules_dictionary.specs.Values.{stored, write, Write}
use Rattle.rules_dictionary.specs.Plans.{plans_of, plan_for, ready_of, pdo_data}
use Rattle.rules_dictionary.proofs.EdgesOfVerdicts.{times}
use Rattle.rules_dictionary.proofs.Edges.{fresh, open_edges}

-- a plan as its count and its moves, a frame as its length and its bytes
abbrev as_moves : Plan → ℕ × List (ℕ × ℕ)
as_moves plan = (plan.count, map (λ m. (m.place, m.size)) plan.moves)

abbrev as_frame : PdoData → ℕ × List ℕ
as_frame frame = (frame.length, frame.bytes)

abbrev plans : List ℕ → List (ℕ × List (ℕ × ℕ))
plans d = map as_moves (plans_of d)

abbrev frames : List ℕ → List (ℕ × List ℕ)
frames d = map as_frame (ready_of d)

-- "spare slots and bytes .. zero"
abbrev spare : ℕ → List (ℕ × ℕ)
spare n = times n (0, 0)

-- "eight plans of up to eight moves (place and size in the dictionary)": those of the default maps
default_plans : plans fresh
    ≡ (1, (334, 2) ∷ spare 7) ∷ (2, (334, 2) ∷ (338, 1) ∷ spare 6) ∷ (2, (334, 2) ∷ (358, 4) ∷ spare 6) ∷ (2, (334, 2) ∷ (383, 4) ∷ spare 6)
    ∷ (1, (336, 2) ∷ spare 7) ∷ (2, (336, 2) ∷ (339, 1) ∷ spare 6) ∷ (2, (336, 2) ∷ (340, 4) ∷ spare 6) ∷ (2, (336, 2) ∷ (350, 4) ∷ spare 6)
    ∷ []
unfolding open_edges
default_plans = refl

-- a dictionary with something in every object that a transmit PDO may map
running : List Write → List ℕ
running ws =
    stored
    (write error_register 0x81 ∷ write error_code 0x2310 ∷ write status_word 0x1237 ∷ write mode_display 3 ∷ write position 0x11223344
    ∷ write velocity 0x55667788 ∷ ws)
    fresh

-- "four ready frames, the mapped bytes joined in order; spare .. bytes .. zero"
default_frames : frames (running [])
    ≡ (2, 0x37 ∷ 0x12 ∷ times 6 0) ∷ (3, 0x37 ∷ 0x12 ∷ 0x03 ∷ times 5 0) ∷ (6, 0x37 ∷ 0x12 ∷ 0x44 ∷ 0x33 ∷ 0x22 ∷ 0x11 ∷ times 2 0)
    ∷ (6, 0x37 ∷ 0x12 ∷ 0x88 ∷ 0x77 ∷ 0x66 ∷ 0x55 ∷ times 2 0) ∷ []
unfolding running open_edges
default_frames = refl

-- the plan of a PDO, and of a transmit PDO its frame, after writes
abbrev plan_after : List Write → ℕ → ℕ × List (ℕ × ℕ)
plan_after ws p = as_moves (get_or (plans_of (running ws)) p (plan_for []))

abbrev frame_after : List Write → ℕ → ℕ × List ℕ
frame_after ws t = as_frame (get_or (ready_of (running ws)) t (pdo_data []))

-- these mapping words, and that count
mapping : ℕ → ℕ → List ℕ → List Write
mapping p n ws = write (map_count p) n ∷ go 1 ws
  where
    go : ℕ → List ℕ → List Write
    go k [] = []
    go k (w ∷ rest) = write (map_entry p k) w ∷ go (suc k) rest

-- "up to eight moves": 1001h and 6061h four times over in transmit 1
full : List Write
full = mapping 4 8 (0x10010008 ∷ 0x60610008 ∷ 0x10010008 ∷ 0x60610008 ∷ 0x10010008 ∷ 0x60610008 ∷ 0x10010008 ∷ 0x60610008 ∷ [])

full_plan : plan_after full 4 ≡ (8, (4, 1) ∷ (339, 1) ∷ (4, 1) ∷ (339, 1) ∷ (4, 1) ∷ (339, 1) ∷ (4, 1) ∷ (339, 1) ∷ [])
unfolding full mapping running open_edges
full_plan = refl

full_frame : frame_after full 0 ≡ (8, 0x81 ∷ 0x03 ∷ 0x81 ∷ 0x03 ∷ 0x81 ∷ 0x03 ∷ 0x81 ∷ 0x03 ∷ [])
unfolding full mapping running open_edges
full_frame = refl

-- example 8, "Transmit map 6064, 606C: accepted": eight bytes in transmit 4; the third word stands behind :0 and is not mapped
feedback : List Write
feedback = mapping 7 2 (0x60640020 ∷ 0x606C0020 ∷ 0x60610008 ∷ [])

feedback_plan : plan_after feedback 7 ≡ (2, (340, 4) ∷ (350, 4) ∷ spare 6)
unfolding feedback mapping running open_edges
feedback_plan = refl

feedback_frame : frame_after feedback 3 ≡ (8, 0x44 ∷ 0x33 ∷ 0x22 ∷ 0x11 ∷ 0x88 ∷ 0x77 ∷ 0x66 ∷ 0x55 ∷ [])
unfolding feedback mapping running open_edges
feedback_frame = refl

-- "joined in order": the order of the mapping, not of the dictionary
backward : List Write
backward = mapping 5 3 (0x606C0020 ∷ 0x60410010 ∷ 0x603F0010 ∷ [])

backward_plan : plan_after backward 5 ≡ (3, (350, 4) ∷ (336, 2) ∷ (332, 2) ∷ spare 5)
unfolding backward mapping running open_edges
backward_plan = refl

backward_frame : frame_after backward 1 ≡ (8, 0x88 ∷ 0x77 ∷ 0x66 ∷ 0x55 ∷ 0x37 ∷ 0x12 ∷ 0x10 ∷ 0x23 ∷ [])
unfolding backward mapping running open_edges
backward_frame = refl

-- what the default maps of the receive PDOs leave out: 6081h, 6083h, 6084h
ramps_plan : plan_after (mapping 0 2 (0x60840020 ∷ 0x60830020 ∷ []) ++ mapping 3 2 (0x60600008 ∷ 0x60810020 ∷ [])) 0
    ∷ plan_after (mapping 0 2 (0x60840020 ∷ 0x60830020 ∷ []) ++ mapping 3 2 (0x60600008 ∷ 0x60810020 ∷ [])) 3 ∷ []
    ≡ (2, (379, 4) ∷ (375, 4) ∷ spare 6) ∷ (2, (338, 1) ∷ (371, 4) ∷ spare 6) ∷ []
unfolding mapping running open_edges
ramps_plan = refl

-- a word that names no row has no move, and those around it keep theirs: no object, no subindex, the device name
words_without_row : plan_after (mapping 4 5 (0x60640020 ∷ 0x10020008 ∷ 0x10180220 ∷ 0x10080098 ∷ 0x60410010 ∷ [])) 4
    ≡ (2, (340, 4) ∷ (336, 2) ∷ spare 6)
unfolding mapping running open_edges
words_without_row = refl

-- nothing mapped: no move, no byte
empty_plan : plan_after (write (map_count 6) 0 ∷ []) 6 ≡ (0, spare 8)
unfolding running open_edges
empty_plan = refl

empty_frame : frame_after (write (map_count 6) 0 ∷ []) 2 ≡ (0, times 8 0)
unfolding running open_edges
empty_frame = refl

-- an invalid PDO has its plan and its frame all the same
invalid_plan : plan_after (write (identifier 5) 0xC0000285 ∷ []) 5 ≡ (2, (336, 2) ∷ (339, 1) ∷ spare 6)
unfolding running open_edges
invalid_plan = refl

invalid_frame : frame_after (write (identifier 5) 0xC0000285 ∷ []) 1 ≡ (3, 0x37 ∷ 0x12 ∷ 0x03 ∷ times 5 0)
unfolding running open_edges
invalid_frame = refl
