-- Document 01, 'Proved examples, N=5', as scripts: every call with its refusal, 6041h and frames.
-- Assumes nothing.
use Rattle.std.specs.Prelude.{ℕ, List, [], ◌∷◌, ◌++◌}
use Rattle.rules_services.specs.Effects.{Frame, frame}
use Rattle.rules.specs.Calls.{Call, power_up_call, frame_call, event_call}
use Rattle.rules.specs.Scripts.{Line, line}

-- ---- the bus as node 5 sees it

abbrev pub request : List ℕ → Call
request bs = frame_call 0x605 bs

abbrev pub reply : List ℕ → Frame
reply bs = frame 0x585 bs

abbrev pub emergency : List ℕ → Frame
emergency bs = frame 0x085 bs

abbrev pub nmt : ℕ → Call
nmt command = frame_call 0x000 (command ∷ 0x05 ∷ [])

-- a download of 1, 2 or 4 bytes that is accepted: the word 6041h after it, and what is sent behind the reply
abbrev pub write1 : ℕ → ℕ → ℕ → ℕ → ℕ → List Frame → Line
write1 low high sub b0 word fs =
    line (request (0x2F ∷ low ∷ high ∷ sub ∷ b0 ∷ 0x00 ∷ 0x00 ∷ 0x00 ∷ [])) 0 word
    (reply (0x60 ∷ low ∷ high ∷ sub ∷ 0x00 ∷ 0x00 ∷ 0x00 ∷ 0x00 ∷ []) ∷ fs)

abbrev pub write2 : ℕ → ℕ → ℕ → ℕ → ℕ → ℕ → List Frame → Line
write2 low high sub b0 b1 word fs =
    line (request (0x2B ∷ low ∷ high ∷ sub ∷ b0 ∷ b1 ∷ 0x00 ∷ 0x00 ∷ [])) 0 word
    (reply (0x60 ∷ low ∷ high ∷ sub ∷ 0x00 ∷ 0x00 ∷ 0x00 ∷ 0x00 ∷ []) ∷ fs)

abbrev pub write4 : ℕ → ℕ → ℕ → ℕ → ℕ → ℕ → ℕ → ℕ → List Frame → Line
write4 low high sub b0 b1 b2 b3 word fs =
    line (request (0x23 ∷ low ∷ high ∷ sub ∷ b0 ∷ b1 ∷ b2 ∷ b3 ∷ [])) 0 word
    (reply (0x60 ∷ low ∷ high ∷ sub ∷ 0x00 ∷ 0x00 ∷ 0x00 ∷ 0x00 ∷ []) ∷ fs)

-- 6040h, with nothing sent behind the reply
abbrev pub control : ℕ → ℕ → Line
control w word = write2 0x40 0x60 0x00 w 0x00 word []

-- 607Ah, low bytes b0 and b1
abbrev pub aim : ℕ → ℕ → ℕ → Line
aim b0 b1 word = write4 0x7A 0x60 0x00 b0 b1 0x00 0x00 word []

-- an upload: the command and the four data bytes of its reply
abbrev pub look : ℕ → ℕ → ℕ → List ℕ → ℕ → Line
look low high answer content word =
    line (request (0x40 ∷ low ∷ high ∷ 0x00 ∷ 0x00 ∷ 0x00 ∷ 0x00 ∷ 0x00 ∷ [])) 0 word
    (reply (answer ∷ low ∷ high ∷ 0x00 ∷ content) ∷ [])

-- ---- 1. Power-up: 705h 00; 6041h 0200h; started 0240h; voltage on 0250h (002).
unfoldable pub example1 : List Line
example1 =
    line (power_up_call 5) 0 0x0200 (frame 0x705 (0x00 ∷ []) ∷ [])
    ∷ line (event_call 1 []) 0 0x0240 []
    ∷ line (event_call 9 (0x01 ∷ [])) 0 0x0250 []
    ∷ []

-- ---- 2. Then 2B 40 60 00 06 00 00 00 (004): 60 40 60 00 00 00 00 00, 0231h; 07h 0233h; 0Fh 0237h.
unfoldable pub example2 : List Line
unfolding example1
example2 =
    example1
    ++ line (request (0x2B ∷ 0x40 ∷ 0x60 ∷ 0x00 ∷ 0x06 ∷ 0x00 ∷ 0x00 ∷ 0x00 ∷ [])) 0 0x0231
    (reply (0x60 ∷ 0x40 ∷ 0x60 ∷ 0x00 ∷ 0x00 ∷ 0x00 ∷ 0x00 ∷ 0x00 ∷ []) ∷ [])
    ∷ control 0x07 0x0233
    ∷ control 0x0F 0x0237
    ∷ []

-- ---- 3. From 0231h, 0Fh: 0237h.
unfoldable pub example3 : List Line
unfolding example1
example3 = example1 ++ control 0x06 0x0231 ∷ control 0x0F 0x0237 ∷ []

-- ---- 4. Upload 6041h there: 4B 41 60 00 37 02 00 00.
unfoldable pub example4 : List Line
unfolding example3
example4 = example3 ++ look 0x41 0x60 0x4B (0x37 ∷ 0x02 ∷ 0x00 ∷ 0x00 ∷ []) 0x0237 ∷ []

-- ---- 5. 2F 60 60 00 07 00 00 00: 80 60 60 00 30 00 09 06.
unfoldable pub example5 : List Line
unfolding example1
example5 =
    example1
    ++ line (request (0x2F ∷ 0x60 ∷ 0x60 ∷ 0x00 ∷ 0x07 ∷ 0x00 ∷ 0x00 ∷ 0x00 ∷ [])) 0 0x0250
    (reply (0x80 ∷ 0x60 ∷ 0x60 ∷ 0x00 ∷ 0x30 ∷ 0x00 ∷ 0x09 ∷ 0x06 ∷ []) ∷ [])
    ∷ []

-- ---- 6. Fault 2310h, 02h from 0237h: 10 23 03, 021Fh; event 4 0218h; 80h with cause 0218h; cause gone, 00h, 80h: 0250h.
unfoldable pub example6 : List Line
unfolding example3
example6 =
    example3
    ++ line (event_call 3 (0x10 ∷ 0x23 ∷ 0x02 ∷ [])) 0 0x021F
    (emergency (0x10 ∷ 0x23 ∷ 0x03 ∷ 0x00 ∷ 0x00 ∷ 0x00 ∷ 0x00 ∷ 0x00 ∷ []) ∷ [])
    ∷ line (event_call 4 []) 0 0x0218 []
    ∷ control 0x80 0x0218
    ∷ line (event_call 8 []) 0 0x0218 []
    ∷ control 0x00 0x0218
    ∷ write2 0x40 0x60 0x00 0x80 0x00 0x0250
    (emergency (0x00 ∷ 0x00 ∷ 0x00 ∷ 0x00 ∷ 0x00 ∷ 0x00 ∷ 0x00 ∷ 0x00 ∷ []) ∷ [])
    ∷ []

-- ---- 7. 405h, 5 bytes, Operational: 085h 10 82 and six zeros; 607Ah stays. 6 bytes: used.

-- the four transmit PDOs of the default maps, with one word for 6041h and zeros behind it
abbrev pub four_pdos : ℕ → ℕ → List Frame
four_pdos b0 b1 =
    frame 0x185 (b0 ∷ b1 ∷ [])
    ∷ frame 0x285 (b0 ∷ b1 ∷ 0x00 ∷ [])
    ∷ frame 0x385 (b0 ∷ b1 ∷ 0x00 ∷ 0x00 ∷ 0x00 ∷ 0x00 ∷ [])
    ∷ frame 0x485 (b0 ∷ b1 ∷ 0x00 ∷ 0x00 ∷ 0x00 ∷ 0x00 ∷ [])
    ∷ []

unfoldable pub example7 : List Line
unfolding example1
example7 =
    example1
    ++ line (nmt 0x01) 0 0x0250 (four_pdos 0x50 0x02)
    ∷ line (frame_call 0x405 (0x06 ∷ 0x00 ∷ 0x39 ∷ 0x05 ∷ 0x00 ∷ [])) 0 0x0250
    (emergency (0x10 ∷ 0x82 ∷ 0x00 ∷ 0x00 ∷ 0x00 ∷ 0x00 ∷ 0x00 ∷ 0x00 ∷ []) ∷ [])
    ∷ look 0x7A 0x60 0x43 (0x00 ∷ 0x00 ∷ 0x00 ∷ 0x00 ∷ []) 0x0250
    ∷ line (frame_call 0x405 (0x06 ∷ 0x00 ∷ 0x39 ∷ 0x05 ∷ 0x00 ∷ 0x00 ∷ [])) 0 0x0231 (four_pdos 0x31 0x02)
    ∷ look 0x7A 0x60 0x43 (0x39 ∷ 0x05 ∷ 0x00 ∷ 0x00 ∷ []) 0x0231
    ∷ []

-- ---- 8. Transmit map 6064, 606C: accepted; with 6061, 9 bytes: 42 00 04 06.
unfoldable pub example8 : List Line
unfolding example1
example8 =
    example1
    ++ write4 0x00 0x18 0x01 0x85 0x01 0x00 0xC0 0x0250 []
    ∷ write1 0x00 0x1A 0x00 0x00 0x0250 []
    ∷ write4 0x00 0x1A 0x01 0x20 0x00 0x64 0x60 0x0250 []
    ∷ write4 0x00 0x1A 0x02 0x20 0x00 0x6C 0x60 0x0250 []
    ∷ write1 0x00 0x1A 0x00 0x02 0x0250 []
    ∷ write1 0x00 0x1A 0x00 0x00 0x0250 []
    ∷ write4 0x00 0x1A 0x03 0x08 0x00 0x61 0x60 0x0250 []
    ∷ line (request (0x2F ∷ 0x00 ∷ 0x1A ∷ 0x00 ∷ 0x03 ∷ 0x00 ∷ 0x00 ∷ 0x00 ∷ [])) 0 0x0250
    (reply (0x80 ∷ 0x00 ∷ 0x1A ∷ 0x00 ∷ 0x42 ∷ 0x00 ∷ 0x04 ∷ 0x06 ∷ []) ∷ [])
    ∷ []

-- ---- 9. Mode 1, 607Ah 1000, 0Fh then 1Fh: 1237h. 0Fh, 607Ah 2000, 1Fh, 0Fh: still 1237h; event 6: 0237h.
unfoldable pub example9 : List Line
unfolding example3
example9 =
    example3
    ++ write1 0x60 0x60 0x00 0x01 0x0237 []
    ∷ aim 0xE8 0x03 0x0237
    ∷ control 0x0F 0x0237
    ∷ control 0x1F 0x1237
    ∷ control 0x0F 0x0237
    ∷ aim 0xD0 0x07 0x0237
    ∷ control 0x1F 0x1237
    ∷ control 0x0F 0x1237
    ∷ line (event_call 6 []) 0 0x0237 []
    ∷ []

-- ---- 10. Max 1500: target 2000 gives 0A37h; 1500 is taken.
unfoldable pub example10 : List Line
unfolding example3
example10 =
    example3
    ++ write1 0x60 0x60 0x00 0x01 0x0237 []
    ∷ write4 0x7D 0x60 0x02 0xDC 0x05 0x00 0x00 0x0237 []
    ∷ aim 0xD0 0x07 0x0237
    ∷ control 0x1F 0x0A37
    ∷ aim 0xDC 0x05 0x0A37
    ∷ control 0x0F 0x0A37
    ∷ control 0x1F 0x1237
    ∷ []

-- ---- all ten
unfoldable pub examples : List (List Line)
examples =
    example1 ∷ example2 ∷ example3 ∷ example4 ∷ example5 ∷ example6 ∷ example7 ∷ example8 ∷ example9 ∷ example10 ∷ []

unfoldable pub open_examples : Unit {0}
unfolding example1 example2 example3 example4 example5 example6 example7 example8 example9 example10 examples
open_examples = tt
