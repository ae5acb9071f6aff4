-- Ticket 2 from call to call, in literal numbers, by computation: each call with its refusal, 6041h, its frames, and the ticks counted at its end.
-- Assumes nothing.
use Prim.Native.Nat.{ℕ}
use mathlib.Core.Path.{◌≡◌, refl}
use mathlib.Core.Bool.{Bool, true, false, ◌&&◌}
use mathlib.Core.List.{List, [], ◌∷◌, map}
use lib.Dec.{eqb}
use lib.ListN.{replicate}
use Rattle.state.specs.declared.NmtState.{NmtState}
use Rattle.state.specs.declared.NmtState.TheVariants.{PreOperational, Operational, Stopped}
use Rattle.state.specs.declared.State.{State}
use Rattle.state.specs.declared.Refusal.{Refusal}
use Rattle.state.specs.declared.Refusal.TheVariants.{OutputLength, BadEvent, OutOfPlace}
use Rattle.rules_dictionary.specs.declared.Mode.TheVariants.{ProfilePosition}
use Rattle.drive.specs.declared.DriveState.TheVariants.{OperationEnabled}
use Rattle.drive.specs.declared.SetPoint.{SetPoint}
use Rattle.drive.specs.declared.Store.{Store}
use Rattle.drive.specs.declared.Store.TheVariants.{Rested, Moving, Queued}
use Rattle.drive.specs.declared.Drive.{Drive}
use Rattle.rules_dictionary.specs.Table.{table, control_word, mode, position, position_window, window_time, target_position, heartbeat_time}
use Rattle.rules_dictionary.specs.Values.{Write, write, packed_defaults}
use Rattle.rules_services.specs.Effects.{Frame, frame, writes, becomes, with_drive, with_nmt, with_voltage}
use Rattle.rules_services.specs.Nmt.{fresh_state}
use Rattle.rules.specs.Outcome.{End, ended}
use Rattle.rules.specs.Calls.{Call, frame_call, event_call, answer}
use Rattle.rules.specs.Scripts.{Line, line, blank, matches, nothing, open_rules}
use Rattle.rules.specs.Examples.{request, nmt, write2, write4, control}

-- ---- calls in a row, each with its line and the ticks counted at its end

record Step : Type 0 where
  gives : Line
  ticks : ℕ

abbrev step : Line → ℕ → Step
step l n = record { gives = l; ticks = n }

goes : List Step → State → List ℕ → Bool
goes [] s d = true
goes (t ∷ ts) s d =
    let o = answer t.gives.call s d blank in
    elim (matches t.gives o && eqb o.state.axis.drive.stay t.ticks) [ true ↦ goes ts o.state o.dictionary | false ↦ false ]

from : End → List Step → Bool
from e ts = goes ts e.state e.dictionary

-- ---- the calls: a tick, and feedback of a position below 65,536 with that velocity; what they send is told behind 6041h

abbrev tick : ℕ → List Frame → ℕ → Step
tick word fs n = step (line (event_call 7 []) 0 word fs) n

abbrev feedback : ℕ → ℕ → ℕ → ℕ → List Frame → ℕ → Step
feedback low high speed word fs n = step (line (event_call 5 (low ∷ high ∷ 0x00 ∷ 0x00 ∷ speed ∷ 0x00 ∷ 0x00 ∷ 0x00 ∷ [])) 0 word fs) n

-- 6068h by its two bytes, and 6067h below 256
abbrev set_time : ℕ → ℕ → ℕ → ℕ → Step
set_time low high word n = step (write2 0x68 0x60 0x00 low high word []) n

abbrev set_window : ℕ → ℕ → ℕ → Step
set_window w word n = step (write4 0x67 0x60 0x00 w 0x00 0x00 0x00 word []) n

abbrev reached : ℕ → ℕ → Step
reached word n = step (line (event_call 6 []) 0 word []) n

-- the transmit PDOs of the default maps, with that word for 6041h, mode 1 and that position; the third alone where only the position is another
abbrev third : ℕ → ℕ → ℕ → ℕ → Frame
third b0 b1 low high = frame 0x385 (b0 ∷ b1 ∷ low ∷ high ∷ 0x00 ∷ 0x00 ∷ [])

abbrev all_four : ℕ → ℕ → ℕ → ℕ → List Frame
all_four b0 b1 low high =
    frame 0x185 (b0 ∷ b1 ∷ [])
    ∷ frame 0x285 (b0 ∷ b1 ∷ 0x01 ∷ [])
    ∷ third b0 b1 low high
    ∷ frame 0x485 (b0 ∷ b1 ∷ 0x00 ∷ 0x00 ∷ 0x00 ∷ 0x00 ∷ [])
    ∷ []

-- ---- node 5, enabled in mode 1 with the voltage on, 6040h 0Fh, at 1000 with a window of 10; the store, the count and other values as told

abbrev point : ℕ → SetPoint
point t = record { target = t; velocity = 0; acceleration = 1; deceleration = 1 }

start : NmtState → Store → ℕ → List Write → End
start m st n ws =
    let v : Drive = record { state = OperationEnabled; mode = ProfilePosition; store = st; taken = false; limit = false; cause = false; stay = n } in
    ended nothing (packed_defaults 5 table)
    (writes (write mode 1 ∷ write control_word 0x0F ∷ write position 1000 ∷ write position_window 10 ∷ write target_position 1000 ∷ ws)
    (becomes (with_nmt m (with_voltage true (with_drive v (fresh_state 5))))))

unfoldable open_start : Unit {0}
unfolding start goes from packed_defaults open_rules
open_start = tt

-- ---- "Our feeder glides through the window and the knife fires"

-- to 1000 with a window of 10 and a window time of 3, from 0. In at 990, two ticks, and out at 1011: nothing is shown, and "leaving the window ..
-- starts again". In at 1010 "the count is 0 when the position comes inside; the 6068h-th tick after that shows the bit, in that tick's own call
-- (with its transmit PDOs)"; further inside the count stays. Out, and back in: from 0 again
glides_through : from (start Operational (Moving (point 1000)) 0 (write window_time 3 ∷ write position 0 ∷ []))
    (tick 0x0237 [] 0
    ∷ feedback 0xDE 0x03 0 0x0237 (third 0x37 0x02 0xDE 0x03 ∷ []) 0
    ∷ tick 0x0237 [] 1
    ∷ tick 0x0237 [] 2
    ∷ feedback 0xF3 0x03 0 0x0237 (third 0x37 0x02 0xF3 0x03 ∷ []) 0
    ∷ feedback 0xF2 0x03 0 0x0237 (third 0x37 0x02 0xF2 0x03 ∷ []) 0
    ∷ tick 0x0237 [] 1
    ∷ tick 0x0237 [] 2
    ∷ tick 0x0637 (all_four 0x37 0x06 0xF2 0x03) 3
    ∷ feedback 0xE8 0x03 0 0x0637 (third 0x37 0x06 0xE8 0x03 ∷ []) 3
    ∷ feedback 0xF3 0x03 0 0x0237 (all_four 0x37 0x02 0xF3 0x03) 0
    ∷ feedback 0xE8 0x03 0 0x0237 (third 0x37 0x02 0xE8 0x03 ∷ []) 0
    ∷ []) ≡ true
unfolding open_start
glides_through = refl

-- "a write of 6068h neither starts nor stops the count, so that a value at or below the count shows bit 10 in that very call"; "Ticks are counted
-- while inside whatever 6068h .." is: with 0, under it, at it and past it
window_time_written : from (start PreOperational (Moving (point 1010)) 0 [])
    (tick 0x0637 [] 1
    ∷ tick 0x0637 [] 2
    ∷ set_time 0x03 0x00 0x0237 2
    ∷ set_time 0x02 0x00 0x0637 2
    ∷ set_time 0xFF 0xFF 0x0237 2
    ∷ tick 0x0237 [] 3
    ∷ set_time 0x03 0x00 0x0637 3
    ∷ set_time 0x02 0x00 0x0637 3
    ∷ set_time 0x00 0x00 0x0637 3
    ∷ []) ≡ true
unfolding open_start
window_time_written = refl

-- "Inside is judged at the call's end; a changed 6067h that keeps the position inside keeps the count": from 10 to 5 about 1005; 4 is past the
-- position and ends the count, and 5 again does not bring it back
window_written : from (start PreOperational (Rested 1005) 0 (write window_time 2 ∷ []))
    (tick 0x0237 [] 1
    ∷ tick 0x0637 [] 2
    ∷ set_window 0x05 0x0637 2
    ∷ set_window 0x04 0x0237 0
    ∷ set_window 0x05 0x0237 0
    ∷ tick 0x0237 [] 1
    ∷ []) ≡ true
unfolding open_start
window_written = refl

-- "The rule under bit 8 stays": with 606Ch 0 it is shown and nothing is counted yet, with 5 it is not though the window time is up; ticks are
-- counted all the while, so that 0Fh shows them at once
counted_under_bit_8 : from (start PreOperational (Moving (point 1010)) 0 (write window_time 2 ∷ []))
    (step (write2 0x40 0x60 0x00 0x0F 0x01 0x0637 []) 0
    ∷ feedback 0xE8 0x03 5 0x0237 [] 0
    ∷ tick 0x0237 [] 1
    ∷ tick 0x0237 [] 2
    ∷ step (control 0x0F 0x0637) 2
    ∷ []) ≡ true
unfolding open_start
counted_under_bit_8 = refl

-- 6068h over 0: "it needs the position inside": Rested off the window shows bit 10 at 6068h 0 alone, and counts from where it comes inside
rested_outside : from (start PreOperational (Rested 900) 0 [])
    (tick 0x0637 [] 0
    ∷ set_time 0x01 0x00 0x0237 0
    ∷ tick 0x0237 [] 0
    ∷ feedback 0x8E 0x03 0 0x0237 [] 0
    ∷ tick 0x0637 [] 1
    ∷ []) ≡ true
unfolding open_start
rested_outside = refl

-- "'A new active set-point': .. the second becoming the first by event 6; also with the same target .. Event 6 from Moving to Rested goes on
-- counting."
event_6_counting : from (start PreOperational (Queued (point 1000) (point 1000)) 7 (write window_time 2 ∷ []))
    (tick 0x1637 [] 8
    ∷ reached 0x0237 0
    ∷ tick 0x0237 [] 1
    ∷ tick 0x0637 [] 2
    ∷ reached 0x0637 2
    ∷ tick 0x0637 [] 3
    ∷ []) ≡ true
unfolding open_start
event_6_counting = refl

-- "one taken from Empty or Rested, one taken with bit 5 ..; also with the same target. One queued behind, or not taken, is none": 1Fh takes, then
-- queues, then finds the queue full; 3Fh replaces all
taken_counting : from (start PreOperational (Rested 1000) 7 (write window_time 1 ∷ []))
    (step (control 0x1F 0x1237) 0
    ∷ tick 0x1637 [] 1
    ∷ step (control 0x0F 0x0637) 1
    ∷ step (control 0x1F 0x1637) 1
    ∷ step (control 0x0F 0x1637) 1
    ∷ step (control 0x1F 0x1637) 1
    ∷ step (control 0x0F 0x1637) 1
    ∷ step (control 0x3F 0x1237) 0
    ∷ []) ≡ true
unfolding open_start
taken_counting = refl

-- "The count stops at 65,535, and 6068h = 65,535 is reached by it." With it the heartbeat goes first, and then the transmit PDOs
stops_at_65535 : from (start Operational (Moving (point 1000)) 65533 (write window_time 65535 ∷ write heartbeat_time 2 ∷ []))
    (tick 0x0237 [] 65534
    ∷ tick 0x0637 (frame 0x705 (0x05 ∷ []) ∷ all_four 0x37 0x06 0xE8 0x03) 65535
    ∷ tick 0x0637 [] 65535
    ∷ []) ≡ true
unfolding open_start
stops_at_65535 = refl

-- ---- one call, from a count of 7 in Operational, at rest inside

resting : End
resting = start Operational (Rested 1000) 7 (write window_time 2 ∷ [])

behind : Call → ℕ
behind c = (answer c resting.state resting.dictionary blank).state.axis.drive.stay

-- "Leaving Operation enabled or mode 1 empties the store, so the count is 0": a fault; quick stop, Switch on, Shutdown, Disable voltage; modes 0
-- and 3; 02h, 82h, 81h
left_at_0 : map behind (event_call 3 (0x10 ∷ 0x23 ∷ 0x02 ∷ []) ∷ frame_call 0x205 (0x0B ∷ 0x00 ∷ []) ∷ frame_call 0x205 (0x07 ∷ 0x00 ∷ [])
    ∷ frame_call 0x205 (0x06 ∷ 0x00 ∷ []) ∷ frame_call 0x205 (0x00 ∷ 0x00 ∷ []) ∷ request (0x2F ∷ 0x60 ∷ 0x60 ∷ 0x00 ∷ 0x00 ∷ 0x00 ∷ 0x00 ∷ 0x00 ∷ [])
    ∷ request (0x2F ∷ 0x60 ∷ 0x60 ∷ 0x00 ∷ 0x03 ∷ 0x00 ∷ 0x00 ∷ 0x00 ∷ []) ∷ nmt 0x02 ∷ nmt 0x82 ∷ nmt 0x81 ∷ [])
    ≡ replicate 10 0
unfolding behind resting open_start
left_at_0 = refl

-- no tick, and nothing that leaves: mode 1 and 0Fh again, 80h, 01h, SYNC, a voltage that goes, an upload, a refused download, a frame for others
not_left : map behind (request (0x2F ∷ 0x60 ∷ 0x60 ∷ 0x00 ∷ 0x01 ∷ 0x00 ∷ 0x00 ∷ 0x00 ∷ []) ∷ frame_call 0x205 (0x0F ∷ 0x00 ∷ []) ∷ nmt 0x80 ∷ nmt 0x01
    ∷ frame_call 0x080 [] ∷ event_call 9 (0x00 ∷ []) ∷ request (0x40 ∷ 0x68 ∷ 0x60 ∷ 0x00 ∷ 0x00 ∷ 0x00 ∷ 0x00 ∷ 0x00 ∷ [])
    ∷ request (0x2F ∷ 0x68 ∷ 0x60 ∷ 0x00 ∷ 0x00 ∷ 0x00 ∷ 0x00 ∷ 0x00 ∷ []) ∷ frame_call 0x206 (0x00 ∷ 0x00 ∷ []) ∷ [])
    ≡ replicate 9 7
unfolding behind resting open_start
not_left = refl

-- "It counts in every NMT state": the second of two ticks shows bit 10 in each; in Stopped, which no run enters enabled, too
every_nmt_state : (map (λ m. map (λ n. let e = start m (Moving (point 1000)) n (write window_time 2 ∷ []) in
    (answer (event_call 7 []) e.state e.dictionary blank).state.axis.drive.stay) (0 ∷ 1 ∷ [])) (PreOperational ∷ Operational ∷ Stopped ∷ [])
    ≡ replicate 3 (1 ∷ 2 ∷ []))
    × (from (start Stopped (Moving (point 1000)) 0 (write window_time 2 ∷ [])) (tick 0x0037 [] 1 ∷ tick 0x0437 [] 2 ∷ []) ≡ true)
unfolding open_start
every_nmt_state = (refl, refl)

-- a tick that is refused counts nothing: 65 bytes of output, a byte too many; nor does an event 6 out of place. Nothing is changed
refused : Refusal → Call → List ℕ → Type 0
refused r c o =
    answer c resting.state resting.dictionary o
    ≡ record { refusal = r; frames = 0; state = resting.state; dictionary = resting.dictionary; output = o }

refused_counts_nothing : refused OutputLength (event_call 7 []) (replicate 65 0xA5) × refused BadEvent (event_call 7 (0x00 ∷ [])) (replicate 66 0xA5)
    × refused OutOfPlace (event_call 6 []) (replicate 66 0xA5)
unfolding refused resting open_start
refused_counts_nothing = (refl, refl, refl)
