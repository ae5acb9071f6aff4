-- The edges of 'SDO', 'PDO traffic' and 'NMT, emergency, time', by computation: each abort in its order, each emergency, each pace of a
-- transmit PDO, each NMT command, each event.
-- Assumes nothing.
use Prim.Native.Nat.{ℕ}
use mathlib.Core.Path.{◌≡◌, refl}
use mathlib.Core.Bool.{Bool, true, false}
use mathlib.Core.List.{List, [], ◌∷◌, ◌++◌, map}
use lib.ListN.{length}
use Rattle.std.specs.Prelude.{Some, None}
use Rattle.state.specs.declared.NmtState.{NmtState}
use Rattle.state.specs.declared.NmtState.TheVariants.{PreOperational, Operational, Stopped}
use Rattle.drive.specs.declared.DriveState.{DriveState}
use Rattle.drive.specs.declared.DriveState.TheVariants.{NotReady, SwitchOnDisabled, ReadyToSwitchOn, OperationEnabled, FaultReactionActive}
use Rattle.drive.specs.declared.DriveState.TheVariants.{Fault as InFault}
use Rattle.state.specs.declared.State.{State}
use Rattle.state.specs.declared.Pace.{Pace}
use Rattle.state.specs.declared.Occasion.TheVariants.{Plain, Synced, Ticked}
use Rattle.rules_dictionary.specs.Numbers.{bytes, value, part}
use Rattle.rules_dictionary.specs.Table.{error_register, error_code, control_word, heartbeat_time, target_position, position, velocity}
use Rattle.rules_dictionary.specs.Table.{transmission_type, map_entry, map_count, mapping_word, identifier}
use Rattle.rules_dictionary.specs.Values.{write, store, stored, read}
use Rattle.rules_dictionary.specs.Aborts.{abort_code, unknown_command, no_object, no_subindex, no_writing, too_long, too_short, wrong_time}
use Rattle.rules_dictionary.specs.Aborts.{below_range, above_range, bad_value}
use Rattle.drive.specs.SetPoints.{with_cause}
use Rattle.rules_services.specs.Effects.{Effect, Frame, frame, becomes, with_drive, with_heartbeat, with_held}
use Rattle.rules_services.specs.Emergency.{emergency}
use Rattle.rules_services.specs.SdoServer.{sdo}
use Rattle.rules_services.specs.PdoTraffic.{received, sync, paced, pace_of, works, no_data}
use Rattle.rules_services.specs.Nmt.{nmt, tick}
use Rattle.rules_services.specs.declared.Event.TheVariants.{Fault, Voltage, Started, QuickStopDone, ReactionDone, SetPointReached, CauseGone}
use Rattle.rules_services.specs.declared.Event.TheVariants.{Feedback, Tick}
use Rattle.rules_services.specs.Events.{event_of, is_in_place, happens}
use Rattle.rules_services.proofs.Node5.{fresh, node, pre_operational, operational, stopped, open_edges}

-- ---- SDO

abbrev reply : List ℕ → List Frame
reply bs = frame 0x585 bs ∷ []

-- the abort of a request: its code, or 0
abort_of : List Frame → ℕ
abort_of [] = 0
abort_of (f ∷ fs) = abort_in f.content
  where
    abort_in : List ℕ → ℕ
    abort_in bs = value (part 4 4 bs)

-- "4Fh, 4Bh, 43h for 1, 2, 4 bytes"
uploads : map (λ rq. (sdo rq pre_operational fresh).sent)
    ((0x40 ∷ 0x00 ∷ 0x14 ∷ 0x02 ∷ 0x00 ∷ 0x00 ∷ 0x00 ∷ 0x00 ∷ []) ∷ (0x40 ∷ 0x17 ∷ 0x10 ∷ 0x00 ∷ 0x00 ∷ 0x00 ∷ 0x00 ∷ 0x00 ∷ [])
    ∷ (0x5F ∷ 0x00 ∷ 0x10 ∷ 0x00 ∷ 0xAA ∷ 0x00 ∷ 0x00 ∷ 0x00 ∷ []) ∷ [])
    ≡ reply (0x4F ∷ 0x00 ∷ 0x14 ∷ 0x02 ∷ 0xFF ∷ 0x00 ∷ 0x00 ∷ 0x00 ∷ []) ∷ reply (0x4B ∷ 0x17 ∷ 0x10 ∷ 0x00 ∷ 0x00 ∷ 0x00 ∷ 0x00 ∷ 0x00 ∷ [])
    ∷ reply (0x43 ∷ 0x00 ∷ 0x10 ∷ 0x00 ∷ 0x92 ∷ 0x01 ∷ 0x02 ∷ 0x00 ∷ []) ∷ []
unfolding open_edges
uploads = refl

-- a download's verdict, on a state and a dictionary
download : State → List ℕ → ℕ → ℕ → ℕ → ℕ → ℕ
download s d c i sub v = abort_of (sdo (c ∷ bytes 2 i ++ sub ∷ bytes 4 v) s d).sent

-- command bits: 0 and 3 have no transfer, 1 without bit 1 begins one, 5 is unknown; a client's abort is not answered
commands_told : (map (λ c. download pre_operational fresh c 0x6040 0 0x06) (0x00 ∷ 0x60 ∷ 0x21 ∷ 0xA0 ∷ [])
    ≡ abort_code unknown_command ∷ abort_code unknown_command ∷ 0 ∷ abort_code unknown_command ∷ [])
    × (sdo (0x80 ∷ 0x40 ∷ 0x60 ∷ 0x00 ∷ 0x00 ∷ 0x00 ∷ 0x00 ∷ 0x00 ∷ []) pre_operational fresh ≡ becomes pre_operational)
unfolding download abort_of open_edges
commands_told = (refl, refl)

-- "with bit 0 set the size is 4 minus bits 3-2, else the object's": of u16 6040h, told 2, not told, told 1, 3 and 4
sizes_told : map (λ c. download pre_operational fresh c 0x6040 0 0x06) (0x2B ∷ 0x22 ∷ 0x2F ∷ 0x27 ∷ 0x23 ∷ [])
    ≡ 0 ∷ 0 ∷ abort_code too_short ∷ abort_code too_long ∷ abort_code too_long ∷ []
unfolding download abort_of open_edges
sizes_told = refl

-- the order: each request has the fault named and the one that comes next
aborts_in_order : (download pre_operational fresh 0x2F 0x1002 1 0 ≡ abort_code no_object)
    × (download pre_operational fresh 0x2F 0x1018 2 0 ≡ abort_code no_subindex)
    × (download pre_operational fresh 0x2F 0x1000 0 0 ≡ abort_code no_writing)
    × (download pre_operational fresh 0x23 0x6041 0 0 ≡ abort_code no_writing)
    × (download operational fresh 0x23 0x1400 2 241 ≡ abort_code too_long)
    × (download operational fresh 0x2F 0x1400 1 0x180 ≡ abort_code too_short)
    × (download operational fresh 0x2F 0x1400 2 241 ≡ abort_code wrong_time)
    × (download pre_operational fresh 0x2F 0x1600 0 9 ≡ abort_code wrong_time)
    × (download pre_operational fresh 0x23 0x6083 0 0 ≡ abort_code below_range)
    × (download pre_operational fresh 0x23 0x6067 0 0x80000000 ≡ abort_code above_range)
    × (download pre_operational fresh 0x2F 0x1400 2 241 ≡ abort_code bad_value)
unfolding download abort_of open_edges
aborts_in_order = (refl, refl, refl, refl, refl, refl, refl, refl, refl, refl, refl)

-- "mappings while that PDO is valid; entries while :0 is not 0": receive 1 made invalid, then its count 0
invalid : List ℕ
invalid = store (identifier 0) 0x80000205 fresh

mapping_times : (download pre_operational invalid 0x2F 0x1600 0 0 ≡ 0) × (download stopped invalid 0x2F 0x1600 0 0 ≡ abort_code wrong_time)
    × (download pre_operational invalid 0x23 0x1600 1 0 ≡ abort_code wrong_time)
    × (download pre_operational (store (map_count 0) 0 invalid) 0x23 0x1600 1 0 ≡ 0)
unfolding invalid download abort_of open_edges
mapping_times = (refl, refl, refl, refl)

-- an accepted download writes its object and no more, and a write of 1017h restarts the count
download_writes : ((sdo (0x23 ∷ 0x7A ∷ 0x60 ∷ 0x00 ∷ 0x39 ∷ 0x05 ∷ 0x00 ∷ 0x00 ∷ []) pre_operational fresh).writes ≡ write target_position 0x539 ∷ [])
    × ((sdo (0x2B ∷ 0x17 ∷ 0x10 ∷ 0x00 ∷ 0x05 ∷ 0x00 ∷ 0x00 ∷ 0x00 ∷ []) (with_heartbeat 3 pre_operational) fresh).state ≡ pre_operational)
unfolding open_edges
download_writes = (refl, refl)

-- ---- PDO traffic: receive 3 (6040h and 607Ah), receive 2 (6040h and 6060h)

abbrev emcy : ℕ → ℕ → Frame
emcy b0 b1 = frame 0x085 (b0 ∷ b1 ∷ 0x00 ∷ 0x00 ∷ 0x00 ∷ 0x00 ∷ 0x00 ∷ 0x00 ∷ [])

five : List ℕ
five = 0x00 ∷ 0x00 ∷ 0x39 ∷ 0x05 ∷ 0x00 ∷ []

-- "too short, dropped with emergency 8210h": also of length 0
too_short_lem : (received 2 five operational fresh ≡ record { state = operational; writes = []; sent = emcy 0x10 0x82 ∷ []; occasion = Plain })
    × ((received 2 [] operational fresh).sent ≡ emcy 0x10 0x82 ∷ [])
unfolding five open_edges
too_short_lem = (refl, refl)

-- "too long, 8220h and the leading bytes are used"
too_long_lem : ((received 2 (five ++ 0x00 ∷ 0x77 ∷ []) operational fresh).sent ≡ emcy 0x20 0x82 ∷ [])
    × ((received 2 (five ++ 0x00 ∷ 0x77 ∷ []) operational fresh).writes ≡ write control_word 0 ∷ write target_position 0x539 ∷ [])
unfolding five open_edges
too_long_lem = (refl, refl)

-- "any value SDO would refuse drops the whole frame with 8200h, after 8220h if both"
bad_value_lem : (received 1 (0x06 ∷ 0x00 ∷ 0x02 ∷ []) operational fresh
    ≡ record { state = operational; writes = []; sent = emcy 0x00 0x82 ∷ []; occasion = Plain })
    × ((received 1 (0x06 ∷ 0x00 ∷ 0x02 ∷ 0x00 ∷ []) operational fresh).sent ≡ emcy 0x20 0x82 ∷ emcy 0x00 0x82 ∷ [])
unfolding open_edges
bad_value_lem = (refl, refl)

-- "others are held, the latest kept, until SYNC": receive 1 of type 240, released by SYNC, and then held no more
cyclic_receive : List ℕ
cyclic_receive = store (transmission_type 0) 240 fresh

held_word : ℕ → State
held_word w = with_held (record { length = 2; bytes = w ∷ 0 ∷ 0 ∷ 0 ∷ 0 ∷ 0 ∷ 0 ∷ 0 ∷ [] } ∷ no_data ∷ no_data ∷ no_data ∷ []) operational

held_until_sync : (received 0 (0x06 ∷ 0x00 ∷ []) operational cyclic_receive ≡ becomes (held_word 0x06))
    × ((received 0 (0x06 ∷ 0x00 ∷ 0x77 ∷ []) operational cyclic_receive).state ≡ held_word 0x06)
    × (received 0 (0x07 ∷ 0x00 ∷ []) (held_word 0x06) cyclic_receive ≡ becomes (held_word 0x07))
    × (sync [] (held_word 0x06) cyclic_receive
    ≡ record { state = node Operational ReadyToSwitchOn; writes = write control_word 0x06 ∷ []; sent = []; occasion = Synced })
unfolding cyclic_receive held_word open_edges
held_until_sync = (refl, refl, refl, refl)

-- "an object mapped twice takes the last": two words for 6040h are one command, of the last, against the word before the frame
twice : List ℕ
twice = stored (write (map_count 0) 2 ∷ write (map_entry 0 2) (mapping_word control_word) ∷ []) fresh

mapped_twice : (received 0 (0x0F ∷ 0x00 ∷ 0x06 ∷ 0x00 ∷ []) operational twice).state ≡ node Operational ReadyToSwitchOn
unfolding twice open_edges
mapped_twice = refl

-- SYNC: "another length gives 8240h only. Stopped it is not served; in Pre-operational one of length 0 does nothing"
sync_lengths : (sync (0x01 ∷ []) operational fresh ≡ record { state = operational; writes = []; sent = emcy 0x40 0x82 ∷ []; occasion = Plain })
    × ((sync (0x01 ∷ []) pre_operational fresh).sent ≡ emcy 0x40 0x82 ∷ []) × (sync (0x01 ∷ []) stopped fresh ≡ becomes stopped)
    × (sync [] pre_operational fresh ≡ becomes pre_operational)
unfolding open_edges
sync_lengths = (refl, refl, refl, refl)

-- "A PDO works only in Operational, valid, with something mapped."
works_only : (works Operational fresh 0 ≡ true) × (works PreOperational fresh 0 ≡ false)
    × (works Operational (store (identifier 0) 0x80000205 fresh) 0 ≡ false)
    × (works Operational (store (map_count 0) 0 fresh) 0 ≡ false)
unfolding open_edges
works_only = (refl, refl, refl, refl)

abbrev kept : ℕ → Bool → Pace
kept count due = record { count = count; due = due }

-- type 3: two SYNCs counted, the third sends; a change sends nothing
third_sync_sends : (pace_of 3 Synced false (kept 0 false) ≡ paced false 1 false) × (pace_of 3 Synced true (kept 1 false) ≡ paced false 2 false)
    × (pace_of 3 Synced false (kept 2 false) ≡ paced true 0 false) × (pace_of 3 Plain true (kept 2 false) ≡ paced false 2 false)
    × (pace_of 1 Synced false (kept 0 false) ≡ paced true 0 false)
unfolding open_edges
third_sync_sends = (refl, refl, refl, refl, refl)

-- type 0: due from a change or from entering on, sent at SYNC alone, once
due_until_sync : (pace_of 0 Plain true (kept 0 false) ≡ paced false 0 true) × (pace_of 0 Plain false (kept 0 true) ≡ paced false 0 true)
    × (pace_of 0 Synced false (kept 0 true) ≡ paced true 0 false) × (pace_of 0 Synced true (kept 0 false) ≡ paced true 0 false)
    × (pace_of 0 Synced false (kept 0 false) ≡ paced false 0 false)
unfolding open_edges
due_until_sync = (refl, refl, refl, refl, refl)

-- types 254 and 255: at once, where it changed
at_once : (pace_of 254 Plain true (kept 0 false) ≡ paced true 0 false) × (pace_of 255 Synced false (kept 0 false) ≡ paced false 0 false)
unfolding open_edges
at_once = (refl, refl)

-- ---- NMT

abbrev to5 : ℕ → List ℕ
to5 c = c ∷ 0x05 ∷ []

-- the states that 01h, 02h and 80h lead to; node 0 is every node; another node, another length and an unknown command do nothing
nmt_states : (nmt (to5 0x01) pre_operational ≡ becomes operational) × (nmt (to5 0x02) operational ≡ becomes stopped)
    × (nmt (to5 0x80) operational ≡ becomes pre_operational) × (nmt (0x01 ∷ 0x00 ∷ []) stopped ≡ becomes operational)
    × (nmt (0x01 ∷ 0x06 ∷ []) pre_operational ≡ becomes pre_operational) × (nmt (0x01 ∷ []) pre_operational ≡ becomes pre_operational)
    × (nmt (to5 0x03) pre_operational ≡ becomes pre_operational)
unfolding open_edges
nmt_states = (refl, refl, refl, refl, refl, refl, refl)

-- "Leaving Operational clears held frames"; "01h and 80h to the present state do nothing"
nmt_leaves : (nmt (to5 0x80) (held_word 0x06) ≡ becomes pre_operational) × (nmt (to5 0x01) (held_word 0x06) ≡ becomes (held_word 0x06))
unfolding held_word open_edges
nmt_leaves = (refl, refl)

-- "02h and 82h also act as Disable voltage": not 80h; the fault states do not move
nmt_disables : (nmt (to5 0x02) (node Operational OperationEnabled) ≡ becomes stopped)
    × ((nmt (to5 0x82) (node Operational OperationEnabled)).state ≡ pre_operational)
    × (nmt (to5 0x80) (node Operational OperationEnabled) ≡ becomes (node PreOperational OperationEnabled))
    × (nmt (to5 0x02) (node Operational InFault) ≡ becomes (node Stopped InFault))
unfolding open_edges
nmt_disables = (refl, refl, refl, refl)

-- "82h objects 1000h-1FFFh to default except that 1001h stays, then Pre-operational and boot-up": 102 rows, 603Fh and 6000h objects stay
spoilt : List ℕ
spoilt = stored (write error_register 0x81 ∷ write heartbeat_time 9 ∷ write error_code 0x2310 ∷ write (map_count 7) 1 ∷ []) fresh

reset_writes : (length (nmt (to5 0x82) operational).writes ≡ 102) × ((nmt (to5 0x82) operational).sent ≡ frame 0x705 (0x00 ∷ []) ∷ [])
    × (map (read (stored (nmt (to5 0x82) operational).writes spoilt)) (error_register ∷ heartbeat_time ∷ error_code ∷ map_count 7 ∷ [])
    ≡ 0x81 ∷ 0 ∷ 0x2310 ∷ 2 ∷ [])
unfolding spoilt open_edges
reset_writes = (refl, refl, refl)

-- "each 1017h ticks, in all states": of 3, the third; of 0, never; 04h, 05h, 7Fh
beats : NmtState → ℕ → Effect
beats m k = tick (with_heartbeat k (node m SwitchOnDisabled)) (store heartbeat_time 3 fresh)

heartbeats : (beats Operational 0 ≡ becomes (with_heartbeat 1 operational)) × (beats Operational 1 ≡ becomes (with_heartbeat 2 operational))
    × (beats Operational 2 ≡ record { state = operational; writes = []; sent = frame 0x705 (0x05 ∷ []) ∷ []; occasion = Plain })
    × ((beats Stopped 2).sent ≡ frame 0x705 (0x04 ∷ []) ∷ []) × ((beats PreOperational 2).sent ≡ frame 0x705 (0x7F ∷ []) ∷ [])
    × (tick operational fresh ≡ becomes operational)
unfolding beats open_edges
heartbeats = (refl, refl, refl, refl, refl, refl)

-- ---- emergencies and events

-- "none while Stopped"
emergencies : (emergency 0x8210 operational (store error_register 0x03 fresh)
    ≡ frame 0x085 (0x10 ∷ 0x82 ∷ 0x03 ∷ 0x00 ∷ 0x00 ∷ 0x00 ∷ 0x00 ∷ 0x00 ∷ []) ∷ [])
    × (emergency 0x8210 stopped fresh ≡ [])
unfolding open_edges
emergencies = (refl, refl)

-- "event number unknown, wrong argument size, voltage flag not 0/1, fault code 0"
events_told : (map (λ k. event_of k []) (0 ∷ 10 ∷ 3 ∷ []) ≡ None ∷ None ∷ None ∷ [])
    × (event_of 1 (0 ∷ []) ≡ None) × (event_of 9 (0 ∷ []) ≡ Some (Voltage false)) × (event_of 9 (1 ∷ []) ≡ Some (Voltage true))
    × (event_of 9 (2 ∷ []) ≡ None)
    × (event_of 3 (0 ∷ 0 ∷ 1 ∷ []) ≡ None) × (event_of 3 (0 ∷ 1 ∷ 2 ∷ []) ≡ Some (Fault 256 2))
unfolding open_edges
events_told = (refl, refl, refl, refl, refl, refl, refl)

-- each in its place alone
places : (map (λ s. is_in_place Started (node Operational s)) (NotReady ∷ SwitchOnDisabled ∷ []) ≡ true ∷ false ∷ [])
    × (map (λ s. is_in_place ReactionDone (node Operational s)) (FaultReactionActive ∷ InFault ∷ []) ≡ true ∷ false ∷ [])
    × (is_in_place QuickStopDone operational ≡ false) × (is_in_place CauseGone operational ≡ false)
    × (is_in_place SetPointReached operational ≡ false)
unfolding open_edges
places = (refl, refl, refl, refl, refl)

caused : NmtState → DriveState → State
caused m v = with_drive (with_cause true (node m v).axis.drive) (node m v)

-- "603Fh is the code, 1001h gains the register and bit 0, cause present, emergency"; in a fault state it stays there; Stopped, no frame
faults : (happens (Fault 0x2310 0x04) operational (store error_register 0x02 fresh)
    ≡ record {
      state = caused Operational FaultReactionActive;
      writes = write error_code 0x2310 ∷ write error_register 0x07 ∷ [];
      sent = frame 0x085 (0x10 ∷ 0x23 ∷ 0x07 ∷ 0x00 ∷ 0x00 ∷ 0x00 ∷ 0x00 ∷ 0x00 ∷ []) ∷ [];
      occasion = Plain;
    })
    × (happens (Fault 0x2310 0x00) (node Stopped InFault) fresh
    ≡ record { state = caused Stopped InFault; writes = write error_code 0x2310 ∷ write error_register 0x01 ∷ []; sent = []; occasion = Plain })
unfolding caused open_edges
faults = (refl, refl)

-- a fault reset: 1001h to 0, 603Fh stays, emergency 0000h with the register just after
reset_by_control : sdo (0x2B ∷ 0x40 ∷ 0x60 ∷ 0x00 ∷ 0x80 ∷ 0x00 ∷ 0x00 ∷ 0x00 ∷ []) (node Operational InFault) (store error_register 0x81 fresh)
    ≡ record {
      state = operational;
      writes = write control_word 0x80 ∷ write error_register 0 ∷ [];
      sent = frame 0x585 (0x60 ∷ 0x40 ∷ 0x60 ∷ 0x00 ∷ 0x00 ∷ 0x00 ∷ 0x00 ∷ 0x00 ∷ []) ∷ emcy 0x00 0x00 ∷ [];
      occasion = Plain;
    }
unfolding open_edges
reset_by_control = refl

-- event 5 writes 6064h and 606Ch, and no more
feedback_writes : happens (Feedback 7 9) operational fresh
    ≡ record { state = operational; writes = write position 7 ∷ write velocity 9 ∷ []; sent = []; occasion = Plain }
unfolding open_edges
feedback_writes = refl

-- what a call is to its own end: a SYNC that is served, a tick, any other
occasions : ((sync [] operational fresh).occasion ≡ Synced) × ((sync [] pre_operational fresh).occasion ≡ Plain)
    × ((happens Tick operational fresh).occasion ≡ Ticked)
    × ((happens CauseGone operational fresh).occasion ≡ Plain)
unfolding open_edges
occasions = (refl, refl, refl, refl)
