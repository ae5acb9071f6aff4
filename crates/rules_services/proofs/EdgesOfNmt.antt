-- 'NMT, emergency, time', of node 5 written out: each NMT command from each NMT state, what it sets back and what it keeps, the heartbeat.
-- Assumes nothing.
use Prim.Native.Nat.{ℕ}
use mathlib.Core.Path.{◌≡◌, refl}
use mathlib.Core.Bool.{Bool, true, false}
use mathlib.Core.List.{List, [], ◌∷◌, map}
use lib.ListN.{length}
use Rattle.state.specs.declared.NmtState.{NmtState}
use Rattle.state.specs.declared.NmtState.TheVariants.{PreOperational, Operational, Stopped}
use Rattle.state.specs.declared.Transfer.TheVariants.{NoTransfer}
use Rattle.state.specs.declared.State.{State}
use Rattle.state.specs.declared.Pace.{Pace}
use Rattle.state.specs.declared.Occasion.TheVariants.{Plain}
use Rattle.rules_dictionary.specs.declared.Mode.TheVariants.{NoMode, ProfilePosition}
use Rattle.rules_dictionary.specs.declared.PdoData.{PdoData}
use Rattle.drive.specs.declared.Drive.{Drive}
use Rattle.drive.specs.declared.DriveState.{DriveState}
use Rattle.drive.specs.declared.DriveState.TheVariants.{NotReady, SwitchOnDisabled, ReadyToSwitchOn, SwitchedOn, OperationEnabled, QuickStopActive}
use Rattle.drive.specs.declared.DriveState.TheVariants.{FaultReactionActive, Fault}
use Rattle.drive.specs.declared.Store.TheVariants.{Empty, Moving}
use Rattle.rules_dictionary.specs.Table.{error_register, error_code, control_word, mode, heartbeat_time, target_position}
use Rattle.rules_dictionary.specs.Table.{map_count, identifier, transmission_type}
use Rattle.rules_dictionary.specs.Values.{write, store, stored}
use Rattle.rules_services.specs.Effects.{Frame, frame, becomes}
use Rattle.rules_services.specs.Nmt.{nmt, tick, power_up, nmt_identifier, nmt_length}
use Rattle.rules_services.proofs.Node5.{fresh, node, after, open_edges}

-- "Identifier 0, length 2"
nmt_on : (nmt_identifier ≡ 0x000) × (nmt_length ≡ 2)
nmt_on = (refl, refl)

-- ---- a node in the midst of its work: voltage on, three ticks counted, a frame held, SYNCs counted, a set-point taken

abbrev held2 : ℕ → PdoData
held2 w = record { length = 2; bytes = w ∷ 0x00 ∷ 0x00 ∷ 0x00 ∷ 0x00 ∷ 0x00 ∷ 0x00 ∷ 0x00 ∷ [] }

abbrev none : PdoData
none = record { length = 0; bytes = 0x00 ∷ 0x00 ∷ 0x00 ∷ 0x00 ∷ 0x00 ∷ 0x00 ∷ 0x00 ∷ 0x00 ∷ [] }

abbrev pace : ℕ → Bool → Pace
pace count due = record { count = count; due = due }

abbrev moving : Drive
moving =
    record {
      state = OperationEnabled;
      mode = ProfilePosition;
      store = Moving (record { target = 1000; velocity = 10; acceleration = 1; deceleration = 1 });
      taken = true;
      limit = true;
      cause = false;
      stay = 0;
    }

-- the drive after Disable voltage: the store empty, both marks clear, the mode kept
abbrev disabled : Drive
disabled = record { state = SwitchOnDisabled; mode = ProfilePosition; store = Empty; taken = false; limit = false; cause = false; stay = 0 }

-- in that NMT state, with that heartbeat count and drive, frames held and SYNCs counted
abbrev working : NmtState → ℕ → Drive → State
working m k v =
    record {
      node = record { id = 5; nmt = m; voltage = true; heartbeat = k };
      transfer = NoTransfer;
      axis = record {
        drive = v;
        plans = [];
        ready = [];
        held = held2 0x06 ∷ none ∷ none ∷ held2 0x0F ∷ [];
        paces = pace 1 false ∷ pace 0 true ∷ pace 0 false ∷ pace 239 false ∷ [];
      };
    }

-- the same with nothing held, nothing counted and nothing due
abbrev cleared : NmtState → ℕ → Drive → State
cleared m k v =
    record {
      node = record { id = 5; nmt = m; voltage = true; heartbeat = k };
      transfer = NoTransfer;
      axis = record {
        drive = v;
        plans = [];
        ready = [];
        held = none ∷ none ∷ none ∷ none ∷ [];
        paces = pace 0 false ∷ pace 0 false ∷ pace 0 false ∷ pace 0 false ∷ [];
      };
    }

-- after power-up
abbrev anew : ℕ → State
anew n =
    record {
      node = record { id = n; nmt = PreOperational; voltage = false; heartbeat = 0 };
      transfer = NoTransfer;
      axis = record {
        drive = record { state = NotReady; mode = NoMode; store = Empty; taken = false; limit = false; cause = false; stay = 0 };
        plans = [];
        ready = [];
        held = none ∷ none ∷ none ∷ none ∷ [];
        paces = pace 0 false ∷ pace 0 false ∷ pace 0 false ∷ pace 0 false ∷ [];
      };
    }

-- ---- the commands, from Pre-operational, Operational and Stopped

-- "01h Operational"; "01h .. to the present state" does "nothing": drive, voltage and heartbeat count stay, nothing is sent
start_from_each : (nmt (0x01 ∷ 0x05 ∷ []) (cleared PreOperational 3 moving) ≡ becomes (cleared Operational 3 moving))
    × (nmt (0x01 ∷ 0x05 ∷ []) (working Operational 3 moving) ≡ becomes (working Operational 3 moving))
    × (nmt (0x01 ∷ 0x05 ∷ []) (cleared Stopped 3 moving) ≡ becomes (cleared Operational 3 moving))
unfolding open_edges
start_from_each = (refl, refl, refl)

-- "02h Stopped", "Leaving Operational clears held frames, counts and due marks", "act as Disable voltage": also while already Stopped
stop_from_each : (nmt (0x02 ∷ 0x05 ∷ []) (cleared PreOperational 3 moving) ≡ becomes (cleared Stopped 3 disabled))
    × (nmt (0x02 ∷ 0x05 ∷ []) (working Operational 3 moving) ≡ becomes (cleared Stopped 3 disabled))
    × (nmt (0x02 ∷ 0x05 ∷ []) (cleared Stopped 3 moving) ≡ becomes (cleared Stopped 3 disabled))
unfolding open_edges
stop_from_each = (refl, refl, refl)

-- "80h Pre-operational": it leaves Operational, and leaves the drive alone
enter_from_each : (nmt (0x80 ∷ 0x05 ∷ []) (cleared PreOperational 3 moving) ≡ becomes (cleared PreOperational 3 moving))
    × (nmt (0x80 ∷ 0x05 ∷ []) (working Operational 3 moving) ≡ becomes (cleared PreOperational 3 moving))
    × (nmt (0x80 ∷ 0x05 ∷ []) (cleared Stopped 3 moving) ≡ becomes (cleared PreOperational 3 moving))
unfolding open_edges
enter_from_each = (refl, refl, refl)

-- "82h .. then Pre-operational and boot-up", "act as Disable voltage", "82h restarts the count": voltage and mode stay
reset_communication_from_each : map (λ s. (nmt (0x82 ∷ 0x05 ∷ []) s).state)
    (cleared PreOperational 3 moving ∷ working Operational 3 moving ∷ cleared Stopped 3 moving ∷ [])
    ≡ cleared PreOperational 0 disabled ∷ cleared PreOperational 0 disabled ∷ cleared PreOperational 0 disabled ∷ []
unfolding open_edges
reset_communication_from_each = refl

-- "81h as power-up": "Pre-operational, Not ready, voltage off", of its own node-ID
reset_node_from_each : map (λ s. (nmt (0x81 ∷ 0x05 ∷ []) s).state)
    (cleared PreOperational 3 moving ∷ working Operational 3 moving ∷ cleared Stopped 3 moving ∷ []) ≡ anew 5 ∷ anew 5 ∷ anew 5 ∷ []
unfolding open_edges
reset_node_from_each = refl

-- "with boot-up 700h+N, 00h": power-up, 81h and 82h send it alone, 82h while Stopped too
boot_ups : ((power_up 1).sent ≡ frame 0x701 (0x00 ∷ []) ∷ []) × ((power_up 127).sent ≡ frame 0x77F (0x00 ∷ []) ∷ [])
    × ((nmt (0x81 ∷ 0x05 ∷ []) (working Operational 3 moving)).sent ≡ frame 0x705 (0x00 ∷ []) ∷ [])
    × ((nmt (0x82 ∷ 0x05 ∷ []) (cleared Stopped 3 moving)).sent ≡ frame 0x705 (0x00 ∷ []) ∷ [])
unfolding open_edges
boot_ups = (refl, refl, refl, refl)

-- power-up whole, of another node; and 81h of that node
power_up_state : ((power_up 127).state ≡ anew 127) × ((power_up 127).occasion ≡ Plain) × ((nmt (0x81 ∷ 0x7F ∷ []) (anew 127)).state ≡ anew 127)
    × (after fresh (nmt (0x81 ∷ 0x7F ∷ []) (anew 127)) (identifier 0) ≡ 0x27F)
    × (after fresh (nmt (0x82 ∷ 0x7F ∷ []) (anew 127)) (identifier 7) ≡ 0x400004FF)
unfolding open_edges
power_up_state = (refl, refl, refl, refl, refl)

-- ---- what is set back: "82h objects 1000h-1FFFh to default except that 1001h stays"; "81h and power-up all, mappings included"

spoilt : List ℕ
spoilt =
    stored
    (write error_register 0x81
    ∷ write heartbeat_time 9
    ∷ write (identifier 0) 0x80000205
    ∷ write (transmission_type 7) 1
    ∷ write (map_count 3) 0
    ∷ write error_code 0x2310
    ∷ write control_word 0x0F
    ∷ write mode 3
    ∷ write target_position 1000
    ∷ [])
    fresh

-- 1001h, 1017h, 1400h:1, 1803h:2, 1603h:0, 603Fh, 6040h, 6060h, 607Ah: 82h keeps the first and the last four, 81h none; 01h, 02h, 80h write nothing
set_back : (map (after spoilt (nmt (0x82 ∷ 0x05 ∷ []) (node Operational Fault)))
    (error_register ∷ heartbeat_time ∷ identifier 0 ∷ transmission_type 7 ∷ map_count 3 ∷ error_code ∷ control_word ∷ mode ∷ target_position ∷ [])
    ≡ 0x81 ∷ 0 ∷ 0x205 ∷ 255 ∷ 2 ∷ 0x2310 ∷ 0x0F ∷ 3 ∷ 1000 ∷ [])
    × (map (after spoilt (nmt (0x81 ∷ 0x05 ∷ []) (node Operational Fault)))
    (error_register ∷ heartbeat_time ∷ identifier 0 ∷ transmission_type 7 ∷ map_count 3 ∷ error_code ∷ control_word ∷ mode ∷ target_position ∷ [])
    ≡ 0 ∷ 0 ∷ 0x205 ∷ 255 ∷ 2 ∷ 0 ∷ 0 ∷ 0 ∷ 0 ∷ [])
    × (stored (nmt (0x81 ∷ 0x05 ∷ []) (node Operational Fault)).writes spoilt ≡ fresh)
    × (length (nmt (0x81 ∷ 0x05 ∷ []) (node Operational Fault)).writes ≡ 123)
    × (map (λ c. (nmt (c ∷ 0x05 ∷ []) (node Operational OperationEnabled)).writes) (0x01 ∷ 0x02 ∷ 0x80 ∷ []) ≡ [] ∷ [] ∷ [] ∷ [])
unfolding spoilt open_edges
set_back = (refl, refl, refl, refl, refl)

abbrev caused : DriveState → Drive
caused v = record { state = v; mode = ProfilePosition; store = Empty; taken = false; limit = false; cause = true; stay = 0 }

-- 82h and 02h leave a fault and its cause; 81h is Not ready with no cause
faults_kept : ((nmt (0x82 ∷ 0x05 ∷ []) (cleared Operational 3 (caused Fault))).state ≡ cleared PreOperational 0 (caused Fault))
    × ((nmt (0x02 ∷ 0x05 ∷ []) (cleared Operational 3 (caused FaultReactionActive))).state ≡ cleared Stopped 3 (caused FaultReactionActive))
    × ((nmt (0x81 ∷ 0x05 ∷ []) (cleared Operational 3 (caused Fault))).state ≡ anew 5)
unfolding open_edges
faults_kept = (refl, refl, refl)

abbrev each_state : List DriveState
each_state =
    NotReady ∷ SwitchOnDisabled ∷ ReadyToSwitchOn ∷ SwitchedOn ∷ OperationEnabled ∷ QuickStopActive ∷ FaultReactionActive ∷ Fault ∷ []

-- "02h and 82h also act as Disable voltage": Not ready and the two fault states do not move, every other is disabled
disables_each : (map (λ v. (nmt (0x02 ∷ 0x05 ∷ []) (node Operational v)).state.axis.drive.state) each_state
    ≡ NotReady ∷ SwitchOnDisabled ∷ SwitchOnDisabled ∷ SwitchOnDisabled ∷ SwitchOnDisabled ∷ SwitchOnDisabled ∷ FaultReactionActive ∷ Fault ∷ [])
    × (map (λ v. (nmt (0x82 ∷ 0x05 ∷ []) (node Operational v)).state.axis.drive.state) each_state
    ≡ NotReady ∷ SwitchOnDisabled ∷ SwitchOnDisabled ∷ SwitchOnDisabled ∷ SwitchOnDisabled ∷ SwitchOnDisabled ∷ FaultReactionActive ∷ Fault ∷ [])
    × (map (λ v. (nmt (0x80 ∷ 0x05 ∷ []) (node Operational v)).state.axis.drive.state) each_state ≡ each_state)
unfolding open_edges
disables_each = (refl, refl, refl)

-- ---- whom and what it serves

-- the NMT state that a frame leads to
led_to : NmtState → List ℕ → NmtState
led_to m bs = (nmt bs (node m SwitchOnDisabled)).state.node.nmt

-- "node 0 or N": every node, this one; not 1, 4, 6, 127, 128, 255
nodes_served : map (λ n. led_to PreOperational (0x02 ∷ n ∷ [])) (0x00 ∷ 0x05 ∷ 0x01 ∷ 0x04 ∷ 0x06 ∷ 0x7F ∷ 0x80 ∷ 0xFF ∷ [])
    ≡ Stopped ∷ Stopped ∷ PreOperational ∷ PreOperational ∷ PreOperational ∷ PreOperational ∷ PreOperational ∷ PreOperational ∷ []
unfolding led_to open_edges
nodes_served = refl

-- "length 2": not 0, 1, 3 or 8
lengths_served : map (led_to PreOperational)
    ([] ∷ (0x02 ∷ []) ∷ (0x02 ∷ 0x00 ∷ []) ∷ (0x02 ∷ 0x00 ∷ 0x00 ∷ []) ∷ (0x02 ∷ 0x05 ∷ 0x00 ∷ 0x00 ∷ 0x00 ∷ 0x00 ∷ 0x00 ∷ 0x00 ∷ []) ∷ [])
    ≡ PreOperational ∷ PreOperational ∷ Stopped ∷ PreOperational ∷ PreOperational ∷ []
unfolding led_to open_edges
lengths_served = refl

-- no other command does anything
other_commands : map (λ c. nmt (c ∷ 0x00 ∷ []) (working Operational 3 moving)) (0x00 ∷ 0x03 ∷ 0x7F ∷ 0x83 ∷ 0xFF ∷ [])
    ≡ becomes (working Operational 3 moving)
    ∷ becomes (working Operational 3 moving)
    ∷ becomes (working Operational 3 moving)
    ∷ becomes (working Operational 3 moving)
    ∷ becomes (working Operational 3 moving)
    ∷ []
unfolding open_edges
other_commands = refl

-- nor from Pre-operational or Stopped
other_commands_elsewhere : (map (λ c. led_to PreOperational (c ∷ 0x05 ∷ [])) (0x00 ∷ 0x03 ∷ 0x04 ∷ 0x7F ∷ 0x83 ∷ 0xFF ∷ [])
    ≡ PreOperational ∷ PreOperational ∷ PreOperational ∷ PreOperational ∷ PreOperational ∷ PreOperational ∷ [])
    × (map (λ c. led_to Stopped (c ∷ 0x05 ∷ [])) (0x00 ∷ 0x03 ∷ 0x04 ∷ 0x7F ∷ 0x83 ∷ 0xFF ∷ [])
    ≡ Stopped ∷ Stopped ∷ Stopped ∷ Stopped ∷ Stopped ∷ Stopped ∷ [])
unfolding led_to open_edges
other_commands_elsewhere = (refl, refl)

-- ---- the heartbeat

-- a tick with 1017h at that period, after that many ticks: what is counted, what is sent
beat : NmtState → ℕ → ℕ → ℕ × List Frame
beat m period k = let e = tick (cleared m k moving) (store heartbeat_time period fresh) in (e.state.node.heartbeat, e.sent)

-- "Heartbeat 700h+N, 04h Stopped, 05h Operational, 7Fh, each 1017h ticks": of 1 each, of 2 the second, of 65535 the last; of 0 none
beats_at : (map (λ m. beat m 1 0) (PreOperational ∷ Operational ∷ Stopped ∷ [])
    ≡ (0, frame 0x705 (0x7F ∷ []) ∷ []) ∷ (0, frame 0x705 (0x05 ∷ []) ∷ []) ∷ (0, frame 0x705 (0x04 ∷ []) ∷ []) ∷ [])
    × (map (beat Stopped 2) (0 ∷ 1 ∷ []) ≡ (1, []) ∷ (0, frame 0x705 (0x04 ∷ []) ∷ []) ∷ [])
    × (map (beat PreOperational 65535) (65533 ∷ 65534 ∷ []) ≡ (65534, []) ∷ (0, frame 0x705 (0x7F ∷ []) ∷ []) ∷ [])
    × (beat Operational 0 0 ≡ (0, []))
unfolding beat open_edges
beats_at = (refl, refl, refl, refl)

-- a tick changes the count and no more, and is of its own node
beat_alone : (tick (cleared Operational 0 moving) (store heartbeat_time 2 fresh) ≡ becomes (cleared Operational 1 moving))
    × (tick (cleared Operational 1 moving) (store heartbeat_time 2 fresh)
    ≡ record { state = cleared Operational 0 moving; writes = []; sent = frame 0x705 (0x05 ∷ []) ∷ []; occasion = Plain })
    × ((tick (anew 127) (store heartbeat_time 1 fresh)).sent ≡ frame 0x77F (0x7F ∷ []) ∷ [])
unfolding open_edges
beat_alone = (refl, refl, refl)
