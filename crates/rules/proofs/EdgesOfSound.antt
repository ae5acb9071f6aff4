-- The paragraph that begins "Sound:" in literal values, by computation: soundness is its clauses and no more, for each clause a state that
-- breaks it and no other, and the first value past each bound.
-- Assumes nothing.
use Prim.Native.Nat.{ℕ, ◌-◌}
use mathlib.Core.Path.{◌≡◌, refl}
use mathlib.Core.Bool.{Bool, true, false, ◌&&◌, and_assoc}
use mathlib.Core.List.{List, [], ◌∷◌, ◌++◌, map}
use lib.ListN.{get_or, replicate}
use Rattle.state.specs.declared.NmtState.{NmtState}
use Rattle.state.specs.declared.NmtState.TheVariants.{PreOperational, Operational, Stopped}
use Rattle.state.specs.declared.Transfer.{Transfer}
use Rattle.state.specs.declared.Transfer.TheVariants.{NoTransfer, Uploading, Downloading}
use Rattle.state.specs.declared.State.{State}
use Rattle.rules_dictionary.specs.declared.Mode.{Mode}
use Rattle.rules_dictionary.specs.declared.Mode.TheVariants.{NoMode, ProfilePosition, ProfileVelocity}
use Rattle.drive.specs.declared.DriveState.{DriveState}
use Rattle.drive.specs.declared.DriveState.TheVariants.{NotReady, SwitchOnDisabled, ReadyToSwitchOn, SwitchedOn, OperationEnabled}
use Rattle.drive.specs.declared.DriveState.TheVariants.{QuickStopActive, FaultReactionActive, Fault}
use Rattle.drive.specs.declared.Store.{Store}
use Rattle.drive.specs.declared.SetPoint.{SetPoint}
use Rattle.drive.specs.declared.Store.TheVariants.{Empty, Rested, Moving, Queued}
use Rattle.drive.specs.declared.Drive.{Drive}
use Rattle.rules_dictionary.specs.TheNode.{is_node_id}
use Rattle.rules_dictionary.specs.Table.{table, device_type, sync_identifier, emergency_identifier, supported_modes, limit_count, communication_count}
use Rattle.rules_dictionary.specs.Table.{map_count, position_window, profile_acceleration, profile_deceleration, transmission_type, map_entry, map_slots}
use Rattle.rules_dictionary.specs.Table.{control_word, mode, mode_display, heartbeat_time, error_code, velocity, position, window_time, minimum_position}
use Rattle.rules_dictionary.specs.Table.{maximum_position, identifier}
use Rattle.rules_dictionary.specs.Values.{Write, write, stored, packed_defaults}
use Rattle.drive.specs.SetPoints.{with_mode, with_cause, with_stay}
use Rattle.rules_services.specs.Effects.{writes, becomes, with_drive, with_paces, with_nmt, with_voltage, with_heartbeat, with_axis, with_node, with_transfer}
use Rattle.rules_services.specs.PdoTraffic.{idle}
use Rattle.rules_services.specs.Nmt.{fresh_state}
use Rattle.rules.specs.Outcome.{End, ended}
use Rattle.rules.specs.Sound.{sound, dictionary_sound, drive_sound, waiting_sound, constants_as_listed, values_legal}
use Rattle.rules.specs.Sound.{status_as_made, mode_as_made, plans_fresh, ready_fresh, store_in_place, taken_in_place}
use Rattle.rules.specs.Sound.{cause_in_place, heartbeat_sound, transfer_sound, stay_sound}
use Rattle.rules.specs.Scripts.{nothing, open_rules}

-- ---- the clauses, in the paper's order

clauses : State → List ℕ → List Bool
clauses s d =
    let v = s.axis.drive in
    is_node_id s.node.id ∷ constants_as_listed s.node.id d ∷ values_legal d ∷ status_as_made s d ∷ mode_as_made s d
    ∷ plans_fresh s d ∷ ready_fresh s d ∷ store_in_place v ∷ taken_in_place v d ∷ cause_in_place v
    ∷ heartbeat_sound s.node.heartbeat d ∷ waiting_sound s d ∷ transfer_sound s.transfer ∷ stay_sound v d ∷ []

every : Bool → List Bool → Bool
every b [] = b
every b (c ∷ cs) = every (b && c) cs

-- "Sound: N legal; constants as listed, ..": these clauses and no other
sound_by_clauses : (s : State) (d : List ℕ) → sound s d ≡ every true (clauses s d)
unfolding sound dictionary_sound drive_sound clauses every
sound_by_clauses s d = simp (and_assoc)

-- all but the one of that number, from 0
but : ℕ → List Bool
but k = replicate k true ++ false ∷ replicate (13 - k) true

-- one clause of the fourteen that does not hold is enough
one_is_enough : map (λ k. every true (but k)) (0 ∷ 1 ∷ 2 ∷ 3 ∷ 4 ∷ 5 ∷ 6 ∷ 7 ∷ 8 ∷ 9 ∷ 10 ∷ 11 ∷ 12 ∷ 13 ∷ [])
    ≡ replicate 14 false
unfolding every but
one_is_enough = refl

-- ---- node 5, with that drive and those values, its 6041h, plans and ready frames as the rules make them

made : Drive → List Write → End
made v ws = ended nothing (packed_defaults 5 table) (writes ws (becomes (with_drive v (fresh_state 5))))

driven : DriveState → Mode → Store → Bool → Bool → Drive
driven s m st taken limit = record { state = s; mode = m; store = st; taken = taken; limit = limit; cause = false; stay = 0 }

resting : Drive
resting = driven NotReady NoMode Empty false false

-- what the clauses say of a made node with a part of its state changed
said : Drive → List Write → (State → State) → List Bool
said v ws f = let e = made v ws in clauses (f e.state) e.dictionary

same : State → State
same s = s

with_id : ℕ → State → State
with_id n s = with_node (record { id = n; nmt = s.node.nmt; voltage = s.node.voltage; heartbeat = s.node.heartbeat }) s

unfoldable open_said : Unit {0}
unfolding said made driven resting same with_id but clauses packed_defaults open_rules
open_said = tt

-- ---- each clause broken alone

-- "N legal": 0 and 128, each with its own 1014h; 1 and 127 are legal
node_id_alone : (said resting (write emergency_identifier 0x80 ∷ []) (with_id 0) ≡ but 0)
    × (said resting (write emergency_identifier 0x100 ∷ []) (with_id 128) ≡ but 0)
    × (map is_node_id (0 ∷ 1 ∷ 127 ∷ 128 ∷ []) ≡ false ∷ true ∷ true ∷ false ∷ [])
    × (let e = made resting (write emergency_identifier 0x80 ∷ []) in sound (with_id 0 e.state) e.dictionary ≡ false)
    × (let e = made resting (write emergency_identifier 0x100 ∷ []) in sound (with_id 128 e.state) e.dictionary ≡ false)
unfolding open_said
node_id_alone = (refl, refl, refl, refl, refl)

-- "constants as listed, values in range, mappings and PDO identifiers legal", and the limits in order: 6502h 7, 6083h 0, a transmit object in
-- 1600h:8, 1400h:1 305h, 607Dh:1 1 and :2 0
dictionary_alone : (said resting (write supported_modes 7 ∷ []) same ≡ but 1) × (said resting (write profile_acceleration 0 ∷ []) same ≡ but 2)
    × (said resting (write (map_entry 0 8) 0x60410010 ∷ []) same ≡ but 2) × (said resting (write (identifier 0) 0x305 ∷ []) same ≡ but 2)
    × (said resting (write minimum_position 1 ∷ write maximum_position 0 ∷ []) same ≡ but 2)
unfolding open_said
dictionary_alone = (refl, refl, refl, refl, refl)

-- "6041h, 6061h as the rules make them": voltage on, Stopped; the drive's own mode
made_alone : (said resting [] (with_voltage true) ≡ but 3) × (said resting [] (with_nmt Stopped) ≡ but 3)
    × (said resting [] (λ s. with_drive (with_mode ProfileVelocity s.axis.drive) s) ≡ but 4)
unfolding open_said
made_alone = (refl, refl, refl)

-- "plans and ready frames as worked afresh": none at all
fresh_alone : (said resting [] (λ s. with_axis (record {
  drive = s.axis.drive;
  plans = [];
  ready = s.axis.ready;
  held = s.axis.held;
  paces = s.axis.paces;
}) s) ≡ but 5)
    × (said resting [] (λ s. with_axis (record {
      drive = s.axis.drive;
      plans = s.axis.plans;
      ready = [];
      held = s.axis.held;
      paces = s.axis.paces;
    }) s) ≡ but 6)
unfolding open_said
fresh_alone = (refl, refl)

-- a store in mode 3; the taken mark under 0Fh; a cause in Operation enabled
drive_alone : (said (driven OperationEnabled ProfileVelocity (Rested 0) false false) (write mode 3 ∷ []) same ≡ but 7)
    × (said (driven OperationEnabled ProfilePosition (Rested 0) true true) (write mode 1 ∷ write control_word 0x0F ∷ []) same ≡ but 8)
    × (said (with_cause true (driven OperationEnabled NoMode Empty false false)) [] same ≡ but 9)
unfolding open_said
drive_alone = (refl, refl, refl)

-- the heartbeat count at 1017h; a due mark of type 0 in Pre-operational
time_alone : (said resting (write heartbeat_time 3 ∷ []) (with_heartbeat 3) ≡ but 10)
    × (said resting (write (transmission_type 4) 0 ∷ []) (with_paces (record { count = 0; due = true } ∷ idle ∷ idle ∷ idle ∷ [])) ≡ but 11)
unfolding open_said
time_alone = (refl, refl)

-- a download of the object of those three bytes, with that toggle due, so many bytes counted, and those four kept
abbrev download : List ℕ → Bool → ℕ → List ℕ → Transfer
download o toggle count bs =
    Downloading (record {
      low = get_or o 0 0;
      high = get_or o 1 0;
      subindex = get_or o 2 0;
      toggle = toggle;
      count = count;
      first = get_or bs 0 0;
      second = get_or bs 1 0;
      third = get_or bs 2 0;
      fourth = get_or bs 3 0;
    })

abbrev target : List ℕ
target = 0x7A ∷ 0x60 ∷ 0x00 ∷ []

-- no transfer, the name's last segment, a download of more than four bytes of no object there is
fitting : List Transfer
fitting = NoTransfer ∷ Uploading 2 ∷ download (0xFF ∷ 0xFF ∷ 0xFF ∷ []) true 5 (0x01 ∷ 0x02 ∷ 0x03 ∷ 0x04 ∷ []) ∷ []

-- a fourth segment of the name; six bytes counted; a byte behind the count
unfitting : List Transfer
unfitting =
    Uploading 3 ∷ download target false 6 (0x00 ∷ 0x00 ∷ 0x00 ∷ 0x00 ∷ []) ∷ download target false 3 (0x00 ∷ 0x00 ∷ 0x00 ∷ 0x01 ∷ []) ∷ []

-- the transfer alone, which no other clause looks at
transfer_alone : (map (λ t. said resting [] (with_transfer t)) unfitting ≡ replicate 3 (but 12))
    × (map (λ t. said resting [] (with_transfer t)) fitting ≡ replicate 3 (replicate 14 true))
    × (let e = made resting [] in map (λ t. sound (with_transfer t e.state) e.dictionary) unfitting ≡ replicate 3 false)
unfolding fitting unfitting open_said
transfer_alone = (refl, refl, refl)

-- node 5 in that NMT state, with that transfer, as a call leaves it
running : NmtState → Transfer → End
running m t = ended nothing (packed_defaults 5 table) (becomes (with_transfer t (with_nmt m (fresh_state 5))))

-- "Nothing is asked of the NMT state", and a call's end leaves the transfer as the service does
transfer_anywhere : (map (λ m. map (λ t. let e = running m t in sound e.state e.dictionary) fitting)
    (PreOperational ∷ Operational ∷ Stopped ∷ [])
    ≡ replicate 3 (replicate 3 true))
    × (map (λ m. map (λ t. let e = running m t in sound e.state e.dictionary) unfitting) (PreOperational ∷ Operational ∷ Stopped ∷ [])
    ≡ replicate 3 (replicate 3 false))
    × (map (λ t. (running Operational t).state.transfer) fitting ≡ fitting)
unfolding fitting unfitting running packed_defaults open_rules
transfer_anywhere = (refl, refl, refl)

-- the position is 1000, the window 10, the window time 0
about : List Write
about = write mode 1 ∷ write control_word 0x0F ∷ write position 1000 ∷ write position_window 10 ∷ []

abbrev point : ℕ → SetPoint
point t = record { target = t; velocity = 0; acceleration = 1; deceleration = 1 }

-- with an end of the window for a target, and one past it; of two the first's
insides : List Store
insides = Rested 1010 ∷ Moving (point 990) ∷ Queued (point 1010) (point 9) ∷ []

outsides : List Store
outsides = Empty ∷ Rested 1011 ∷ Moving (point 989) ∷ Queued (point 1011) (point 1000) ∷ []

-- an enabled drive in mode 1 with that store, of which so many ticks are counted when all else is made
stayed : List Write → ℕ → Store → List Bool
stayed ws n st = said (driven OperationEnabled ProfilePosition st false false) ws (λ s. with_drive (with_stay n s.axis.drive) s)

-- ticket 2, "the count is 0 unless the store is not Empty and the position is inside": a count of 1 outside, or with an Empty store, breaks this
-- clause alone, with a window time too; inside the greatest count passes
stay_alone : (map (stayed about 1) outsides ≡ replicate 4 (but 13)) × (stayed (write window_time 2 ∷ about) 65535 (Rested 1011) ≡ but 13)
    × (map (stayed about 65535) insides ≡ replicate 3 (replicate 14 true))
    × (let e = made (driven OperationEnabled ProfilePosition (Rested 1011) false false) about in
    map (λ n. sound (with_drive (with_stay n e.state.axis.drive) e.state) e.dictionary) (0 ∷ 1 ∷ []) ≡ true ∷ false ∷ [])
unfolding about insides outsides stayed open_said
stay_alone = (refl, refl, refl, refl)

-- inside with a window time, 6041h made at a count below it: a count that has come to it wants bit 10
stay_shown : map (λ n. stayed (write window_time 2 ∷ about) n (Rested 1010)) (1 ∷ 2 ∷ []) ≡ replicate 14 true ∷ but 3 ∷ []
unfolding about stayed open_said
stay_shown = refl

-- ---- each clause by itself: the last value that it lets pass, and the first that it does not

-- the defaults of node 5, with those values
with : List Write → List ℕ
with ws = stored ws (packed_defaults 5 table)

-- "1000 u32 c 00020192h; .. 1014 u32 c 80h+N; .. :0 u8 c 2"; an object that is not constant may hold another value
constants_told : (map (λ w. constants_as_listed 5 (with (w ∷ [])))
    (write device_type 0x00020193 ∷ write sync_identifier 0x81 ∷ write emergency_identifier 0x86 ∷ write (communication_count 7) 3
    ∷ write limit_count 1 ∷ [])
    ≡ replicate 5 false)
    × (constants_as_listed 5 (with (write error_code 0x2310 ∷ write velocity 1 ∷ write mode 1 ∷ [])) ≡ true)
unfolding with packed_defaults open_rules
constants_told = (refl, refl)

-- "6067 u32 w 0..7FFFFFFFh", "6083, 6084 .. least 1", "Types 0..240, 254, 255", ":0 has the range 0..8"; receive and transmit
ranges_told : (map (λ w. values_legal (with (w ∷ [])))
    (write position_window 0x80000000 ∷ write profile_deceleration 0 ∷ write (transmission_type 0) 241 ∷ write (transmission_type 7) 253
    ∷ write (map_count 7) 9 ∷ write mode 2 ∷ [])
    ≡ replicate 6 false)
    × (values_legal (with (write position_window 0x7FFFFFFF ∷ write (transmission_type 0) 240 ∷ write (transmission_type 7) 254 ∷ [])) ≡ true)
    × (values_legal (with (write (map_count 7) 8 ∷ map (λ k. write (map_entry 7 k) 0x10010008) map_slots)) ≡ true)
unfolding with packed_defaults open_rules
ranges_told = (refl, refl, refl)

-- "mappings .. legal": a missing index, a missing subindex, a wrong length, a wrong direction, each behind the count too; a zero among the
-- first n; 65 to 72 bits are too many
mappings_told : (map (λ w. values_legal (with (w ∷ [])))
    (write (map_entry 3 8) 0x60000010 ∷ write (map_entry 3 8) 0x60400110 ∷ write (map_entry 3 8) 0x60400008 ∷ write (map_entry 7 8) 0x60400010
    ∷ write (map_entry 0 1) 0 ∷ write (map_count 4) 2 ∷ [])
    ≡ replicate 6 false)
    × (map (λ w. values_legal (with (write (map_count 0) 3 ∷ write (map_entry 0 1) 0x607A0020 ∷ write (map_entry 0 2) 0x60400010 ∷ w ∷ [])))
    (write (map_entry 0 3) 0x60400010 ∷ write (map_entry 0 3) 0x607A0020 ∷ []) ≡ true ∷ false ∷ [])
unfolding with packed_defaults open_rules
mappings_told = (refl, refl)

-- "bit 31 invalid; bit 30 is 1 for transmit, 0 for receive; 29-11 zero; a valid one lies in 181h..57Fh and differs from every other valid PDO"
identifiers_told : (map (λ v. values_legal (with (write (identifier 0) v ∷ [])))
    (0x180 ∷ 0x580 ∷ 0x40000205 ∷ 0xC0000205 ∷ 0x00000A05 ∷ 0x20000205 ∷ 0x305 ∷ 0x185 ∷ []) ≡ replicate 8 false)
    × (map (λ v. values_legal (with (write (identifier 0) v ∷ []))) (0x181 ∷ 0x57F ∷ 0x80000000 ∷ 0x80000305 ∷ []) ≡ replicate 4 true)
    × (map (λ v. values_legal (with (write (identifier 7) v ∷ []))) (0x485 ∷ 0x80000485 ∷ 0x40000205 ∷ 0xC0000205 ∷ [])
    ≡ false ∷ false ∷ false ∷ true ∷ [])
unfolding with packed_defaults open_rules
identifiers_told = (refl, refl, refl)

-- ticket 5, "Soundness gains the pair's order": minimum at most maximum, as signed integers
limits_told : map values_legal
    (with (write minimum_position 1 ∷ write maximum_position 0 ∷ []) ∷ with (write minimum_position 0 ∷ write maximum_position 0xFFFFFFFF ∷ [])
    ∷ with (write minimum_position 7 ∷ write maximum_position 7 ∷ []) ∷ with (write minimum_position 0xFFFFFFFF ∷ write maximum_position 0 ∷ []) ∷ [])
    ≡ false ∷ false ∷ true ∷ true ∷ []
unfolding with packed_defaults open_rules
limits_told = refl

-- 6061h beside 6060h, and both beside the drive's mode
modes_told : map (λ ws. mode_as_made (with_drive (driven NotReady ProfilePosition Empty false false) (fresh_state 5)) (with ws))
    ((write mode 1 ∷ write mode_display 1 ∷ []) ∷ (write mode 1 ∷ []) ∷ (write mode_display 1 ∷ []) ∷ (write mode 3 ∷ write mode_display 3 ∷ []) ∷ [])
    ≡ true ∷ false ∷ false ∷ false ∷ []
unfolding with driven packed_defaults open_rules
modes_told = refl

-- "set-point store other than Empty, taken mark and limit mark only in Operation enabled with mode 1"
store_told : (map store_in_place
    (driven OperationEnabled ProfilePosition (Rested 0) true true ∷ driven OperationEnabled NoMode Empty false false
    ∷ driven Fault ProfilePosition Empty false false ∷ [])
    ≡ replicate 3 true)
    × (map store_in_place
    (driven OperationEnabled NoMode (Rested 0) false false ∷ driven OperationEnabled ProfileVelocity Empty true false
    ∷ driven OperationEnabled ProfileVelocity Empty false true ∷ driven SwitchedOn ProfilePosition (Rested 0) false false
    ∷ driven QuickStopActive ProfilePosition Empty true false ∷ driven FaultReactionActive ProfilePosition Empty false true ∷ [])
    ≡ replicate 6 false)
unfolding driven open_rules
store_told = (refl, refl)

-- "taken mark only while bit 4 of 6040h is 1": that bit and no other
taken_told : map (λ w. taken_in_place (driven OperationEnabled ProfilePosition Empty true false) (with (write control_word w ∷ []))) (0x10 ∷ 0xFFEF ∷ [])
    ≡ true ∷ false ∷ []
unfolding with driven packed_defaults open_rules
taken_told = refl

-- "cause present only in the two fault states"
cause_told : map (λ s. cause_in_place (with_cause true (driven s NoMode Empty false false)))
    (NotReady ∷ SwitchOnDisabled ∷ ReadyToSwitchOn ∷ SwitchedOn ∷ OperationEnabled ∷ QuickStopActive ∷ FaultReactionActive ∷ Fault ∷ [])
    ≡ false ∷ false ∷ false ∷ false ∷ false ∷ false ∷ true ∷ true ∷ []
unfolding driven open_rules
cause_told = refl

-- "heartbeat count zero or below 1017h": with 1017h 0 only zero
heartbeat_told : (map (λ k. heartbeat_sound k (with [])) (0 ∷ 1 ∷ []) ≡ true ∷ false ∷ [])
    × (map (λ k. heartbeat_sound k (with (write heartbeat_time 1 ∷ []))) (0 ∷ 1 ∷ []) ≡ true ∷ false ∷ [])
    × (map (λ k. heartbeat_sound k (with (write heartbeat_time 0xFFFF ∷ []))) (0xFFFE ∷ 0xFFFF ∷ []) ≡ true ∷ false ∷ [])
unfolding with packed_defaults open_rules
heartbeat_told = (refl, refl, refl)

-- "the count is 0 unless the store is not Empty and the position is inside": nothing is asked of state and mode
stay_told : (map (λ n. map (λ st. stay_sound (with_stay n (driven SwitchedOn NoMode st false false)) (with about)) outsides) (0 ∷ 1 ∷ 65535 ∷ [])
    ≡ replicate 4 true ∷ replicate 4 false ∷ replicate 4 false ∷ [])
    × (map (λ n. map (λ st. stay_sound (with_stay n (driven SwitchedOn NoMode st false false)) (with about)) insides) (0 ∷ 1 ∷ 65535 ∷ [])
    ≡ replicate 3 (replicate 3 true))
unfolding about insides outsides with driven packed_defaults open_rules
stay_told = (refl, refl)

-- "an upload stands at a segment that the name has": 0, 1 and 2 of nineteen characters
upload_told : map (λ k. transfer_sound (Uploading k)) (0 ∷ 1 ∷ 2 ∷ 3 ∷ 4 ∷ 255 ∷ []) ≡ true ∷ true ∷ true ∷ false ∷ false ∷ false ∷ []
unfolding open_rules
upload_told = refl

abbrev none : List ℕ
none = 0x00 ∷ 0x00 ∷ 0x00 ∷ 0x00 ∷ []

-- a byte other than zero at the first, second, third or fourth place, and at all
abbrev spots : List (List ℕ)
spots =
    (0x01 ∷ 0x00 ∷ 0x00 ∷ 0x00 ∷ []) ∷ (0x00 ∷ 0x80 ∷ 0x00 ∷ 0x00 ∷ []) ∷ (0x00 ∷ 0x00 ∷ 0xFF ∷ 0x00 ∷ []) ∷ (0x00 ∷ 0x00 ∷ 0x00 ∷ 0x01 ∷ [])
    ∷ (0x01 ∷ 0x02 ∷ 0x03 ∷ 0x04 ∷ []) ∷ []

-- "a count up to five, and bytes behind the count zero": those in front of it may be anything, zero too
download_told : (map (λ k. transfer_sound (download target false k none)) (0 ∷ 1 ∷ 2 ∷ 3 ∷ 4 ∷ 5 ∷ 6 ∷ 7 ∷ 255 ∷ [])
    ≡ replicate 6 true ++ replicate 3 false)
    × (map (λ k. map (λ bs. transfer_sound (download target true k bs)) spots) (0 ∷ 1 ∷ 2 ∷ 3 ∷ 4 ∷ 5 ∷ 6 ∷ [])
    ≡ replicate 5 false ∷ (true ∷ replicate 4 false) ∷ (true ∷ true ∷ replicate 3 false) ∷ (true ∷ true ∷ true ∷ replicate 2 false)
    ∷ replicate 5 true ∷ replicate 5 true ∷ replicate 5 false ∷ [])
unfolding open_rules
download_told = (refl, refl)

-- "any index and subindex, either toggle"
receipt_told : map (λ o. transfer_sound (download o false 0 none) && transfer_sound (download o true 0 none))
    ((0x00 ∷ 0x00 ∷ 0x00 ∷ []) ∷ (0x08 ∷ 0x10 ∷ 0x00 ∷ []) ∷ (0xFF ∷ 0xFF ∷ 0xFF ∷ []) ∷ [])
    ≡ true ∷ true ∷ true ∷ []
unfolding open_rules
receipt_told = refl
