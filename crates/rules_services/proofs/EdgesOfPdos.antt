-- 'PDO traffic' of node 5 written out: lengths, types, held frames, what one frame does and in what order, SYNC, the paces of transmit PDOs.
-- Assumes nothing.
use Prim.Native.Nat.{ℕ}
use mathlib.Core.Path.{◌≡◌, refl}
use mathlib.Core.Bool.{Bool, true, false}
use mathlib.Core.List.{List, [], ◌∷◌, map}
use lib.ListN.{take}
use Rattle.state.specs.declared.NmtState.TheVariants.{PreOperational, Operational, Stopped}
use Rattle.state.specs.declared.State.{State}
use Rattle.state.specs.declared.Pace.{Pace}
use Rattle.state.specs.declared.Occasion.TheVariants.{Plain, Synced, Ticked}
use Rattle.rules_dictionary.specs.declared.Mode.TheVariants.{ProfilePosition, ProfileVelocity}
use Rattle.rules_dictionary.specs.declared.PdoData.{PdoData}
use Rattle.drive.specs.declared.DriveState.TheVariants.{ReadyToSwitchOn, SwitchedOn, OperationEnabled, Fault}
use Rattle.drive.specs.declared.Store.{Store}
use Rattle.drive.specs.declared.Store.TheVariants.{Empty, Rested, Moving, Queued}
use Rattle.drive.specs.declared.SetPoint.{SetPoint}
use Rattle.drive.specs.SetPoints.{with_mode, with_stay}
use Rattle.rules_dictionary.specs.Table.{error_register, error_code, control_word, mode, target_position, target_velocity, receive_pdos}
use Rattle.rules_dictionary.specs.Table.{transmission_type, map_count, map_entry, identifier, position_window, window_time}
use Rattle.rules_dictionary.specs.Values.{Write, write, store, stored}
use Rattle.rules_services.specs.Effects.{Effect, Frame, frame, becomes, sends, on, and_then, with_drive, with_held}
use Rattle.rules_services.specs.Emergency.{emergency}
use Rattle.rules_services.specs.SdoServer.{sdo}
use Rattle.rules_services.specs.Nmt.{fresh_state}
use Rattle.rules_services.specs.PdoTraffic.{received, received_by, listens, sync, sync_base, works, paced, pace_of, transmitted}
use Rattle.rules_services.proofs.Node5.{fresh, node, pre_operational, operational, stopped, after, eight, open_edges}

-- ---- emergencies: "EMCY on 80h+N: code, 1001h just after its cause, five zeros"

-- of node 5 with 1001h 81h
troubled : List ℕ
troubled = store error_register 0x81 fresh

abbrev emcy : ℕ → ℕ → ℕ → Frame
emcy low high register = frame 0x085 (eight low high register 0x00 0x00 0x00 0x00 0x00)

-- of nodes 1 and 127, in Pre-operational; code low byte first, eight bytes
emergencies_of_others : (emergency 0x1234 (fresh_state 1) troubled ≡ frame 0x081 (eight 0x34 0x12 0x81 0x00 0x00 0x00 0x00 0x00) ∷ [])
    × (emergency 0x8240 (fresh_state 127) fresh ≡ frame 0x0FF (eight 0x40 0x82 0x00 0x00 0x00 0x00 0x00 0x00) ∷ [])
unfolding troubled open_edges
emergencies_of_others = (refl, refl)

-- receive 3, 6040h and 607Ah, is of 6 bytes
data8 : List ℕ
data8 = eight 0x00 0x00 0xE8 0x03 0x00 0x00 0x77 0x77

-- "too short, dropped with emergency 8210h; too long, 8220h": lengths 0 to 8
each-length : map (λ n. (received 2 (take n data8) operational troubled).sent) (0 ∷ 1 ∷ 2 ∷ 3 ∷ 4 ∷ 5 ∷ 6 ∷ 7 ∷ 8 ∷ [])
    ≡ (emcy 0x10 0x82 0x81 ∷ [])
    ∷ (emcy 0x10 0x82 0x81 ∷ [])
    ∷ (emcy 0x10 0x82 0x81 ∷ [])
    ∷ (emcy 0x10 0x82 0x81 ∷ [])
    ∷ (emcy 0x10 0x82 0x81 ∷ [])
    ∷ (emcy 0x10 0x82 0x81 ∷ [])
    ∷ []
    ∷ (emcy 0x20 0x82 0x81 ∷ [])
    ∷ (emcy 0x20 0x82 0x81 ∷ [])
    ∷ []
unfolding troubled data8 open_edges
each-length = refl

-- "dropped", and "the leading bytes are used": 607Ah after each
each_length_stores : map (λ n. after fresh (received 2 (take n data8) operational fresh) target_position) (0 ∷ 1 ∷ 2 ∷ 3 ∷ 4 ∷ 5 ∷ 6 ∷ 7 ∷ 8 ∷ [])
    ≡ 0 ∷ 0 ∷ 0 ∷ 0 ∷ 0 ∷ 0 ∷ 1000 ∷ 1000 ∷ 1000 ∷ []
unfolding data8 open_edges
each_length_stores = refl

-- "then any value SDO would refuse drops the whole frame with 8200h, after 8220h if both": mode 2 in receive 2
refused_values : (received 1 (0x06 ∷ 0x00 ∷ 0x02 ∷ []) operational troubled
    ≡ record { state = operational; writes = []; sent = emcy 0x00 0x82 0x81 ∷ []; occasion = Plain })
    × (received 1 (0x06 ∷ 0x00 ∷ 0x02 ∷ 0x01 ∷ []) operational troubled
    ≡ record { state = operational; writes = []; sent = emcy 0x20 0x82 0x81 ∷ emcy 0x00 0x82 0x81 ∷ []; occasion = Plain })
    × ((received 1 (0x06 ∷ 0x00 ∷ []) operational troubled).sent ≡ emcy 0x10 0x82 0x81 ∷ [])
unfolding troubled open_edges
refused_values = (refl, refl, refl)

-- "1001h just after its cause": a too long frame that resets a fault sends 8220h with the old register, then 0000h with 00h; 603Fh stays
long_reset : received 0 (0x80 ∷ 0x00 ∷ 0x77 ∷ []) (node Operational Fault) (store error_code 0x2310 troubled)
    ≡ record {
      state = operational;
      writes = write control_word 0x80 ∷ write error_register 0 ∷ [];
      sent = emcy 0x20 0x82 0x81 ∷ emcy 0x00 0x00 0x00 ∷ [];
      occasion = Plain;
    }
unfolding troubled open_edges
long_reset = refl

-- the sum of the mapped sizes: 6083h (u32, least 1) twice is 8 bytes, and each of the two is tested, the one overwritten too
twice : List ℕ
twice = stored (write (map_count 0) 2 ∷ write (map_entry 0 1) 0x60830020 ∷ write (map_entry 0 2) 0x60830020 ∷ []) fresh

every_value_tested : ((received 0 (eight 0x00 0x00 0x00 0x00 0x05 0x00 0x00 0x00) operational twice).sent ≡ emcy 0x00 0x82 0x00 ∷ [])
    × ((received 0 (eight 0x05 0x00 0x00 0x00 0x00 0x00 0x00 0x00) operational twice).sent ≡ emcy 0x00 0x82 0x00 ∷ [])
    × ((received 0 (eight 0x05 0x00 0x00 0x00 0x01 0x00 0x00 0x00) operational twice).sent ≡ [])
    × ((received 0 (take 7 (eight 0x05 0x00 0x00 0x00 0x01 0x00 0x00 0x00)) operational twice).sent ≡ emcy 0x10 0x82 0x00 ∷ [])
unfolding twice open_edges
every_value_tested = (refl, refl, refl, refl)

-- ---- applying: "stores every value .., then acts on 6060h if mapped, then 6040h"

-- receive 1 with 607Ah, 6060h and 6040h, and the other way round
forth : List ℕ
forth = stored
    (write (map_count 0) 3 ∷ write (map_entry 0 1) 0x607A0020 ∷ write (map_entry 0 2) 0x60600008 ∷ write (map_entry 0 3) 0x60400010
    ∷ write control_word 0x07 ∷ [])
    fresh

back : List ℕ
back = stored
    (write (map_count 0) 3 ∷ write (map_entry 0 1) 0x60400010 ∷ write (map_entry 0 2) 0x60600008 ∷ write (map_entry 0 3) 0x607A0020
    ∷ write control_word 0x07 ∷ [])
    fresh

abbrev point : ℕ → SetPoint
point t = record { target = t; velocity = 0; acceleration = 1; deceleration = 1 }

-- Operation enabled in mode 1
abbrev moving : Store → Bool → State
moving s taken =
    with_drive (record { state = OperationEnabled; mode = ProfilePosition; store = s; taken = taken; limit = false; cause = false; stay = 0 })
    operational

-- from Switched on in mode 0, one frame: mode 1, then 1Fh enables and takes the 1000 of the same frame, wherever 607Ah stands
one_frame : ((received 0 (0xE8 ∷ 0x03 ∷ 0x00 ∷ 0x00 ∷ 0x01 ∷ 0x1F ∷ 0x00 ∷ []) (node Operational SwitchedOn) forth).state
    ≡ moving (Moving (point 1000)) true)
    × ((received 0 (0x1F ∷ 0x00 ∷ 0x01 ∷ 0xE8 ∷ 0x03 ∷ 0x00 ∷ 0x00 ∷ []) (node Operational SwitchedOn) back).state
    ≡ moving (Moving (point 1000)) true)
    × (map (after forth (received 0 (0xE8 ∷ 0x03 ∷ 0x00 ∷ 0x00 ∷ 0x01 ∷ 0x1F ∷ 0x00 ∷ []) (node Operational SwitchedOn) forth))
    (target_position ∷ mode ∷ control_word ∷ []) ≡ 1000 ∷ 1 ∷ 0x1F ∷ [])
unfolding forth back open_edges
one_frame = (refl, refl, refl)

-- out of mode 1 and 1Fh in one frame: the mode first, so nothing is taken and the store is empty
one_frame_out : (received 0 (0xE8 ∷ 0x03 ∷ 0x00 ∷ 0x00 ∷ 0x03 ∷ 0x1F ∷ 0x00 ∷ []) (moving (Moving (point 7)) false) forth).state
    ≡ with_drive (record { state = OperationEnabled; mode = ProfileVelocity; store = Empty; taken = false; limit = false; cause = false; stay = 0 })
    operational
unfolding forth open_edges
one_frame_out = refl

-- "read at each write, also of the same value": 06h over 06h; a write of 6060h or 607Ah is none of 6040h, though 06h stands there
each_write_read : ((sdo (eight 0x2B 0x40 0x60 0x00 0x06 0x00 0x00 0x00) operational (store control_word 0x06 fresh)).state
    ≡ node Operational ReadyToSwitchOn)
    × ((sdo (eight 0x2F 0x60 0x60 0x00 0x01 0x00 0x00 0x00) operational (store control_word 0x06 fresh)).state
    ≡ with_drive (with_mode ProfilePosition operational.axis.drive) operational)
    × ((sdo (eight 0x23 0x7A 0x60 0x00 0x01 0x00 0x00 0x00) operational (store control_word 0x06 fresh)).state ≡ operational)
    × ((sdo (eight 0x2B 0x40 0x60 0x00 0x80 0x00 0x00 0x00) (node Operational Fault) (store control_word 0x80 fresh)).state ≡ node Operational Fault)
unfolding open_edges
each_write_read = (refl, refl, refl, refl)

-- ---- ticket 2, the ticks inside the window: "a new active set-point starts again"

-- Operation enabled in mode 1, with that store and 7 ticks counted
abbrev counting : Store → Bool → State
counting s taken = let t = moving s taken in with_drive (with_stay 7 t.axis.drive) t

-- at rest, one and two set-points, each to 1000
at_thousand : List Store
at_thousand = Rested 1000 ∷ Moving (point 1000) ∷ Queued (point 1000) (point 1000) ∷ []

-- what they become by 1Fh: taken anew, queued behind, not taken; and by 3Fh, which replaces all
anew_or_not : List State
anew_or_not =
    moving (Moving (point 1000)) true ∷ counting (Queued (point 1000) (point 1000)) true ∷ counting (Queued (point 1000) (point 1000)) false ∷ []

replacing : List State
replacing = map (λ st. moving (Moving (point 1000)) true) at_thousand

-- that state, those writes and that reply
abbrev leaves : List Write → List Frame → State → Effect
leaves ws fs s = record { state = s; writes = ws; sent = fs; occasion = Plain }

aimed : List ℕ
aimed = stored (write control_word 0x0F ∷ write target_position 1000 ∷ []) fresh

-- by SDO, and by receive 3 with the 1000 in the frame
counted_anew : (map (λ st. sdo (eight 0x2B 0x40 0x60 0x00 0x1F 0x00 0x00 0x00) (counting st false) aimed) at_thousand
    ≡ map (leaves (write control_word 0x1F ∷ []) (frame 0x585 (eight 0x60 0x40 0x60 0x00 0x00 0x00 0x00 0x00) ∷ [])) anew_or_not)
    × (map (λ st. (sdo (eight 0x2B 0x40 0x60 0x00 0x3F 0x00 0x00 0x00) (counting st false) aimed).state) at_thousand ≡ replacing)
    × (map (λ st. received 2 (0x1F ∷ 0x00 ∷ 0xE8 ∷ 0x03 ∷ 0x00 ∷ 0x00 ∷ []) (counting st false) fresh) at_thousand
    ≡ map (leaves (write control_word 0x1F ∷ write target_position 1000 ∷ []) []) anew_or_not)
    × (map (λ st. (received 2 (0x3F ∷ 0x00 ∷ 0xE8 ∷ 0x03 ∷ 0x00 ∷ 0x00 ∷ []) (counting st false) fresh).state) at_thousand ≡ replacing)
unfolding at_thousand anew_or_not replacing aimed open_edges
counted_anew = (refl, refl, refl, refl)

-- "a write of 6068h neither starts nor stops the count", nor does one of 6067h or 607Ah: it is judged at the call's end
count_not_written : (sdo (eight 0x2B 0x68 0x60 0x00 0x05 0x01 0x00 0x00) (counting (Rested 1000) false) fresh
    ≡ leaves (write window_time 0x105 ∷ []) (frame 0x585 (eight 0x60 0x68 0x60 0x00 0x00 0x00 0x00 0x00) ∷ []) (counting (Rested 1000) false))
    × (sdo (eight 0x23 0x67 0x60 0x00 0x05 0x00 0x00 0x00) (counting (Rested 1000) false) fresh
    ≡ leaves (write position_window 5 ∷ []) (frame 0x585 (eight 0x60 0x67 0x60 0x00 0x00 0x00 0x00 0x00) ∷ []) (counting (Rested 1000) false))
    × ((sdo (eight 0x23 0x7A 0x60 0x00 0x05 0x00 0x00 0x00) (counting (Rested 1000) false) fresh).state ≡ counting (Rested 1000) false)
unfolding open_edges
count_not_written = (refl, refl, refl)

-- ---- held frames

abbrev none : PdoData
none = record { length = 0; bytes = eight 0x00 0x00 0x00 0x00 0x00 0x00 0x00 0x00 }

abbrev held2 : ℕ → PdoData
held2 w = record { length = 2; bytes = eight w 0x00 0x00 0x00 0x00 0x00 0x00 0x00 }

abbrev held3 : ℕ → ℕ → PdoData
held3 w m = record { length = 3; bytes = eight w 0x00 m 0x00 0x00 0x00 0x00 0x00 }

abbrev held6 : ℕ → ℕ → PdoData
held6 w v = record { length = 6; bytes = eight w 0x00 v 0x00 0x00 0x00 0x00 0x00 }

-- receive PDOs of that type
typed : ℕ → List ℕ
typed t = stored (map (λ p. write (transmission_type p) t) receive_pdos) fresh

-- "Types 254, 255 apply at once; others are held": 0, 1, 239, 240, 254, 255
each_type : map (λ t. (received 0 (0x06 ∷ 0x00 ∷ []) operational (typed t)).state) (0 ∷ 1 ∷ 239 ∷ 240 ∷ 254 ∷ 255 ∷ [])
    ≡ with_held (held2 0x06 ∷ none ∷ none ∷ none ∷ []) operational
    ∷ with_held (held2 0x06 ∷ none ∷ none ∷ none ∷ []) operational
    ∷ with_held (held2 0x06 ∷ none ∷ none ∷ none ∷ []) operational
    ∷ with_held (held2 0x06 ∷ none ∷ none ∷ none ∷ []) operational
    ∷ node Operational ReadyToSwitchOn
    ∷ node Operational ReadyToSwitchOn
    ∷ []
unfolding typed open_edges
each_type = refl

-- each by its own type: receive 2 of type 1 is held, receive 1 of type 255 applied
own_type : ((received 1 (0x06 ∷ 0x00 ∷ 0x01 ∷ []) operational (store (transmission_type 1) 1 fresh)).state
    ≡ with_held (none ∷ held3 0x06 1 ∷ none ∷ none ∷ []) operational)
    × ((received 0 (0x06 ∷ 0x00 ∷ []) operational (store (transmission_type 1) 1 fresh)).state ≡ node Operational ReadyToSwitchOn)
unfolding open_edges
own_type = (refl, refl)

-- "the latest kept", each for its own PDO; one that is too long is held without what is over
each_held : (received 1 (0x07 ∷ 0x00 ∷ 0x03 ∷ []) (with_held (held2 0x06 ∷ held3 0x0F 1 ∷ none ∷ held6 0x0F 9 ∷ []) operational) (typed 1)
    ≡ becomes (with_held (held2 0x06 ∷ held3 0x07 3 ∷ none ∷ held6 0x0F 9 ∷ []) operational))
    × (received 3 (0x07 ∷ 0x00 ∷ 0x05 ∷ 0x00 ∷ 0x00 ∷ 0x00 ∷ 0x77 ∷ []) operational (typed 240)
    ≡ sends (emcy 0x20 0x82 0x00 ∷ []) (becomes (with_held (none ∷ none ∷ none ∷ held6 0x07 5 ∷ []) operational)))
unfolding typed open_edges
each_held = (refl, refl)

-- a held frame's values are looked at when it arrives; one that is dropped, by 8200h or 8210h, leaves an older one where it is
dropped_leaves : (received 1 (0x07 ∷ 0x00 ∷ 0x02 ∷ []) (with_held (none ∷ held3 0x06 1 ∷ none ∷ none ∷ []) operational) (typed 1)
    ≡ sends (emcy 0x00 0x82 0x00 ∷ []) (becomes (with_held (none ∷ held3 0x06 1 ∷ none ∷ none ∷ []) operational)))
    × (received 1 (0x07 ∷ 0x00 ∷ []) (with_held (none ∷ held3 0x06 1 ∷ none ∷ none ∷ []) operational) (typed 1)
    ≡ sends (emcy 0x10 0x82 0x00 ∷ []) (becomes (with_held (none ∷ held3 0x06 1 ∷ none ∷ none ∷ []) operational)))
unfolding typed open_edges
dropped_leaves = (refl, refl)

-- "It applies held frames 1 to 4": 06h, 07h with mode 1, 1Fh with 607Ah 100, 0Fh with 60FFh 5: each sees what those before it left
four_held : sync [] (with_held (held2 0x06 ∷ held3 0x07 1 ∷ held6 0x1F 100 ∷ held6 0x0F 5 ∷ []) operational) (typed 1)
    ≡ record {
      state = moving (Moving (point 100)) false;
      writes =
          write control_word 0x06
          ∷ write control_word 0x07
          ∷ write mode 1
          ∷ write control_word 0x1F
          ∷ write target_position 100
          ∷ write control_word 0x0F
          ∷ write target_velocity 5
          ∷ [];
      sent = [];
      occasion = Synced;
    }
unfolding typed open_edges
four_held = refl

-- the second's old word is the first's: 1Fh and 1Fh take one set-point, 0Fh between them two
edge_between : ((sync [] (with_held (held2 0x1F ∷ none ∷ held6 0x1F 9 ∷ none ∷ []) (moving Empty false)) (store target_position 8 (typed 0))).state
    ≡ moving (Moving (point 8)) true)
    × ((sync [] (with_held (held2 0x0F ∷ none ∷ held6 0x1F 9 ∷ none ∷ []) (moving (Moving (point 8)) true)) (store control_word 0x1F (typed 0))).state
    ≡ moving (Queued (point 8) (point 9)) true)
unfolding typed open_edges
edge_between = (refl, refl)

-- ticket 2: one taken by a held frame is a new active set-point, one queued behind is none
counted_anew_at_sync :
    ((sync [] (with_held (held2 0x1F ∷ none ∷ held6 0x0F 9 ∷ none ∷ []) (counting (Rested 8) false)) (store target_position 8 (typed 0))).state
    ≡ moving (Moving (point 8)) false)
    × ((sync [] (with_held (held2 0x0F ∷ none ∷ held6 0x1F 9 ∷ none ∷ []) (counting (Moving (point 8)) true))
    (store control_word 0x1F (typed 0))).state
    ≡ counting (Queued (point 8) (point 9)) true)
unfolding typed open_edges
counted_anew_at_sync = (refl, refl)

-- a frame of one byte is held too: 6060h alone
one_byte : List ℕ
one_byte = stored (write (map_count 0) 1 ∷ write (map_entry 0 1) 0x60600008 ∷ []) (typed 1)

one_byte_held : ((received 0 (0x03 ∷ []) operational one_byte).state
    ≡ with_held (record { length = 1; bytes = eight 0x03 0x00 0x00 0x00 0x00 0x00 0x00 0x00 } ∷ none ∷ none ∷ none ∷ []) operational)
    × (sync [] (with_held (record { length = 1; bytes = eight 0x03 0x00 0x00 0x00 0x00 0x00 0x00 0x00 } ∷ none ∷ none ∷ none ∷ [])
    operational) one_byte
    ≡ record {
      state = with_drive (with_mode ProfileVelocity operational.axis.drive) operational;
      writes = write mode 3 ∷ [];
      sent = [];
      occasion = Synced;
    })
unfolding typed one_byte open_edges
one_byte_held = (refl, refl)

-- a held fault reset: emergency 0000h at the SYNC
held_reset : sync [] (with_held (none ∷ none ∷ none ∷ held6 0x80 0 ∷ []) (node Operational Fault)) (store error_register 0x81 (typed 1))
    ≡ record {
      state = operational;
      writes = write control_word 0x80 ∷ write target_velocity 0 ∷ write error_register 0 ∷ [];
      sent = emcy 0x00 0x00 0x00 ∷ [];
      occasion = Synced;
    }
unfolding typed open_edges
held_reset = refl

-- "emergencies in order of cause", on the occasion of the first
in_order_of_cause_lem : and_then fresh (on Synced (sends (emcy 0x20 0x82 0x00 ∷ []) (becomes stopped)))
    (λ s d. sends (emcy 0x00 0x82 0x00 ∷ []) (becomes operational))
    ≡ record { state = operational; writes = []; sent = emcy 0x20 0x82 0x00 ∷ emcy 0x00 0x82 0x00 ∷ []; occasion = Synced }
unfolding open_edges
in_order_of_cause_lem = refl

-- ---- SYNC

-- "SYNC is 80h"
sync_on : sync_base ≡ 0x80
sync_on = refl

holding : State
holding = with_held (held2 0x06 ∷ none ∷ none ∷ none ∷ []) operational

-- "length 0; another length gives 8240h only": of 1, 2 and 8 bytes a held frame stays; 1001h as it stands
sync_of_lengths : (map (λ bs. sync bs holding (store error_register 0x81 (typed 1))) ((0x00 ∷ []) ∷ (0x01 ∷ 0x00 ∷ []) ∷ data8 ∷ [])
    ≡ sends (emcy 0x40 0x82 0x81 ∷ []) (becomes holding) ∷ sends (emcy 0x40 0x82 0x81 ∷ []) (becomes holding)
    ∷ sends (emcy 0x40 0x82 0x81 ∷ []) (becomes holding) ∷ [])
    × (sync (0x00 ∷ []) pre_operational fresh ≡ sends (emcy 0x40 0x82 0x00 ∷ []) (becomes pre_operational))
    × (sync [] stopped fresh ≡ becomes stopped)
unfolding typed holding data8 open_edges
sync_of_lengths = (refl, refl, refl)

-- ---- which PDO

-- what a frame on that identifier sends, and 6040h, 6060h, 607Ah, 60FFh after it
on_identifier : State → List ℕ → ℕ → List ℕ → List Frame × List ℕ
on_identifier s d i bs =
    let e = received_by receive_pdos i bs s d in
    (e.sent, map (after d e) (control_word ∷ mode ∷ target_position ∷ target_velocity ∷ []))

-- 205h, 305h, 405h, 505h are receive 1 to 4; 185h, 204h, 206h and 605h are none of them
each_identifier : map (λ i. on_identifier operational fresh i (0x06 ∷ 0x00 ∷ 0x01 ∷ 0x00 ∷ 0x00 ∷ 0x00 ∷ []))
    (0x205 ∷ 0x305 ∷ 0x405 ∷ 0x505 ∷ 0x185 ∷ 0x204 ∷ 0x206 ∷ 0x605 ∷ [])
    ≡ (emcy 0x20 0x82 0x00 ∷ [], 6 ∷ 0 ∷ 0 ∷ 0 ∷ [])
    ∷ (emcy 0x20 0x82 0x00 ∷ [], 6 ∷ 1 ∷ 0 ∷ 0 ∷ [])
    ∷ ([], 6 ∷ 0 ∷ 1 ∷ 0 ∷ [])
    ∷ ([], 6 ∷ 0 ∷ 0 ∷ 1 ∷ [])
    ∷ ([], 0 ∷ 0 ∷ 0 ∷ 0 ∷ [])
    ∷ ([], 0 ∷ 0 ∷ 0 ∷ 0 ∷ [])
    ∷ ([], 0 ∷ 0 ∷ 0 ∷ 0 ∷ [])
    ∷ ([], 0 ∷ 0 ∷ 0 ∷ 0 ∷ [])
    ∷ []
unfolding on_identifier open_edges
each_identifier = refl

-- "A PDO works only in Operational, valid, with something mapped": else its frame is of no kind served, with no emergency
not_served : (map (λ s. on_identifier s fresh 0x205 (0x06 ∷ [])) (pre_operational ∷ operational ∷ stopped ∷ [])
    ≡ ([], 0 ∷ 0 ∷ 0 ∷ 0 ∷ []) ∷ (emcy 0x10 0x82 0x00 ∷ [], 0 ∷ 0 ∷ 0 ∷ 0 ∷ []) ∷ ([], 0 ∷ 0 ∷ 0 ∷ 0 ∷ []) ∷ [])
    × (on_identifier operational (store (identifier 0) 0x80000205 fresh) 0x205 (0x06 ∷ 0x00 ∷ []) ≡ ([], 0 ∷ 0 ∷ 0 ∷ 0 ∷ []))
    × (on_identifier operational (store (map_count 0) 0 fresh) 0x205 (0x06 ∷ 0x00 ∷ []) ≡ ([], 0 ∷ 0 ∷ 0 ∷ 0 ∷ []))
unfolding on_identifier open_edges
not_served = (refl, refl, refl)

-- "a valid one lies in 181h..57Fh": receive 1 at either end; a PDO's identifier is the eleven bits of its word
identifier_ends : (on_identifier operational (store (identifier 0) 0x181 fresh) 0x181 (0x06 ∷ 0x00 ∷ []) ≡ ([], 6 ∷ 0 ∷ 0 ∷ 0 ∷ []))
    × (on_identifier operational (store (identifier 0) 0x57F fresh) 0x57F (0x06 ∷ 0x00 ∷ []) ≡ ([], 6 ∷ 0 ∷ 0 ∷ 0 ∷ []))
    × (listens 0x185 Operational fresh 4 ≡ true)
unfolding on_identifier open_edges
identifier_ends = (refl, refl, refl)

-- receive and transmit, with one and with two mapped
working : (map (λ m. works m fresh 4) (PreOperational ∷ Operational ∷ Stopped ∷ []) ≡ false ∷ true ∷ false ∷ [])
    × (map (works Operational fresh) (0 ∷ 1 ∷ 2 ∷ 3 ∷ 4 ∷ 5 ∷ 6 ∷ 7 ∷ []) ≡ true ∷ true ∷ true ∷ true ∷ true ∷ true ∷ true ∷ true ∷ [])
    × (map (works Operational (store (identifier 6) 0xC0000385 fresh)) (2 ∷ 5 ∷ 6 ∷ 7 ∷ []) ≡ true ∷ true ∷ false ∷ true ∷ [])
    × (map (works Operational (store (map_count 7) 0 fresh)) (3 ∷ 6 ∷ 7 ∷ []) ≡ true ∷ true ∷ false ∷ [])
unfolding open_edges
working = (refl, refl, refl, refl)

-- ---- transmit

-- on 185h and 485h, as many bytes as are mapped
transmitted_frames : (transmitted fresh 4 (record { length = 2; bytes = eight 0x37 0x02 0x00 0x00 0x00 0x00 0x00 0x00 })
    ≡ frame 0x185 (0x37 ∷ 0x02 ∷ []))
    × (transmitted fresh 7 (record { length = 8; bytes = eight 1 2 3 4 5 6 7 8 }) ≡ frame 0x485 (eight 1 2 3 4 5 6 7 8))
unfolding open_edges
transmitted_frames = (refl, refl)

abbrev kept : ℕ → Bool → Pace
kept count due = record { count = count; due = due }

-- "Type 1..240: each n-th SYNC": of 240 the 240th; between SYNCs the count stays; a change, a tick or entering sends none
each_nth_sync : (pace_of 240 Synced false (kept 238 false) ≡ paced false 239 false) × (pace_of 240 Synced false (kept 239 false) ≡ paced true 0 false)
    × (pace_of 240 Plain true (kept 239 false) ≡ paced false 239 false) × (pace_of 240 Ticked true (kept 5 false) ≡ paced false 5 false)
    × (pace_of 1 Plain true (kept 0 false) ≡ paced false 0 false) × (pace_of 2 Synced true (kept 0 false) ≡ paced false 1 false)
    × (pace_of 2 Synced false (kept 1 false) ≡ paced true 0 false)
unfolding open_edges
each_nth_sync = (refl, refl, refl, refl, refl, refl, refl)

-- "Type 0: if any call, this one included, changed its ready frame since last sent": at SYNC alone
type_0 : (pace_of 0 Ticked true (kept 0 false) ≡ paced false 0 true) × (pace_of 0 Plain true (kept 0 true) ≡ paced false 0 true)
    × (pace_of 0 Plain false (kept 0 false) ≡ paced false 0 false) × (pace_of 0 Synced true (kept 0 true) ≡ paced true 0 false)
unfolding open_edges
type_0 = (refl, refl, refl, refl)

-- "254, 255: whenever a call .. changed its ready frame or entered": with SYNC, a tick or neither, and not without
types_254_255 : (map (λ t. pace_of t Plain true (kept 0 false)) (254 ∷ 255 ∷ []) ≡ paced true 0 false ∷ paced true 0 false ∷ [])
    × (map (λ t. pace_of t Synced true (kept 0 false)) (254 ∷ 255 ∷ []) ≡ paced true 0 false ∷ paced true 0 false ∷ [])
    × (map (λ t. pace_of t Ticked true (kept 0 false)) (254 ∷ 255 ∷ []) ≡ paced true 0 false ∷ paced true 0 false ∷ [])
    × (map (λ t. pace_of t Synced false (kept 0 false)) (254 ∷ 255 ∷ []) ≡ paced false 0 false ∷ paced false 0 false ∷ [])
    × (map (λ t. pace_of t Plain false (kept 0 false)) (254 ∷ 255 ∷ []) ≡ paced false 0 false ∷ paced false 0 false ∷ [])
unfolding open_edges
types_254_255 = (refl, refl, refl, refl, refl)
