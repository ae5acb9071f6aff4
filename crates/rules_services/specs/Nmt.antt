-- Document 01, 'NMT, emergency, time': the NMT commands, power-up, boot-up and heartbeat.
-- Assumes nothing.
use Rattle.std.specs.Prelude.{ℕ, suc, ◌+◌, List, [], ◌∷◌, false, cond, ◌&&◌, ◌||◌, eqb, ltb, get_or, length}
use Rattle.state.specs.declared.NmtState.{NmtState}
use Rattle.state.specs.declared.NmtState.TheVariants.{PreOperational, Operational, Stopped}
use Rattle.state.specs.NmtStates.{is_operational, is_pre_operational}
use Rattle.rules_dictionary.specs.declared.Mode.TheVariants.{NoMode}
use Rattle.drive.specs.declared.DriveState.TheVariants.{NotReady}
use Rattle.drive.specs.declared.Store.TheVariants.{Empty}
use Rattle.state.specs.declared.Transfer.TheVariants.{NoTransfer}
use Rattle.state.specs.declared.State.{State}
use Rattle.rules_dictionary.specs.Numbers.{filter}
use Rattle.rules_dictionary.specs.Table.{table, heartbeat_time, is_reset}
use Rattle.rules_dictionary.specs.Values.{read, to_defaults}
use Rattle.drive.specs.declared.Command.TheVariants.{DisableVoltage}
use Rattle.drive.specs.DriveStates.{next}
use Rattle.drive.specs.SetPoints.{enters}
use Rattle.rules_services.specs.Effects.{Effect, Frame, frame, becomes, sends, writes, with_drive, with_held, with_paces, with_nmt, with_heartbeat}
use Rattle.rules_services.specs.Effects.{without_transfer}
use Rattle.rules_services.specs.PdoTraffic.{none_held, all_idle}

-- ---- heartbeat and boot-up on 700h+N

abbrev pub heartbeat_base : ℕ
heartbeat_base = 0x700

-- "04h Stopped, 05h Operational, 7Fh"
abbrev pub state_byte : NmtState → ℕ
state_byte PreOperational = 0x7F
state_byte Operational = 0x05
state_byte Stopped = 0x04

abbrev pub boot_up_byte : ℕ
boot_up_byte = 0x00

abbrev pub boot_up : ℕ → List Frame
boot_up n = frame (heartbeat_base + n) (boot_up_byte ∷ []) ∷ []

abbrev pub heartbeat : State → List Frame
heartbeat s = frame (heartbeat_base + s.node.id) (state_byte s.node.nmt ∷ []) ∷ []

-- "each 1017h ticks, in all states"
unfoldable pub tick : State → List ℕ → Effect
tick s d =
    let period = read d heartbeat_time in
    let count = suc s.node.heartbeat in
    cond (eqb period 0) (becomes s)
    (cond (ltb count period) (becomes (with_heartbeat count s)) (sends (heartbeat s) (becomes (with_heartbeat 0 s))))

-- ---- power-up

-- "Power-up ends in Pre-operational, Not ready, voltage off"; plans and ready frames are worked out at the call's end
unfoldable pub fresh_state : ℕ → State
fresh_state n =
    record {
      node = record { id = n; nmt = PreOperational; voltage = false; heartbeat = 0 };
      transfer = NoTransfer;
      axis = record {
        drive = record { state = NotReady; mode = NoMode; store = Empty; taken = false; limit = false; cause = false; stay = 0 };
        plans = [];
        ready = [];
        held = none_held;
        paces = all_idle;
      };
    }

-- "81h and power-up all, mappings included"; "with boot-up 700h+N, 00h"
unfoldable pub power_up : ℕ → Effect
power_up n = writes (to_defaults n table) (sends (boot_up n) (becomes (fresh_state n)))

-- ---- the commands: "Identifier 0, length 2, node 0 or N"

abbrev pub nmt_identifier : ℕ
nmt_identifier = 0x000

abbrev pub nmt_length : ℕ
nmt_length = 2

abbrev pub every_node : ℕ
every_node = 0

pub data NmtCommand : Type 0 where
  start stop enter_pre_operational reset_node reset_communication unknown : NmtCommand

-- "01h Operational, 02h Stopped, 80h Pre-operational, 81h as power-up, 82h .."
unfoldable pub command_of : ℕ → NmtCommand
command_of c =
    cond (eqb c 0x01) start
    (cond (eqb c 0x02) stop (cond (eqb c 0x80) enter_pre_operational (cond (eqb c 0x81) reset_node (cond (eqb c 0x82) reset_communication unknown))))

-- "Leaving Operational clears held frames, counts and due marks." The call's end would clear counts and due marks too (`Outcome.pace_for`: a PDO
-- that does not work keeps none); they are cleared here as well, so that the state which leaves Operational is sound by itself.
unfoldable pub left : State → State
left s = with_held none_held (with_paces all_idle s)

-- "02h and 82h also act as Disable voltage (001); 6040h keeps its value."
unfoldable pub voltage_disabled : State → State
voltage_disabled s =
    let v = s.axis.drive in
    with_drive (enters (next v.cause v.state DisableVoltage) v) s

-- "01h and 80h to the present state do nothing." "82h or leaving the NMT states that serve SDO ends a running transfer", so 02h too
unfoldable pub commanded : NmtCommand → State → Effect
commanded start s = cond (is_operational s.node.nmt) (becomes s) (becomes (with_nmt Operational s))
commanded stop s = becomes (without_transfer (with_nmt Stopped (left (voltage_disabled s))))
commanded enter_pre_operational s = cond (is_pre_operational s.node.nmt) (becomes s) (becomes (with_nmt PreOperational (left s)))
commanded reset_node s = power_up s.node.id
commanded reset_communication s =
    writes (to_defaults s.node.id (filter is_reset table))
    (sends (boot_up s.node.id) (becomes (without_transfer (with_nmt PreOperational (with_heartbeat 0 (left (voltage_disabled s)))))))
commanded unknown s = becomes s

unfoldable pub nmt : List ℕ → State → Effect
nmt bs s =
    cond (eqb (length bs) nmt_length && (eqb (get_or bs 1 0) every_node || eqb (get_or bs 1 0) s.node.id))
    (commanded (command_of (get_or bs 0 0)) s)
    (becomes s)

-- opens every definition of this module, where a proof computes
unfoldable pub open_nmt : Unit {0}
unfolding tick fresh_state power_up command_of left voltage_disabled commanded nmt
open_nmt = tt
