-- Node 5, as the facts of this crate take it: its defaults, its states, eight bytes in a line, and one opener of all that they compute.
-- Assumes nothing.
use Prim.Native.Nat.{ℕ}
use mathlib.Core.List.{List, [], ◌∷◌}
use Rattle.state.specs.declared.NmtState.{NmtState}
use Rattle.state.specs.declared.NmtState.TheVariants.{PreOperational, Operational, Stopped}
use Rattle.drive.specs.declared.DriveState.{DriveState}
use Rattle.drive.specs.declared.DriveState.TheVariants.{SwitchOnDisabled}
use Rattle.state.specs.declared.State.{State}
use Rattle.rules_dictionary.specs.Numbers.{open_numbers}
use Rattle.rules_dictionary.specs.Table.{Row, table, open_table}
use Rattle.rules_dictionary.specs.Values.{read, stored, open_values, packed_defaults}
use Rattle.rules_dictionary.specs.Aborts.{open_aborts}
use Rattle.rules_dictionary.specs.Legal.{open_legal}
use Rattle.rules_dictionary.specs.Plans.{open_plans}
use Rattle.drive.specs.DriveStates.{open_drive_states}
use Rattle.drive.specs.SetPoints.{with_state, open_set_points}
use Rattle.drive.specs.StatusWord.{open_status_word}
use Rattle.rules_services.specs.Effects.{Effect, Frame, frame, with_nmt, with_drive, open_effects}
use Rattle.rules_services.specs.Emergency.{open_emergency}
use Rattle.rules_services.specs.Written.{open_written}
use Rattle.rules_services.specs.Sdo.{open_sdo}
use Rattle.rules_services.specs.Segments.{open_segments}
use Rattle.rules_services.specs.SdoServer.{open_sdo_server}
use Rattle.rules_services.specs.PdoTraffic.{open_pdo_traffic}
use Rattle.rules_services.specs.Nmt.{fresh_state, open_nmt}
use Rattle.rules_services.specs.Events.{open_events}
use Rattle.rules_services.specs.Load.{open_load}

unfoldable pub fresh : List ℕ
fresh = packed_defaults 5 table

unfoldable pub node : NmtState → DriveState → State
node m v = with_nmt m (with_drive (with_state v (fresh_state 5).axis.drive) (fresh_state 5))

unfoldable pub pre_operational : State
pre_operational = node PreOperational SwitchOnDisabled

unfoldable pub operational : State
operational = node Operational SwitchOnDisabled

unfoldable pub stopped : State
stopped = node Stopped SwitchOnDisabled

-- eight bytes
abbrev pub eight : (b0 b1 b2 b3 b4 b5 b6 b7 : ℕ) → List ℕ
eight b0 b1 b2 b3 b4 b5 b6 b7 = b0 ∷ b1 ∷ b2 ∷ b3 ∷ b4 ∷ b5 ∷ b6 ∷ b7 ∷ []

-- one frame of eight bytes
abbrev pub sent8 : (i b0 b1 b2 b3 b4 b5 b6 b7 : ℕ) → List Frame
sent8 i b0 b1 b2 b3 b4 b5 b6 b7 = frame i (eight b0 b1 b2 b3 b4 b5 b6 b7) ∷ []

-- the value of a row after an effect on that dictionary
unfoldable pub after : List ℕ → Effect → Row → ℕ
after d e x = read (stored e.writes d) x

unfoldable pub open_edges : Unit {0}
unfolding fresh node pre_operational operational stopped after packed_defaults open_numbers open_table open_values open_aborts open_legal open_plans
    open_drive_states open_set_points open_status_word open_effects open_emergency open_written open_sdo open_segments
    open_sdo_server open_pdo_traffic open_nmt open_events open_load
open_edges = tt
