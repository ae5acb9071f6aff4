-- Document 01, 'Drive states': the commands of 6040h, and what each does in each state.
-- Assumes nothing.
use Rattle.std.specs.Prelude.{ℕ, Bool, true, false, cond, not, ◌&&◌, ◌||◌}
use Rattle.drive.specs.declared.DriveState.{DriveState}
use Rattle.drive.specs.declared.DriveState.TheVariants.{NotReady, SwitchOnDisabled, ReadyToSwitchOn, SwitchedOn, OperationEnabled}
use Rattle.drive.specs.declared.DriveState.TheVariants.{QuickStopActive, FaultReactionActive, Fault}
use Rattle.drive.specs.declared.Command.{Command}
use Rattle.drive.specs.declared.Command.TheVariants.{None, FaultReset, DisableVoltage, QuickStop, Shutdown, SwitchOn, Enable}
use Rattle.rules_dictionary.specs.Numbers.{bit}

-- ---- tests of the state

abbrev pub is_not_ready : DriveState → Bool
is_not_ready NotReady = true
is_not_ready SwitchOnDisabled = false
is_not_ready ReadyToSwitchOn = false
is_not_ready SwitchedOn = false
is_not_ready OperationEnabled = false
is_not_ready QuickStopActive = false
is_not_ready FaultReactionActive = false
is_not_ready Fault = false

abbrev pub is_enabled : DriveState → Bool
is_enabled NotReady = false
is_enabled SwitchOnDisabled = false
is_enabled ReadyToSwitchOn = false
is_enabled SwitchedOn = false
is_enabled OperationEnabled = true
is_enabled QuickStopActive = false
is_enabled FaultReactionActive = false
is_enabled Fault = false

abbrev pub is_quick_stop : DriveState → Bool
is_quick_stop NotReady = false
is_quick_stop SwitchOnDisabled = false
is_quick_stop ReadyToSwitchOn = false
is_quick_stop SwitchedOn = false
is_quick_stop OperationEnabled = false
is_quick_stop QuickStopActive = true
is_quick_stop FaultReactionActive = false
is_quick_stop Fault = false

abbrev pub is_reaction : DriveState → Bool
is_reaction NotReady = false
is_reaction SwitchOnDisabled = false
is_reaction ReadyToSwitchOn = false
is_reaction SwitchedOn = false
is_reaction OperationEnabled = false
is_reaction QuickStopActive = false
is_reaction FaultReactionActive = true
is_reaction Fault = false

abbrev pub is_fault : DriveState → Bool
is_fault NotReady = false
is_fault SwitchOnDisabled = false
is_fault ReadyToSwitchOn = false
is_fault SwitchedOn = false
is_fault OperationEnabled = false
is_fault QuickStopActive = false
is_fault FaultReactionActive = false
is_fault Fault = true

-- "the two fault states"
abbrev pub is_faulty : DriveState → Bool
is_faulty s = is_reaction s || is_fault s

-- ticket 6, "with the drive Not ready or Switch on disabled"
abbrev pub is_at_rest : DriveState → Bool
is_at_rest NotReady = true
is_at_rest SwitchOnDisabled = true
is_at_rest ReadyToSwitchOn = false
is_at_rest SwitchedOn = false
is_at_rest OperationEnabled = false
is_at_rest QuickStopActive = false
is_at_rest FaultReactionActive = false
is_at_rest Fault = false

-- ---- the bits of 6040h

abbrev pub switch_on_bit : ℕ
switch_on_bit = 0

abbrev pub voltage_bit : ℕ
voltage_bit = 1

abbrev pub quick_stop_bit : ℕ
quick_stop_bit = 2

abbrev pub enable_bit : ℕ
enable_bit = 3

abbrev pub fault_reset_bit : ℕ
fault_reset_bit = 7

-- ---- the commands

abbrev pub is_fault_reset : Command → Bool
is_fault_reset None = false
is_fault_reset FaultReset = true
is_fault_reset DisableVoltage = false
is_fault_reset QuickStop = false
is_fault_reset Shutdown = false
is_fault_reset SwitchOn = false
is_fault_reset Enable = false

-- "Bit 7 set: Fault reset if it was 0 before, else none. Otherwise: bit 1 zero, Disable voltage; bit 1 one, bit 2 zero, Quick
-- stop; 1 1 0 (bits 2-0) Shutdown; 0111 Switch on; 1111 Enable." The flags: bit 7, that of the old word, bits 1, 2, 0 and 3
abbrev pub asked : Bool → Bool → Bool → Bool → Bool → Bool → Command
asked reset was_reset voltage quick_stop switch_on enable =
    cond reset (cond was_reset None FaultReset)
    (cond (not voltage) DisableVoltage
    (cond (not quick_stop) QuickStop
    (cond (not switch_on) Shutdown
    (cond (not enable) SwitchOn Enable))))

unfoldable pub command : ℕ → ℕ → Command
command old word =
    asked (bit fault_reset_bit word) (bit fault_reset_bit old) (bit voltage_bit word) (bit quick_stop_bit word) (bit switch_on_bit word)
    (bit enable_bit word)

-- ---- what each does

-- "Switch on disabled: Shutdown to Ready."
abbrev pub from_disabled : Command → DriveState
from_disabled None = SwitchOnDisabled
from_disabled FaultReset = SwitchOnDisabled
from_disabled DisableVoltage = SwitchOnDisabled
from_disabled QuickStop = SwitchOnDisabled
from_disabled Shutdown = ReadyToSwitchOn
from_disabled SwitchOn = SwitchOnDisabled
from_disabled Enable = SwitchOnDisabled

-- "Ready, Switched on, Operation enabled: Shutdown to Ready, Switch on to Switched on, Enable to Operation enabled; Disable
-- voltage to disabled; Quick stop to disabled, but from Operation enabled to Quick stop active."
abbrev pub from_powered : DriveState → DriveState → Command → DriveState
from_powered present stopped None = present
from_powered present stopped FaultReset = present
from_powered present stopped DisableVoltage = SwitchOnDisabled
from_powered present stopped QuickStop = stopped
from_powered present stopped Shutdown = ReadyToSwitchOn
from_powered present stopped SwitchOn = SwitchedOn
from_powered present stopped Enable = OperationEnabled

-- "Quick stop active: Enable back; Disable voltage .. to disabled."
abbrev pub from_quick_stop : Command → DriveState
from_quick_stop None = QuickStopActive
from_quick_stop FaultReset = QuickStopActive
from_quick_stop DisableVoltage = SwitchOnDisabled
from_quick_stop QuickStop = QuickStopActive
from_quick_stop Shutdown = QuickStopActive
from_quick_stop SwitchOn = QuickStopActive
from_quick_stop Enable = OperationEnabled

-- "Fault: Fault reset without cause to disabled"
abbrev pub from_fault : Bool → Command → DriveState
from_fault cause None = Fault
from_fault cause FaultReset = cond cause Fault SwitchOnDisabled
from_fault cause DisableVoltage = Fault
from_fault cause QuickStop = Fault
from_fault cause Shutdown = Fault
from_fault cause SwitchOn = Fault
from_fault cause Enable = Fault

-- the state after a command; the flag says whether a fault's cause is present. "Nothing else."
unfoldable pub next : Bool → DriveState → Command → DriveState
next cause NotReady c = NotReady
next cause SwitchOnDisabled c = from_disabled c
next cause ReadyToSwitchOn c = from_powered ReadyToSwitchOn SwitchOnDisabled c
next cause SwitchedOn c = from_powered SwitchedOn SwitchOnDisabled c
next cause OperationEnabled c = from_powered OperationEnabled QuickStopActive c
next cause QuickStopActive c = from_quick_stop c
next cause FaultReactionActive c = FaultReactionActive
next cause Fault c = from_fault cause c

-- this command resets a fault
unfoldable pub resets : Bool → DriveState → Command → Bool
resets cause s c = is_fault s && is_fault_reset c && not cause

-- ---- the status word's part: "0000h, 40h, 21h, 23h, 27h, 07h, 0Fh, 08h in the order Not ready, disabled, Ready, Switched on,
-- enabled, Quick stop, reaction, Fault"

abbrev pub state_word : DriveState → ℕ
state_word NotReady = 0x0000
state_word SwitchOnDisabled = 0x40
state_word ReadyToSwitchOn = 0x21
state_word SwitchedOn = 0x23
state_word OperationEnabled = 0x27
state_word QuickStopActive = 0x07
state_word FaultReactionActive = 0x0F
state_word Fault = 0x08

-- opens every definition of this module, where a proof computes
unfoldable pub open_drive_states : Unit {0}
unfolding command next resets
open_drive_states = tt
