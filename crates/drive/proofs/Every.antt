-- A test of every state of the drive, and of every command in it, with a cause and without.
-- Assumes nothing.
use Rattle.std.proofs.Common.{◌≡◌, Bool, true, false, ◌&&◌, List, [], ◌∷◌}
use Rattle.rules_dictionary.specs.Members.{In, here, there}
use Rattle.rules_dictionary.specs.Numbers.{all}
use Rattle.rules_dictionary.proofs.Tests.{and_left, and_right, all_in}
use Rattle.drive.specs.declared.DriveState.{DriveState}
use Rattle.drive.specs.declared.DriveState.TheVariants.{NotReady, SwitchOnDisabled, ReadyToSwitchOn, SwitchedOn, OperationEnabled}
use Rattle.drive.specs.declared.DriveState.TheVariants.{QuickStopActive, FaultReactionActive, Fault}
use Rattle.drive.specs.declared.Command.{Command}
use Rattle.drive.specs.declared.Command.TheVariants.{None, FaultReset, DisableVoltage, QuickStop, Shutdown, SwitchOn, Enable}

abbrev pub states : List DriveState
states =
    NotReady ∷ SwitchOnDisabled ∷ ReadyToSwitchOn ∷ SwitchedOn ∷ OperationEnabled ∷ QuickStopActive ∷ FaultReactionActive ∷ Fault ∷ []

state_in : (s : DriveState) → In s states
state_in NotReady = here
state_in SwitchOnDisabled = there here
state_in ReadyToSwitchOn = there (there here)
state_in SwitchedOn = there (there (there here))
state_in OperationEnabled = there (there (there (there here)))
state_in QuickStopActive = there (there (there (there (there here))))
state_in FaultReactionActive = there (there (there (there (there (there here)))))
state_in Fault = there (there (there (there (there (there (there here))))))

abbrev pub commands : List Command
commands = None ∷ FaultReset ∷ DisableVoltage ∷ QuickStop ∷ Shutdown ∷ SwitchOn ∷ Enable ∷ []

command_in_lem : (c : Command) → In c commands
command_in_lem None = here
command_in_lem FaultReset = there here
command_in_lem DisableVoltage = there (there here)
command_in_lem QuickStop = there (there (there here))
command_in_lem Shutdown = there (there (there (there here)))
command_in_lem SwitchOn = there (there (there (there (there here))))
command_in_lem Enable = there (there (there (there (there (there here)))))

pub on_states : (f : DriveState → Bool) → all f states ≡ true → (s : DriveState) → f s ≡ true
on_states f h s = all_in f (state_in s) h

pub on_ways : (f : Bool → DriveState → Command → Bool) → all (λ s. all (λ c. f true s c && f false s c) commands) states ≡ true →
    (b : Bool) (s : DriveState) (c : Command) → f b s c ≡ true
on_ways f h b s c =
    let k = all_in (λ c. f true s c && f false s c) (command_in_lem c) (all_in (λ s. all (λ c. f true s c && f false s c) commands) (state_in s) h) in
    elim b as (λ x. f x s c ≡ true) [ true ↦ and_left (f true s c) (f false s c) k | false ↦ and_right (f true s c) (f false s c) k ]
