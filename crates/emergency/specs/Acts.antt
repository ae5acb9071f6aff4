-- What the node does once values are stored: 'Written', by whether 6060h and 6040h were among them.
-- Assumes nothing.
use Rattle.std.specs.Prelude.{ℕ, List, ◌≡◌, Bool, true, false, cond, length}
use Rattle.state.specs.declared.State.{State}
use Rattle.drive.specs.declared.Drive.{Drive}
use Rattle.drive.specs.SetPoints.{mode_written, control_written}
use Rattle.rules_services.specs.Effects.{Effect, becomes, with_drive}
use Rattle.rules_services.specs.Written.{fault_reset}
use Rattle.rules_services.specs.Emergency.{fault_gone}
use Rattle.rules_dictionary.specs.Table.{error_register}
use Rattle.rules_dictionary.specs.Values.{store}
use Rattle.rules.specs.Outcome.{sent_into}
use Rattle.state.specs.declared.Node.{Node}
use Rattle.state.specs.declared.Occasion.TheVariants.{Plain}
use Rattle.output.specs.declared.Done.{Done}
use Rattle.emergency.specs.Emergencies.{emergency_of}

-- 6060h acted on, where it was written
abbrev pub mode_acts : Bool → Drive → List ℕ → Drive
mode_acts written v d = cond written (mode_written d v) v

-- 6040h acted on; `old` is what stood there before the write
unfoldable pub control_acts : ℕ → State → List ℕ → Effect
control_acts old s d =
    let c = control_written d old s.axis.drive in
    let s' = with_drive c.drive s in
    cond c.reset (fault_reset s' d) (becomes s')

-- then 6060h, then 6040h, each where it was written
unfoldable pub acts : ℕ → Bool → Bool → State → List ℕ → Effect
acts old mode control s d =
    let s' = with_drive (mode_acts mode s.axis.drive d) s in
    cond control (control_acts old s' d) (becomes s')

-- what a fault reset of that node leaves: all but the state, which stays
pub record Resets (node : Node) (d o : List ℕ) (r : Done) (d' o' : List ℕ) : Type 0 where
  pub done : r ≡ record { frames = length (emergency_of fault_gone node d'); touched = true; remapped = false; occasion = Plain; quiet = false }
  pub dictionary : d' ≡ store error_register 0 d
  pub output : o' ≡ sent_into o (emergency_of fault_gone node d')
