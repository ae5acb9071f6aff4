-- Bytes that hold a state, and what is put into them.
-- Assumes nothing.
use Rattle.std.specs.Prelude.{ℕ, ◌≡◌, List, set}
use Rattle.rules_dictionary.specs.declared.Plan.{Plan}
use Rattle.rules_dictionary.specs.declared.PdoData.{PdoData}
use Rattle.state.specs.declared.State.{State}
use Rattle.rules_services.specs.Effects.{with_axis, with_held}
use Rattle.form.specs.Form.{form}
use Rattle.form.specs.Typed.{Typed}

-- they are its form, and it is what the types allow
pub record Holds (bs : List ℕ) (s : State) : Type 0 where
  pub bytes : bs ≡ form s
  pub typed : Typed s

-- bytes that held a state hold that of it now
abbrev pub Puts : (State → State) → List ℕ → List ℕ → Type 0
Puts f bs bs' = (s : State) → Holds bs s → Holds bs' (f s)

-- ---- the state with one part changed, where a service does not change it

abbrev pub with_ready : List PdoData → State → State
with_ready r s =
    let a = s.axis in
    with_axis (record { drive = a.drive; plans = a.plans; ready = r; held = a.held; paces = a.paces }) s

abbrev pub planned : List Plan → State → State
planned ps s =
    let a = s.axis in
    with_axis (record { drive = a.drive; plans = ps; ready = a.ready; held = a.held; paces = a.paces }) s

-- one ready frame
abbrev pub readying : ℕ → PdoData → State → State
readying t r s = with_ready (set s.axis.ready t r) s

-- one held frame
abbrev pub holding : ℕ → PdoData → State → State
holding p r s = with_held (set s.axis.held p r) s
