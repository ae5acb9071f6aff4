-- What a service does, as data: the state's own parts after it, its writes in order, what it sends in order, and the occasion that it is to
-- the call's end. Plans, ready frames and the transmit PDOs' paces are not a service's to change: `rules` works them out at that end.
-- Assumes nothing.
use Rattle.std.specs.Prelude.{ℕ, List, [], ◌++◌, Bool}
use Rattle.state.specs.declared.NmtState.{NmtState}
use Rattle.state.specs.declared.Occasion.{Occasion}
use Rattle.state.specs.declared.Occasion.TheVariants.{Plain}
use Rattle.state.specs.declared.Pace.{Pace}
use Rattle.drive.specs.declared.Drive.{Drive}
use Rattle.rules_dictionary.specs.declared.PdoData.{PdoData}
use Rattle.state.specs.declared.Axis.{Axis}
use Rattle.state.specs.declared.Node.{Node}
use Rattle.state.specs.declared.Transfer.{Transfer}
use Rattle.state.specs.declared.Transfer.TheVariants.{NoTransfer}
use Rattle.state.specs.declared.State.{State}
use Rattle.rules_dictionary.specs.Values.{Write, stored}

-- a frame on the bus: its identifier and its data bytes
pub record Frame : Type 0 where
  pub identifier : ℕ
  pub content : List ℕ

abbrev pub frame : ℕ → List ℕ → Frame
frame i bs = record { identifier = i; content = bs }

pub record Effect : Type 0 where
  pub state : State
  pub writes : List Write
  pub sent : List Frame
  pub occasion : Occasion

-- ---- effects

-- the state, and nothing written or sent
abbrev pub becomes : State → Effect
becomes s = record { state = s; writes = []; sent = []; occasion = Plain }

abbrev pub sends : List Frame → Effect → Effect
sends fs e = record { state = e.state; writes = e.writes; sent = fs ++ e.sent; occasion = e.occasion }

abbrev pub writes : List Write → Effect → Effect
writes ws e = record { state = e.state; writes = ws ++ e.writes; sent = e.sent; occasion = e.occasion }

-- on that occasion
abbrev pub on : Occasion → Effect → Effect
on o e = record { state = e.state; writes = e.writes; sent = e.sent; occasion = o }

-- one effect, and then another that starts from what the first leaves, on the occasion of the first
unfoldable pub and_then : List ℕ → Effect → (State → List ℕ → Effect) → Effect
and_then d e f =
    let e' = f e.state (stored e.writes d) in
    record { state = e'.state; writes = e.writes ++ e'.writes; sent = e.sent ++ e'.sent; occasion = e.occasion }

-- ---- the state with one part changed

abbrev pub with_axis : Axis → State → State
with_axis a s = record { node = s.node; transfer = s.transfer; axis = a }

abbrev pub with_node : Node → State → State
with_node n s = record { node = n; transfer = s.transfer; axis = s.axis }

abbrev pub with_transfer : Transfer → State → State
with_transfer t s = record { node = s.node; transfer = t; axis = s.axis }

-- nothing runs
abbrev pub without_transfer : State → State
without_transfer s = with_transfer NoTransfer s

abbrev pub with_drive : Drive → State → State
with_drive v s =
    let a = s.axis in
    with_axis (record { drive = v; plans = a.plans; ready = a.ready; held = a.held; paces = a.paces }) s

abbrev pub with_held : List PdoData → State → State
with_held h s =
    let a = s.axis in
    with_axis (record { drive = a.drive; plans = a.plans; ready = a.ready; held = h; paces = a.paces }) s

abbrev pub with_paces : List Pace → State → State
with_paces ks s =
    let a = s.axis in
    with_axis (record { drive = a.drive; plans = a.plans; ready = a.ready; held = a.held; paces = ks }) s

abbrev pub with_nmt : NmtState → State → State
with_nmt m s =
    let n = s.node in
    with_node (record { id = n.id; nmt = m; voltage = n.voltage; heartbeat = n.heartbeat }) s

abbrev pub with_voltage : Bool → State → State
with_voltage b s =
    let n = s.node in
    with_node (record { id = n.id; nmt = n.nmt; voltage = b; heartbeat = n.heartbeat }) s

abbrev pub with_heartbeat : ℕ → State → State
with_heartbeat k s =
    let n = s.node in
    with_node (record { id = n.id; nmt = n.nmt; voltage = n.voltage; heartbeat = k }) s

-- opens every definition of this module, where a proof computes
unfoldable pub open_effects : Unit {0}
unfolding and_then
open_effects = tt
