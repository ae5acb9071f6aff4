-- Document 01, 'NMT, emergency, time': emergencies. "EMCY on 80h+N: code, 1001h just after its cause, five zeros; none while Stopped."
-- Assumes nothing.
use Rattle.std.specs.Prelude.{ℕ, ◌+◌, List, [], ◌∷◌, ◌++◌, cond}
use Rattle.state.specs.declared.State.{State}
use Rattle.rules_dictionary.specs.Numbers.{bytes}
use Rattle.rules_dictionary.specs.Table.{error_register}
use Rattle.rules_dictionary.specs.Values.{read}
use Rattle.state.specs.NmtStates.{is_stopped}
use Rattle.rules_services.specs.Effects.{Frame, frame}

abbrev pub emergency_base : ℕ
emergency_base = 0x80

-- ---- the node's own codes; a fault's code is the event's

abbrev pub fault_gone : ℕ
fault_gone = 0x0000

abbrev pub value_refused : ℕ
value_refused = 0x8200

abbrev pub pdo_too_short : ℕ
pdo_too_short = 0x8210

abbrev pub pdo_too_long : ℕ
pdo_too_long = 0x8220

abbrev pub bad_sync_length : ℕ
bad_sync_length = 0x8240

-- the dictionary is the one just after the cause
unfoldable pub emergency : ℕ → State → List ℕ → List Frame
emergency code s d =
    cond (is_stopped s.node.nmt) []
    (frame (emergency_base + s.node.id) (bytes 2 code ++ read d error_register ∷ 0 ∷ 0 ∷ 0 ∷ 0 ∷ 0 ∷ []) ∷ [])

-- opens every definition of this module, where a proof computes
unfoldable pub open_emergency : Unit {0}
unfolding emergency
open_emergency = tt
