-- Document 01, 'NMT, emergency, time': an emergency, by the node's part of the state.
-- Assumes nothing.
use Rattle.std.specs.Prelude.{ℕ, ◌+◌, List, [], ◌∷◌, ◌++◌, cond}
use Rattle.state.specs.declared.Node.{Node}
use Rattle.state.specs.NmtStates.{is_stopped}
use Rattle.rules_dictionary.specs.Numbers.{bytes}
use Rattle.rules_dictionary.specs.Table.{error_register}
use Rattle.rules_dictionary.specs.Values.{read}
use Rattle.rules_services.specs.Effects.{Frame, frame}
use Rattle.rules_services.specs.Emergency.{emergency_base}

-- its data: "code, 1001h just after its cause, five zeros"
abbrev pub emergency_bytes : ℕ → ℕ → List ℕ
emergency_bytes code register = bytes 2 code ++ register ∷ 0 ∷ 0 ∷ 0 ∷ 0 ∷ 0 ∷ []

-- the emergency of a code on that node: none while Stopped
unfoldable pub emergency_of : ℕ → Node → List ℕ → List Frame
emergency_of code node d =
    cond (is_stopped node.nmt) [] (frame (emergency_base + node.id) (emergency_bytes code (read d error_register)) ∷ [])
