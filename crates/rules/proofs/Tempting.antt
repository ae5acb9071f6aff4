-- Document 01, "Tempting and wrong: .. a ready frame kept past a mapping write": whatever a call does, at its end every plan and every
-- ready frame is the one worked afresh from the dictionary that it leaves. And a script for bit 4: 1Fh twice takes one set-point.
-- Assumes nothing.
use Prim.Native.Nat.{ℕ}
use mathlib.Core.Path.{◌≡◌, refl}
use mathlib.Core.Bool.{true}
use mathlib.Core.List.{List, [], ◌∷◌, ◌++◌}
use Rattle.state.specs.declared.State.{State}
use Rattle.rules_dictionary.specs.Plans.{plans_of, ready_of}
use Rattle.rules_services.specs.Effects.{Effect}
use Rattle.rules.specs.Outcome.{ended}
use Rattle.rules.specs.Calls.{event_call}
use Rattle.rules.specs.Scripts.{Line, line, from_nothing, open_rules}
use Rattle.rules.specs.Examples.{example3, write1, aim, control, open_examples}

pub nothing_stale : (s : State) (d : List ℕ) (e : Effect) →
    ((ended s d e).state.axis.plans ≡ plans_of (ended s d e).dictionary) × ((ended s d e).state.axis.ready ≡ ready_of (ended s d e).dictionary)
unfolding ended
nothing_stale s d e = (refl, refl)

-- taken once, the store rests after one event 6, and a second is out of place
unfoldable pub bit_four_held : List Line
unfolding example3
bit_four_held =
    example3
    ++ write1 0x60 0x60 0x00 0x01 0x0237 []
    ∷ aim 0xE8 0x03 0x0237
    ∷ control 0x1F 0x1237
    ∷ control 0x1F 0x1237
    ∷ line (event_call 6 []) 0 0x1637 []
    ∷ line (event_call 6 []) 7 0x1637 []
    ∷ []

pub one_edge_takes_one : from_nothing bit_four_held ≡ true
unfolding bit_four_held open_rules open_examples
one_edge_takes_one = refl
