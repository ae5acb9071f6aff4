-- `mapping::received::store_values` meets its contract: storing what is left is storing all. Assumes nothing.
use Prim.Native.Nat.{◌+◌, ◌≤◌}
use mathlib.Core.Path.{◌≡◌}
use mathlib.Core.List.{map}
use lib.ListN.{length, drop}
use Rattle.rules_dictionary.specs.Table.{dictionary_length}
use Rattle.form.specs.Form.{plan_in, move_of}
use Rattle.mapping.specs.Slots.{words_from}
use Rattle.mapping.specs.Received.{moves_of, sizes, stored_moves}
use Rattle.mapping.proofs.PlanWords.{EachFits}
use Rattle.mapping.proofs.received.store_values.Given as goal

abbrev pub invariant-loop-word : goal.invariant-loop-word
invariant-loop-word l =
    ((goal.iterator-loop-word).can_next l.word-iterator × (goal.iterator-loop-word).is_finite l.word-iterator)
    × (EachFits (map move_of (words_from l.word-iterator.left l.word-iterator.spot l.word-iterator.state.now))
    × ((l.at + sizes (map move_of (words_from l.word-iterator.left l.word-iterator.spot l.word-iterator.state.now)) ≤ 8)
    × ((length l.d ≡ dictionary_length) × (stored_moves (map move_of (words_from l.word-iterator.left l.word-iterator.spot l.word-iterator.state.now))
    (drop l.at l.content) l.d
    ≡ stored_moves (moves_of (plan_in l.state l.p)) l.content l.initial.d))))
