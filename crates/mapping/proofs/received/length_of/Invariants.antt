-- `mapping::received::length_of` meets its contract: what is counted and what is left are all the bytes. Assumes nothing.
use Prim.Native.Nat.{◌+◌}
use mathlib.Core.Path.{◌≡◌}
use mathlib.Core.List.{map}
use Rattle.form.specs.Form.{plan_in, move_of}
use Rattle.mapping.specs.Slots.{words_from}
use Rattle.mapping.specs.Received.{moves_of, sizes}
use Rattle.mapping.proofs.received.length_of.Given as goal

abbrev pub invariant-loop-word : goal.invariant-loop-word
invariant-loop-word l =
    ((goal.iterator-loop-word).can_next l.word-iterator × (goal.iterator-loop-word).is_finite l.word-iterator)
    × (l.total + sizes (map move_of (words_from l.word-iterator.left l.word-iterator.spot l.word-iterator.state.now))
    ≡ sizes (moves_of (plan_in l.state l.p)))
