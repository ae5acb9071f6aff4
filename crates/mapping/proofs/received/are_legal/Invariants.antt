-- `mapping::received::are_legal` meets its contract: those left are legal in the bytes left as all are in all. Assumes nothing.
use Prim.Native.Nat.{◌+◌, ◌≤◌}
use mathlib.Core.Path.{◌≡◌}
use mathlib.Core.List.{map}
use lib.ListN.{drop}
use Rattle.form.specs.Form.{plan_in, move_of}
use Rattle.mapping.specs.Slots.{words_from}
use Rattle.mapping.specs.Received.{moves_of, sizes, moves_legal}
use Rattle.mapping.proofs.PlanWords.{EachFits}
use Rattle.mapping.proofs.received.are_legal.Given as goal

abbrev pub invariant-loop-word : goal.invariant-loop-word
invariant-loop-word l =
    ((goal.iterator-loop-word).can_next l.word-iterator × (goal.iterator-loop-word).is_finite l.word-iterator)
    × (EachFits (map move_of (words_from l.word-iterator.left l.word-iterator.spot l.word-iterator.state.now))
    × ((l.byte + sizes (map move_of (words_from l.word-iterator.left l.word-iterator.spot l.word-iterator.state.now)) ≤ 8)
    × (moves_legal (map move_of (words_from l.word-iterator.left l.word-iterator.spot l.word-iterator.state.now))
    (drop l.byte l.content)
    ≡ moves_legal (moves_of (plan_in l.state l.p)) l.content)))
