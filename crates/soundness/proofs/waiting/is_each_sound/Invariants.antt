-- `soundness::waiting::is_each_sound` meets its contract. Assumes nothing.
use Prim.Native.Nat.{◌≤◌}
use Rattle.rules_dictionary.specs.Table.{each_way}
use Rattle.soundness.proofs.Every.{Left, waits}
use Rattle.soundness.proofs.waiting.is_each_sound.Given as goal

abbrev pub invariant-loop-t : goal.invariant-loop-t
invariant-loop-t l = Left (waits l.state l.d l.m) each_way l.t × (l.t ≤ each_way)
