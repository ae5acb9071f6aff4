-- What the PDOs from here on tell is what all eight tell. Assumes nothing.
use Rattle.std.proofs.Common.{◌≡◌, drop}
use Rattle.rules_dictionary.specs.Numbers.{any}
use Rattle.rules_dictionary.specs.Table.{pdos}
use Rattle.rules_dictionary.specs.Legal.{identifiers, clashes}
use Rattle.sdo.proofs.identifiers.is_taken.Given as goal

abbrev pub invariant-loop-q : goal.invariant-loop-q
invariant-loop-q l = any (clashes (identifiers l.d) l.p l.w) (drop l.q pdos) ≡ any (clashes (identifiers l.d) l.p l.w) pdos
