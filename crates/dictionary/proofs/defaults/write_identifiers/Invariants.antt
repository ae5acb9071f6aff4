-- So many identifiers are written. Assumes nothing.
use Rattle.std.proofs.Common.{◌≡◌}
use Rattle.dictionary.proofs.Filled.{some_from}
use Rattle.dictionary.proofs.defaults.write_identifiers.Given as goal

abbrev pub invariant-loop-k : goal.invariant-loop-k
invariant-loop-k l = l.d ≡ some_from l.k l.p l.first l.n l.initial.d
