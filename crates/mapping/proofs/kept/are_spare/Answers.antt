-- `mapping::kept::are_spare` meets its contract. Assumes nothing.
use native.Mathlib.Omega.{arith}
use mathlib.Core.Path.{sym, ◌∙◌}
use Rattle.rules_dictionary.proofs.Tests.{and_left, and_right}
use Rattle.mapping.specs.Words.{way_of}
use Rattle.mapping.specs.Kept.{ends_empty}
use Rattle.mapping.proofs.Ends.{ends_empty_lem, none_spare}
use Rattle.mapping.proofs.kept.are_spare.Goals as goal

pub returns-then-are_empty : goal.returns-then-are_empty
returns-then-are_empty c =
    let long = c.if-count-ge-HALF.true in
    let a = c.args in
    let most = c.requires.words_in_bounds.1.1 in
    let e = sym c.are_empty.ensures ∙ c.if-are_empty.true in
    let kept = ends_empty a.count a.moves a.state.now in
    sym (none_spare (way_of a.transmit) a.count a.words a.moves a.d.now a.state.now
    (ends_empty_lem a.count a.words a.d.now (and_right kept _ e) (omega arith) (omega arith))
    (ends_empty_lem a.count a.moves a.state.now (and_left kept _ e) (omega arith) (omega arith)))
