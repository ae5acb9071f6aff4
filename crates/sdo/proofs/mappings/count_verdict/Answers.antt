-- The words stand one after another. Assumes nothing.
use Rattle.std.proofs.Common.{arith}
use Rattle.mapping.proofs.Legality.{words_behind, words_room}
use Rattle.sdo.proofs.mappings.count_verdict.Goals as goal

pub words_verdict-requires : goal.words_verdict-requires
words_verdict-requires c =
    let at = c.words_place.ensures in
    (omega (arith, words_room c.args.p c.requires.1, c.requires.0, at.0), at.1)

pub returns : goal.returns
returns c =
    let a = c.args in
    rw (← words_behind a.d.now a.p, ← c.words_place.ensures.0) c.words_verdict.ensures
