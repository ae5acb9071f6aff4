use native.Mathlib.Omega.{arith}
use Rattle.mapping.proofs.Legality.{words_room}
use Rattle.mapping.proofs.Worked.{fresh_plan}
use Rattle.mapping.proofs.plans.plan_of.Goals as goal

pub moves_of-moves-requires : goal.moves_of-moves-requires
moves_of-moves-requires c =
    let at = c.words_place-first.ensures in
    (omega (arith, words_room c.args.p c.requires.1.0, at.0), (at.1, omega (arith, c.map_count-count.ensures, c.requires.1.1.0)))

pub returns : goal.returns
returns c =
    rw c.moves_of-moves.ensures
    (fresh_plan c.args.d.now c.args.p _ _ c.words_place-first.ensures.0 c.map_count-count.ensures c.requires.1.1.1 c.requires.1.1.0)
