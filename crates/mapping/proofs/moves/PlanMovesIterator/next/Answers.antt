use native.Mathlib.Omega.{arith}
use Rattle.mapping.proofs.PlanWords.{no_words, words_step}
use Rattle.mapping.proofs.moves.PlanMovesIterator.next.Goals as goal

pub returns-then-self-eq0-clause-steps : goal.returns-then-self-eq0-clause-steps
returns-then-self-eq0-clause-steps c =
    let s = c.args.self.now in
    (no_words s.left s.spot s.state.now (omega arith), no_words s.left s.spot s.state.now (omega arith))

pub returns-clause-steps : goal.returns-clause-steps
returns-clause-steps c =
    let s = c.args.self.now in
    rw c.read4-word.ensures (words_step s.left s.spot s.state.now (omega arith))
