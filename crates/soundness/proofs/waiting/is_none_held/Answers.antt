-- `soundness::waiting::is_none_held` meets its contract. Assumes nothing.
use Rattle.soundness.proofs.Holding.{none_held_lem}
use Rattle.soundness.proofs.waiting.is_none_held.Goals as goal

pub returns : goal.returns
returns c =
    let a = c.args in
    rw (c.read4.ensures, c.read4-2.ensures) (none_held_lem a.state.now a.at)
