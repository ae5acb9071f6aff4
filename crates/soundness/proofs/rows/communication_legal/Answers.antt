use Rattle.soundness.proofs.rows.communication_legal.Goals as goal

pub returns : goal.returns
returns c = cc
