use Rattle.soundness.proofs.rows.communications_legal.Goals as goal

pub returns : goal.returns
returns c = cc
