-- By what its callees promise. Assumes nothing.
use Rattle.rules_services.specs.Load.{may_load}
use Rattle.load.proofs.configuration.may_load.Goals as goal

pub returns : goal.returns
unfolding may_load
returns c = rw (c.is_at_rest.ensures, c.is_pre_operational.ensures, c.read_drive.ensures, c.read_node.ensures)
