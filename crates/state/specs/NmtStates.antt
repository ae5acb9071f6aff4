-- Document 01, 'NMT, emergency, time': tests of the NMT state.
-- Assumes nothing.
use Rattle.std.specs.Prelude.{Bool, true, false}
use Rattle.state.specs.declared.NmtState.{NmtState}
use Rattle.state.specs.declared.NmtState.TheVariants.{PreOperational, Operational, Stopped}

abbrev pub is_pre_operational : NmtState → Bool
is_pre_operational PreOperational = true
is_pre_operational Operational = false
is_pre_operational Stopped = false

abbrev pub is_operational : NmtState → Bool
is_operational PreOperational = false
is_operational Operational = true
is_operational Stopped = false

abbrev pub is_stopped : NmtState → Bool
is_stopped PreOperational = false
is_stopped Operational = false
is_stopped Stopped = true
