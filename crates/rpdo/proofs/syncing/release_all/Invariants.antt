-- `rpdo::syncing::release_all` meets its contract. The invariant: what is left to release from receive PDO p on is what was to release at the
-- start, less what is done.
-- Assumes nothing.
use Rattle.form.specs.Form.{state_of}
use Rattle.rpdo.proofs.Releases.{synced, Underway}
use Rattle.rpdo.proofs.syncing.release_all.Given as goal

abbrev pub invariant-loop-p : goal.invariant-loop-p
invariant-loop-p l = Underway (state_of l.initial.state) l.initial.d l.initial.output l.p (synced l.frames l.touched) l.state l.d l.output
