-- `rpdo::syncing::sync` meets its contract. Assumes nothing.
use mathlib.Core.Path.{◌≡◌, refl, sym, ◌∙◌}
use mathlib.Core.Bool.{true, false, and-false, false≢true}
use borrow.Author.Tests.{eq-eqb, ne_eqb}
use Rattle.state.specs.declared.NmtState.{NmtState}
use Rattle.state.specs.declared.NmtState.TheVariants.{PreOperational, Operational, Stopped}
use Rattle.state.specs.NmtStates.{is_stopped, is_operational}
use Rattle.form.specs.Form.{state_of}
use Rattle.rpdo.specs.Traffic.{sync_of}
use Rattle.rpdo.proofs.Leaving.{left_still}
use Rattle.rpdo.proofs.syncing.sync.Goals as goal

-- Stopped is not Operational
not_served : (m : NmtState) → is_stopped m ≡ true → is_operational m ≡ false
not_served PreOperational h = refl
not_served Operational h = absurd (false≢true h)
not_served Stopped h = refl

pub returns-then-is_stopped : goal.returns-then-is_stopped
unfolding sync_of
returns-then-is_stopped c =
    let stopped = sym (rw c.read_node-nmt.ensures at c.is_stopped.ensures) ∙ c.if-is_stopped.true in
    rw (stopped, not_served _ stopped)
    (left_still c.requires.lent.own c.nothing_done.ensures)

pub returns-then-length-ne0 : goal.returns-then-length-ne0
unfolding sync_of
returns-then-length-ne0 c =
    -- past the test of the NMT state the node is not Stopped
    let served : is_stopped (state_of c.args.state.now).node.nmt ≡ false =
    sym (rw c.read_node-nmt.ensures at c.is_stopped.ensures) ∙ c.if-is_stopped.false in
    let a = c.args in
    rw (served, ne_eqb a.length 0 c.if-length-ne0.true, and-false) c.refused.ensures

pub returns-then-is_operational : goal.returns-then-is_operational
unfolding sync_of
returns-then-is_operational c =
    -- past the test of the NMT state the node is not Stopped
    let served : is_stopped (state_of c.args.state.now).node.nmt ≡ false =
    sym (rw c.read_node-nmt.ensures at c.is_stopped.ensures) ∙ c.if-is_stopped.false in
    let a = c.args in
    let on = sym (rw c.read_node-nmt.ensures at c.is_operational.ensures) ∙ c.if-is_operational.true in
    rw (served, eq-eqb a.length 0 c.if-length-ne0.false, on) c.release_all.ensures

pub returns : goal.returns
unfolding sync_of
returns c =
    -- past the test of the NMT state the node is not Stopped
    let served : is_stopped (state_of c.args.state.now).node.nmt ≡ false =
    sym (rw c.read_node-nmt.ensures at c.is_stopped.ensures) ∙ c.if-is_stopped.false in
    let off = sym (rw c.read_node-nmt.ensures at c.is_operational.ensures) ∙ c.if-is_operational.false in
    rw (served, eq-eqb c.args.length 0 c.if-length-ne0.false, off) (left_still c.requires.lent.own c.nothing_done-2.ensures)
