-- `nmt::heartbeats::tick` meets its contract. Assumes nothing.
use Prim.Native.Nat.{suc}
use native.Mathlib.Numerals.{add-one}
use native.Mathlib.Omega.{arith}
use mathlib.Core.List.{[]}
use borrow.Author.Tests.{ne_eqb, lt-ltb, le-ltb}
use Rattle.rules_services.specs.Nmt.{heartbeat, tick}
use Rattle.rules.specs.Outcome.{sent_into}
use Rattle.form.specs.Form.{state_of}
use Rattle.nmt.proofs.Commanding.{counted}
use Rattle.nmt.proofs.heartbeats.tick.Goals as goal

pub returns-then-period-eq0 : goal.returns-then-period-eq0
unfolding tick sent_into
returns-then-period-eq0 c =
    let s = state_of c.args.state.now in
    rw (c.ticked.ensures, ← c.heartbeat_time-period.ensures, c.if-period-eq0.true) (counted s s.node.heartbeat [] _ _ c.requires.own)

pub returns-then-node-period : goal.returns-then-node-period
unfolding tick sent_into
returns-then-node-period c =
    let is = c.read_node-node.ensures in
    let more = lt-ltb (suc c.read_node-node.result.heartbeat) c.heartbeat_time-period.result (omega arith) in
    rw (c.ticked-then-node-period.ensures, ← c.heartbeat_time-period.ensures, ne_eqb _ _ c.if-period-eq0.false, rw is at more)
    (counted (state_of c.args.state.now) _ [] _ _ (rw (add-one, is) at (c.put_heartbeat.ensures _ c.requires.own)))

pub returns : goal.returns
unfolding tick
returns c =
    let s = state_of c.args.state.now in
    let is = c.read_node-node.ensures in
    let full = le-ltb (suc c.read_node-node.result.heartbeat) c.heartbeat_time-period.result (omega arith) in
    rw (c.ticked-2.ensures, c.send_byte.ensures, c.state_byte.ensures, is)
    (rw (← c.heartbeat_time-period.ensures, ne_eqb _ _ c.if-period-eq0.false, rw is at full)
    (counted s _ (heartbeat s) _ _ (c.put_heartbeat-2.ensures _ c.requires.own)))
