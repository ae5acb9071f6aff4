use native.Mathlib.Omega.{arith}
use mathlib.Core.Path.{◌≡◌, refl, sym, ◌∙◌, ap}
use mathlib.Core.Bool.{true}
use lib.ListN.{length}
use Rattle.state.specs.NmtStates.{is_operational}
use Rattle.rules_dictionary.specs.Table.{each_way, receive_pdos}
use Rattle.form.specs.Form.{state_of}
use Rattle.rpdo.proofs.Hearing.{receiver, not_served, for_it, for_others, for_none}
use Rattle.rpdo.proofs.Leaving.{renamed, left_still}
use Rattle.rpdo.proofs.receiving.receive.Goals as goal

pub returns-then-not-is_operational : goal.returns-then-not-is_operational
returns-then-not-is_operational c =
    let off = sym (rw c.read_node.ensures at c.is_operational.ensures) ∙ c.if-not-is_operational.true in
    renamed (not_served c.args.identifier _ _ c.args.d.now off receive_pdos)
    (left_still c.requires.0.lent.own c.nothing_done.ensures)

pub hears-requires : goal.hears-requires
hears-requires c =
    (ap length c.loop-p.invariant.1 ∙ c.requires.0.lent.long, c.loop-p-test.true)

pub received-requires : goal.received-requires
received-requires c =
    let x = c.loop-p.invariant in
    let t = c.loop-p-test.true in
    let s = c.requires in
    rw (x.0, x.1, x.2)
    (record { lent = s.0.lent; number = t; receives = s.0.plans _ (receiver _ t).0 }, s.1)

pub shape_of-state-then-hears : goal.shape_of-state-then-hears
shape_of-state-then-hears c =
    c.received.auto.state ∙ ap length c.loop-p.invariant.0

pub shape_of-d-then-hears : goal.shape_of-d-then-hears
shape_of-d-then-hears c =
    c.received.auto.d ∙ ap length c.loop-p.invariant.1

pub shape_of-output-then-hears : goal.shape_of-output-then-hears
shape_of-output-then-hears c =
    c.received.auto.output ∙ ap length c.loop-p.invariant.2

pub returns-then-hears : goal.returns-then-hears
returns-then-hears c =
    let x = c.loop-p.invariant in
    -- past the test of the NMT state the node is Operational
    let on : is_operational (state_of c.args.state.now).node.nmt ≡ true =
    sym (rw c.read_node.ensures at c.is_operational.ensures) ∙ c.if-not-is_operational.false in
    let a = c.args in
    let h = rw x.1 at c.hears.ensures in
    let it = for_it a.identifier _ _ a.d.now on c.loop-p-test.true h c.if-hears.true in
    renamed (sym x.3 ∙ it) (rw (x.0, x.1, x.2) at c.received.ensures)

pub loop-p-preserved : goal.loop-p-preserved
loop-p-preserved c =
    let x = c.loop-p.invariant in
    -- past the test of the NMT state the node is Operational
    let on : is_operational (state_of c.args.state.now).node.nmt ≡ true =
    sym (rw c.read_node.ensures at c.is_operational.ensures) ∙ c.if-not-is_operational.false in
    let a = c.args in
    let h = rw x.1 at c.hears.ensures in
    let past = for_others a.identifier _ _ a.d.now on c.loop-p-test.true h c.if-hears.false in
    (x.0, x.1, x.2, sym past ∙ x.3)

pub returns : goal.returns
returns c =
    let x = c.loop-p in
    let a = c.args in
    let z : x.p ≡ each_way = omega (arith, c.loop-p-test.false) in
    let none = sym (rw z at x.invariant.3) ∙ for_none a.identifier _ _ a.d.now in
    rw (x.invariant.0, x.invariant.1, x.invariant.2) (renamed none (left_still c.requires.0.lent.own c.nothing_done-2.ensures))

pub loop-p-init : goal.loop-p-init
loop-p-init c = (refl, refl, refl, refl)

pub shape_of-state : goal.shape_of-state
shape_of-state c = ap length c.loop-p.invariant.0

pub shape_of-d : goal.shape_of-d
shape_of-d c = ap length c.loop-p.invariant.1

pub shape_of-output : goal.shape_of-output
shape_of-output c = ap length c.loop-p.invariant.2
