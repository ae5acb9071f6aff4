use mathlib.Core.Path.{sym, ◌∙◌}
use native.Mathlib.Omega.{arith}
use Rattle.mapping.proofs.Steps.{none_reached}
use Rattle.mapping.proofs.Framed.{none_compared, comparable, value_within, value_room}
use Rattle.mapping.proofs.Framed.{one_more, other_value}
use Rattle.mapping.proofs.Framed.{zeros_room, other_length, zeros_left}
use Rattle.mapping.proofs.kept.is_frame_kept.Goals as goal

pub overflow_cast-count-2 : goal.overflow_cast-count-2
overflow_cast-count-2 c =
    omega (arith, (none_reached c.args.state.now c.args.plan c.requires.moves_fit.1).few)

pub loop-init : goal.loop-init
loop-init c =
    none_compared c.args.d.now c.args.state.now c.args.frame c.args.plan c.requires.moves_fit.1

pub overflow_cast-moves : goal.overflow_cast-moves
overflow_cast-moves c =
    let r = c.loop.invariant.reached in
    omega (arith, r.stands, r.few, r.within, c.requires.small_places.1)

pub read4-word-requires : goal.read4-word-requires
read4-word-requires c = let r = c.loop.invariant.reached in omega (arith, r.stands, r.few)

pub overflow_cast-at : goal.overflow_cast-at
overflow_cast-at c =
    omega (arith, c.loop.invariant.bytes, c.loop.invariant.room, c.requires.small_places.0)

pub is_value-requires : goal.is_value-requires
is_value-requires c =
    value_room
    (comparable c.args.d.now c.args.state.now c.args.frame c.requires.moves_fit.0 c.requires.in_bounds.0 c.type_inv.d c.type_inv.state)
    c.loop.invariant c.loop-test.true c.read4-word.ensures c.place_of.ensures c.size_of-size.ensures

pub returns-then-not-is_value : goal.returns-then-not-is_value
returns-then-not-is_value c =
    other_value
    (comparable c.args.d.now c.args.state.now c.args.frame c.requires.moves_fit.0 c.requires.in_bounds.0 c.type_inv.d c.type_inv.state)
    c.loop.invariant c.loop-test.true c.read4-word.ensures c.place_of.ensures c.size_of-size.ensures
    (sym c.is_value.ensures ∙ c.if-not-is_value.true)

pub overflow_add-at : goal.overflow_add-at
overflow_add-at c =
    let t = c.loop-test.true in
    let r = value_within
    (comparable c.args.d.now c.args.state.now c.args.frame c.requires.moves_fit.0 c.requires.in_bounds.0 c.type_inv.d c.type_inv.state)
    c.loop.invariant t c.read4-word.ensures c.place_of.ensures c.size_of-size.ensures in
    omega (arith, r, c.requires.small_places.0)

pub loop-preserved : goal.loop-preserved
loop-preserved c =
    one_more
    (comparable c.args.d.now c.args.state.now c.args.frame c.requires.moves_fit.0 c.requires.in_bounds.0 c.type_inv.d c.type_inv.state)
    c.loop.invariant c.loop-test.true c.read4-word.ensures c.place_of.ensures c.size_of-size.ensures
    (sym c.is_value.ensures ∙ c.if-not-is_value.false)

pub overflow_cast-state : goal.overflow_cast-state
overflow_cast-state c =
    omega (arith, c.shared_slice_known-4-1.given c.args.frame, c.requires.in_bounds.0)

pub returns-then-state-frame : goal.returns-then-state-frame
returns-then-state-frame c =
    other_length
    (comparable c.args.d.now c.args.state.now c.args.frame c.requires.moves_fit.0 c.requires.in_bounds.0 c.type_inv.d c.type_inv.state)
    c.loop.invariant (omega arith) c.if-state-frame.true

pub are_zero-requires : goal.are_zero-requires
are_zero-requires c =
    let r = zeros_room
    (comparable c.args.d.now c.args.state.now c.args.frame c.requires.moves_fit.0 c.requires.in_bounds.0 c.type_inv.d c.type_inv.state)
    c.loop.invariant (omega arith) in
    (r.0, (omega arith, omega (arith, r.1, c.requires.small_places.0)))

pub returns : goal.returns
returns c =
    c.are_zero.ensures ∙ zeros_left
    (comparable c.args.d.now c.args.state.now c.args.frame c.requires.moves_fit.0 c.requires.in_bounds.0 c.type_inv.d c.type_inv.state)
    c.loop.invariant (omega arith) c.if-state-frame.false
