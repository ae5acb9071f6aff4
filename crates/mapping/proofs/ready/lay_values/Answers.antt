use native.Mathlib.Omega.{arith}
use Rattle.mapping.proofs.Steps.{count_at}
use Rattle.mapping.proofs.Laid.{none_laid, layable, laid_within, laid_room, one_laid, all_laid}
use Rattle.mapping.proofs.ready.lay_values.Goals as goal

pub overflow_cast-count-2 : goal.overflow_cast-count-2
overflow_cast-count-2 c =
    omega (arith, count_at c.args.plan c.args.state.now, c.requires.moves_fit.1.few)

pub loop-init : goal.loop-init
loop-init c =
    none_laid c.args.d.now c.args.state.now c.args.first c.args.plan c.requires.moves_fit.1

pub overflow_cast-spot : goal.overflow_cast-spot
overflow_cast-spot c =
    let r = c.loop.invariant.reached in
    omega (arith, r.stands, r.few, r.within, c.requires.in_bounds.1.1)

pub read4-word-requires : goal.read4-word-requires
read4-word-requires c =
    omega (arith, c.loop.invariant.reached.stands, c.loop.invariant.reached.few, c.loop.invariant.long, c.requires.in_bounds.1.0)

pub overflow_cast-at : goal.overflow_cast-at
overflow_cast-at c =
    omega (arith, c.loop.invariant.bytes, c.loop.invariant.room, c.requires.in_bounds)

pub read-requires : goal.read-requires
read-requires c =
    (laid_room
    (layable c.args.d.now c.args.state.now c.args.first c.args.plan c.requires.moves_fit.0 c.requires.in_bounds.0
    (omega (arith, c.requires.in_bounds.1.0)) c.type_inv.d)
    c.loop.invariant c.loop-test.true c.read4-word.ensures c.place_of.ensures c.size_of-size.ensures).1

pub write-requires : goal.write-requires
write-requires c =
    let t = c.loop-test.true in
    let r = laid_room
    (layable c.args.d.now c.args.state.now c.args.first c.args.plan c.requires.moves_fit.0 c.requires.in_bounds.0
    (omega (arith, c.requires.in_bounds.1.0)) c.type_inv.d)
    c.loop.invariant t c.read4-word.ensures c.place_of.ensures c.size_of-size.ensures in
    (r.0, r.1.1)

pub overflow_add-at : goal.overflow_add-at
overflow_add-at c =
    let t = c.loop-test.true in
    let r = laid_within
    (layable c.args.d.now c.args.state.now c.args.first c.args.plan c.requires.moves_fit.0 c.requires.in_bounds.0
    (omega (arith, c.requires.in_bounds.1.0)) c.type_inv.d)
    c.loop.invariant t c.read4-word.ensures c.place_of.ensures c.size_of-size.ensures in
    omega (arith, r, c.requires.in_bounds)

pub loop-preserved : goal.loop-preserved
loop-preserved c =
    one_laid
    (layable c.args.d.now c.args.state.now c.args.first c.args.plan c.requires.moves_fit.0 c.requires.in_bounds.0
    (omega (arith, c.requires.in_bounds.1.0)) c.type_inv.d)
    c.loop.invariant c.loop-test.true c.read4-word.ensures c.place_of.ensures c.size_of-size.ensures
    c.read.ensures c.write.ensures

pub shape_of-state : goal.shape_of-state
shape_of-state c = c.loop.invariant.long

pub returns : goal.returns
returns c =
    let g = layable c.args.d.now c.args.state.now c.args.first c.args.plan c.requires.moves_fit.0 c.requires.in_bounds.0
    (omega (arith, c.requires.in_bounds.1.0)) c.type_inv.d in
    let r = all_laid g c.loop.invariant (omega arith) in
    record { laid = r.0; end = r.1 }
