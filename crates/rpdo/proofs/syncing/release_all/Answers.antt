use native.Mathlib.Omega.{arith}
use mathlib.Core.Path.{◌≡◌, refl, sym, ◌∙◌, ap}
use lib.ListN.{length, length-take, length-drop}
use Rattle.rules_dictionary.specs.Table.{each_way}
use Rattle.rules_dictionary.proofs.Rows.{length_stored}
use Rattle.form.proofs.Holding.{held_length}
use Rattle.output.proofs.Left.{loud}
use Rattle.rpdo.proofs.Releases.{synced, none_yet, serves, room, one_more, all_done}
use Rattle.rpdo.proofs.syncing.release_all.Goals as goal

pub overflow_mul-frames : goal.overflow_mul-frames
overflow_mul-frames c = let u = c.loop-p.invariant in omega (arith, u.leaves.frames, u.keeps.few, u.number)

pub slice_bounds-release-count : goal.slice_bounds-release-count
slice_bounds-release-count c =
    omega (arith, room c.requires c.loop-p-test.true c.loop-p.invariant)

pub release-done-requires : goal.release-done-requires
release-done-requires c =
    let k = c.requires in
    let t = c.loop-p-test.true in
    let u = c.loop-p.invariant in
    serves k t u (simp (length-take, length-drop) (omega (arith, room k t u)))

pub overflow_add-frames : goal.overflow_add-frames
overflow_add-frames c =
    let t = c.loop-p-test.true in
    let k = c.requires in
    let u = one_more k t c.loop-p.invariant c.release-done.ensures c.release-done.auto.output refl in
    omega (arith, t, u.leaves.frames, u.keeps.few)

pub loop-p-preserved : goal.loop-p-preserved
loop-p-preserved c =
    let k = c.requires in
    one_more k c.loop-p-test.true c.loop-p.invariant c.release-done.ensures c.release-done.auto.output refl

pub shape_of-state : goal.shape_of-state
shape_of-state c = held_length c.loop-p.invariant.leaves.state ∙ sym c.requires.lent.whole

pub shape_of-d : goal.shape_of-d
shape_of-d c = let u = c.loop-p.invariant in ap length u.leaves.dictionary ∙ length_stored u.done.writes _

pub returns : goal.returns
returns c =
    let x = c.loop-p in
    let z : x.p ≡ each_way = omega (arith, c.loop-p-test.false, x.invariant.number) in
    rw c.nothing_done.ensures (all_done (rw z at x.invariant), loud _ _ (synced x.frames x.touched) refl)

pub loop-p-init : goal.loop-p-init
loop-p-init c = none_yet c.requires.lent.own

pub slice_bounds-release-start : goal.slice_bounds-release-start
slice_bounds-release-start c = slice_bounds-release-count c

pub shape_of-output : goal.shape_of-output
shape_of-output c = c.loop-p.invariant.same
