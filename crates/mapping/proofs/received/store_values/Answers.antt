use native.Mathlib.Omega.{arith}
use mathlib.Core.Path.{◌≡◌, refl, sym, ◌∙◌, ap}
use mathlib.Core.List.{map}
use lib.Seq.{length-sets}
use Rattle.form.specs.Form.{move_of}
use Rattle.mapping.proofs.PlanWords.{each_fits, size_next, store_next, store_end}
use Rattle.mapping.proofs.received.store_values.Goals as goal

pub loop-word-init : goal.loop-word-init
loop-word-init c =
    let q = c.requires in
    let m = c.moves_in-word-items.ensures in
    let i : c.into_iter-word-iterator.result ≡ c.moves_in-word-items.result = c.into_iter-word-iterator.ensures.into_iter_gives in
    rw (i, m.moves) ((m.in_bounds, tt), (each_fits _ q.1.fits, (omega (arith, q.1.fits.room), (q.0, refl))))

pub loop-word-preserved : goal.loop-word-preserved
loop-word-preserved c =
    let i = c.loop-word.invariant.1 in
    let s = ap (map move_of) c.in-Some.ensures.steps in
    let e = store_next c.in-Some.word s c.size_of-size.ensures c.loop-word.at c.args.content c.place_of.ensures c.read.ensures c.loop-word.d in (
      (c.in-Some.ensures.goes.keeps, tt),
      (
        (rw s at i.0).1,
        (
          omega (arith, size_next c.in-Some.word s c.size_of-size.ensures, i.1.0),
          (rw (c.write.ensures, length-sets) i.1.1.0, rw c.write.ensures (sym e ∙ i.1.1.1)),
        ),
      ),
    )

pub returns : goal.returns
returns c =
    let z = ap (map move_of) c.in-None.ensures.steps.0 in
    sym (store_end z _ c.loop-word.d) ∙ c.loop-word.invariant.1.1.1.1
