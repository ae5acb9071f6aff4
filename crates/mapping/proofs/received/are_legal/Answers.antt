use native.Mathlib.Omega.{arith}
use mathlib.Core.Path.{◌≡◌, refl, sym, ◌∙◌, ap}
use mathlib.Core.List.{map}
use Rattle.form.specs.Form.{move_of}
use Rattle.mapping.proofs.ArrayBytes.{array_bytes}
use Rattle.mapping.proofs.PlanWords.{each_fits, size_next, legal_next, legal_end}
use Rattle.mapping.proofs.received.are_legal.Goals as goal

pub loop-word-init : goal.loop-word-init
loop-word-init c =
    let m = c.moves_in-word-items.ensures in
    let i : c.into_iter-word-iterator.result ≡ c.moves_in-word-items.result = c.into_iter-word-iterator.ensures.into_iter_gives in
    rw (i, m.moves) ((m.in_bounds, tt), (each_fits _ c.requires.fits, (omega (arith, c.requires.fits.room), refl)))

pub returns-then-not-is_legal : goal.returns-then-not-is_legal
returns-then-not-is_legal c =
    let n = c.well_formed.1.1.0 in
    let e = legal_next c.in-Some.word (ap (map move_of) c.in-Some.ensures.steps) c.size_of-size.ensures c.loop-word.byte c.args.content
    c.place_of.ensures c.read.ensures in
    let f = sym c.is_legal.ensures ∙ c.if-not-is_legal.true in
    (sym (sym c.loop-word.invariant.1.1.1 ∙ e ∙ rw f), array_bytes 8 c.args.content _ n, n.1.0.1)

pub loop-word-preserved : goal.loop-word-preserved
loop-word-preserved c =
    let i = c.loop-word.invariant.1 in
    let s = ap (map move_of) c.in-Some.ensures.steps in
    let e = legal_next c.in-Some.word s c.size_of-size.ensures c.loop-word.byte c.args.content c.place_of.ensures c.read.ensures in
    let f = sym c.is_legal.ensures ∙ c.if-not-is_legal.false in (
      (c.in-Some.ensures.goes.keeps, tt),
      ((rw s at i.0).1, (omega (arith, size_next c.in-Some.word s c.size_of-size.ensures, i.1.0), sym (e ∙ rw f) ∙ i.1.1)),
    )

pub returns : goal.returns
returns c =
    let n = c.well_formed.1.1.0 in
    let z = ap (map move_of) c.in-None.ensures.steps.0 in
    (sym (legal_end z _) ∙ c.loop-word.invariant.1.1.1, array_bytes 8 c.args.content _ n, n.1.0.1)
