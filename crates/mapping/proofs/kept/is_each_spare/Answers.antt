use Prim.Native.Nat.{◌+◌, ◌-◌, ◌<◌}
use mathlib.Core.Path.{◌≡◌, refl, sym, ◌∙◌}
use native.Mathlib.Omega.{arith}
use borrow.Author.Rules.{rules}
use Rattle.mapping.specs.Words.{way_of}
use Rattle.mapping.proofs.Keeping.{spare_step, spare_end}
use Rattle.mapping.proofs.kept.is_each_spare.Goals as goal

pub loop-init : goal.loop-init
loop-init c = (let z : c.args.count - 0 ≡ c.args.count = omega arith in rw z refl, search rules)

pub returns-then-not-is_spare : goal.returns-then-not-is_spare
returns-then-not-is_spare c =
    let l = c.loop in
    let a = c.args in
    let h : 0 < a.count - l.counter = omega arith in
    let e = spare_step (way_of a.transmit) a.d.now a.state.now l.place l.at (a.count - l.counter) h in
    let f = sym c.is_spare.ensures ∙ c.if-not-is_spare.true in
    sym (sym l.invariant.0 ∙ e ∙ rw (← c.read4.ensures, ← c.read4-in-loop.ensures, f))

pub loop-preserved : goal.loop-preserved
loop-preserved c =
    let l = c.loop in
    let a = c.args in
    let h : 0 < a.count - l.counter = omega arith in
    let e = spare_step (way_of a.transmit) a.d.now a.state.now l.place l.at (a.count - l.counter) h in
    let f = sym c.is_spare.ensures ∙ c.if-not-is_spare.false in
    let z : a.count - (l.counter + 1) ≡ a.count - l.counter - 1 = omega arith in
    (sym (e ∙ rw (← c.read4.ensures, ← c.read4-in-loop.ensures, f, z)) ∙ l.invariant.0, search rules)

pub returns : goal.returns
returns c =
    let l = c.loop in
    let a = c.args in
    let z : a.count - l.counter ≡ 0 = omega arith in
    sym (spare_end (way_of a.transmit) l.place l.at a.d.now a.state.now) ∙ rw z at l.invariant.0
