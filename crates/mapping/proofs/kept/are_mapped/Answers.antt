use Prim.Native.Nat.{◌+◌, ◌-◌, ◌<◌}
use mathlib.Core.Path.{◌≡◌, refl, sym, ◌∙◌}
use native.Mathlib.Omega.{arith}
use borrow.Author.Rules.{rules}
use Rattle.mapping.specs.Words.{way_of}
use Rattle.mapping.proofs.Keeping.{mapped_step, mapped_end}
use Rattle.mapping.proofs.kept.are_mapped.Goals as goal

pub loop-init : goal.loop-init
loop-init c = (let z : c.args.count - 0 ≡ c.args.count = omega arith in rw z refl, search rules)

pub returns-then-not-is_mapped : goal.returns-then-not-is_mapped
returns-then-not-is_mapped c =
    let l = c.loop in
    let a = c.args in
    let h : 0 < a.count - l.counter = omega arith in
    let e = mapped_step (way_of a.transmit) a.d.now a.state.now l.place l.at (a.count - l.counter) h l.used in
    let f = sym c.is_mapped.ensures ∙ c.if-not-is_mapped.true in
    sym (sym l.invariant.0 ∙ e ∙ rw (← c.read4-kept.ensures, ← c.read4.ensures, f))

pub loop-preserved : goal.loop-preserved
loop-preserved c =
    let l = c.loop in
    let a = c.args in
    let h : 0 < a.count - l.counter = omega arith in
    let e = mapped_step (way_of a.transmit) a.d.now a.state.now l.place l.at (a.count - l.counter) h l.used in
    let f = sym c.is_mapped.ensures ∙ c.if-not-is_mapped.false in
    let z : a.count - (l.counter + 1) ≡ a.count - l.counter - 1 = omega arith in
    (sym (e ∙ rw (← c.read4-kept.ensures, ← c.read4.ensures, f, c.size_of.ensures, z)) ∙ l.invariant.0, search rules)

pub returns : goal.returns
returns c =
    let l = c.loop in
    let a = c.args in
    let z : a.count - l.counter ≡ 0 = omega arith in
    sym (mapped_end (way_of a.transmit) l.used l.place l.at a.d.now a.state.now) ∙ rw z at l.invariant.0
