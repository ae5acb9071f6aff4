-- One word after another. Assumes nothing.
use Rattle.std.proofs.Common.{◌≡◌, ◌+◌, ◌*◌, sym, ap, ◌∙◌, arith, rules}
use Rattle.sdo.specs.Verdicts.{result_of}
use Rattle.sdo.proofs.Maps.{at_first, at_zero, at-word, over, fitting, least_of, none_behind}
use Rattle.sdo.proofs.mappings.words_verdict.Goals as goal

pub loop-k-init : goal.loop-k-init
loop-k-init c = let a = c.args in (at_first a.n a.first a.d.now, search rules)

pub returns-then-word-eq0 : goal.returns-then-word-eq0
returns-then-word-eq0 c =
    let l = c.loop-k in
    let a = c.args in
    let z = sym c.read4-word.ensures ∙ c.if-word-eq0.true in
    let within = least_of a.n l.k c.min-k-end.ensures c.loop-k-test.true in
    ap result_of (sym (at_zero l.bits a.n l.k _ a.d.now within.0 within.1 z) ∙ l.invariant.0)

pub loop-k-preserved : goal.loop-k-preserved
loop-k-preserved c =
    let r = c.read4-word in
    let l = c.loop-k in
    let a = c.args in
    let next : a.first + 4 * (l.k + 1) ≡ a.first + 4 * l.k + 4 = omega arith in
    let within = least_of a.n l.k c.min-k-end.ensures c.loop-k-test.true in
    let e = at-word l.bits a.n l.k _ a.d.now within.0 within.1 (λ z. c.if-word-eq0.false (r.ensures ∙ z)) in
    (rw (next, c.word_length-bits.ensures.0, r.ensures) (sym e ∙ l.invariant.0), omega (arith, c.word_length-bits.ensures.1))

pub returns-then-bits-gt-MOST_BITS : goal.returns-then-bits-gt-MOST_BITS
returns-then-bits-gt-MOST_BITS c =
    let l = c.loop-k in
    let a = c.args in
    let past = none_behind a.n l.k c.min-k-end.ensures (search rules) in
    ap result_of (sym (over l.bits a.n l.k _ a.d.now past c.if-bits-gt-MOST_BITS.true) ∙ l.invariant.0)

pub returns : goal.returns
returns c =
    let l = c.loop-k in
    let a = c.args in
    let past = none_behind a.n l.k c.min-k-end.ensures (search rules) in
    ap result_of (sym (fitting l.bits a.n l.k _ a.d.now past c.if-bits-gt-MOST_BITS.false) ∙ l.invariant.0)
