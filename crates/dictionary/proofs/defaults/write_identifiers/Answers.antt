-- One after another. Assumes nothing.
use native.Mathlib.Omega.{arith}
use Rattle.std.proofs.Common.{◌≡◌, ◌∙◌}
use Rattle.dictionary.proofs.Filled.{none_from, one_more_from, four_is}
use Rattle.dictionary.proofs.defaults.write_identifiers.Goals as goal

pub loop-k-init : goal.loop-k-init
loop-k-init c = none_from c.args.p c.args.first c.args.n c.args.d.now

pub loop-k-preserved : goal.loop-k-preserved
loop-k-preserved c =
    let a = c.args in
    cc (one_more_from c.loop-k.k a.p a.first a.n a.d.now)

pub returns : goal.returns
returns c =
    let a = c.args in
    let all : c.loop-k.k ≡ 4 = omega arith in
    rw all at c.loop-k.invariant ∙ four_is a.p a.first a.n a.d.now
