use Prim.Native.Nat.{◌+◌, ◌-◌}
use mathlib.Core.Path.{◌≡◌}
use native.Mathlib.Omega.{arith}
use Rattle.dictionary.proofs.Lines.{few, size_step, nothing_left}
use Rattle.dictionary.proofs.table.sizes_from.Goals as goal

pub loop-k-preserved : goal.loop-k-preserved
loop-k-preserved c =
    let l = c.loop-k in
    let a = c.args in
    let left = size_step a.rows.now l.k (a.last - l.k) (omega arith) in
    let same : a.last - l.k - 1 ≡ a.last - (l.k + 1) = omega arith in
    (omega (arith, l.invariant.0, rw same at left), omega arith)

pub returns : goal.returns
returns c =
    let l = c.loop-k in
    let a = c.args in
    let none : a.last - l.k ≡ 0 = omega arith in
    (omega (arith, rw none at l.invariant.0, nothing_left a.rows.now l.k), omega (arith, few))
