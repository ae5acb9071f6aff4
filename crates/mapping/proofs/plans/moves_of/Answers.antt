use Prim.Native.Nat.{◌<◌}
use mathlib.Core.Path.{◌≡◌}
use native.Mathlib.Omega.{arith}
use lib.ListN.{length-set}
use Rattle.mapping.specs.Words.{way_of}
use Rattle.mapping.proofs.Worked.{none_named, next_named}
use borrow.Author.Rules.{rules}
use Rattle.mapping.proofs.plans.moves_of.Goals as goal

pub loop-k-init : goal.loop-k-init
loop-k-init c =
    let a = c.args in
    (none_named (way_of a.transmit) a.first a.d.now, search rules)

pub loop-k-preserved : goal.loop-k-preserved
loop-k-preserved c =
    let l = c.loop-k in
    let a = c.args in
    let few : l.k < 8 = search rules in (
      rw (c.move_of.ensures, c.read4.ensures, l.invariant.0, l.invariant.1.1.0)
          (next_named (way_of a.transmit) l.k a.first a.d.now few),
      simp length-set (search rules),
    )

pub returns : goal.returns
returns c =
    let l = c.loop-k in
    let e : l.k ≡ c.args.count = omega arith in
    rw e at l.invariant.0
