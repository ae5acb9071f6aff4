-- `tpdo::pacing::cyclic` meets its contract. Assumes nothing.
use Prim.Native.Nat.{suc}
use mathlib.Core.Path.{◌≡◌, ◌∙◌}
use mathlib.Core.Bool.{true, false}
use native.Mathlib.Omega.{arith}
use native.Mathlib.Numerals.{add-one}
use borrow.Author.Tests.{eq-eqb, ne_eqb}
use Rattle.rules_services.specs.PdoTraffic.{cyclic}
use Rattle.tpdo.proofs.pacing.cyclic.Goals as goal

pub returns-then-not-synced : goal.returns-then-not-synced
unfolding cyclic
returns-then-not-synced c = let e : c.args.synced ≡ false = c.if-not-synced.true in c.paced.ensures ∙ rw e

pub returns-then-next-kind : goal.returns-then-next-kind
unfolding cyclic
returns-then-next-kind c =
    let a = c.args in
    let e : a.synced ≡ true = c.if-not-synced.false in
    c.paced-then-next-kind.ensures ∙ rw (e, eq-eqb (suc a.count) a.kind (omega arith))

pub returns : goal.returns
unfolding cyclic
returns c =
    let a = c.args in
    let e : a.synced ≡ true = c.if-not-synced.false in
    c.paced-2.ensures ∙ rw (e, ne_eqb (suc a.count) a.kind (λ h. c.if-next-kind.false (omega arith)), add-one)
