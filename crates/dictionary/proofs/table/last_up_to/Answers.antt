use Prim.Native.Nat.{◌<◌, ◌+◌, ◌/◌}
use mathlib.Core.Path.{◌≡◌, refl}
use native.Mathlib.Omega.{arith}
use lib.Dec.{lit<}
use Rattle.rules_dictionary.specs.Table.{entries, table}
use Rattle.dictionary.proofs.Lines.{lines_length, key_at, halved}
use Rattle.dictionary.proofs.table.last_up_to.Goals as goal

-- on from the row in the middle, or up to it
pub loop-width-preserved-then-rows-next : goal.loop-width-preserved-then-rows-next
unfolding entries table
loop-width-preserved-then-rows-next c =
    let l = c.loop-width in
    let next = l.rank + l.width / 2 in
    let h : next < entries = omega arith in
    let e = key_at c.args.rows.now next c.requires.0 h in
    let half = halved l.width l.invariant.1.1.1.0 (omega arith) in
    let on : next + l.width / 2 ≡ l.rank + l.width = omega (arith, half.0) in
    (h, (λ z. omega (arith, e), (λ z. rw on (l.invariant.1.1.0 (omega arith)), (half.1, omega arith))))

pub loop-width-preserved-else-rows-next : goal.loop-width-preserved-else-rows-next
unfolding entries table
loop-width-preserved-else-rows-next c =
    let l = c.loop-width in
    let e = key_at c.args.rows.now (l.rank + l.width / 2) c.requires.0 (omega arith) in
    let half = halved l.width l.invariant.1.1.1.0 (omega arith) in
    (l.invariant.0, (l.invariant.1.0, (λ z. omega (arith, e), (half.1, omega arith))))

pub loop-width-init : goal.loop-width-init
unfolding entries table
loop-width-init c = (lit< tt, (λ h. absurd (omega arith), (λ h. absurd (omega arith), (record { n = 7; is = refl }, omega arith))))

pub loop-width-preserved : goal.loop-width-preserved
unfolding entries table
loop-width-preserved c =
    let l = c.loop-width in
    (l.invariant.0, (l.invariant.1.0, (λ z. absurd (omega arith), ((halved l.width l.invariant.1.1.1.0 (omega arith)).1, omega arith))))

pub bounds-rows-next : goal.bounds-rows-next
unfolding entries table
bounds-rows-next c = omega (arith, lines_length c.args.rows.now c.requires.0)
