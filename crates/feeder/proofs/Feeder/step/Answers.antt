-- `feeder::Feeder::step` meets its contract. Assumes nothing.
use Prim.Native.Nat.{◌<◌}
use native.Mathlib.Omega.{arith}
use mathlib.Core.Path.{◌∙◌, sym}
use lib.IntN.{pos}
use lib.ListN.{length, get_or}
use mir.Syntax.{w32}
use mir.ValLaws.{to_z-of_z}
use borrow.Author.Rules.{rules}
use Rattle.feeder.proofs.Steps.{too_long, past, used_up, waits, goes}
use Rattle.feeder.proofs.Feeder.step.Goals as goal

pub returns-then-lengths-gt-MOST_LENGTHS : goal.returns-then-lengths-gt-MOST_LENGTHS
returns-then-lengths-gt-MOST_LENGTHS c = c.refused.ensures ∙ sym (too_long _ _ _ c.if-lengths-gt-MOST_LENGTHS.true)

pub returns-then-at-lengths : goal.returns-then-at-lengths
returns-then-at-lengths c =
    let a = c.args in
    let beyond : length a.lengths.now < a.self.position = omega (arith, c.if-at-lengths.true) in
    c.refused-then-at-lengths.ensures ∙ sym (past _ _ _ c.if-lengths-gt-MOST_LENGTHS.false beyond)

pub returns-then-at-lengths-2 : goal.returns-then-at-lengths-2
returns-then-at-lengths-2 c = c.waiting.ensures ∙ sym (used_up _ _ _ c.if-lengths-gt-MOST_LENGTHS.false c.if-at-lengths-2.true)

pub returns-then-is_acknowledged : goal.returns-then-is_acknowledged
returns-then-is_acknowledged c =
    let a = c.args in
    let below : a.self.position < length a.lengths.now = omega (arith, c.if-at-lengths.false, c.if-at-lengths-2.false) in
    c.waiting-then-is_acknowledged.ensures
    ∙ rw (to_z-of_z w32 (get_or a.lengths.now a.self.position (pos 0)) (search rules))
    (sym (waits _ _ _ c.if-lengths-gt-MOST_LENGTHS.false below (sym c.is_acknowledged.ensures ∙ c.if-is_acknowledged.true)))

pub returns : goal.returns
returns c =
    let a = c.args in
    let below : a.self.position < length a.lengths.now = omega (arith, c.if-at-lengths.false, c.if-at-lengths-2.false) in
    c.feeding.ensures
    ∙ rw (to_z-of_z w32 (get_or a.lengths.now a.self.position (pos 0)) (search rules))
    (sym (goes _ _ _ c.if-lengths-gt-MOST_LENGTHS.false below (sym c.is_acknowledged.ensures ∙ c.if-is_acknowledged.false)))
