use Rattle.std.proofs.Common.{ℕ, ◌+◌, ◌≡◌, ◌∙◌, sym, ap, arith, rules, drop}
use native.Mathlib.Nat.{sub-zero}
use Rattle.files.specs.ConciseDcf.{reading, is_whole}
use Rattle.files.proofs.Heads.{all_inside}
use Rattle.files.proofs.Places.{left, ends, stands, cut_short, goes_on}
use Rattle.files.proofs.is_whole.Goals as goal

pub loop-entry-init : goal.loop-entry-init
loop-entry-init c = simp sub-zero (search rules)

pub returns-then-not-is_there : goal.returns-then-not-is_there
returns-then-not-is_there c =
    let at = c.loop-entry.at in
    let file = c.args.file.now in
    let n = left file c.loop-entry._entry in
    let m = left file (c.loop-entry._entry + 1) in
    let cut = sym c.is_there.ensures ∙ c.if-not-is_there.true in
    sym (cut_short at file n m (omega arith) cut) ∙ c.loop-entry.invariant.1

pub behind-at-requires : goal.behind-at-requires
behind-at-requires c =
    stands c.loop-entry.at c.args.file.now (sym c.is_there.ensures ∙ c.if-not-is_there.false)

pub loop-entry-preserved : goal.loop-entry-preserved
loop-entry-preserved c =
    let at = c.loop-entry.at in
    let file = c.args.file.now in
    let n = left file c.loop-entry._entry in
    let m = left file (c.loop-entry._entry + 1) in
    let there = sym c.is_there.ensures ∙ c.if-not-is_there.false in (
      omega (arith, all_inside at file (stands at file there), c.behind-at.ensures),
      ap (λ (place : ℕ). is_whole (reading m (drop place file))) c.behind-at.ensures
          ∙ sym (goes_on at file n m (omega arith) there) ∙ c.loop-entry.invariant.1,
    )

pub returns : goal.returns
returns c =
    let file = c.args.file.now in
    let none : left file c.loop-entry._entry ≡ 0 = omega arith in
    sym (ends c.loop-entry.at file c.loop-entry.invariant.0) ∙ (rw none at c.loop-entry.invariant.1)
