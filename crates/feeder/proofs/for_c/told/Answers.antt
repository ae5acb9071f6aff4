-- `feeder::for_c::told` meets its contract. Assumes nothing.
use native.Mathlib.Omega.{arith}
use mathlib.Core.Path.{◌∙◌, ap}
use mir.Syntax.{w32}
use mir.Val.{SFits, of_z}
use mir.ValLaws.{to_z-of_z}
use borrow.Author.Rules.{rules}
use Rattle.feeder.specs.Feeder.{told}
use Rattle.feeder.proofs.for_c.told.Goals as goal

pub returns : goal.returns
unfolding told
returns c =
    let target = c.args.answer.target in
    let fits : SFits w32 target = search rules in
    omega (
      arith,
      c.refusal_number.ensures.0,
      c.from-refusal.ensures,
      c.from-position.ensures,
      c.from.ensures,
      c.word_of-target.ensures.0 ∙ ap (of_z w32) (to_z-of_z w32 target fits),
    )
