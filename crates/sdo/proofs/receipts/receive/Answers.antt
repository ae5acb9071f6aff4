-- By the toggle, and whether it is the last. Assumes nothing.
use Rattle.std.proofs.Common.{sym, refl, ◌∙◌, arith}
use Rattle.rules_services.specs.Sdo.{reply}
use Rattle.rules_services.specs.Segments.{acknowledged, concluded, continued}
use Rattle.sdo.proofs.Parts.{flag_most}
use Rattle.sdo.proofs.Transfers.{other_toggle, same_toggle}
use Rattle.sdo.proofs.receipts.receive.Goals as goal

pub returns-then-toggle_of-g : goal.returns-then-toggle_of-g
returns-then-toggle_of-g c =
    rw (other_toggle c.toggle_of.ensures refl c.if-toggle_of-g.true)
    (rw c.object_in-object.ensures at (c.abort.ensures c.args.d.now))

pub returns-then-is_last : goal.returns-then-is_last
unfolding acknowledged concluded reply
returns-then-is_last c =
    rw (
      same_toggle c.toggle_of.ensures refl c.if-toggle_of-g.false,
      sym c.is_last.ensures ∙ c.if-is_last.true,
      ← c.gathered-after.ensures,
    ) (rw (c.brought_in.ensures, c.reply_to-reply.ensures, c.flag.ensures, c.object_in-object.ensures) at c.download.ensures)

pub returns : goal.returns
unfolding acknowledged continued reply
returns c =
    let a = c.args in
    rw (
      same_toggle c.toggle_of.ensures refl c.if-toggle_of-g.false,
      sym c.is_last.ensures ∙ c.if-is_last.false,
      ← c.gathered-after.ensures,
    ) (rw (c.turned.ensures, c.reply_to-reply.ensures, c.flag.ensures) at (c.answer.ensures a.d.now))

pub overflow_add-flag : goal.overflow_add-flag
overflow_add-flag c = omega (arith, flag_most 16 c.args.g.toggle)
