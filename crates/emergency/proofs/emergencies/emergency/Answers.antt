-- `emergency::emergencies::emergency` meets its contract. Assumes nothing.
use mathlib.Core.Path.{sym, ◌∙◌}
use borrow.Author.Rules.{rules}
use Rattle.emergency.proofs.Written.{silent, spoken, emergency_data_lem}
use Rattle.emergency.proofs.emergencies.emergency.Goals as goal

pub returns-then-is_stopped : goal.returns-then-is_stopped
returns-then-is_stopped c =
    let a = c.args in
    silent a.code a.node a.d.now a.output.now (sym c.is_stopped.ensures ∙ c.if-is_stopped.true)

pub send-requires : goal.send-requires
send-requires c =
    (search rules, emergency_data_lem _ _ _ c.emergency_data-content.ensures)

pub returns : goal.returns
returns c =
    let a = c.args in
    let speaks = sym c.is_stopped.ensures ∙ c.if-is_stopped.false in
    spoken a.code a.node a.d.now _ _ a.output.now _ speaks c.error_register.ensures c.emergency_data-content.ensures
    c.send.ensures
