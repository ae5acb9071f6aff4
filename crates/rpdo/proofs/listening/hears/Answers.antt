-- `rpdo::listening::hears` meets its contract. Assumes nothing.
use mathlib.Core.Path.{◌∙◌}
use native.Mathlib.Omega.{arith}
use Rattle.rpdo.proofs.Hearing.{for_another, heard}
use Rattle.rpdo.proofs.listening.hears.Goals as goal

pub returns-then-identifier : goal.returns-then-identifier
returns-then-identifier c =
    let a = c.args in
    for_another a.d.now a.p a.identifier c.identifier.result c.identifier.ensures c.if-identifier.true

pub returns : goal.returns
returns c =
    let a = c.args in
    c.is_open.ensures ∙ heard a.d.now a.p a.identifier c.identifier.result c.identifier.ensures (omega arith)
