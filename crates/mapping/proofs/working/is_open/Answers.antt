-- `mapping::working::is_open` meets its contract. Assumes nothing.
use mathlib.Core.Path.{◌∙◌, ap}
use native.Mathlib.Omega.{arith}
use lib.Dec.{ltb}
use Rattle.mapping.proofs.Validity.{not_valid, valid}
use Rattle.mapping.proofs.working.is_open.Goals as goal

pub returns-then-identifier-ge-INVALID : goal.returns-then-identifier-ge-INVALID
returns-then-identifier-ge-INVALID c =
    let a = c.args in
    not_valid a.d.now a.p _ c.identifier.ensures (omega arith) (omega arith)

pub returns : goal.returns
returns c =
    let a = c.args in
    ap (ltb 0) c.map_count.ensures ∙ valid a.d.now a.p _ c.identifier.ensures (omega arith)
