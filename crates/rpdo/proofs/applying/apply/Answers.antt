-- `rpdo::applying::apply` meets its contract: the places that it names are the rows', by computation. Assumes nothing.
use mathlib.Core.Path.{◌∙◌}
use Rattle.rules_dictionary.specs.Table.{open_table}
use Rattle.output.proofs.Left.{lent}
use Rattle.rpdo.proofs.Applied.{applied_by}
use Rattle.rpdo.proofs.applying.apply.Goals as goal

pub acted-requires : goal.acted-requires
acted-requires c =
    let l = c.requires.0 in
    lent l.own (c.store_values.auto.d ∙ l.long) l.room l.id

pub returns : goal.returns
unfolding open_table
returns c =
    λ xs r. applied_by r c.args.content _ _ _
    c.control_word-old.ensures c.store_values.ensures c.maps-mode.ensures c.maps-control.ensures c.acted.ensures
