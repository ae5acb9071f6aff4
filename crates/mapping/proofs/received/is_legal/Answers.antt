-- `mapping::received::is_legal` meets its contract. Assumes nothing.
use borrow.Author.Tests.{ne_eqb}
use Rattle.rules_dictionary.specs.Table.{open_table}
use Rattle.mapping.proofs.received.is_legal.Goals as goal

pub returns-in-338 : goal.returns-in-338
unfolding open_table
returns-in-338 c = rw c.in-338.is c.is_mode.ensures

pub returns-in-375 : goal.returns-in-375
unfolding open_table
returns-in-375 c = rw c.in-375.is

pub returns-in-379 : goal.returns-in-379
unfolding open_table
returns-in-379 c = rw c.in-379.is

pub returns-in_default : goal.returns-in_default
unfolding open_table
returns-in_default c =
    simp (
      ne_eqb _ _ c.in_default.in_default-own.rest.0.0.1,
      ne_eqb _ _ c.in_default.in_default-own.rest.0.1,
      ne_eqb _ _ c.in_default.in_default-own.rest.1,
    )
