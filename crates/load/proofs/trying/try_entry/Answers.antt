-- By what the look-up found. Assumes nothing.
use Rattle.std.proofs.Common.{refl, rules}
use Rattle.load.specs.Trying.{verdict_on, written_by, tried_with}
use Rattle.load.proofs.Steps.{none_tried}
use Rattle.load.proofs.trying.try_entry.Goals as goal

pub try_row-requires : goal.try_row-requires
try_row-requires c =
    let found = rw c.in-Ok-Row.is at c.find.ensures in
    (search rules, (rw c.entry.ensures (rw c.in-Ok-Row.field-0-is at found), search rules))

pub returns-in-Ok-DeviceName : goal.returns-in-Ok-DeviceName
unfolding verdict_on written_by tried_with
returns-in-Ok-DeviceName c =
    let found = rw c.in-Ok-DeviceName.is at c.find.ensures in
    rw (rw c.in-Ok-DeviceName.field-0-is at found) record { tally = c.aborted_with.ensures; dictionary = refl }

pub returns-in-Err : goal.returns-in-Err
returns-in-Err c =
    none_tried c.args.listing c.args.tally c.args.d.now _ (rw c.in-Err.is at c.find.ensures) (rw c.from.ensures at c.aborted_with-in-Err.ensures)
