-- One is aborted, and the bytes are put back; or all are taken. Assumes nothing.
use Rattle.std.proofs.Common.{sym}
use Rattle.rules_dictionary.specs.Table.{open_table}
use Rattle.load.proofs.Loaded.{one_aborted, all_taken}
use Rattle.load.proofs.Steps.{is_taken}
use Rattle.load.proofs.configuration.load_entries.Goals as goal

pub returns : goal.returns
returns c =
    let a = c.args in
    rw c.taken.ensures
    (all_taken a.file.now a.state.now a.d.now c.requires.1 c.try_entries-tally.ensures (is_taken _ c.in_default.not-Err)
    c.requires.0.own c.restart.ensures
    c.act_on_mode.ensures)

pub copy_from_slice-requires : goal.copy_from_slice-requires
unfolding open_table
copy_from_slice-requires c = sym c.requires.0.long

pub returns-in-Err : goal.returns-in-Err
returns-in-Err c =
    let a = c.args in
    rw (c.aborted.ensures, c.copy_from_slice-in-Err.ensures.after, c.copy_from_slice.ensures.after)
    (one_aborted a.file.now a.state.now a.d.now c.requires.1 c.try_entries-tally.ensures c.in-Err.is)
