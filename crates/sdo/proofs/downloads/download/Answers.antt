-- By what the look-up found. Assumes nothing.
use Rattle.rules_services.specs.Sdo.{download, with_reply, downloads, abort, reply}
use Rattle.sdo.specs.Requests.{is_written}
use Rattle.sdo.proofs.Downloading.{looked_up, missing_download}
use Rattle.sdo.proofs.downloads.download.Goals as goal

pub to_entry-requires : goal.to_entry-requires
to_entry-requires c =
    let found = looked_up c.args.object c.read2.ensures c.find.ensures c.in-Ok-Row.is in
    (c.requires, rw c.entry.ensures (rw c.in-Ok-Row.field-0-is at found))

pub returns-in-Ok-DeviceName : goal.returns-in-Ok-DeviceName
unfolding downloads download with_reply abort reply is_written
returns-in-Ok-DeviceName c =
    let a = c.args in
    let found = looked_up a.object c.read2.ensures c.find.ensures c.in-Ok-DeviceName.is in
    rw (rw c.in-Ok-DeviceName.field-0-is at found) (c.abort.ensures a.d.now)

pub returns-in-Err : goal.returns-in-Err
returns-in-Err c =
    let a = c.args in
    missing_download a.object a.state.now a.d.now _ (looked_up a.object c.read2.ensures c.find.ensures c.in-Err.is) c.from.ensures
    c.abort-in-Err.ensures a.reply a.brought
