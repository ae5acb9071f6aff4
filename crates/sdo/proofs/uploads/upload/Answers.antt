-- By what the look-up found. Assumes nothing.
use Rattle.rules_services.specs.Segments.{name_asked}
use Rattle.rules_services.specs.Sdo.{reply}
use Rattle.rules_services.specs.SdoServer.{uploads}
use Rattle.sdo.proofs.Downloading.{looked_up, missing_upload}
use Rattle.sdo.proofs.uploads.upload.Goals as goal

pub upload_row-requires : goal.upload_row-requires
upload_row-requires c =
    let found = looked_up c.args.object c.read2.ensures c.find.ensures c.in-Ok-Row.is in
    (c.requires, rw c.in-Ok-Row.field-0-is at found)

pub returns-in-Ok-DeviceName : goal.returns-in-Ok-DeviceName
unfolding uploads name_asked reply
returns-in-Ok-DeviceName c =
    let a = c.args in
    let found = looked_up a.object c.read2.ensures c.find.ensures c.in-Ok-DeviceName.is in
    rw (rw c.in-Ok-DeviceName.field-0-is at found) (rw c.reply_to.ensures at (c.answer.ensures a.d.now))

pub returns-in-Err : goal.returns-in-Err
returns-in-Err c =
    let a = c.args in
    missing_upload a.object a.state.now a.d.now _ (looked_up a.object c.read2.ensures c.find.ensures c.in-Err.is) c.from.ensures c.abort.ensures
