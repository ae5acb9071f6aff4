-- By the command. Assumes nothing.
use Rattle.std.proofs.Common.{refl}
use Rattle.rules_services.specs.Sdo.{abort, reply}
use Rattle.rules_services.specs.SdoServer.{sdo, asked}
use Rattle.form.specs.Form.{state_of}
use Rattle.output.proofs.Left.{left_as, resting}
use Rattle.sdo.proofs.Downloading.{expedited_offers}
use Rattle.sdo.proofs.server.serve.Goals as goal

pub returns-in-Download : goal.returns-in-Download
unfolding sdo asked reply
returns-in-Download c =
    let a = c.args in
    rw (← c.command_of.ensures, c.in-Download.is)
    (rw (c.reply_to.ensures, c.expedited.ensures, c.object_of-object.ensures, expedited_offers a.request) at c.download.ensures)

pub returns-in-DownloadBySegments : goal.returns-in-DownloadBySegments
unfolding sdo asked
returns-in-DownloadBySegments c =
    let a = c.args in
    rw (← c.command_of.ensures, c.in-DownloadBySegments.is) (rw c.object_of-object.ensures at (c.begin.ensures a.d.now))

pub returns-in-DownloadSegment : goal.returns-in-DownloadSegment
unfolding sdo asked
returns-in-DownloadSegment c =
    rw (← c.command_of.ensures, c.in-DownloadSegment.is) c.segment_sent.ensures

pub returns-in-Upload : goal.returns-in-Upload
unfolding sdo asked
returns-in-Upload c =
    rw (← c.command_of.ensures, c.in-Upload.is) (rw c.object_of-object.ensures at c.upload.ensures)

pub returns-in-UploadSegment : goal.returns-in-UploadSegment
unfolding sdo asked
returns-in-UploadSegment c =
    rw (← c.command_of.ensures, c.in-UploadSegment.is) (c.segment_asked.ensures c.args.d.now)

pub returns-in-ClientAbort : goal.returns-in-ClientAbort
unfolding sdo asked
returns-in-ClientAbort c =
    let a = c.args in
    let before = state_of a.state.now in
    rw (← c.command_of.ensures, c.in-ClientAbort.is, c.nothing_done.ensures) (
      left_as before _ _ a.d.now a.output.now (c.put_no_transfer.ensures before c.requires.own),
      resting before _ _ refl (record { writes = refl; occasion = refl; nmt = refl; voltage = refl; drive = refl }),
    )

pub returns-in-Unknown : goal.returns-in-Unknown
unfolding sdo asked abort reply
returns-in-Unknown c =
    let a = c.args in
    rw (← c.command_of.ensures, c.in-Unknown.is) (rw c.object_of-object.ensures at (c.abort.ensures a.d.now))
