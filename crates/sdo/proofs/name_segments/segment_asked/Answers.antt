-- By the transfer that runs. Assumes nothing.
use Rattle.std.proofs.Common.{sym, ◌∙◌}
use Rattle.form.specs.Form.{state_of}
use Rattle.sdo.proofs.Transfers.{asked_of_none, asked_of_name, asked_of_download}
use Rattle.sdo.proofs.name_segments.segment_asked.Goals as goal

pub returns-in-NoTransfer : goal.returns-in-NoTransfer
returns-in-NoTransfer c d =
    let a = c.args in
    rw (asked_of_none a.request (state_of a.state.now) (sym c.read_transfer.ensures ∙ c.in-NoTransfer.is)) (c.abort.ensures d)

pub returns-in-Uploading : goal.returns-in-Uploading
returns-in-Uploading c d =
    let a = c.args in
    rw (asked_of_name a.request (state_of a.state.now) (sym c.read_transfer.ensures ∙ c.in-Uploading.is)) (c.due_segment.ensures d)

pub returns-in-Downloading : goal.returns-in-Downloading
returns-in-Downloading c d =
    let a = c.args in
    rw (asked_of_download a.request (state_of a.state.now) (sym c.read_transfer.ensures ∙ c.in-Downloading.is))
    (rw c.object_in.ensures at (c.abort-in-Downloading.ensures d))
