-- By the transfer that runs. Assumes nothing.
use Rattle.std.proofs.Common.{sym, ◌∙◌}
use Rattle.rules_dictionary.specs.Numbers.{bytes}
use Rattle.form.specs.Form.{state_of}
use Rattle.sdo.proofs.Transfers.{sent_to_none, sent_to_name, sent_to_download, sent_rests}
use Rattle.sdo.proofs.receipts.segment_sent.Goals as goal

pub returns-in-NoTransfer : goal.returns-in-NoTransfer
returns-in-NoTransfer c =
    let a = c.args in
    let s = state_of a.state.now in
    let e = sym c.read_transfer.ensures ∙ c.in-NoTransfer.is in
    rw (sent_to_none a.request s a.d.now e, sent_rests a.request s a.d.now e) (c.abort.ensures a.d.now)

pub returns-in-Uploading : goal.returns-in-Uploading
unfolding bytes
returns-in-Uploading c =
    let a = c.args in
    let s = state_of a.state.now in
    let e = sym c.read_transfer.ensures ∙ c.in-Uploading.is in
    rw (sent_to_name a.request s a.d.now e, sent_rests a.request s a.d.now e) (c.abort-in-Uploading.ensures a.d.now)

pub returns-in-Downloading : goal.returns-in-Downloading
returns-in-Downloading c =
    let a = c.args in
    let s = state_of a.state.now in
    let e = sym c.read_transfer.ensures ∙ c.in-Downloading.is in
    rw (sent_to_download a.request s a.d.now e, sent_rests a.request s a.d.now e) c.receive.ensures
