-- Refused, or applied. Assumes nothing.
use Rattle.std.proofs.Common.{rules}
use Rattle.sdo.proofs.Verdicts.{pdo_fits}
use Rattle.sdo.proofs.Downloading.{download_refused, download_writable, download_applied}
use Rattle.sdo.proofs.downloads.to_entry.Goals as goal

pub offer_verdict-requires : goal.offer_verdict-requires
offer_verdict-requires c = (search rules, pdo_fits c.args.e c.requires.1)

pub apply-requires : goal.apply-requires
apply-requires c =
    let a = c.args in (
      c.requires.0,
      (
        (_, (_, c.requires.1)),
        download_writable a.reply a.object a.state.now a.d.now a.brought c.requires.1 c.offered-offer.ensures
            (rw c.read_node-node.ensures at c.offer_verdict.ensures) c.in-Ok.is,
      ),
    )

pub returns-in-Ok : goal.returns-in-Ok
returns-in-Ok c =
    let a = c.args in
    download_applied a.reply a.object a.state.now a.d.now a.brought c.requires.1 c.offered-offer.ensures
    (rw c.read_node-node.ensures at c.offer_verdict.ensures) c.in-Ok.is c.apply.ensures

pub returns-in-Err : goal.returns-in-Err
returns-in-Err c =
    let a = c.args in
    download_refused a.reply a.object a.state.now a.d.now a.brought c.requires.1 c.offered-offer.ensures
    (rw c.read_node-node.ensures at c.offer_verdict.ensures) c.in-Err.is c.abort.ensures
