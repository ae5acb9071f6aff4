-- Aborted, or taken. Assumes nothing.
use Rattle.std.proofs.Common.{ap, ◌∙◌, rules}
use Rattle.sdo.specs.declared.Brought.{Brought}
use Rattle.sdo.specs.Requests.{offered_by}
use Rattle.sdo.proofs.Verdicts.{pdo_fits}
use Rattle.load.proofs.Steps.{is_taken, row_aborted, row_taken}
use Rattle.load.proofs.trying.try_row.Goals as goal

pub offer_verdict-requires : goal.offer_verdict-requires
offer_verdict-requires c =
    (search rules, pdo_fits c.args.e c.requires.1.0)

pub returns : goal.returns
returns c =
    let a = c.args in
    row_taken a.listing a.tally a.d.now c.requires.1.0
    (c.offered-offer.ensures ∙ ap (λ (x : Brought). offered_by x a.e.size) c.brought_by.ensures) c.offer_verdict.ensures
    (is_taken _ c.in_default.not-Err)
    c.write.ensures c.taken_at.ensures

pub returns-in-Err : goal.returns-in-Err
returns-in-Err c =
    let a = c.args in
    row_aborted a.listing a.tally a.d.now c.requires.1.0
    (c.offered-offer.ensures ∙ ap (λ (x : Brought). offered_by x a.e.size) c.brought_by.ensures) c.offer_verdict.ensures
    c.in-Err.is c.aborted_with.ensures
