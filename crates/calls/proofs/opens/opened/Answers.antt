-- `calls::opens::opened` meets its contract. Assumes nothing.
use Rattle.std.proofs.Common.{refl, ◌∙◌}
use Rattle.state.specs.declared.Refusal.TheVariants.{NotSound}
use Rattle.calls.specs.Opening.{holds_sound}
use Rattle.calls.proofs.Refusals.{handed_on, lengths, opens_not, opens_by, passes_so}
use Rattle.calls.proofs.opens.opened.Goals as goal

pub returns-in_err-lent : goal.returns-in_err-lent
returns-in_err-lent c =
    let a = c.args in
    handed_on c.from_residual.ensures.1
    ∙ opens_not a.d.now a.output.now (holds_sound a.state.now a.d.now) NotSound c.in_err-lent.ensures

pub held-requires : goal.held-requires
held-requires c = let a = c.args in (lengths a.d.now a.output.now (passes_so c.in_ok-lent.ensures)).0

pub returns : goal.returns
returns c =
    let a = c.args in
    c.held.ensures ∙ opens_by a.d.now a.output.now (holds_sound a.state.now a.d.now) NotSound c.in_ok-lent.ensures _ refl
