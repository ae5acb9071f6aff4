-- `calls::opens::powering` meets its contract. Assumes nothing.
use Rattle.std.proofs.Common.{true, false, ◌∙◌, ◌≤◌, arith}
use Rattle.std.proofs.lemmas.Grind.{common_steps}
use Rattle.state.specs.declared.Refusal.TheVariants.{NodeId}
use Rattle.rules_dictionary.specs.TheNode.{first_node, last_node, is_node_id}
use Rattle.calls.proofs.Refusals.{handed_on, opens_not, opens_by, a_node_id}
use Rattle.calls.proofs.opens.powering.Goals as goal

pub returns-in_err-lent : goal.returns-in_err-lent
returns-in_err-lent c =
    let a = c.args in handed_on c.from_residual.ensures.1 ∙ opens_not a.d.now a.output.now (is_node_id a.n) NodeId c.in_err-lent.ensures

pub returns-then-not-contains : goal.returns-then-not-contains
returns-then-not-contains c =
    let a = c.args in
    let v = rw (c.new.ensures.start, c.new.ensures.end) at c.contains.ensures.cases in
    opens_by a.d.now a.output.now (is_node_id a.n) NodeId c.in_ok-lent.ensures false (grind (arith, common_steps, v, c.if-not-contains.true))

pub returns : goal.returns
returns c =
    let a = c.args in
    let inside : (c.new.result.start ≤ a.n) × (a.n ≤ c.new.result.end) = grind (arith, common_steps, c.contains.ensures.cases, c.if-not-contains.false) in
    let first : first_node ≤ a.n = omega (arith, inside.0, c.new.ensures.start) in
    let last : a.n ≤ last_node = omega (arith, inside.1, c.new.ensures.end) in
    opens_by a.d.now a.output.now (is_node_id a.n) NodeId c.in_ok-lent.ensures true (a_node_id a.n first last)
