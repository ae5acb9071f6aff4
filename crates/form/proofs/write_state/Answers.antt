use Rattle.std.proofs.Common.{◌∙◌}
use Rattle.form.specs.Form.{HoldsPlans}
use Rattle.form.proofs.Rows.{plans_written, head_over, typed_whole}
use Rattle.form.proofs.write_state.Goals as goal

pub returns : goal.returns
returns c =
    let h = c.write_head.ensures in
    let p = c.write_plans.ensures in
    let s = c.args.s in
    let x = s.axis in
    let held : HoldsPlans c.write_plans.new.bytes x.plans =
    rw p.0 (plans_written c.args.bytes.now x.plans c.requires p.1) in (
      h.bytes_after ∙ head_over _ x.plans s.node s.transfer x.drive x.ready x.held x.paces held,
      typed_whole x.plans s.node s.transfer x.drive x.ready x.held x.paces h.head_typed p.1,
    )
