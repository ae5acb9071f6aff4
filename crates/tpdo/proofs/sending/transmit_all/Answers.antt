use Prim.Native.Nat.{◌-◌, ◌*◌, ◌≤◌}
use mathlib.Core.Path.{refl, sym, ◌∙◌}
use lib.ListN.{length, length-take, length-drop}
use native.Mathlib.Omega.{arith}
use borrow.Author.Rules.{rules}
use Rattle.state.specs.declared.NmtState.TheVariants.{Operational}
use Rattle.rules.specs.Outcome.{frame_size}
use Rattle.form.specs.Form.{state_of}
use Rattle.output.proofs.Frames.{lent_back}
use Rattle.tpdo.proofs.Rounds.{operational, one_at_most, count_below, ready_data, ready_default, none_yet, one_more}
use Rattle.tpdo.proofs.Rounds.{in_operational, Over, all_done, at_rest}
use Rattle.tpdo.proofs.sending.transmit_all.Goals.{then-is_operational+else-loop-t-test, else-is_operational}
use Rattle.tpdo.proofs.sending.transmit_all.Goals as goal

pub loop-t-init : goal.loop-t-init
loop-t-init c =
    let a = c.args in
    none_yet a.was a.occasion Operational a.changed a.paces a.d.now (state_of a.state.now).axis.ready a.n a.output.now

pub pace-paced-requires : goal.pace-paced-requires
pace-paced-requires c =
    let a = c.args in
    let h = c.requires.state_len.1 in
    let t = c.loop-t-test.true in
    let on = sym c.is_operational.ensures ∙ c.if-is_operational.true in
    (h.long, (t, count_below a.was a.occasion a.nmt a.changed a.paces a.d.now _ on h c.loop-t.t t))

pub overflow_mul-place : goal.overflow_mul-place
overflow_mul-place c = omega (arith, c.loop-t.invariant.few)

pub slice_bounds-transmit-start : goal.slice_bounds-transmit-start
slice_bounds-transmit-start c = let l = c.loop-t.invariant in omega (arith, l.few, l.long)

pub slice_bounds-transmit-end : goal.slice_bounds-transmit-end
slice_bounds-transmit-end c = let l = c.loop-t.invariant in omega (arith, l.few, l.long)

pub slice_bounds-transmit-count : goal.slice_bounds-transmit-count
slice_bounds-transmit-count c = let l = c.loop-t.invariant in omega (arith, l.few, l.long)

pub transmit-sent-requires : goal.transmit-sent-requires
transmit-sent-requires c =
    let t = c.loop-t-test.true in
    let may = c.requires.state_len in
    let l = c.loop-t.invariant in
    record {
      state_len = (may.0, may.1.long);
      frame_size_in_bounds = (simp (length-take, length-drop) (omega (arith, l.few, l.long)), (t, ready_data c.args.state.now may.1 t));
    }

pub overflow_add-sent : goal.overflow_add-sent
overflow_add-sent c =
    let one : c.transmit-sent.result ≤ 1 = rw c.transmit-sent.ensures.0 (one_at_most _ _ _ _) in
    omega (arith, c.loop-t.invariant.few, c.loop-t.invariant.far, c.requires.output_length_in_bounds.1)

pub loop-t-preserved : goal.loop-t-preserved
loop-t-preserved c =
    let a = c.args in
    let ready = (state_of a.state.now).axis.ready in
    let t = c.loop-t-test.true in
    let is = c.pace-paced.ensures
    ∙ in_operational a.was a.occasion Operational a.changed a.paces a.d.now ready refl t
    (search rules) (search rules) _ _ _ refl in
    let room = c.requires.output_length_in_bounds in
    one_more a.was a.occasion Operational a.changed a.paces a.d.now ready c.loop-t.invariant t room.1 room.0
    c.pace-paced.result is _ (ready_default a.state.now t)
    c.transmit-sent.result c.transmit-sent.ensures.0 _
    (lent_back c.loop-t.output _ _ c.loop-t.sent (length c.loop-t.output - frame_size * c.loop-t.sent) (omega arith)
    c.transmit-sent.ensures.1)

-- where the two ways meet
over : (c : goal.Joined-is_operational) →
    let a = c.args in
    let m = c.if-is_operational in
    Over a.was a.occasion a.nmt a.changed a.paces a.d.now (state_of a.state.now).axis.ready a.n a.output.now m.output
    m.next m.sent
over c =
    let a = c.args in
    let ready = (state_of a.state.now).axis.ready in
    let asked = c.is_operational.ensures in
    elim c.if-is_operational.branch [
      | then-is_operational+else-loop-t-test w ↦
          rw (w.output-is, w.next-is, w.sent-is, operational a.nmt (sym asked ∙ w.if-is_operational.true))
          (all_done a.was a.occasion Operational a.changed a.paces a.d.now ready w.loop-t.invariant w.loop-t-test.false)
      | else-is_operational w ↦
          rw (w.output-is, w.next-is, w.sent-is)
          (at_rest a.was a.occasion a.nmt a.changed a.paces a.d.now ready a.n a.output.now (sym asked ∙ w.if-is_operational.false))
    ]

pub overflow_cast-result : goal.overflow_cast-result
overflow_cast-result c = let h = over c in omega (arith, h.few, c.requires.output_length_in_bounds.1)

pub shape_of-output : goal.shape_of-output
shape_of-output c = (over c).long

pub returns : goal.returns
returns c = (over c).sent
