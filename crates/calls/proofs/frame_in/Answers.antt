-- `calls::frame_in` meets its contract. Assumes nothing.
use native.Mathlib.Omega.{arith}
use mathlib.Core.Path.{◌≡◌, refl, sym, ◌∙◌, ap, subst}
use mathlib.Core.Bool.{true}
use Rattle.state.specs.declared.Refusal.TheVariants.{BadFrame}
use Rattle.rules_dictionary.specs.Numbers.{are_bytes}
use Rattle.rules.specs.Outcome.{ended}
use Rattle.rules.specs.Calls.{frame_call, framed, does, accepted, answered}
use Rattle.theorems.proofs.Lawful.{clauses, sound_lawful}
use Rattle.theorems.proofs.Services.{framed_serves}
use Rattle.form.specs.Form.{state_of}
use Rattle.mapping.proofs.Assembly.{are_bytes_lem}
use Rattle.output.specs.Laying.{OnBus, data_of}
use Rattle.calls.proofs.Serving.{runs_in}
use Rattle.calls.proofs.Refusals.{stands_lent, decides, decides_not, no_identifier, too_long, a_frame}
use Rattle.calls.proofs.Telling.{on_bus, data_back}
use Rattle.calls.proofs.Concluding.{may_finish, concludes}
use Rattle.calls.proofs.Answered.{refused_answers, given_answers}
use Rattle.calls.proofs.frame_in.Goals as goal

pub returns-then-identifier-gt-LAST_IDENTIFIER : goal.returns-then-identifier-gt-LAST_IDENTIFIER
returns-then-identifier-gt-LAST_IDENTIFIER c =
    let a = c.args in
    let s = state_of a.state.now in
    let k = c.requires.stands in
    refused_answers c.requires.own c.refused.ensures
    (decides_not (frame_call a.identifier a.bytes.now) s a.d.now a.output.now refl (stands_lent k) BadFrame
    (no_identifier a.identifier a.bytes.now s a.d.now k.sound c.if-identifier-gt-LAST_IDENTIFIER.true))

pub returns-then-bytes-gt-MOST_DATA : goal.returns-then-bytes-gt-MOST_DATA
returns-then-bytes-gt-MOST_DATA c =
    let a = c.args in
    let s = state_of a.state.now in
    let k = c.requires.stands in
    refused_answers c.requires.own c.refused-then-bytes-gt-MOST_DATA.ensures
    (decides_not (frame_call a.identifier a.bytes.now) s a.d.now a.output.now refl (stands_lent k) BadFrame
    (too_long a.identifier a.bytes.now s a.d.now k.sound c.if-bytes-gt-MOST_DATA.true))

pub serve_frame-done-requires : goal.serve_frame-done-requires
serve_frame-done-requires c = (
  c.requires,
  subst OnBus (sym c.content_of.ensures)
      (on_bus c.args.bytes.now c.if-bytes-gt-MOST_DATA.false (are_bytes_lem c.args.bytes.now (λ i l. omega (arith, c.type_inv.bytes i)))),
)

pub finish-requires : goal.finish-requires
finish-requires c =
    let a = c.args in
    let s = state_of a.state.now in
    let k = c.requires.stands in
    let b : are_bytes a.d.now ≡ true = are_bytes_lem a.d.now (λ i l. omega (arith, c.slice_known-2-1.given i)) in
    let on = subst OnBus (sym c.content_of.ensures)
    (on_bus c.args.bytes.now c.if-bytes-gt-MOST_DATA.false (are_bytes_lem c.args.bytes.now (λ i l. omega (arith, c.type_inv.bytes i)))) in
    let runs = runs_in a.state.now (λ i. omega (arith, c.slice_known-1.given i))
    (clauses s a.d.now k.sound).transfer in
    let serves = framed_serves Unit s a.d.now a.identifier (data_of c.content_of.result) (λ x. on.bytes) (λ x. runs)
    (sound_lawful s a.d.now k.long k.sound) k.sound in
    let left = c.serve_frame-done.ensures in
    rw c.is_operational-was.ensures (may_finish k b serves left.0 left.1)

pub returns : goal.returns
unfolding answered
returns c =
    let a = c.args in
    let s = state_of a.state.now in
    let k = c.requires.stands in
    let b : are_bytes a.d.now ≡ true = are_bytes_lem a.d.now (λ i l. omega (arith, c.slice_known-2-1.given i)) in
    let on = subst OnBus (sym c.content_of.ensures)
    (on_bus c.args.bytes.now c.if-bytes-gt-MOST_DATA.false (are_bytes_lem c.args.bytes.now (λ i l. omega (arith, c.type_inv.bytes i)))) in
    let runs = runs_in a.state.now (λ i. omega (arith, c.slice_known-1.given i))
    (clauses s a.d.now k.sound).transfer in
    let serves = framed_serves Unit s a.d.now a.identifier (data_of c.content_of.result) (λ x. on.bytes) (λ x. runs)
    (sound_lawful s a.d.now k.long k.sound) k.sound in
    let left = c.serve_frame-done.ensures in
    given_answers (concludes k b serves left.0 left.1 (rw c.is_operational-was.ensures at c.finish.ensures))
    c.accepted.ensures
    (ap (λ xs. accepted (ended s a.d.now (framed a.identifier xs s a.d.now)) a.output.now)
    (ap data_of c.content_of.ensures ∙ data_back a.bytes.now c.if-bytes-gt-MOST_DATA.false)
    ∙ sym (decides (frame_call a.identifier a.bytes.now) s a.d.now a.output.now refl (stands_lent k)
    (does (framed a.identifier a.bytes.now s a.d.now))
    (a_frame a.identifier a.bytes.now s a.d.now k.sound c.if-identifier-gt-LAST_IDENTIFIER.false c.if-bytes-gt-MOST_DATA.false)))
