-- `calls::event_in` meets its contract. Assumes nothing.
use native.Mathlib.Omega.{arith}
use mathlib.Core.Path.{◌≡◌, refl, sym, ◌∙◌, subst}
use mathlib.Core.Bool.{true}
use Rattle.state.specs.declared.Refusal.TheVariants.{BadEvent, OutOfPlace}
use Rattle.rules_dictionary.specs.Numbers.{are_bytes}
use Rattle.rules.specs.Calls.{event_call, answered}
use Rattle.theorems.proofs.Runs.{ToldFits, arguments_fit}
use Rattle.theorems.proofs.Services.{event_serves}
use Rattle.form.specs.Form.{state_of}
use Rattle.mapping.proofs.Assembly.{are_bytes_lem}
use Rattle.calls.proofs.Refusals.{stands_lent, decides, decides_not, bad_told, out_of_place, in_place}
use Rattle.calls.proofs.Serving.{lent_frame}
use Rattle.calls.proofs.Concluding.{may_finish, concludes}
use Rattle.calls.proofs.Answered.{refused_answers, given_answers}
use Rattle.calls.proofs.event_in.Goals as goal

pub returns-then-not-is_in_place : goal.returns-then-not-is_in_place
returns-then-not-is_in_place c =
    let a = c.args in
    let s = state_of a.state.now in
    let k = c.requires.stands in
    let told = sym c.in-Some.is ∙ c.event_of.ensures in
    refused_answers c.requires.own c.refused-then-not-is_in_place.ensures
    (decides_not (event_call a.number a.arguments.now) s a.d.now a.output.now refl (stands_lent k) OutOfPlace
    (out_of_place a.number a.arguments.now s a.d.now k.sound _ told
    (sym c.is_in_place.ensures ∙ c.if-not-is_in_place.true)))

pub finish-requires : goal.finish-requires
finish-requires c =
    let a = c.args in
    let s = state_of a.state.now in
    let k = c.requires.stands in
    let told = sym c.in-Some.is ∙ c.event_of.ensures in
    let placed = sym c.is_in_place.ensures ∙ c.if-not-is_in_place.false in
    let octet : are_bytes a.arguments.now ≡ true = are_bytes_lem a.arguments.now
    (λ i l. omega (arith, c.shared_slice_known-1.given i)) in
    let b : are_bytes a.d.now ≡ true = are_bytes_lem a.d.now (λ i l. omega (arith, c.slice_known-2-1.given i)) in
    let serves = event_serves Unit s a.d.now _ (λ x. placed)
    (λ x. subst ToldFits (sym told) (arguments_fit a.number a.arguments.now octet)) in
    let left = c.happens-done.ensures in
    rw c.is_operational-was.ensures (may_finish k b serves left.0 left.1)

pub returns-in-None : goal.returns-in-None
returns-in-None c =
    let a = c.args in
    let s = state_of a.state.now in
    let k = c.requires.stands in
    refused_answers c.requires.own c.refused.ensures
    (decides_not (event_call a.number a.arguments.now) s a.d.now a.output.now refl (stands_lent k) BadEvent
    (bad_told a.number a.arguments.now s a.d.now k.sound (sym c.in-None.is ∙ c.event_of.ensures)))

pub returns-else-not-is_in_place : goal.returns-else-not-is_in_place
unfolding answered
returns-else-not-is_in_place c =
    let a = c.args in
    let s = state_of a.state.now in
    let k = c.requires.stands in
    let told = sym c.in-Some.is ∙ c.event_of.ensures in
    let placed = sym c.is_in_place.ensures ∙ c.if-not-is_in_place.false in
    let octet : are_bytes a.arguments.now ≡ true = are_bytes_lem a.arguments.now
    (λ i l. omega (arith, c.shared_slice_known-1.given i)) in
    let b : are_bytes a.d.now ≡ true = are_bytes_lem a.d.now (λ i l. omega (arith, c.slice_known-2-1.given i)) in
    let serves = event_serves Unit s a.d.now _ (λ x. placed)
    (λ x. subst ToldFits (sym told) (arguments_fit a.number a.arguments.now octet)) in
    let left = c.happens-done.ensures in
    given_answers (concludes k b serves left.0 left.1 (rw c.is_operational-was.ensures at c.finish.ensures))
    c.accepted.ensures
    (sym (decides (event_call a.number a.arguments.now) s a.d.now a.output.now refl (stands_lent k) _
    (in_place a.number a.arguments.now s a.d.now k.sound _ told placed)))

pub happens-done-requires : goal.happens-done-requires
happens-done-requires c = lent_frame c.requires
