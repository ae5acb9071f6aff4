-- `calls::finishing::finish` meets its contract. Assumes nothing.
use mathlib.Core.Path.{◌∙◌, sym}
use Rattle.form.specs.Form.{state_of}
use Rattle.form.proofs.Holding.{held_state}
use Rattle.calls.proofs.Counted.{still_left, may_end_counted}
use Rattle.calls.proofs.Ends.{rests, renewed}
use Rattle.calls.proofs.finishing.finish.Goals as goal

pub is_left-requires : goal.is_left-requires
is_left-requires c =
    let p = c.requires in
    record { holds = (p.end.own, (p.end.whole, p.end.plannable.0)); sound = λ q. (p.rests q).placed }

-- nothing was left to do
pub returns-then-not-is_left : goal.returns-then-not-is_left
returns-then-not-is_left c =
    let a = c.args in
    let left = c.is_left.ensures in
    rests left.counted
    (still_left a.was (state_of a.state.now) a.done a.d.now (sym left.value ∙ c.if-not-is_left.true) c.requires.rests)

pub anew-requires : goal.anew-requires
anew-requires c =
    let m = may_end_counted c.args.done.occasion c.is_left.ensures.counted c.requires.end in
    record { own = m.own; whole = m.whole; plannable = m.plannable }

pub returns-then-done : goal.returns-then-done
returns-then-done c =
    renewed _ (c.requires.idle c.if-done.true) (rw (held_state c.is_left.ensures.counted) at c.anew.ensures)

pub end_call-requires : goal.end_call-requires
end_call-requires c =
    (may_end_counted c.args.done.occasion c.is_left.ensures.counted c.requires.end, c.if-done.false)

pub returns : goal.returns
returns c =
    rw (held_state c.is_left.ensures.counted) at c.end_call.ensures
