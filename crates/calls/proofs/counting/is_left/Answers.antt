-- `calls::counting::is_left` meets its contract. Assumes nothing.
use mathlib.Core.Path.{◌∙◌, sym}
use mathlib.Core.Bool.{true}
use borrow.Author.Tests.{not-false}
use Rattle.form.specs.Form.{state_of}
use Rattle.calls.proofs.Counted.{counted_ticks, counted_none}
use Rattle.calls.proofs.counting.is_left.Goals as goal

pub returns-then-not-done : goal.returns-then-not-done
returns-then-not-done c =
    let a = c.args in
    record {
      counted = rw (counted_ticks a.done.occasion _ a.d.now (state_of a.state.now) c.is_ticked-ticked.ensures) at c.count.ensures;
      value = rw (c.if-not-done.true);
    }

pub returns-then-not-ticked : goal.returns-then-not-ticked
returns-then-not-ticked c =
    let a = c.args in
    let quiet = not-false _ c.if-not-done.false in
    let plain = sym c.is_ticked-ticked.ensures ∙ c.if-not-ticked.true in
    record {
      counted = rw (counted_none a.done.occasion a.d.now (state_of a.state.now) plain (c.requires.sound quiet)) c.requires.holds.0;
      value = rw (quiet, plain);
    }

pub returns : goal.returns
returns c =
    let a = c.args in
    let ticked = sym c.is_ticked-ticked.ensures ∙ c.if-not-ticked.false in
    record {
      counted = rw (counted_ticks a.done.occasion true a.d.now (state_of a.state.now) (sym ticked)) at c.count_quietly.ensures.counted;
      value = c.count_quietly.ensures.value ∙ rw (c.if-not-done.false, ticked);
    }
