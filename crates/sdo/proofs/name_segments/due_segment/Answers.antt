-- By the toggle, and whether it is the last. Assumes nothing.
use Rattle.std.proofs.Common.{sym, ◌∙◌}
use Rattle.rules_dictionary.specs.Numbers.{bytes}
use Rattle.form.specs.Form.{state_of}
use Rattle.sdo.proofs.Transfers.{other_toggle, same_toggle, due_last, due_next}
use Rattle.sdo.proofs.name_segments.due_segment.Goals as goal

pub returns-then-toggle_of-toggle_at : goal.returns-then-toggle_of-toggle_at
unfolding bytes
returns-then-toggle_of-toggle_at c d =
    rw (other_toggle c.toggle_of.ensures c.toggle_at.ensures c.if-toggle_of-toggle_at.true) (c.abort.ensures d)

pub returns-then-is_last_of : goal.returns-then-is_last_of
returns-then-is_last_of c d =
    let a = c.args in
    let same = same_toggle c.toggle_of.ensures c.toggle_at.ensures c.if-toggle_of-toggle_at.false in
    rw (due_last a.k a.request (state_of a.state.now) same (sym c.is_last_of.ensures ∙ c.if-is_last_of.true))
    (rw c.segment_bytes-content.ensures at (c.answer.ensures d))

pub returns : goal.returns
returns c d =
    let a = c.args in
    let same = same_toggle c.toggle_of.ensures c.toggle_at.ensures c.if-toggle_of-toggle_at.false in
    rw (due_next a.k a.request (state_of a.state.now) same (sym c.is_last_of.ensures ∙ c.if-is_last_of.false))
    (rw c.segment_bytes-content.ensures at (c.answer-2.ensures d))
