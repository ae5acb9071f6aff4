-- `calls::counting::count_quietly` meets its contract. Assumes nothing.
use Rattle.form.specs.Form.{state_of}
use Rattle.calls.proofs.Counted.{count_same, count_some}
use Rattle.calls.proofs.counting.count_quietly.Goals as goal

pub returns-then-stay-read_stay : goal.returns-then-stay-read_stay
returns-then-stay-read_stay c =
    let a = c.args in
    let r = count_same (state_of a.state.now) a.d.now c.counted_more-stay.ensures c.read_stay.ensures c.requires.holds.0
    c.if-stay-read_stay.true in
    record { counted = r.0; value = r.1 }

pub returns : goal.returns
returns c =
    let a = c.args in
    let r = count_some (state_of a.state.now) a.d.now c.counted_more-stay.ensures c.read_stay.ensures
    (c.put_stay.ensures _ c.requires.holds.0) c.if-stay-read_stay.false c.window_time.ensures in
    record { counted = r.0; value = r.1 }
