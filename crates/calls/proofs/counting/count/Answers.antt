-- `calls::counting::count` meets its contract. Assumes nothing.
use Rattle.form.specs.Form.{state_of}
use Rattle.calls.proofs.Counted.{count_none}
use Rattle.calls.proofs.counting.count.Goals as goal

pub returns-then-before-ticked : goal.returns-then-before-ticked
returns-then-before-ticked c =
    let a = c.args in
    count_none (state_of a.state.now) a.d.now a.ticked (rw c.read_stay-before.ensures at c.if-before-ticked.true) c.requires.0
