-- `soundness::waiting::is_pace_sound` meets its contract. Assumes nothing.
use Prim.Native.Nat.{◌+◌}
use mathlib.Core.Path.{sym}
use lib.ListN.{get_or}
use Rattle.rules_dictionary.specs.Table.{each_way}
use Rattle.rules.specs.Sound.{pace_sound}
use Rattle.form.specs.Form.{due_offset}
use Rattle.soundness.specs.Waiting.{pace_place}
use Rattle.soundness.proofs.Counting.{idle}
use Rattle.soundness.proofs.waiting.is_pace_sound.Goals as goal

pub returns-then-count-mark : goal.returns-then-count-mark
returns-then-count-mark c =
    let a = c.args in
    let place = pace_place a.t in
    sym (idle a.m a.d.now (a.t + each_way) (get_or a.state.now place 0) (get_or a.state.now (place + due_offset) 0) c.if-count-mark.true)

pub returns : goal.returns
unfolding pace_sound
returns c = rw (c.is_count_sound.ensures, c.is_mark_sound.ensures)
