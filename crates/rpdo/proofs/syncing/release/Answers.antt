-- `rpdo::syncing::release` meets its contract. Assumes nothing.
use Rattle.rpdo.proofs.Leaving.{renamed, left_still}
use Rattle.rpdo.proofs.Frames.{fits_in}
use Rattle.rpdo.proofs.Releases.{still_serves, none_held_lem, one_held}
use Rattle.rpdo.proofs.syncing.release.Goals as goal

pub returns-then-frame-eq0 : goal.returns-then-frame-eq0
returns-then-frame-eq0 c =
    let a = c.args in
    renamed (none_held_lem a.p a.d.now a.state.now c.read_held_frame-frame.ensures c.if-frame-eq0.true)
    (left_still c.requires.lent.own c.nothing_done.ensures)

pub apply-requires : goal.apply-requires
apply-requires c =
    let k = c.requires in
    let l = still_serves k (c.put_held.ensures _ k.lent.own) in
    (l.lent, fits_in l)

pub returns : goal.returns
returns c =
    let a = c.args in
    let k = c.requires in
    let held = c.put_held.ensures _ k.lent.own in
    one_held a.p a.d.now a.state.now c.read_held_frame-frame.ensures c.if-frame-eq0.false held
    (c.apply.ensures _ (still_serves k held).receives)
