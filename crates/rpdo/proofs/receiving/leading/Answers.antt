-- `rpdo::receiving::leading` meets its contract. Assumes nothing.
use Rattle.std.proofs.Common.{◌≡◌, length, take, drop, ◌-◌, arith}
use lib.ListN.{length-take, length-drop}
use Rattle.rpdo.proofs.Frames.{laid_zeros}
use Rattle.rpdo.proofs.receiving.leading.Goals as goal

pub returns : goal.returns
returns c =
    let a = c.args in
    let l : length a.content ≡ 8 = c.well_formed.0.1.0.1 in
    let part : length (take (8 - a.n) (drop a.n a.content)) ≡ 8 - a.n = simp (length-take, length-drop) (omega arith) in
    (laid_zeros a.n 8 a.content _ l c.requires (rw part at (c.fill.ensures.after (λ y h. h))), l)
