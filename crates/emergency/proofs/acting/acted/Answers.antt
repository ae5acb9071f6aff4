-- `emergency::acting::acted` meets its contract. Assumes nothing.
use mathlib.Core.Path.{refl}
use mathlib.Core.Bool.{false}
use Rattle.output.proofs.Left.{left_as, as_effect}
use Rattle.emergency.proofs.Written.{acts_on, acts_mode, acts_not}
use Rattle.emergency.proofs.acting.acted.Goals as goal

pub returns-then-control : goal.returns-then-control
returns-then-control c =
    let a = c.args in
    let acts = c.control_acted.ensures in
    let drive = rw c.read_drive.ensures at c.mode_acted-drive.ensures in
    (as_effect (acts_on a.old a.mode a.control _ a.d.now _ drive c.if-control.true) acts.0, acts.1)

pub returns-then-mode : goal.returns-then-mode
returns-then-mode c =
    let a = c.args in
    let held = c.put_drive.ensures _ c.requires.own in
    let drive = rw c.read_drive-then-mode.ensures at c.mode_written.ensures in
    let acts = acts_mode a.old a.mode a.control _ a.d.now _ drive c.if-control.false c.if-mode.true in
    rw c.nothing_done.ensures (as_effect acts (left_as _ _ false a.d.now a.output.now held), refl)

pub returns : goal.returns
returns c =
    let a = c.args in
    let acts = acts_not a.old a.mode a.control _ a.d.now c.if-control.false c.if-mode.false in
    rw c.nothing_done-2.ensures (as_effect acts (left_as _ _ false a.d.now a.output.now c.requires.own), refl)
