-- `rpdo::receiving::judge` meets its contract. Assumes nothing.
use mathlib.Core.Path.{refl}
use mathlib.Core.Bool.{true}
use Rattle.output.proofs.Left.{left_as, resting}
use Rattle.rpdo.proofs.Leaving.{renamed}
use Rattle.rpdo.proofs.Frames.{fits_in, refuses, applies, holds}
use Rattle.rpdo.proofs.receiving.judge.Goals as goal

pub returns-then-not-are_legal : goal.returns-then-not-are_legal
returns-then-not-are_legal c =
    let l = c.are_legal.ensures in
    let k = c.requires in
    renamed (refuses k.0 k.1.0 k.1.1 l.0 l.1 (c.if-not-are_legal.true) _) c.refused.ensures

pub apply-requires : goal.apply-requires
apply-requires c =
    let k = c.requires.0 in
    (k.lent, fits_in k)

pub returns-then-transmission_type-gt-LAST_SYNCHRONOUS : goal.returns-then-transmission_type-gt-LAST_SYNCHRONOUS
returns-then-transmission_type-gt-LAST_SYNCHRONOUS c =
    let l = c.are_legal.ensures in
    let k = c.requires in
    renamed (applies k.0 k.1.0 k.1.1 l.0 l.1 (c.if-not-are_legal.false) c.transmission_type.ensures c.if-transmission_type-gt-LAST_SYNCHRONOUS.true _)
    (c.apply.ensures _ k.0.receives)

pub returns : goal.returns
returns c =
    let l = c.are_legal.ensures in
    let a = c.args in
    let k = c.requires in
    let held = c.put_held.ensures _ k.0.lent.own in
    let synchronous = c.if-transmission_type-gt-LAST_SYNCHRONOUS.false in
    rw c.nothing_done.ensures
    (renamed (holds k.0 k.1.0 k.1.1 l.0 l.1 (c.if-not-are_legal.false) c.transmission_type.ensures synchronous _) (
      left_as _ _ true a.d.now a.output.now held,
      resting _ _ _ refl (record { writes = refl; occasion = refl; nmt = refl; voltage = refl; drive = refl }),
    ))
