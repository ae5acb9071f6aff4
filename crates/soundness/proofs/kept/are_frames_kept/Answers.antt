use mathlib.Core.Bool.{not}
use Prim.Native.Nat.{◌+◌}
use mathlib.Core.Path.{refl, ◌∙◌, ap}
use native.Mathlib.Omega.{arith}
use borrow.Author.Rules.{rules}
use Rattle.rules_dictionary.specs.Table.{each_way}
use Rattle.mapping.proofs.Keeping.{kept_tested}
use Rattle.soundness.proofs.Every.{fails, passes, ends, framed, frames_by_pdo}
use Rattle.soundness.proofs.Fresh.{kept_at, frame_at}
use Rattle.soundness.proofs.kept.are_frames_kept.Goals as goal

pub loop-init : goal.loop-init
loop-init c = (refl, search rules)

pub is_frame_kept-requires : goal.is_frame_kept-requires
is_frame_kept-requires c =
    let l = c.loop in
    let i = l.invariant.1 in
    let h = c.loop-test.true in
    let p = each_way + l.counter in
    let k = kept_at c.args.state.now c.args.d.now p (omega (arith, h)) c.requires.1.1 in
    record {
      in_bounds = (omega (arith, h, i.1.0, c.requires.0), omega (arith, h, i.1.1, c.requires.0));
      small_places = (omega (arith, i.1.0), omega (arith, i.1.1));
      moves_fit = (c.requires.1.0, rw i.1.1 (kept_tested c.args.state.now c.args.d.now p k).fits);
    }

pub returns-then-not-is_frame_kept : goal.returns-then-not-is_frame_kept
returns-then-not-is_frame_kept c =
    let l = c.loop in
    let bs = c.args.state.now in
    let d = c.args.d.now in
    let e = frame_at bs d l.counter c.loop-test.true c.requires.1.1 l.invariant.1.1.0 l.invariant.1.1.1 in
    fails (framed bs d) each_way l.counter l.invariant.0 c.loop-test.true (c.is_frame_kept.ensures ∙ e) (ap not c.if-not-is_frame_kept.true)
    ∙ frames_by_pdo bs d

pub loop-preserved : goal.loop-preserved
loop-preserved c =
    let l = c.loop in
    let bs = c.args.state.now in
    let d = c.args.d.now in
    let e = frame_at bs d l.counter c.loop-test.true c.requires.1.1 l.invariant.1.1.0 l.invariant.1.1.1 in (
      passes (framed bs d) each_way l.counter l.invariant.0 c.loop-test.true (c.is_frame_kept.ensures ∙ e) (ap not c.if-not-is_frame_kept.false),
      search rules,
    )

pub returns : goal.returns
returns c =
    let l = c.loop in
    let a = c.args in
    ends (framed a.state.now a.d.now) each_way l.counter l.invariant.0 (omega arith) ∙ frames_by_pdo a.state.now a.d.now
