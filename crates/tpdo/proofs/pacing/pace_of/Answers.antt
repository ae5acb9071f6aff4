-- `tpdo::pacing::pace_of` meets its contract. Assumes nothing.
use mathlib.Core.Path.{◌∙◌}
use mathlib.Core.Bool.{or-true, or-false}
use native.Mathlib.Omega.{arith}
use borrow.Author.Tests.{le-leb, lt-leb, eq-eqb, ne_eqb}
use Rattle.rules_services.specs.PdoTraffic.{pace_of, event_driven}
use Rattle.tpdo.proofs.pacing.pace_of.Goals as goal

pub returns-then-kind-gt-LAST_SYNCHRONOUS : goal.returns-then-kind-gt-LAST_SYNCHRONOUS
unfolding pace_of event_driven
returns-then-kind-gt-LAST_SYNCHRONOUS c =
    let k = c.args.kind in
    c.paced.ensures ∙ rw (le-leb 1 k (omega arith), lt-leb k 240 (omega arith), ne_eqb k 0 (λ h. omega arith))

pub cyclic-requires : goal.cyclic-requires
cyclic-requires c =
    c.requires (rw (le-leb 1 c.args.kind (omega arith), le-leb c.args.kind 240 (omega arith)))

pub returns-then-kind-gt0 : goal.returns-then-kind-gt0
unfolding pace_of
returns-then-kind-gt0 c =
    let k = c.args.kind in
    rw (le-leb 1 k (omega arith), le-leb k 240 (omega arith), ← c.is_synced-synced.ensures) c.cyclic.ensures

pub returns-then-changed : goal.returns-then-changed
unfolding pace_of
returns-then-changed c =
    let a = c.args in
    rw (
      lt-leb 1 a.kind (omega arith),
      eq-eqb a.kind 0 (omega arith),
      c.if-changed.true,
      or-true a.kept.due,
      ← c.is_synced-synced.ensures,
    ) c.acyclic.ensures

pub returns : goal.returns
unfolding pace_of
returns c =
    let a = c.args in
    rw (
      lt-leb 1 a.kind (omega arith),
      eq-eqb a.kind 0 (omega arith),
      c.if-changed.false,
      or-false a.kept.due,
      ← c.is_synced-synced.ensures,
    ) c.acyclic-2.ensures
