use Rattle.std.proofs.Common.{ℕ, ◌+◌, ◌≡◌, ◌∙◌, sym, ap, arith, rules, eq-eqb, ne_eqb, drop}
use native.Mathlib.Nat.{sub-zero}
use Rattle.files.specs.ConciseDcf.{reading, entries_of, entry_at}
use Rattle.files.specs.declared.Listing.{Listing}
use Rattle.files.proofs.Readings.{none_left}
use Rattle.files.proofs.Places.{left, next_stands, rest_whole}
use Rattle.files.proofs.Naming.{is_named, found, passed}
use Rattle.files.proofs.names.Goals as goal

pub loop-entry-init : goal.loop-entry-init
loop-entry-init c = simp sub-zero (search rules)

pub listing_at-listing-requires : goal.listing_at-listing-requires
listing_at-listing-requires c =
    let at = c.loop-entry.at in
    let file = c.args.file.now in
    let n = left file c.loop-entry._entry in
    let m = left file (c.loop-entry._entry + 1) in
    next_stands at file n m (omega arith) c.loop-entry.invariant.0

pub returns-then-listing-index : goal.returns-then-listing-index
returns-then-listing-index c =
    let at = c.loop-entry.at in
    let file = c.args.file.now in
    let n = left file c.loop-entry._entry in
    let m = left file (c.loop-entry._entry + 1) in
    let same = sym (ap (λ (x : Listing). x.index) c.listing_at-listing.ensures) ∙ c.if-listing-index.true in
    sym (found c.args.index at file n m (omega arith) c.loop-entry.invariant.0 (eq-eqb _ _ same)) ∙ c.loop-entry.invariant.1

pub behind-at-requires : goal.behind-at-requires
behind-at-requires c =
    let at = c.loop-entry.at in
    let file = c.args.file.now in
    let n = left file c.loop-entry._entry in
    let m = left file (c.loop-entry._entry + 1) in
    next_stands at file n m (omega arith) c.loop-entry.invariant.0

pub loop-entry-preserved : goal.loop-entry-preserved
loop-entry-preserved c =
    let at = c.loop-entry.at in
    let index = c.args.index in
    let file = c.args.file.now in
    let n = left file c.loop-entry._entry in
    let m = left file (c.loop-entry._entry + 1) in
    let other : (entry_at (drop at file)).index ≡ index → ⊥ =
    λ e. c.if-listing-index.false (ap (λ (x : Listing). x.index) c.listing_at-listing.ensures ∙ e) in (
      rw c.behind-at.ensures (rest_whole at file n m (omega arith) c.loop-entry.invariant.0),
      ap (λ (place : ℕ). is_named index (entries_of (reading m (drop place file)))) c.behind-at.ensures
          ∙ sym (passed index at file n m (omega arith) c.loop-entry.invariant.0 (ne_eqb _ _ other)) ∙ c.loop-entry.invariant.1,
    )

pub returns : goal.returns
returns c =
    let a = c.args in
    let none : left a.file.now c.loop-entry._entry ≡ 0 = omega arith in
    sym (ap (is_named a.index) (none_left (drop c.loop-entry.at a.file.now))) ∙ (rw none at c.loop-entry.invariant.1)
