-- One entry after another, each with those behind it. Assumes nothing.
use Rattle.std.proofs.Common.{◌≡◌, ◌+◌, ◌-◌, ◌∙◌, arith, rules}
use Rattle.files.proofs.Places.{next_stands, rest_whole}
use Rattle.load.proofs.Steps.{counted, stops, goes_on, all_tried}
use Rattle.load.proofs.trying.try_entries.Goals as goal

pub listing_at-requires : goal.listing_at-requires
listing_at-requires c =
    let l = c.loop in
    let n = c.count_in-end.result - l.counter in
    next_stands l.at c.args.file.now n (n - 1) (omega arith) l.invariant.1.0

pub behind-at-requires : goal.behind-at-requires
behind-at-requires c =
    let l = c.loop in
    let n = c.count_in-end.result - l.counter in
    next_stands l.at c.args.file.now n (n - 1) (omega arith) l.invariant.1.0

pub returns-then-is_err : goal.returns-then-is_err
returns-then-is_err c =
    let l = c.loop in
    let n = c.count_in-end.result - l.counter in
    let failed = rw c.if-is_err.true at c.is_err.ensures.negation in
    rw l.invariant.0 at
    (stops l.at c.args.file.now n (n - 1) (omega arith) l.invariant.1.0 l.tally l.d c.listing_at.ensures c.try_entry-tally.ensures failed)

pub loop-preserved : goal.loop-preserved
loop-preserved c =
    let l = c.loop in
    let f = c.args.file.now in
    let n = c.count_in-end.result - l.counter in
    let next : c.count_in-end.result - (l.counter + 1) ≡ n - 1 = omega arith in
    let fine = rw c.if-is_err.false at c.is_err.ensures.negation in
    let one = counted l.at f n (n - 1) (omega arith) l.invariant.1.0 l.tally l.d c.listing_at.ensures c.try_entry-tally.ensures in (
      rw (next, c.behind-at.ensures)
          (goes_on l.at f n (n - 1) (omega arith) l.invariant.1.0 l.tally l.d c.listing_at.ensures c.try_entry-tally.ensures fine ∙ l.invariant.0),
      (
        rw (next, c.behind-at.ensures) (rest_whole l.at f n (n - 1) (omega arith) l.invariant.1.0),
        (omega (arith, one, l.invariant.1.1.0), search rules),
      ),
    )

pub returns : goal.returns
returns c =
    let l = c.loop in
    let none : c.count_in-end.result - l.counter ≡ 0 = omega arith in
    all_tried l.at c.args.file.now l.tally l.d (rw none at l.invariant.0)
