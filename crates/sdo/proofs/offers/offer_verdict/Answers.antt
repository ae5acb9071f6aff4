-- The tests in order. Assumes nothing.
use borrow.Author.Tests.{lt-ltb, le-ltb}
use Rattle.rules_dictionary.specs.Aborts.{first_firing}
use Rattle.sdo.specs.Requests.{offer_verdict_of}
use Rattle.sdo.proofs.offers.offer_verdict.Goals as goal

pub returns-then-not-may_write : goal.returns-then-not-may_write
unfolding offer_verdict_of first_firing
returns-then-not-may_write c = rw (← c.may_write.ensures, c.if-not-may_write.true)

pub returns-then-e-offer : goal.returns-then-e-offer
unfolding offer_verdict_of first_firing
returns-then-e-offer c = rw (← c.may_write.ensures, c.if-not-may_write.false, lt-ltb _ _ c.if-e-offer.true)

pub returns-then-offer-e : goal.returns-then-offer-e
unfolding offer_verdict_of first_firing
returns-then-offer-e c = rw (← c.may_write.ensures, c.if-not-may_write.false, le-ltb _ _ c.if-e-offer.false, lt-ltb _ _ c.if-offer-e.true)

pub returns-then-is_wrong_time : goal.returns-then-is_wrong_time
unfolding offer_verdict_of first_firing
returns-then-is_wrong_time c =
    rw (
      ← c.may_write.ensures,
      c.if-not-may_write.false,
      le-ltb _ _ c.if-e-offer.false,
      le-ltb _ _ c.if-offer-e.false,
      ← c.is_wrong_time.ensures,
      c.if-is_wrong_time.true,
    )

pub returns : goal.returns
unfolding offer_verdict_of first_firing
returns c =
    rw (
      ← c.may_write.ensures,
      c.if-not-may_write.false,
      le-ltb _ _ c.if-e-offer.false,
      le-ltb _ _ c.if-offer-e.false,
      ← c.is_wrong_time.ensures,
      c.if-is_wrong_time.false,
    ) c.value_verdict.ensures
