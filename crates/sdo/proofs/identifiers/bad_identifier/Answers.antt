-- The tests of the rules, in the order of the code. Assumes nothing.
use Rattle.sdo.proofs.Names.{in_order}
use Rattle.sdo.proofs.identifiers.bad_identifier.Goals as goal

pub returns-then-ill_formed : goal.returns-then-ill_formed
returns-then-ill_formed c = rw (in_order _ _ _ c.requires.1, ← c.ill_formed.ensures, c.if-ill_formed.true)

pub returns-then-not-is_valid : goal.returns-then-not-is_valid
returns-then-not-is_valid c =
    rw (
      in_order _ _ _ c.requires.1,
      ← c.ill_formed.ensures,
      c.if-ill_formed.false,
      ← c.is_valid.ensures,
      c.if-not-is_valid.true,
    )

pub returns-then-outside-is_taken : goal.returns-then-outside-is_taken
returns-then-outside-is_taken c =
    rw (
      in_order _ _ _ c.requires.1,
      ← c.ill_formed.ensures,
      c.if-ill_formed.false,
      ← c.is_valid.ensures,
      c.if-not-is_valid.false,
      ← c.outside.ensures,
      ← c.is_taken.ensures,
      c.if-outside-is_taken.true,
    )

pub returns : goal.returns
returns c =
    rw (
      in_order _ _ _ c.requires.1,
      ← c.ill_formed.ensures,
      c.if-ill_formed.false,
      ← c.is_valid.ensures,
      c.if-not-is_valid.false,
      ← c.outside.ensures,
      ← c.is_taken.ensures,
      c.if-outside-is_taken.false,
      ← c.identifier-present.ensures,
      ← c.is_valid-2.ensures,
    )
