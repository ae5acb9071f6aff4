use mathlib.Core.Path.{sym}
use borrow.Author.Tests.{leb-true}
use Rattle.rules_dictionary.proofs.Tests.{and_left}
use Rattle.soundness.proofs.KeyMeaning.{valid_key, invalid_key, neither_key}
use Rattle.soundness.proofs.identifiers.key_of.Goals as goal

pub overflow_sub-result : goal.overflow_sub-result
overflow_sub-result c = leb-true _ _ (and_left _ _ c.if-first-word.true)

pub returns-then-first-word : goal.returns-then-first-word
returns-then-first-word c = rw (← c.identifier-word.ensures) (sym (valid_key _ _ _ c.if-first-word.true))

pub returns-then-invalid-word : goal.returns-then-invalid-word
returns-then-invalid-word c = rw (← c.identifier-word.ensures) (sym (invalid_key _ _ _ c.if-first-word.false c.if-invalid-word.true))

pub returns : goal.returns
returns c = rw (← c.identifier-word.ensures) (sym (neither_key _ _ _ c.if-first-word.false c.if-invalid-word.false))
