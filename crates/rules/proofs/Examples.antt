-- The ten examples of document 01, as one statement.
-- Assumes nothing.
use mathlib.Core.Path.{◌≡◌, refl}
use mathlib.Core.Bool.{true}
use Rattle.rules_dictionary.specs.Numbers.{all}
use Rattle.rules.specs.Scripts.{from_nothing, open_rules}
use Rattle.rules.specs.Examples.{examples, open_examples}

pub ten_examples : all from_nothing examples ≡ true
unfolding open_rules open_examples
ten_examples = refl
