-- Feedback, as the code goes about it.
-- Assumes nothing.
use Rattle.std.specs.Prelude.{ℕ, ◌≡◌, List, true, false}
use Rattle.state.specs.declared.Occasion.TheVariants.{Plain}
use Rattle.rules_dictionary.specs.Table.{position, velocity}
use Rattle.rules_dictionary.specs.Values.{store}
use Rattle.output.specs.declared.Done.{Done}

-- 6064h and 606Ch written, and nothing sent
pub record Feeds (at speed : ℕ) (d : List ℕ) (r : Done) (d' : List ℕ) : Type 0 where
  pub done : r ≡ record { frames = 0; touched = true; remapped = false; occasion = Plain; quiet = false }
  pub dictionary : d' ≡ store velocity speed (store position at d)
