-- `events::acts::fed_back` meets its contract. Assumes nothing.
use mathlib.Core.Path.{◌∙◌, ap}
use Rattle.rules_dictionary.specs.Table.{velocity}
use Rattle.rules_dictionary.specs.Values.{store}
use Rattle.events.proofs.acts.fed_back.Goals as goal

pub returns : goal.returns
returns c =
    record {
      done = rw c.nothing_done.ensures;
      dictionary = c.set_velocity.ensures ∙ ap (store velocity _) c.set_position.ensures;
    }
