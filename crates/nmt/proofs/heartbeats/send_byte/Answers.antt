-- `nmt::heartbeats::send_byte` meets its contract. Assumes nothing.
use mathlib.Core.Path.{◌∙◌}
use mathlib.Core.List.{[], ◌∷◌}
use lib.Dec.{lit≤}
use Rattle.rules_dictionary.specs.Plans.{pdo_data}
use Rattle.output.proofs.Frames.{is_data}
use borrow.Author.Rules.{rules}
use Rattle.nmt.proofs.heartbeats.send_byte.Goals as goal

pub send-requires : goal.send-requires
send-requires c = (search rules, rw c.one_byte.ensures (is_data (_ ∷ []) (lit≤ tt)))

pub returns : goal.returns
unfolding pdo_data
returns c = c.send.ensures ∙ rw c.one_byte.ensures
