-- The NMT commands, power-up and a tick, as the code goes about them.
-- Assumes nothing.
use Rattle.std.specs.Prelude.{ℕ, ◌≤◌, ◌≡◌, List, Bool, true, false, not, ◌&&◌, ◌||◌, eqb, length, get_or}
use Rattle.state.specs.declared.Occasion.TheVariants.{Ticked}
use Rattle.state.specs.declared.State.{State}
use Rattle.rules_dictionary.specs.declared.PdoData.{PdoData}
use Rattle.rules_dictionary.specs.Table.{dictionary_length}
use Rattle.rules_dictionary.specs.TheNode.{first_node, last_node}
use Rattle.rules_dictionary.specs.Values.{stored}
use Rattle.rules_services.specs.Nmt.{nmt_length, every_node, power_up}
use Rattle.rules.specs.Outcome.{frame_size, sent_into}
use Rattle.form.specs.Form.{state_of}
use Rattle.output.specs.declared.Done.{Done}
use Rattle.output.specs.Leaves.{Lent, touches, remaps}

-- what setting objects back on node n needs
pub record MayReset (n : ℕ) (d o : List ℕ) : Type 0 where
  pub long : length d ≡ dictionary_length
  pub room : frame_size ≤ length o
  pub first : first_node ≤ n
  pub last : n ≤ last_node

-- what a command needs of the lent bytes
pub record Commandable (bs d o : List ℕ) : Type 0 where
  pub lent : Lent frame_size bs d o
  pub first : first_node ≤ (state_of bs).node.id

-- "length 2, node 0 or N"
abbrev pub is_for_node : PdoData → ℕ → Bool
is_for_node content n =
    eqb content.length nmt_length && (eqb (get_or content.bytes 1 0) every_node || eqb (get_or content.bytes 1 0) n)

-- of another length, or for another node: nothing is left to do after it
abbrev pub is_for_others : PdoData → State → List ℕ → Bool
is_for_others content s d = not (is_for_node content s.node.id)

-- THE PROMISE of a start of node n: of power-up all but the state; it is never quiet
pub record PowersUp (n : ℕ) (d o : List ℕ) (r : Done) (d' o' : List ℕ) : Type 0 where
  pub frames : r.frames ≡ length (power_up n).sent
  pub touched : r.touched ≡ touches (power_up n).writes
  pub remapped : r.remapped ≡ remaps (power_up n).writes
  pub occasion : r.occasion ≡ (power_up n).occasion
  pub dictionary : d' ≡ stored (power_up n).writes d
  pub output : o' ≡ sent_into o (power_up n).sent
  pub loud : r.quiet ≡ false

-- what a tick leaves beside the lent bytes
abbrev pub ticked : ℕ → Done
ticked frames = record { frames = frames; touched = false; remapped = false; occasion = Ticked; quiet = true }
