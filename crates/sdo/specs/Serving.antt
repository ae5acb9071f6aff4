-- What the SDO server leaves: of what it says alone, and of a value stored and acted on.
-- Assumes nothing.
use Rattle.std.specs.Prelude.{ℕ, ◌≤◌, ◌≡◌, List, [], ◌∷◌, Bool, true, false, cond, length}
use Rattle.state.specs.declared.State.{State}
use Rattle.state.specs.declared.Occasion.TheVariants.{Plain}
use Rattle.rules_dictionary.specs.Values.{write}
use Rattle.rules_services.specs.Effects.{Effect, sends, with_heartbeat, without_transfer}
use Rattle.rules_services.specs.Written.{applied}
use Rattle.rules.specs.Outcome.{frame_size, sent_into}
use Rattle.form.specs.Form.{state_length, state_of}
use Rattle.form.specs.Holding.{Holds}
use Rattle.dictionary.specs.declared.Entry.{Entry}
use Rattle.dictionary.specs.Entries.{Stands}
use Rattle.output.specs.declared.Done.{Done}
use Rattle.output.specs.Leaves.{LeavesIn, ever, never}
use Rattle.sdo.specs.Requests.{saying}

-- ---- what is said alone

-- eight bytes of the node of that node-ID: all but the state
pub record Says (content : List ℕ) (id : ℕ) (o : List ℕ) (r : Done) (o' : List ℕ) : Type 0 where
  pub done : r ≡ record { frames = 1; touched = false; remapped = false; occasion = Plain; quiet = true }
  pub output : o' ≡ sent_into o (saying content id)

-- a state that the bytes hold, and room for a frame
pub record Ready (bs o : List ℕ) : Type 0 where
  pub own : Holds bs (state_of bs)
  pub whole : length bs ≡ state_length
  pub room : frame_size ≤ length o

-- a service that leaves the dictionary, whatever it is, and nothing to do
abbrev pub Speaks : (State → Effect) → List ℕ → List ℕ → Done → List ℕ → List ℕ → Type 0
Speaks f bs o r bs' o' = (d : List ℕ) → LeavesIn (λ s d. f s) ever bs d o r bs' d o'

-- ---- a value stored

-- the entry of some row
abbrev pub IsEntry : Entry → Type 0
IsEntry e = (i : ℕ) × ((j : ℕ) × Stands i j e)

-- what is said, and then the value stored in the row that the entry is of, and acted on; no transfer runs
abbrev pub Applies : List ℕ → Entry → ℕ → List ℕ → List ℕ → List ℕ → Done → List ℕ → List ℕ → List ℕ → Type 0
Applies content e v bs d o r bs' d' o' =
    (i j : ℕ) (st : Stands i j e) →
    LeavesIn (λ s d. sends (saying content s.node.id) (applied (write st.row v ∷ []) (without_transfer s) d)) never bs d o r bs' d' o'

-- before it is acted on: the heartbeat's count is restarted where that is so
abbrev pub prepared_for : Bool → State → State
prepared_for restarts s = cond restarts (with_heartbeat 0 (without_transfer s)) (without_transfer s)
