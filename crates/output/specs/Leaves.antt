-- What a service in code leaves, against the effect that the rules give it.
-- Assumes nothing.
use Rattle.std.specs.Prelude.{ℕ, ◌≤◌, ◌≡◌, List, [], Bool, true, false, length}
use Rattle.state.specs.declared.State.{State}
use Rattle.state.specs.declared.Occasion.TheVariants.{Plain}
use Rattle.state.specs.Occasions.{is_synced}
use Rattle.rules_dictionary.specs.Numbers.{any}
use Rattle.rules_dictionary.specs.declared.Role.{Role}
use Rattle.rules_dictionary.specs.declared.Role.TheVariants.{Plain, ModeOfOperation, MinimumLimit, MaximumLimit, PdoIdentifier, PdoType}
use Rattle.rules_dictionary.specs.declared.Role.TheVariants.{MappingCount, MappingEntry}
use Rattle.rules_dictionary.specs.TheNode.{last_node}
use Rattle.rules_dictionary.specs.Table.{transmit, dictionary_length}
use Rattle.rules_dictionary.specs.Values.{Write, stored}
use Rattle.rules_dictionary.specs.Legal.{suits}
use Rattle.rules_services.specs.Effects.{Effect}
use Rattle.rules.specs.Outcome.{sent_into}
use Rattle.form.specs.Form.{state_length, state_of}
use Rattle.form.specs.Holding.{Holds}
use Rattle.output.specs.declared.Done.{Done}

-- ---- what was written

-- an object that may be mapped to transmit is among the written ones
abbrev pub touches : List Write → Bool
touches ws = any (λ w. suits transmit w.row.mappable) ws

-- the row is of a PDO's mapping
abbrev pub is_mapping : Role → Bool
is_mapping Plain = false
is_mapping ModeOfOperation = false
is_mapping MinimumLimit = false
is_mapping MaximumLimit = false
is_mapping (PdoIdentifier p) = false
is_mapping (PdoType p) = false
is_mapping (MappingCount p) = true
is_mapping (MappingEntry p) = true

-- a mapping row is among the written ones
abbrev pub remaps : List Write → Bool
remaps ws = any (λ w. is_mapping w.row.role) ws

-- ---- what a service is lent

-- a state that the bytes hold, of a legal node-ID, the dictionary, and that much room in the output
pub record Lent (needed : ℕ) (bs d o : List ℕ) : Type 0 where
  pub own : Holds bs (state_of bs)
  pub whole : length bs ≡ state_length
  pub long : length d ≡ dictionary_length
  pub room : needed ≤ length o
  pub id : (state_of bs).node.id ≤ last_node

-- ---- THE PROMISE of a service: of its effect the state, how many frames, what is left to do, and every lent byte

-- a state after an effect on s, as a service leaves it: plans, ready frames and the transmit PDOs' paces follow at the call's end
abbrev pub keeping : State → State → State
keeping s t =
    record {
      node = t.node;
      transfer = t.transfer;
      axis = record {
        drive = t.axis.drive;
        plans = s.axis.plans;
        ready = s.axis.ready;
        held = t.axis.held;
        paces = s.axis.paces;
      };
    }

pub record Leaves (s : State) (e : Effect) (d o : List ℕ) (r : Done) (bs' d' o' : List ℕ) : Type 0 where
  pub state : Holds bs' (keeping s e.state)
  pub frames : r.frames ≡ length e.sent
  pub touched : r.touched ≡ touches e.writes
  pub remapped : r.remapped ≡ remaps e.writes
  pub occasion : r.occasion ≡ e.occasion
  pub dictionary : d' ≡ stored e.writes d
  pub output : o' ≡ sent_into o e.sent

-- nothing written and nothing sent
abbrev pub nothing_done : Bool → Done
nothing_done quiet = record { frames = 0; touched = false; remapped = false; occasion = Plain; quiet = quiet }

-- ---- a quiet service

-- nothing is left to do at the end of a call that started in s: nothing was written, it was no SYNC, and what 6041h, 6061h and the transmit
-- PDOs follow from is as it was
pub record Calm (s : State) (e : Effect) : Type 0 where
  pub writes : e.writes ≡ []
  pub occasion : is_synced e.occasion ≡ false
  pub nmt : e.state.node.nmt ≡ s.node.nmt
  pub voltage : e.state.node.voltage ≡ s.node.voltage
  pub drive : e.state.axis.drive ≡ s.axis.drive

-- it says whether it was quiet, and where it was nothing is left to do
pub record Rests (quiet : Bool) (s : State) (e : Effect) (r : Done) : Type 0 where
  pub told : r.quiet ≡ quiet
  pub calm : quiet ≡ true → Calm s e

-- a service that is quiet whatever it finds, and one that never is
abbrev pub ever : State → List ℕ → Bool
ever s d = true

abbrev pub never : State → List ℕ → Bool
never s d = false

-- ---- both, of a service on the state that the bytes hold, and of where it is quiet

abbrev pub LeavesIn : (State → List ℕ → Effect) → (State → List ℕ → Bool) → List ℕ → List ℕ → List ℕ → Done → List ℕ → List ℕ → List ℕ → Type 0
LeavesIn f quiet bs d o r bs' d' o' =
    let s = state_of bs in
    Leaves s (f s d) d o r bs' d' o' × Rests (quiet s d) s (f s d) r
