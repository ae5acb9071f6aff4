-- Ticket 6, 'Load the customer's configuration': where a load is served, and what the entries of a file do, "in order as SDO downloads would, with
-- no frames sent".
-- Assumes nothing.
use Rattle.std.specs.Prelude.{ℕ, suc, List, [], ◌∷◌, Bool, ◌&&◌, eqb, length, take}
use Rattle.state.specs.declared.State.{State}
use Rattle.rules_dictionary.specs.Numbers.{any, value}
use Rattle.rules_dictionary.specs.Table.{Row, size_of, lookup, control_word}
use Rattle.rules_dictionary.specs.Values.{stored}
use Rattle.rules_dictionary.specs.Aborts.{Abort, abort_code}
use Rattle.files.specs.ConciseDcf.{Entry}
use Rattle.drive.specs.DriveStates.{is_at_rest}
use Rattle.state.specs.NmtStates.{is_pre_operational}
use Rattle.rules_services.specs.Effects.{Effect, becomes, and_then}
use Rattle.rules_services.specs.Sdo.{Offer, Judgement, takes, aborts, download}

-- "Loading is served in Pre-operational, with the drive Not ready or Switch on disabled."
unfoldable pub may_load : State → Bool
may_load s = is_pre_operational s.node.nmt && is_at_rest s.axis.drive.state

-- "entry for 6040h": with any subindex
abbrev pub is_for_control_word : Entry → Bool
is_for_control_word e = eqb e.index control_word.index

abbrev pub names_control_word : List Entry → Bool
names_control_word es = any is_for_control_word es

-- ---- an entry: a download of its bytes, with their number told

abbrev pub listed : Entry → Row → Offer
listed e x = record { row = x; size = length e.content; value = value (take (size_of x) e.content) }

unfoldable pub entry_loaded : Entry → State → List ℕ → Judgement
entry_loaded e s d = download (listed e) (lookup e.index e.subindex) s d

-- ---- the entries in order, each on what those before it left; n is the number of the first one

-- all are taken, or that entry is aborted so
pub data Loaded : Type 0 where
  loads : Effect → Loaded
  fails : ℕ → Abort → Loaded

-- one effect, and then those of the rest
abbrev pub and_rest : List ℕ → Effect → Loaded → Loaded
and_rest d e (loads f) = loads (and_then d e (λ s d. f))
and_rest d e (fails n a) = fails n a

unfoldable pub goes_on : ℕ → List ℕ → Judgement → (State → List ℕ → Loaded) → Loaded
goes_on n d (takes e) rest = and_rest d e (rest e.state (stored e.writes d))
goes_on n d (aborts a) rest = fails n a

unfoldable pub load_from : ℕ → List Entry → State → List ℕ → Loaded
load_from n [] s d = loads (becomes s)
load_from n (e ∷ es) s d = goes_on n d (entry_loaded e s d) (load_from (suc n) es)

-- "the first entry (from 1)"
abbrev pub first_entry : ℕ
first_entry = 1

abbrev pub load_all : List Entry → State → List ℕ → Loaded
load_all es s d = load_from first_entry es s d

-- ---- "the answer names the first entry (from 1) that failed with its abort code"; zeros where none did

pub record Named : Type 0 where
  pub entry : ℕ
  pub code : ℕ

abbrev pub nothing_named : Named
nothing_named = record { entry = 0; code = 0 }

abbrev pub named_by : Loaded → Named
named_by (loads e) = nothing_named
named_by (fails n a) = record { entry = n; code = abort_code a }

-- opens every definition of this module, where a proof computes
unfoldable pub open_load : Unit {0}
unfolding may_load entry_loaded goes_on load_from
open_load = tt
