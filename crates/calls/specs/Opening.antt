-- Document 01, 'Calls and refusals': the refusals that come first, 1 of every call, 2 of every call that is lent output,
-- 3 of power-up, 4 of all others.
-- Assumes nothing.
use Rattle.std.specs.Prelude.{ℕ, List, Bool, cond, ◌&&◌, eqb, leb, length, Result, Ok, Err, is_err}
use Rattle.state.specs.declared.State.{State}
use Rattle.state.specs.declared.Refusal.{Refusal}
use Rattle.state.specs.declared.Refusal.TheVariants.{DictionaryLength, OutputLength, NodeId, NotSound}
use Rattle.rules_dictionary.specs.TheNode.{is_node_id}
use Rattle.rules_dictionary.specs.Table.{dictionary_length}
use Rattle.rules.specs.Sound.{sound}
use Rattle.rules.specs.Calls.{output_length}
use Rattle.form.specs.Form.{state_length, state_of, is_form}

-- whether a call is refused, and why
abbrev pub Opening : Type 0
Opening = Result (Unit {0}) Refusal

abbrev pub refused_for : Refusal → Opening
refused_for why = Err why

abbrev pub not_refused : Opening
not_refused = Ok tt

-- by what is lent
unfoldable pub lending : List ℕ → List ℕ → Opening
lending d o =
    cond (eqb (length d) dictionary_length) (cond (leb output_length (length o)) not_refused (refused_for OutputLength))
    (refused_for DictionaryLength)

-- and then by another test, with its refusal
unfoldable pub then_by : Bool → Refusal → List ℕ → List ℕ → Opening
then_by passes why d o = cond (is_err (lending d o)) (lending d o) (cond passes not_refused (refused_for why))

-- power-up: by the node-ID
abbrev pub powering : ℕ → List ℕ → List ℕ → Opening
powering n d o = then_by (is_node_id n) NodeId d o

-- a frame or an event: by the state
abbrev pub opening : State → List ℕ → List ℕ → Opening
opening s d o = then_by (sound s d) NotSound d o

-- the same of a state that is lent as bytes: of another length, or no state's form, they are not sound
abbrev pub holds_sound : List ℕ → List ℕ → Bool
holds_sound bs d = eqb (length bs) state_length && (is_form bs && sound (state_of bs) d)

abbrev pub opening_of : List ℕ → List ℕ → List ℕ → Opening
opening_of bs d o = then_by (holds_sound bs d) NotSound d o

-- a load, which is lent no output: by the dictionary's length, and then by the state
unfoldable pub loadable_of : List ℕ → List ℕ → Opening
loadable_of bs d =
    cond (eqb (length d) dictionary_length) (cond (holds_sound bs d) not_refused (refused_for NotSound)) (refused_for DictionaryLength)
