-- What a load starts from, and what it answers, as the rules' outcome.
-- Assumes nothing.
use Rattle.std.specs.Prelude.{ℕ, ◌≡◌, Bool, true, false, List, length}
use Rattle.state.specs.declared.Refusal.{Refusal}
use Rattle.state.specs.declared.Refusal.TheVariants.{Accepted, DictionaryLength, OutputLength, NodeId, NotSound, BadFrame, BadEvent, OutOfPlace}
use Rattle.state.specs.declared.Refusal.TheVariants.{WrongState, FileTooShort, TooManyEntries, FileMisfit, ControlWordEntry, EntryAborted}
use Rattle.rules_dictionary.specs.Table.{dictionary_length}
use Rattle.rules.specs.Sound.{sound}
use Rattle.rules.specs.Calls.{LoadOutcome}
use Rattle.form.specs.Form.{state_length, state_of}
use Rattle.form.specs.Holding.{Holds}
use Rattle.calls.specs.declared.LoadGiven.{LoadGiven}
use Rattle.calls.specs.declared.LoadAnswer.{LoadAnswer}

abbrev pub is_accepted : Refusal → Bool
is_accepted Accepted = true
is_accepted DictionaryLength = false
is_accepted OutputLength = false
is_accepted NodeId = false
is_accepted NotSound = false
is_accepted BadFrame = false
is_accepted BadEvent = false
is_accepted OutOfPlace = false
is_accepted WrongState = false
is_accepted FileTooShort = false
is_accepted TooManyEntries = false
is_accepted FileMisfit = false
is_accepted ControlWordEntry = false
is_accepted EntryAborted = false

-- ---- a state by value

abbrev pub load_outcome : LoadAnswer → List ℕ → LoadOutcome
load_outcome r d =
    record { refusal = r.refusal; named = record { entry = r.entry; code = r.code }; state = r.state; dictionary = d }

-- ---- a state that stays in its bytes

-- they hold a state, and it is sound
pub record LoadStarts (bs d : List ℕ) : Type 0 where
  pub own : Holds bs (state_of bs)
  pub whole : length bs ≡ state_length
  pub long : length d ≡ dictionary_length
  pub sound : sound (state_of bs) d ≡ true

-- THE PROMISE: the refusal, what is named and all bytes are the outcome's
pub record LoadAnswers (x : LoadOutcome) (r : LoadGiven) (bs d : List ℕ) : Type 0 where
  pub refusal : r.refusal ≡ x.refusal
  pub entry : r.entry ≡ x.named.entry
  pub code : r.code ≡ x.named.code
  pub state : Holds bs x.state
  pub dictionary : d ≡ x.dictionary
