-- The calls as C makes them: the state is lent as bytes of one fixed length, and the answer is a number. "in C calls, where the state is
-- lent bytes of fixed length, also another length (power-up too) or bytes that are no state": refusal 4.
-- Assumes nothing.
use Rattle.std.specs.Prelude.{ℕ, ◌+◌, ◌*◌, ◌^◌, List, [], Bool, true, false, ◌&&◌, eqb, leb, length}
use Rattle.state.specs.declared.Refusal.{Refusal}
use Rattle.state.specs.declared.Refusal.TheVariants.{Accepted, DictionaryLength, OutputLength, NodeId, NotSound, BadFrame, BadEvent, OutOfPlace}
use Rattle.state.specs.declared.Refusal.TheVariants.{WrongState, FileTooShort, TooManyEntries, FileMisfit, ControlWordEntry, EntryAborted}
use Rattle.rules_dictionary.specs.TheNode.{is_node_id}
use Rattle.rules_dictionary.specs.Table.{dictionary_length}
use Rattle.rules_services.specs.Load.{Named, nothing_named}
use Rattle.rules.specs.Calls.{Call, power_up_call, frame_call, event_call, load_call, Outcome, answer, refusal_number, output_for}
use Rattle.rules.specs.Calls.{LoadOutcome, load_answer}
use Rattle.form.specs.Form.{state_length, state_of, form, is_form}

-- what a call leaves: the number that it returns, and the bytes of the three buffers
pub record Left : Type 0 where
  pub status : ℕ
  pub state : List ℕ
  pub dictionary : List ℕ
  pub output : List ℕ

-- "the refusal times 256 plus the number of frames"
abbrev pub status : Refusal → ℕ → ℕ
status why frames = 256 * refusal_number why + frames

-- an accepted call's state as bytes; a refused one leaves them
abbrev pub state_after : Refusal → List ℕ → List ℕ → List ℕ
state_after Accepted new old = new
state_after DictionaryLength new old = old
state_after OutputLength new old = old
state_after NodeId new old = old
state_after NotSound new old = old
state_after BadFrame new old = old
state_after BadEvent new old = old
state_after OutOfPlace new old = old
state_after WrongState new old = old
state_after FileTooShort new old = old
state_after TooManyEntries new old = old
state_after FileMisfit new old = old
state_after ControlWordEntry new old = old
state_after EntryAborted new old = old

-- the outcome of the rules' call, in the lent bytes
unfoldable pub left_by : Outcome → List ℕ → Left
left_by x bs =
    record {
      status = status x.refusal x.frames;
      state = state_after x.refusal (form x.state) bs;
      dictionary = x.dictionary;
      output = x.output;
    }

unfoldable pub refused_with : Refusal → List ℕ → List ℕ → List ℕ → Left
refused_with why bs d o = record { status = status why 0; state = bs; dictionary = d; output = o }

-- the bytes are a state, as far as the call looks: power-up takes any bytes of the right length
abbrev pub is_given : Call → List ℕ → Bool
is_given (power_up_call n) bs = eqb (length bs) state_length
is_given (frame_call i xs) bs = eqb (length bs) state_length && is_form bs
is_given (event_call k xs) bs = eqb (length bs) state_length && is_form bs
is_given (load_call f) bs = eqb (length bs) state_length && is_form bs

-- without a state, the refusals below 4 still come first
abbrev pub has_node : Call → Bool
has_node (power_up_call n) = is_node_id n
has_node (frame_call i xs) = true
has_node (event_call k xs) = true
has_node (load_call f) = true

unfoldable pub without : Call → List ℕ → List ℕ → Refusal
without c d o =
    elim (eqb (length d) dictionary_length) [
      | true ↦ elim (leb (output_for c) (length o)) [ true ↦ elim (has_node c) [ true ↦ NotSound | false ↦ NodeId ] | false ↦ OutputLength ]
      | false ↦ DictionaryLength
    ]

-- THE CALL, as C makes it
unfoldable pub lent_answer : Call → List ℕ → List ℕ → List ℕ → Left
lent_answer c bs d o = elim (is_given c bs) [ true ↦ left_by (answer c (state_of bs) d o) bs | false ↦ refused_with (without c d o) bs d o ]

-- what the exported functions leave, as one
abbrev pub left : ℕ → List ℕ → List ℕ → List ℕ → Left
left number bs d o = record { status = number; state = bs; dictionary = d; output = o }

-- ---- a load, which is lent no output

-- what it leaves: the number that it returns, and the bytes of the two buffers
pub record LoadLeft : Type 0 where
  pub status : ℕ
  pub state : List ℕ
  pub dictionary : List ℕ

-- "the refusal times 2^48, plus the entry times 2^32, plus the abort code"
abbrev pub load_status : Refusal → Named → ℕ
load_status why n = 2 ^ 48 * refusal_number why + 2 ^ 32 * n.entry + n.code

-- the outcome of the rules' load, in the lent bytes
unfoldable pub left_by_load : LoadOutcome → List ℕ → LoadLeft
left_by_load x bs =
    record {
      status = load_status x.refusal x.named;
      state = state_after x.refusal (form x.state) bs;
      dictionary = x.dictionary;
    }

unfoldable pub load_refused_with : Refusal → List ℕ → List ℕ → LoadLeft
load_refused_with why bs d = record { status = load_status why nothing_named; state = bs; dictionary = d }

-- THE LOAD, as C makes it
unfoldable pub lent_load : List ℕ → List ℕ → List ℕ → LoadLeft
lent_load f bs d =
    elim (is_given (load_call f) bs) [
      | true ↦ left_by_load (load_answer f (state_of bs) d) bs
      | false ↦ load_refused_with (without (load_call f) d []) bs d
    ]

-- what the exported function leaves, as one
abbrev pub load_left : ℕ → List ℕ → List ℕ → LoadLeft
load_left number bs d = record { status = number; state = bs; dictionary = d }
