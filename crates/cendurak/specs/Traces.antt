-- What a firmware keeps between two C calls, and what it can rely on: the words of the statements that proofs/Traces.antt makes of the calls'
-- contracts.
-- Assumes nothing.
use Rattle.std.specs.Prelude.{ℕ, ◌/◌, ◌%◌, ◌^◌, ◌≤◌, ◌≡◌, true, List, length}
use Rattle.rules_dictionary.specs.Numbers.{are_bytes}
use Rattle.rules_dictionary.specs.TheNode.{is_node_id}
use Rattle.rules_dictionary.specs.Table.{dictionary_length}
use Rattle.rules.specs.Calls.{Call, power_up_call, frame_call, event_call, load_call, Outcome, LoadOutcome, load_answer, refusal_number}
use Rattle.rules.specs.Calls.{output_length}
use Rattle.theorems.specs.Promises.{Stand}
use Rattle.form.specs.Form.{state_length, form}
use Rattle.cendurak.specs.Boundary.{status, load_status}

-- what it keeps: the bytes of the state's buffer and of the dictionary's
pub record Buffers : Type 0 where
  pub state : List ℕ
  pub dictionary : List ℕ

-- what it powers up with: a node-ID 1 to 127 and buffers of the right lengths; what they hold does not matter
pub record MayPowerUp (n : ℕ) (b : Buffers) (out : List ℕ) : Type 0 where
  pub node : is_node_id n ≡ true
  pub whole : length b.state ≡ state_length
  pub long : length b.dictionary ≡ dictionary_length
  pub bytes : are_bytes b.dictionary ≡ true
  pub room : output_length ≤ length out

-- the buffers hold where a run of the rules stands: its state in the one form that it has, and its dictionary
pub record Hold (b : Buffers) (a : Stand) : Type 0 where
  pub state : b.state ≡ form a.state
  pub dictionary : b.dictionary ≡ a.dictionary

-- the number that a call returns, and the output as the call leaves it, are those of the rules' outcome; `cendurak_refusal` and
-- `cendurak_frames` take the number apart
pub record Returns (u : Outcome) (number : ℕ) (out : List ℕ) : Type 0 where
  pub status : number ≡ status u.refusal u.frames
  pub refusal : number / 256 ≡ refusal_number u.refusal
  pub frames : number % 256 ≡ u.frames
  pub output : out ≡ u.output

-- .. of a load, which `cendurak_load_refusal`, `cendurak_load_entry` and `cendurak_load_abort_code` take apart
pub record LoadReturns (u : LoadOutcome) (number : ℕ) : Type 0 where
  pub status : number ≡ load_status u.refusal u.named
  pub refusal : number / 2 ^ 48 ≡ refusal_number u.refusal
  pub entry : number / 2 ^ 32 % 2 ^ 16 ≡ u.named.entry
  pub code : number % 2 ^ 32 ≡ u.named.code

-- by the call; what output stands beside a load stays
abbrev pub ReturnsOf : Call → Stand → Outcome → ℕ → List ℕ → Type 0
ReturnsOf (power_up_call n) a u number out = Returns u number out
ReturnsOf (frame_call i bs) a u number out = Returns u number out
ReturnsOf (event_call k xs) a u number out = Returns u number out
ReturnsOf (load_call f) a u number out = LoadReturns (load_answer f a.state a.dictionary) number × (out ≡ u.output)

-- the refusal in a number
abbrev pub refusal_in : Call → ℕ → ℕ
refusal_in (power_up_call n) number = number / 256
refusal_in (frame_call i bs) number = number / 256
refusal_in (event_call k xs) number = number / 256
refusal_in (load_call f) number = number / 2 ^ 48
