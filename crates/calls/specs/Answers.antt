-- What a call answers, as the rules' outcome: the refusal, the number of frames, the state, and every byte of what is lent.
-- Assumes nothing.
use Rattle.std.specs.Prelude.{ℕ, ◌≡◌, List}
use Rattle.state.specs.declared.State.{State}
use Rattle.state.specs.declared.Refusal.{Refusal}
use Rattle.state.specs.declared.Refusal.TheVariants.{Accepted}
use Rattle.state.specs.declared.Answer.{Answer}
use Rattle.rules.specs.Calls.{Outcome}
use Rattle.form.specs.Holding.{Holds}
use Rattle.calls.specs.declared.Given.{Given}

-- ---- a state by value

abbrev pub outcome : Answer → List ℕ → List ℕ → Outcome
outcome a dictionary output =
    record { refusal = a.refusal; frames = a.frames; state = a.state; dictionary = dictionary; output = output }

-- the answer of a refused call
abbrev pub refused_answer : Refusal → State → Answer
refused_answer why s = record { refusal = why; frames = 0; state = s }

-- ---- a state that stays in its bytes

abbrev pub refused_given : Refusal → Given
refused_given why = record { refusal = why; frames = 0 }

abbrev pub accepted_given : ℕ → Given
accepted_given n = record { refusal = Accepted; frames = n }

-- THE PROMISE: the refusal, the number of frames and all bytes are the outcome's
pub record Answers (x : Outcome) (r : Given) (bs d o : List ℕ) : Type 0 where
  pub refusal : r.refusal ≡ x.refusal
  pub frames : r.frames ≡ x.frames
  pub state : Holds bs x.state
  pub dictionary : d ≡ x.dictionary
  pub output : o ≡ x.output
