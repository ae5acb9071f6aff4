-- From what a call on the state's bytes gives to its promise: of a refusal, and of an effect that was taken; and from there to the answer by
-- value. Assumes nothing.
use Prim.Native.Nat.{ℕ}
use mathlib.Core.Path.{◌≡◌, refl, sym, subst}
use mathlib.Core.List.{List}
use Rattle.state.specs.declared.Refusal.{Refusal}
use Rattle.state.specs.declared.State.{State}
use Rattle.rules.specs.Calls.{Outcome}
use Rattle.form.specs.Form.{state_of}
use Rattle.form.specs.Holding.{Holds}
use Rattle.form.proofs.Holding.{held_state}
use Rattle.calls.specs.declared.Given.{Given}
use Rattle.calls.specs.Answers.{outcome, refused_answer, refused_given, accepted_given, Answers}

pub refused_answers : {x : Outcome} {why : Refusal} {s : State} {r : Given} {bs d o : List ℕ} → Holds bs s → r ≡ refused_given why →
    outcome (refused_answer why s) d o ≡ x → Answers x r bs d o
refused_answers held is e =
    rw (is, ← e) (record { refusal = refl; frames = refl; state = held; dictionary = refl; output = refl })

pub given_answers : {x y : Outcome} {n : ℕ} {r : Given} {bs d o : List ℕ} → Answers y (accepted_given n) bs d o → r ≡ accepted_given n → y ≡ x →
    Answers x r bs d o
given_answers h is e = rw (is, ← e) h

-- the same with the state by value
pub answers_by : {x : Outcome} {r : Given} {bs d o : List ℕ} → Answers x r bs d o →
    outcome (record { refusal = r.refusal; frames = r.frames; state = state_of bs }) d o ≡ x
answers_by h = rw (h.refusal, h.frames, held_state h.state, h.dictionary, h.output)

-- bytes that hold a state hold the one that is read from them
pub owned : {bs : List ℕ} {s : State} → Holds bs s → Holds bs (state_of bs)
owned {bs} h = subst (Holds bs) (sym (held_state h)) h
