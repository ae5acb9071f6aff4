-- THE NODE IN A FIRMWARE. Its C calls work on two buffers that it keeps, the state's and the dictionary's, and on an output. It calls
-- cendurak_power_up with a node-ID 1 to 127 and buffers of the right lengths, whatever lies in them. From then on it may call the four functions
-- in any order and with any arguments, good or bad, and with any output, as long as it leaves the two buffers as the calls left them. Then these
-- calls are a run of the rules: the buffers always hold that run's state and dictionary, and each call returns and sends what the rules say of it
-- there. So every promise of `theorems` (specs/Promises.antt), which is made of all runs, is kept.
-- What a call may return and leave is said by its contract as Rattle reads it (`Reads`), and not by a copy.
-- Here stand the statements alone; their proofs stand in Runs.antt.
-- Assumes nothing.
use Prim.Native.Nat.{ℕ}
use mathlib.Core.Path.{◌≡◌}
use mathlib.Core.Bool.{true}
use mathlib.Core.List.{List, [], ◌∷◌}
use contract.Lifetimes.{Lfts}
use denote.Ref.{Bor}
use denote.MutBor.{MutBor}
use Rattle.state.specs.declared.Refusal.TheVariants.{Accepted, NotSound}
use Rattle.rules_services.specs.Nmt.{boot_up}
use Rattle.rules.specs.Outcome.{sent_into}
use Rattle.rules.specs.Sound.{sound}
use Rattle.rules.specs.Calls.{power_up_call, frame_call, event_call, load_call, refusal_number}
use Rattle.theorems.specs.Promises.{Step, does, left, octets, AllOctets, Run, reached}
use Rattle.form.specs.Form.{state_of, is_form}
use Rattle.cendurak.specs.Boundary.{status}
use Rattle.cendurak.specs.Traces.{Buffers, MayPowerUp, Hold, ReturnsOf, refusal_in}
use Rattle.cendurak.proofs.cendurak_power_up.Reads as power_up_lem
use Rattle.cendurak.proofs.cendurak_frame.Reads as frame
use Rattle.cendurak.proofs.cendurak_event.Reads as event
use Rattle.cendurak.proofs.cendurak_load.Reads as load

-- ---- what a firmware does

-- One C call: its arguments, what it returns, and the buffers at exit, as its contract allows them (κs are the lifetimes of what is lent).
-- `Called k b number out b'`: what is called, and with which output (k); the state's and the dictionary's bytes before it (b); the number
-- returned; the output's bytes, and those of the two buffers (b'), after it
pub data Called : Step → Buffers → ℕ → List ℕ → Buffers → Type 0 where
  powers : (κs : Lfts 3) (state dict out : MutBor (List ℕ)) (n number : ℕ) (state' dict' out' : MutBor (List ℕ)) →
      power_up_lem.Post κs (state, (dict, (out, (n, tt)))) number (state', (dict', (out', (n, tt)))) →
      Called (record { call = power_up_call n; output = out.now }) (record { state = state.now; dictionary = dict.now })
      number out'.now (record { state = state'.now; dictionary = dict'.now })
  frames : (κs : Lfts 4) (state dict out : MutBor (List ℕ)) (identifier : ℕ) (bytes : Bor (List ℕ))
      (number : ℕ) (state' dict' out' : MutBor (List ℕ)) →
      frame.Post κs (state, (dict, (out, (identifier, (bytes, tt))))) number (state', (dict', (out', (identifier, (bytes, tt))))) →
      Called (record { call = frame_call identifier bytes.now; output = out.now }) (record { state = state.now; dictionary = dict.now })
      number out'.now (record { state = state'.now; dictionary = dict'.now })
  events : (κs : Lfts 4) (state dict out : MutBor (List ℕ)) (event_number : ℕ) (arguments : Bor (List ℕ)) (number : ℕ)
      (state' dict' out' : MutBor (List ℕ)) →
      event.Post κs (state, (dict, (out, (event_number, (arguments, tt))))) number (state', (dict', (out', (event_number, (arguments, tt))))) →
      Called (record { call = event_call event_number arguments.now; output = out.now }) (record { state = state.now; dictionary = dict.now })
      number out'.now (record { state = state'.now; dictionary = dict'.now })
  loads : (κs : Lfts 3) (state dict : MutBor (List ℕ)) (file : Bor (List ℕ)) (out : List ℕ) (number : ℕ) (state' dict' : MutBor (List ℕ)) →
      load.Post κs (state, (dict, (file, tt))) number (state', (dict', (file, tt))) →
      Called (record { call = load_call file.now; output = out }) (record { state = state.now; dictionary = dict.now })
      number out (record { state = state'.now; dictionary = dict'.now })

-- calls one after another, refused ones included: each on the two buffers as the one before left them, with any output
pub data Trace : Buffers → List Step → Buffers → Type 0 where
  ends : {b : Buffers} → Trace b [] b
  goes : {b b' c : Buffers} {k : Step} {ks : List Step} {number : ℕ} {out : List ℕ} → Called k b number out b' → Trace b' ks c → Trace b (k ∷ ks) c

-- a power-up that is not refused, and then any calls
pub record RunInC : Type 0 where
  -- the power-up: its arguments, and what it returned and left
  pub node : ℕ
  pub found : Buffers
  pub output : List ℕ
  pub may : MayPowerUp node found output
  pub number : ℕ
  pub boot : List ℕ
  pub started : Buffers
  pub powered : Called (record { call = power_up_call node; output = output }) found number boot started
  -- the calls after it, whose data and arguments are bytes, and what they left
  pub steps : List Step
  pub given : AllOctets steps
  pub buffers : Buffers
  pub trace : Trace started steps buffers

-- the run of the rules that it is; the state that it finds does not matter
abbrev pub run_of : RunInC → Run
run_of c =
    record {
      node = c.node;
      legal = c.may.node;
      found = record { state = state_of c.found.state; dictionary = c.found.dictionary };
      long = c.may.long;
      bytes = c.may.bytes;
      output = c.output;
      room = c.may.room;
      steps = c.steps;
      given = c.given;
    }

-- ---- THE STATEMENTS

-- after any calls the buffers hold where that run stands
abbrev pub TracesAreRunsInC : Type 0
TracesAreRunsInC = (c : RunInC) → Hold c.buffers (reached (run_of c))

-- and a call on them returns what the rules answer there, and leaves what they leave
abbrev pub AnswersInC : Type 0
AnswersInC = (c : RunInC) (k : Step) (number : ℕ) (out : List ℕ) (b : Buffers) → octets k.call ≡ true → Called k c.buffers number out b →
    ReturnsOf k.call (reached (run_of c)) (does k (reached (run_of c))) number out × Hold b (left k (reached (run_of c)))

-- the power-up itself was accepted and sent the boot-up, and nothing else
abbrev pub PowersUpInC : Type 0
PowersUpInC = (c : RunInC) → (c.number ≡ status Accepted 1) × (c.boot ≡ sent_into c.output (boot_up c.node))

-- So every promise of `theorems` is kept. Of them: what the buffers hold is a state, and it is sound
abbrev pub SoundInC : Type 0
SoundInC = (c : RunInC) → (is_form c.buffers.state ≡ true) × (sound (state_of c.buffers.state) c.buffers.dictionary ≡ true)

-- and no call returns refusal 4
abbrev pub NeverUnsoundInC : Type 0
NeverUnsoundInC = (c : RunInC) (k : Step) (number : ℕ) (out : List ℕ) (b : Buffers) → octets k.call ≡ true →
    Called k c.buffers number out b → refusal_in k.call number ≡ refusal_number NotSound → ⊥
