-- Any sequence of the public calls is a run of the definitions: so whatever is proved of all runs holds of the code. What a call may answer is
-- said by its contract as Rattle reads it (`Reads`), and not by a copy.
-- Assumes nothing.
use Prim.Native.Nat.{ℕ}
use native.Mathlib.Omega.{arith}
use borrow.Author.Tests.{le-leb}
use lib.Dec.{eqb, leb}
use mathlib.Core.Bool.{Bool, true, false}
use lib.ListN.{length}
use mathlib.Core.Path.{◌≡◌, refl, sym, ◌∙◌, ap}
use mathlib.Core.List.{List, [], ◌∷◌}
use contract.Lifetimes.{Lfts}
use denote.Ref.{Bor}
use denote.MutBor.{MutBor}
use Rattle.state.specs.declared.State.{State}
use Rattle.state.specs.declared.Answer.{Answer}
use Rattle.state.specs.declared.Refusal.TheVariants.{DictionaryLength, OutputLength}
use Rattle.rules_dictionary.specs.Table.{dictionary_length}
use Rattle.rules.specs.Calls.{power_up_call, frame_call, event_call, load_call, LoadOutcome, Decision, refuses, does as performs, decision, decided}
use Rattle.rules.specs.Calls.{answered, answer, load_answer, refused, accepted}
use Rattle.theorems.specs.Promises.{Step, Stand, left, after}
use Rattle.theorems.proofs.Runs.{standing}
use Rattle.calls.specs.declared.LoadAnswer.{LoadAnswer}
use Rattle.calls.proofs.power_up.Reads as power_up_lem
use Rattle.calls.proofs.frame.Reads as frame
use Rattle.calls.proofs.event.Reads as event
use Rattle.calls.proofs.load.Reads as load

-- One call of the code: its arguments, an answer, and the lent bytes at exit, as its contract allows them (κs are the lifetimes of what is lent).
-- `Called k a b`: what is called, and with which output (k); the state and the dictionary that it is handed (a), and those that it hands back (b).
-- What output stands beside a load does not matter
pub data Called : Step → Stand → Stand → Type 0 where
  powers : (κs : Lfts 2) (s : State) (d output : MutBor (List ℕ)) (n : ℕ)
      (r : Answer) (d' output' : MutBor (List ℕ)) →
      power_up_lem.Post κs (s, (d, (output, (n, tt)))) r (s, (d', (output', (n, tt)))) →
      Called (record { call = power_up_call n; output = output.now }) (record { state = s; dictionary = d.now })
      (record { state = r.state; dictionary = d'.now })
  frames : (κs : Lfts 3) (s : State) (d output : MutBor (List ℕ)) (identifier : ℕ) (bytes : Bor (List ℕ))
      (r : Answer) (d' output' : MutBor (List ℕ)) →
      frame.Post κs (s, (d, (output, (identifier, (bytes, tt))))) r (s, (d', (output', (identifier, (bytes, tt))))) →
      Called (record { call = frame_call identifier bytes.now; output = output.now }) (record { state = s; dictionary = d.now })
      (record { state = r.state; dictionary = d'.now })
  events : (κs : Lfts 3) (s : State) (d output : MutBor (List ℕ)) (number : ℕ) (arguments : Bor (List ℕ))
      (r : Answer) (d' output' : MutBor (List ℕ)) →
      event.Post κs (s, (d, (output, (number, (arguments, tt))))) r (s, (d', (output', (number, (arguments, tt))))) →
      Called (record { call = event_call number arguments.now; output = output.now }) (record { state = s; dictionary = d.now })
      (record { state = r.state; dictionary = d'.now })
  loads : (κs : Lfts 2) (s : State) (d : MutBor (List ℕ)) (file : Bor (List ℕ)) (output : List ℕ) (r : LoadAnswer) (d' : MutBor (List ℕ)) →
      load.Post κs (s, (d, (file, tt))) r (s, (d', (file, tt))) →
      Called (record { call = load_call file.now; output = output }) (record { state = s; dictionary = d.now })
      (record { state = r.state; dictionary = d'.now })

-- calls one after another: each is handed the state and the dictionary that the one before handed back, with output of any length
pub data Trace : Stand → List Step → Stand → Type 0 where
  ends : {a : Stand} → Trace a [] a
  goes : {a b c : Stand} {k : Step} {ks : List Step} → Called k a b → Trace b ks c → Trace a (k ∷ ks) c

-- THE STATEMENT: it is a run of the definitions
abbrev pub TracesAreRuns : Type 0
TracesAreRuns = (a b : Stand) (ks : List Step) → Trace a ks b → b ≡ after ks a

-- a load leaves the same whatever output stands beside it
pub any_output : (f : List ℕ) (s : State) (d o : List ℕ) → standing (answer (load_call f) s d []) ≡ standing (answer (load_call f) s d o)
unfolding answer decided answered refused accepted
any_output f s d o =
    beside (go (eqb (length d) dictionary_length) true)
    ∙ ap (λ (x : Decision). standing (answered x s d o))
    (same (eqb (length d) dictionary_length) (leb 0 (length o)) (le-leb 0 (length o) (omega arith)))
  where
    go : Bool → Bool → Decision
    go a b = elim a [ true ↦ elim b [ true ↦ decision (load_call f) s d | false ↦ refuses OutputLength ] | false ↦ refuses DictionaryLength ]

    beside : (x : Decision) → standing (answered x s d []) ≡ standing (answered x s d o)
    beside (refuses r) = refl
    beside (performs e) = refl

    same : (a b : Bool) → b ≡ true → go a true ≡ go a b
    same a b h = ap (go a) (sym h)

-- what a call hands back is what the rules leave
by_contract : {k : Step} {a b : Stand} → Called k a b → b ≡ left k a
unfolding load_answer
by_contract (Called.powers κs s d output n r d' output' post) = ap standing post
by_contract (Called.frames κs s d output identifier bytes r d' output' post) = ap standing post
by_contract (Called.events κs s d output number arguments r d' output' post) = ap standing post
by_contract (Called.loads κs s d file output r d' post) =
    ap (λ (u : LoadOutcome). record { state = u.state; dictionary = u.dictionary }) post ∙ any_output file.now s d.now output

pub traces_are_runs : TracesAreRuns
unfolding after
traces_are_runs a b [] ends = refl
traces_are_runs a b (k ∷ ks) (goes {b = c} call rest) = traces_are_runs c b ks rest ∙ ap (after ks) (by_contract call)
