-- What a load in code leaves, against what the rules decide of it.
-- Assumes nothing.
use Rattle.std.specs.Prelude.{ℕ, ◌≡◌, Bool, true, false, cond, List, [], ◌∷◌, eqb}
use Rattle.state.specs.declared.State.{State}
use Rattle.state.specs.declared.Refusal.{Refusal}
use Rattle.state.specs.declared.Refusal.TheVariants.{Accepted, EntryAborted}
use Rattle.state.specs.declared.Occasion.TheVariants.{Plain}
use Rattle.files.specs.ConciseDcf.{Entry, reading_of, is_whole, entries_in}
use Rattle.files.specs.Listings.{Counted}
use Rattle.rules_services.specs.Load.{may_load, names_control_word, Loaded, load_all, Named, nothing_named, named_by}
use Rattle.rules.specs.Calls.{Decision, refuses, does, loaded_as, load_decision, is_aborted}
use Rattle.form.specs.Form.{state_of}
use Rattle.output.specs.declared.Done.{Done}
use Rattle.output.specs.Leaves.{Leaves, Rests, nothing_done}
use Rattle.sdo.specs.declared.aborts.Abort.{Abort}
use Rattle.sdo.specs.Verdicts.{code_of}
use Rattle.load.specs.declared.Loading.{Loading}
use Rattle.load.specs.declared.Tally.{Tally}

abbrev pub refusal_of : Decision → Refusal
refusal_of (refuses r) = r
refusal_of (does e) = Accepted

-- the entry that failed and its abort code, where that is the refusal; else zeros
abbrev pub named_for : List ℕ → State → List ℕ → Named
named_for f s d = cond (is_aborted (refusal_of (load_decision f s d))) (named_by (load_all (entries_in f) s d)) nothing_named

-- nothing is left to do after a file of no entries
abbrev pub is_none : List Entry → Bool
is_none [] = true
is_none (e ∷ es) = false

-- a refused load leaves every byte; an accepted one leaves what its effect says, and lays no frame
abbrev pub Left : Decision → List Entry → List ℕ → List ℕ → Done → List ℕ → List ℕ → Type 0
Left (refuses r) es bs d done bs' d' = (bs' ≡ bs) × (d' ≡ d)
Left (does e) es bs d done bs' d' = Leaves (state_of bs) e d [] done bs' d' [] × Rests (is_none es) (state_of bs) e done

pub record LoadsIn (f bs d : List ℕ) (r : Loading) (bs' d' : List ℕ) : Type 0 where
  pub refusal : r.refusal ≡ refusal_of (load_decision f (state_of bs) d)
  pub entry : r.entry ≡ (named_for f (state_of bs) d).entry
  pub code : r.code ≡ (named_for f (state_of bs) d).code
  pub left : Left (load_decision f (state_of bs) d) (entries_in f) bs d r.done bs' d'

-- ---- a load that is not refused as a whole

pub record Loadable (f : List ℕ) (s : State) : Type 0 where
  pub served : may_load s ≡ true
  pub counted : Counted f
  pub whole : is_whole (reading_of f) ≡ true
  pub others : names_control_word (entries_in f) ≡ false

-- it ends as its entries do
pub record Ends (l : Loaded) (es : List Entry) (bs d : List ℕ) (r : Loading) (bs' d' : List ℕ) : Type 0 where
  pub refusal : r.refusal ≡ refusal_of (loaded_as l)
  pub entry : r.entry ≡ (named_by l).entry
  pub code : r.code ≡ (named_by l).code
  pub left : Left (loaded_as l) es bs d r.done bs' d'

-- ---- what is handed back: of a load that is refused as a whole, of one whose last entry was aborted, of one whose entries are all taken

abbrev pub refused_load : Refusal → Loading
refused_load r = record { refusal = r; entry = 0; code = 0; done = nothing_done true }

abbrev pub aborted_load : Tally → Abort → Loading
aborted_load t why = record { refusal = EntryAborted; entry = t.tried; code = code_of why; done = nothing_done true }

abbrev pub taken_load : Tally → Loading
taken_load t =
    record {
      refusal = Accepted;
      entry = 0;
      code = 0;
      done = record { frames = 0; touched = false; remapped = t.mapping; occasion = Plain; quiet = eqb t.tried 0 };
    }
