-- Ticket 6, 'Load the customer's configuration': what holds of a load, with the few definitions that this needs. A load is a call of a run, so that
-- every statement of Promises holds of it too. Their proofs stand in proofs/.
-- Assumes nothing.
use Rattle.std.specs.Prelude.{ℕ, suc, ◌+◌, ◌-◌, ◌*◌, ◌≤◌, ◌≡◌, Bool, true, not, ◌&&◌, ◌||◌, List, [], ◌∷◌, ◌++◌, map, leb, ltb, length}
use Rattle.state.specs.declared.NmtState.{NmtState}
use Rattle.state.specs.declared.Refusal.TheVariants.{Accepted, EntryAborted}
use Rattle.rules_dictionary.specs.Numbers.{all, are_bytes, bytes, padded}
use Rattle.rules_dictionary.specs.Table.{lookup}
use Rattle.rules_dictionary.specs.Aborts.{Abort, abort_code, Verdict, good, bad}
use Rattle.files.specs.ConciseDcf.{Entry, entries_in, count_size, is_too_short, is_overfull, is_misfit}
use Rattle.rules_services.specs.Sdo.{data_size, index_size}
use Rattle.rules_services.specs.Load.{may_load, listed, names_control_word, Named, nothing_named}
use Rattle.rules.specs.Calls.{load_call, LoadOutcome, load_answer, output_length}
use Rattle.theorems.specs.Promises.{Step, Stand, Run, does, left, reached, only_sends, nothing_runs, object_verdict, verdict_at, after_requests}
use Rattle.theorems.specs.Promises.{requested}

-- the load of a file; what output stands beside it does not matter
abbrev pub loading : List ℕ → List ℕ → Step
loading f o = record { call = load_call f; output = o }

-- ---- "Either all are applied or nothing changes": a refused load leaves state and dictionary as they were; of every file, state and dictionary

abbrev pub RefusedLoadChangesNothing : Type 0
RefusedLoadChangesNothing = (f o : List ℕ) (a : Stand) → ((does (loading f o) a).refusal ≡ Accepted → ⊥) → left (loading f o) a ≡ a

-- ---- "with no frames sent", refused or not; of every file, state and dictionary

abbrev pub LoadSendsNothing : Type 0
LoadSendsNothing = (f o : List ℕ) (a : Stand) → ((does (loading f o) a).frames ≡ 0) × ((does (loading f o) a).output ≡ o)

-- ---- "apply entries in order as SDO downloads would"

-- 23h, 27h, 2Bh, 2Fh: an expedited download of so many bytes, its size told
abbrev pub command_for : ℕ → ℕ
command_for size = 0x23 + 4 * (data_size - size)

-- the request that downloads an entry of four bytes at the most
abbrev pub request_for : Entry → List ℕ
request_for e = command_for (length e.content) ∷ bytes index_size e.index ++ e.subindex ∷ padded 0 data_size e.content

-- one byte to four: so many can be told
abbrev pub is_few : ℕ → Bool
is_few n = ltb 0 n && leb n data_size

abbrev pub is_requestable : Entry → Bool
is_requestable e = is_few (length e.content)

-- requests in a row, none of which is aborted
unfoldable pub AllTaken : List (List ℕ) → List ℕ → Stand → Type 0
AllTaken [] o a = Unit
AllTaken (rq ∷ rqs) o a = (verdict_at rq a ≡ good) × AllTaken rqs o (left (requested rq o a) a)

-- an accepted load leaves what the same downloads by SDO, one after another and none of them aborted, would have left, but for a running transfer
abbrev pub LoadsAsDownloads : Type 0
LoadsAsDownloads = (r : Run) (f o out : List ℕ) → are_bytes f ≡ true → output_length ≤ length out → (does (loading f o) (reached r)).refusal ≡ Accepted →
    let rqs = map request_for (entries_in f) in
    (all is_requestable (entries_in f) ≡ true) × AllTaken rqs out (reached r)
    × (nothing_runs (left (loading f o) (reached r)) ≡ nothing_runs (after_requests rqs out (reached r)))

-- none of the refusals of a file: it has a count, of 512 at the most, and just so many entries, none of them for 6040h
abbrev pub is_in_order : List ℕ → Bool
is_in_order f = not (is_too_short f || is_overfull f || is_misfit f || names_control_word (entries_in f))

-- and where a load is served, every file that is in order and whose downloads would be taken so is accepted
abbrev pub LoadsWhatIsTaken : Type 0
LoadsWhatIsTaken = (r : Run) (f o out : List ℕ) → are_bytes f ≡ true → output_length ≤ length out → may_load (reached r).state ≡ true →
    is_in_order f ≡ true → all is_requestable (entries_in f) ≡ true → AllTaken (map request_for (entries_in f)) out (reached r) →
    (does (loading f o) (reached r)).refusal ≡ Accepted

-- ---- "the answer names the first entry (from 1) that failed with its abort code"

abbrev pub load_at : List ℕ → Stand → LoadOutcome
load_at f a = load_answer f a.state a.dictionary

-- what document 01 names for the download of an entry, in its order
abbrev pub entry_verdict : Entry → NmtState → List ℕ → Verdict
entry_verdict e nmt d = object_verdict true (listed e) nmt d (lookup e.index e.subindex)

-- the entries before it are taken as downloads by SDO, one after another, and where these leave the node it is aborted so
pub record NamesFirst (f out : List ℕ) (a : Stand) (named : Named) : Type 0 where
  pub before : List Entry
  pub failing : Entry
  pub behind : List Entry
  pub abort : Abort
  pub split : entries_in f ≡ before ++ failing ∷ behind
  pub entry : named.entry ≡ suc (length before)
  pub code : named.code ≡ abort_code abort
  pub taken : AllTaken (map request_for before) out a
  pub why : let b = after_requests (map request_for before) out a in entry_verdict failing b.state.node.nmt b.dictionary ≡ bad abort

abbrev pub NamesFirstFailing : Type 0
NamesFirstFailing = (r : Run) (f out : List ℕ) → are_bytes f ≡ true → output_length ≤ length out → (load_at f (reached r)).refusal ≡ EntryAborted →
    NamesFirst f out (reached r) (load_at f (reached r)).named

-- with every other refusal, and with none, entry and code are zeros; of every file, state and dictionary
abbrev pub NamesNothingElse : Type 0
NamesNothingElse = (f : List ℕ) (a : Stand) → ((load_at f a).refusal ≡ EntryAborted → ⊥) → (load_at f a).named ≡ nothing_named

-- ---- a file of no entries: four zero bytes

abbrev pub empty_file : List ℕ
empty_file = bytes count_size 0

-- it is accepted wherever a load is served, and changes nothing
abbrev pub EmptyFileChangesNothing : Type 0
EmptyFileChangesNothing = (r : Run) (o : List ℕ) → may_load (reached r).state ≡ true →
    does (loading empty_file o) (reached r) ≡ only_sends [] (reached r) o

-- opens every definition of this module, where a proof computes
unfoldable pub open_load_promises : Unit {0}
unfolding AllTaken
open_load_promises = tt
