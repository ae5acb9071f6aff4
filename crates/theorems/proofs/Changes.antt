-- What a call may change, byte for byte: a byte of no row that it writes stays, and the rows that it writes are those of the list.
-- Assumes nothing.
use Rattle.theorems.proofs.Words.{ℕ, suc, ◌+◌, ◌<◌, ◌≤◌, arith, ◌≡◌, refl, sym, ◌∙◌, ap, ◌⊎◌, inl, inr, false, List, [], ◌∷◌, leb-false}
use Rattle.theorems.proofs.Words.{ltb-false, leb, length, get_or, set, sets, get_or-set_other, State, either, and_then_false, or_false_left}
use Rattle.theorems.proofs.Words.{or_false_right, Accepted, clash}
use Rattle.theorems.proofs.{Lawful.finally, Listed.Lists, Listed.lists, Decisions.decided_by, Decisions.is_given}
use Rattle.rules_dictionary.specs.Table.{Row, size_of, place_of, status_word, mode_display}
use Rattle.rules_dictionary.specs.{Numbers.any, Numbers.bytes, Values.Write, Values.store, Values.stored}
use Rattle.rules_dictionary.proofs.Defaults.{length_bytes}
use Rattle.rules_services.specs.Effects.{Effect}
use Rattle.rules.specs.Outcome.{ended, settled, status_of}
use Rattle.rules.specs.Calls.{Call, Decision, refuses, does as performs, decided, refused, accepted, answered, answer}
use Rattle.theorems.specs.Promises.{may_change, covers, writes_of, rows_of, and_settled, ChangesOnlyItsWrites, ChangesNoOther, ListsWhatIsWritten}

-- ---- one byte

sets_other : (vs d : List ℕ) (at i : ℕ) → (i < at) ⊎ (at + length vs ≤ i) → get_or (sets d at vs) i 0 ≡ get_or d i 0
sets_other [] d at i h = refl
sets_other (v ∷ vs) d at i (inl h) = sets_other vs (set d at v) (suc at) i (inl (omega arith)) ∙ get_or-set_other d at i v 0 (omega arith)
sets_other (v ∷ vs) d at i (inr h) = sets_other vs (set d at v) (suc at) i (inr (omega arith)) ∙ get_or-set_other d at i v 0 (omega arith)

pub byte_store : (x : Row) (v i : ℕ) (d : List ℕ) → covers i x ≡ false → get_or (store x v d) i 0 ≡ get_or d i 0
unfolding store
byte_store x v i d h =
    sets_other (bytes (size_of x) v) d (place_of x) i
    (elim (either (leb (place_of x) i)) [
      | inl e ↦ inr (rw (length_bytes (size_of x) v) (ltb-false i _ (and_then_false (leb (place_of x) i) _ h e)))
      | inr e ↦ inl (leb-false (place_of x) i e)
    ])

byte_stored : (ws : List Write) (d : List ℕ) (i : ℕ) → any (covers i) (rows_of ws) ≡ false → get_or (stored ws d) i 0 ≡ get_or d i 0
unfolding stored
byte_stored [] d i h = refl
byte_stored (w ∷ ws) d i h =
    byte_stored ws (store w.row w.value d) i (or_false_right (covers i w.row) _ h)
    ∙ byte_store w.row w.value i d (or_false_left (covers i w.row) _ h)

-- an effect changes what it writes, 6041h and 6061h
byte_ended : (s : State) (d : List ℕ) (e : Effect) (i : ℕ) → any (covers i) (and_settled (rows_of e.writes)) ≡ false →
    get_or (ended s d e).dictionary i 0 ≡ get_or d i 0
unfolding ended settled
byte_ended s d e i h =
    let d1 = stored e.writes d in
    let rest = or_false_right (covers i status_word) _ h in
    byte_store mode_display _ i (store status_word (status_of (finally d e) d1) d1) (or_false_left (covers i mode_display) _ rest)
    ∙ byte_store status_word _ i d1 (or_false_left (covers i status_word) _ h)
    ∙ byte_stored e.writes d i (or_false_right (covers i mode_display) _ rest)

-- ---- the calls

byte_answered : (x : Decision) (s : State) (d o : List ℕ) (i : ℕ) → any (covers i) (and_settled (rows_of (writes_of x))) ≡ false →
    get_or (answered x s d o).dictionary i 0 ≡ get_or d i 0
unfolding answered refused accepted
byte_answered (refuses r) s d o i h = refl
byte_answered (performs e) s d o i h = byte_ended s d e i h

pub changes_only_its_writes : ChangesOnlyItsWrites
unfolding answer
changes_only_its_writes k a i h = byte_answered (decided k.call a.state a.dictionary k.output) a.state a.dictionary k.output i h

-- a byte of no row of the list stays
byte_listed : (x : Decision) (c : Call) (s : State) (d o : List ℕ) (i : ℕ) → Lists c s d x → any (covers i) (may_change c s d) ≡ false →
    get_or (answered x s d o).dictionary i 0 ≡ get_or d i 0
unfolding answered refused accepted
byte_listed (refuses r) c s d o i l h = refl
byte_listed (performs e) c s d o i l h = byte_ended s d e i (sym (ap (any (covers i)) l) ∙ h)

pub changes_no_other : ChangesNoOther
unfolding answer
changes_no_other k a i h =
    let x = decided_by a.state a.dictionary k.call k.output in
    byte_listed _ k.call a.state a.dictionary k.output i (lists x) h

-- ---- the list is the writes

listed : (x : Decision) (c : Call) (s : State) (d o : List ℕ) → Lists c s d x → (answered x s d o).refusal ≡ Accepted →
    may_change c s d ≡ and_settled (rows_of (writes_of x))
unfolding answered refused accepted
listed (refuses r) c s d o l h = clash (is_given r) l (ap is_given h)
listed (performs e) c s d o l h = l

pub lists_what_is_written : ListsWhatIsWritten
unfolding answer
lists_what_is_written k a h =
    let x = decided_by a.state a.dictionary k.call k.output in
    listed _ k.call a.state a.dictionary k.output (lists x) h
