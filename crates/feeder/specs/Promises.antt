-- Ticket 3, what the feeder promises: of every run of the node in which its answers are written and the ticket's premises hold (Feeding). The node is
-- that of the definitions, hence the one in code. The proofs stand in proofs/.
-- Assumes nothing.
use Rattle.std.specs.Prelude.{ℕ, ◌+◌, ◌≡◌, true, cond, List, [], ◌∷◌, ℤ, length, take, drop}
use Rattle.rules_dictionary.specs.Table.{status_word}
use Rattle.rules_dictionary.specs.Values.{read}
use Rattle.drive.specs.declared.Store.{Store}
use Rattle.drive.specs.declared.Store.TheVariants.{Empty, Moving}
use Rattle.drive.specs.SetPoints.{last_target}
use Rattle.theorems.specs.Promises.{Stand, after, Run, reached, held_at, reached_in}
use Rattle.feeder.specs.declared.Feeder.{Feeder}
use Rattle.feeder.specs.Feeder.{first_feeder, feeds, next_length}
use Rattle.feeder.specs.Feeding.{Taking, taken_in, lengths_of, points_of, Turn, answer_at, calls_of, is_written, Feeding}

-- "the set-points taken are the first lengths of the list, in order, none twice", after any call of the run: the lengths of all that were taken
-- are the list's own beginning
abbrev pub FeedsInOrder : Type 0
FeedsInOrder = (r : Run) (lengths : List ℤ) (turns : List Turn) → Feeding lengths turns (reached r) →
    let fed = lengths_of (taken_in (calls_of turns) (reached r)) in
    fed ≡ take (length fed) lengths

-- "then whenever it shows bit 12 clear and lengths remain, that step's set-point is taken", and no other; at every other step none is. The answer of
-- the last step may still be on its way
unfoldable pub EachTaken : List ℤ → Feeder → List Turn → Stand → Type 0
EachTaken lengths f [] a = Unit
EachTaken lengths f (t ∷ ts) a =
    let u = answer_at lengths f t in
    (is_written u t a ≡ true →
    lengths_of (taken_in t.calls a) ≡ cond (feeds lengths f (read a.dictionary status_word)) (next_length lengths f ∷ []) [])
    × EachTaken lengths u.feeder ts (after t.calls a)

abbrev pub TakesEach : Type 0
TakesEach = (r : Run) (lengths : List ℤ) (turns : List Turn) → Feeding lengths turns (reached r) →
    EachTaken lengths first_feeder turns (reached r)

-- the position "counts the lengths taken or on their way": at each step it is the number of set-points that were taken before it
unfoldable pub Counted : List ℤ → Feeder → ℕ → List Turn → Stand → Type 0
Counted lengths f taken [] a = Unit
Counted lengths f taken (t ∷ ts) a =
    (f.position ≡ taken) × Counted lengths (answer_at lengths f t).feeder (taken + length (taken_in t.calls a)) ts (after t.calls a)

abbrev pub PositionCounts : Type 0
PositionCounts = (r : Run) (lengths : List ℤ) (turns : List Turn) → Feeding lengths turns (reached r) →
    Counted lengths first_feeder 0 turns (reached r)

-- (reading 4) "the targets are their sums from 6064h at the first taking": each set-point starts from the target of the one taken before it, the
-- first one from 6064h of that moment
unfoldable pub Linked : Store → List Taking → Type 0
Linked held [] = Unit
Linked held (t ∷ ts) = (t.from ≡ last_target t.here held) × Linked (Moving t.point) ts

abbrev pub TargetsAreSums : Type 0
TargetsAreSums = (r : Run) (lengths : List ℤ) (turns : List Turn) → Feeding lengths turns (reached r) →
    Linked Empty (taken_in (calls_of turns) (reached r))

-- nothing else is held or was reached: of all set-points taken, those held are the ones that event 6 did not move on from
abbrev pub HoldsWhatIsFed : Type 0
HoldsWhatIsFed = (r : Run) (lengths : List ℤ) (turns : List Turn) → Feeding lengths turns (reached r) →
    let calls = calls_of turns in
    held_at (after calls (reached r)) ≡ drop (reached_in calls (reached r)) (points_of (taken_in calls (reached r)))

-- "A list of length 0 does nothing": no set-point is taken
abbrev pub EmptyListTakesNothing : Type 0
EmptyListTakesNothing = (r : Run) (turns : List Turn) → Feeding [] turns (reached r) → taken_in (calls_of turns) (reached r) ≡ []

-- opens every definition of this module, where a proof computes
unfoldable pub open_promises_of_feeder : Unit {0}
unfolding EachTaken Counted Linked
open_promises_of_feeder = tt
