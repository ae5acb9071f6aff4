-- Ticket 3, runs of the node in which the feeder's answers are written: the set-points that are taken along calls, the feeder's turns, and
-- the ticket's premises, each by its phrase.
-- Assumes nothing.
use Rattle.std.specs.Prelude.{ℕ, ◌≡◌, Bool, true, false, cond, not, ◌&&◌, ◌||◌, List, [], ◌∷◌, ◌++◌, map, eqb, ℤ, ◌-ℤ◌}
use Rattle.std.specs.Int.{w32}
use Rattle.std.proofs.Common.{of_z, SFits}
use Rattle.rules_dictionary.specs.Members.{In}
use Rattle.rules_dictionary.specs.Numbers.{all, any, bit, integer}
use Rattle.rules_dictionary.specs.Table.{same, status_word, control_word, mode, position, target_position}
use Rattle.rules_dictionary.specs.Values.{Write, read, stored}
use Rattle.rules_dictionary.specs.Legal.{mode_number}
use Rattle.rules_dictionary.specs.declared.Mode.TheVariants.{ProfilePosition}
use Rattle.drive.specs.declared.SetPoint.{SetPoint}
use Rattle.drive.specs.declared.Store.{Store}
use Rattle.drive.specs.declared.Store.TheVariants.{Empty, Rested, Moving, Queued}
use Rattle.drive.specs.declared.Drive.{Drive}
use Rattle.drive.specs.DriveStates.{is_enabled}
use Rattle.drive.specs.SetPoints.{new_set_point_bit, is_position, is_empty, last_target, target, within_limits}
use Rattle.rules_services.specs.Written.{wrote}
use Rattle.theorems.specs.Promises.{Step, Stand, left, after, AllOctets, decided_at, is_accepted}
use Rattle.theorems.specs.PromisesOfDrive.{brought_by, acted, takes_over, tells_fault}
use Rattle.feeder.specs.declared.Feeder.{Feeder}
use Rattle.feeder.specs.declared.Answer.{Answer}
use Rattle.feeder.specs.Feeder.{is_too_long, first_feeder, step}

-- ---- set-points taken

-- "bit 4 rose against the old 6040h", with those values
abbrev pub rises : List Write → List ℕ → Bool
rises ws d = not (bit new_set_point_bit (read d control_word)) && bit new_set_point_bit (read (stored ws d) control_word)

-- they take a set-point: bit 4 rose, and the taken mark is set behind it ("Taken sets the taken mark", "bit 4 zero clears the taken mark")
abbrev pub takes : List Write → Drive → List ℕ → Bool
takes ws v d = rises ws d && (acted ws v d).taken

-- a set-point that was taken: as it is held, 6064h of that moment, and "the last taken target (Empty: 6064h)"
pub record Taking : Type 0 where
  pub point : SetPoint
  pub here : ℕ
  pub from : ℕ

-- how far it moves the target
abbrev pub far : Taking → ℤ
far t = integer t.point.target -ℤ integer t.from

-- the one that stands last
abbrev pub newest : Store → List SetPoint
newest Empty = []
newest (Rested t) = []
newest (Moving a) = a ∷ []
newest (Queued a b) = b ∷ []

-- from the set-points held before, with those values stored in d
abbrev pub taking : Store → List ℕ → SetPoint → Taking
taking held d p = record { point = p; here = read d position; from = last_target (read d position) held }

-- what one frame's values take: one set-point or none
unfoldable pub taken_of : List Write → Drive → List ℕ → List Taking
taken_of ws v d = cond (takes ws v d) (map (taking v.store (stored ws d)) (newest (acted ws v d).store)) []

-- .. frames applied one after another
unfoldable pub taken_of_all : List (List Write) → Drive → List ℕ → List Taking
taken_of_all [] v d = []
taken_of_all (ws ∷ fs) v d = taken_of ws v d ++ taken_of_all fs (acted ws v d) (stored ws d)

-- .. and calls
unfoldable pub taken_in : List Step → Stand → List Taking
taken_in [] a = []
taken_in (k ∷ ks) a = taken_of_all (brought_by k a) a.state.axis.drive a.dictionary ++ taken_in ks (left k a)

abbrev pub lengths_of : List Taking → List ℤ
lengths_of ts = map far ts

abbrev pub points_of : List Taking → List SetPoint
points_of ts = map (λ t. t.point) ts

-- ---- a run of the feeder

-- one step of it: the status word that it is told, and the calls that come before its next step
pub record Turn : Type 0 where
  pub told : ℕ
  pub calls : List Step

-- what the feeder answers
abbrev pub answer_at : List ℤ → Feeder → Turn → Answer
answer_at lengths f t = step lengths f t.told

-- all calls of the turns
unfoldable pub calls_of : List Turn → List Step
calls_of [] = []
calls_of (t ∷ ts) = t.calls ++ calls_of ts

-- what is asked of a turn: of the answer, the turn, and where the node stands at that step
abbrev pub Premise : Type 0
Premise = Answer → Turn → Stand → Bool

-- it holds of each turn; the feeder goes on from what it answered, the node from where the calls left it
unfoldable pub throughout : Premise → List ℤ → Feeder → List Turn → Stand → Bool
throughout p lengths f [] a = true
throughout p lengths f (t ∷ ts) a =
    let u = answer_at lengths f t in
    p u t a && throughout p lengths u.feeder ts (after t.calls a)

-- .. and of each but the last
unfoldable pub before_next : Premise → List ℤ → Feeder → List Turn → Stand → Bool
before_next p lengths f [] a = true
before_next p lengths f (t ∷ []) a = true
before_next p lengths f (t ∷ t' ∷ ts) a =
    let u = answer_at lengths f t in
    p u t a && before_next p lengths u.feeder (t' ∷ ts) (after t.calls a)

-- ---- the premises

-- of each call, where the node stands before it
unfoldable pub along : (Step → Stand → Bool) → List Step → Stand → Bool
along p [] a = true
along p (k ∷ ks) a = p k a && along p ks (left k a)

-- the frames' values that calls bring
unfoldable pub brought_in : List Step → Stand → List (List Write)
brought_in [] a = []
brought_in (k ∷ ks) a = brought_by k a ++ brought_in ks (left k a)

-- "a drive that starts enabled in mode 1 with an Empty store and bit 4 zero"
pub record Starts (a : Stand) : Type 0 where
  pub enabled : is_enabled a.state.axis.drive.state ≡ true
  pub in_mode_one : is_position a.state.axis.drive.mode ≡ true
  pub empty : is_empty a.state.axis.drive.store ≡ true
  pub bit_four_zero : bit new_set_point_bit (read a.dictionary control_word) ≡ false

-- "each status word is the present one"
abbrev pub is_present : Premise
is_present u t a = eqb t.told (read a.dictionary status_word)

-- "Each answer is written .. before the next step": 6040h among what the calls bring, and so accepted ("whose calls are all accepted": a refused call
-- brings nothing; others may be refused)
abbrev pub is_written : Premise
is_written u t a = any (wrote control_word) (brought_in t.calls a)

-- "target first": 607Ah comes before 6040h or with it; the flag says that it came
unfoldable pub comes_first : Bool → List (List Write) → Bool
comes_first came [] = true
comes_first came (ws ∷ fs) =
    let comes = came || wrote target_position ws in
    (not (wrote control_word ws) || comes) && comes_first comes fs

abbrev pub target_first : Premise
target_first u t a = comes_first false (brought_in t.calls a)

-- "without .. writes of 6040h or 607Ah, by others": what is written there is the answer
abbrev pub is_answers : Answer → Write → Bool
is_answers u w =
    (not (same control_word w.row) || eqb w.value u.word)
    && (not (same target_position w.row) || eqb w.value (of_z w32 u.target))

abbrev pub without_other_writes : Premise
without_other_writes u t a = along (λ k b. all (all (is_answers u)) (brought_by k b)) t.calls a

-- "without faults"
abbrev pub without_faults : Premise
without_faults u t a = along (λ k b. not (is_accepted (decided_at k b) && tells_fault k.call)) t.calls a

-- "without .. state changes, .. by others": no power-up, and no 02h, 81h, 82h to this node
abbrev pub without_state_changes : Premise
without_state_changes u t a = along (λ k b. not (is_accepted (decided_at k b) && takes_over k.call b.state)) t.calls a

-- "without .. mode .. changes": 6060h is written 1 or not at all
abbrev pub keeps_mode_one : Write → Bool
keeps_mode_one w = not (same mode w.row) || eqb w.value (mode_number ProfilePosition)

abbrev pub without_mode_changes : Premise
without_mode_changes u t a = along (λ k b. all (all keeps_mode_one) (brought_by k b)) t.calls a

-- "whose running targets stay inside 607Dh and i32": wherever bit 4 rises, the target that is then asked for
unfoldable pub stays_inside : List (List Write) → Drive → List ℕ → Bool
stays_inside [] v d = true
stays_inside (ws ∷ fs) v d =
    let d' = stored ws d in
    (not (rises ws d) || within_limits d' (target d' (read d' control_word) v.store)) && stays_inside fs (acted ws v d) d'

abbrev pub inside_limits : Premise
inside_limits u t a = along (λ k b. stays_inside (brought_by k b) b.state.axis.drive b.dictionary) t.calls a

-- all of them, of a run that goes on with these turns; the list is one of "signed 32-bit lengths", and data and arguments are bytes
pub record Feeding (lengths : List ℤ) (turns : List Turn) (a : Stand) : Type 0 where
  pub short : is_too_long lengths ≡ false
  pub signed : (z : ℤ) → In z lengths → SFits w32 z
  pub starts : Starts a
  pub bytes : AllOctets (calls_of turns)
  pub present : throughout is_present lengths first_feeder turns a ≡ true
  pub written : before_next is_written lengths first_feeder turns a ≡ true
  pub targets_first : throughout target_first lengths first_feeder turns a ≡ true
  pub no_other_writes : throughout without_other_writes lengths first_feeder turns a ≡ true
  pub no_faults : throughout without_faults lengths first_feeder turns a ≡ true
  pub no_state_changes : throughout without_state_changes lengths first_feeder turns a ≡ true
  pub no_mode_changes : throughout without_mode_changes lengths first_feeder turns a ≡ true
  pub inside : throughout inside_limits lengths first_feeder turns a ≡ true

-- opens every definition of this module, where a proof computes
unfoldable pub open_feeding : Unit {0}
unfolding taken_of taken_of_all taken_in calls_of throughout before_next along brought_in comes_first stays_inside
open_feeding = tt
