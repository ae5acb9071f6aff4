-- The drive stays sound through every command, mode and event: the store, both marks and the cause stay in their place.
-- Assumes nothing.
use Rattle.theorems.proofs.Words.{ℕ, ◌≡◌, refl, sym, ◌∙◌, ap, Bool, true, false, not, ◌&&◌, ◌||◌, or-true, and-eq-true_iff, List, DriveState}
use Rattle.theorems.proofs.Words.{Store, Empty, Rested, Moving, Queued, Drive, Command, and_left, and_right, and_both, or_left, clash, by_test}
use Rattle.theorems.proofs.Words.{whichever, implied, implies, on_ways}
use Rattle.rules_dictionary.specs.{Numbers.bit, Table.control_word, Table.mode, Values.read}
use Rattle.drive.specs.DriveStates.{is_faulty, command, next}
use Rattle.drive.specs.SetPoints.{positions, emptied, enters, with_state, with_mode, is_empty, is_moving, is_queued, moved_on, with_taken}
use Rattle.drive.specs.SetPoints.{offered, target, within_limits, set_point_rule, mode_written, mode_of, control_written, new_set_point_bit, at_once_bit}
use Rattle.rules.specs.Sound.{store_in_place, taken_in_place, cause_in_place, drive_sound}

-- ---- a sound drive, by its parts

pub record Parts (v : Drive) (d : List ℕ) : Type 0 where
  pub store : store_in_place v ≡ true
  pub taken : taken_in_place v d ≡ true
  pub cause : cause_in_place v ≡ true

pub parts : (v : Drive) (d : List ℕ) → drive_sound v d ≡ true → Parts v d
unfolding drive_sound
parts v d h =
    let k = simp and-eq-true_iff at h in
    record { store = k.0.0; taken = k.0.1; cause = k.1 }

-- ---- emptied: the store and both marks are in place; the taken mark at most goes

-- what a rule of set-points leaves alone
pub record SameDrive (v w : Drive) : Type 0 where
  pub state : w.state ≡ v.state
  pub mode : w.mode ≡ v.mode
  pub cause : w.cause ≡ v.cause

same : {v : Drive} → SameDrive v v
same = record { state = refl; mode = refl; cause = refl }

pub emptied_same : (v : Drive) → SameDrive v (emptied v)
unfolding emptied
emptied_same v = whichever (SameDrive v) (positions v) same (record { state = refl; mode = refl; cause = refl })

pub emptied_store : (v : Drive) → store_in_place (emptied v) ≡ true
unfolding emptied store_in_place
emptied_store v = by_test (λ (w : Drive). store_in_place w ≡ true) (positions v) (λ e. rw e) (λ e. or-true (positions v))

pub emptied_taken : (v : Drive) (d : List ℕ) → taken_in_place v d ≡ true → taken_in_place (emptied v) d ≡ true
unfolding emptied taken_in_place
emptied_taken v d h = whichever (λ (w : Drive). taken_in_place w d ≡ true) (positions v) h refl

-- ---- a new state

enters_cause : (s : DriveState) (v : Drive) → (v.cause ≡ true → is_faulty s ≡ true) → cause_in_place (enters s v) ≡ true
unfolding enters cause_in_place
enters_cause s v h =
    let k = emptied_same (with_state s v) in
    implies (emptied (with_state s v)).cause _ (λ c. ap is_faulty k.state ∙ h (sym k.cause ∙ c))

pub enters_store : (s : DriveState) (v : Drive) → store_in_place (enters s v) ≡ true
unfolding enters
enters_store s v = emptied_store (with_state s v)

pub enters_sound : (s : DriveState) (v : Drive) (d : List ℕ) → taken_in_place v d ≡ true → (v.cause ≡ true → is_faulty s ≡ true) →
    drive_sound (enters s v) d ≡ true
unfolding drive_sound enters taken_in_place
enters_sound s v d t h = and_both _ _ (and_both _ _ (emptied_store (with_state s v)) (emptied_taken (with_state s v) d t)) (enters_cause s v h)

-- a fault with its cause present is left by no command
pub next_cause : (v : Drive) (c : Command) → cause_in_place v ≡ true → v.cause ≡ true → is_faulty (next v.cause v.state c) ≡ true
unfolding cause_in_place next
next_cause v c h k =
    rw k (implied (is_faulty v.state) _ (on_ways (λ b s c. not (is_faulty s) || is_faulty (next true s c)) refl true v.state c)
    (implied v.cause _ h k))

-- ---- the set-point rule, behind a drive command

offered_same : (d : List ℕ) (word : ℕ) (v : Drive) → SameDrive v (offered d word v)
unfolding offered with_taken
offered_same d word v =
    whichever (SameDrive v) (not (bit at_once_bit word) && is_queued v.store) same
    (whichever (SameDrive v) (within_limits d (target d word v.store)) (record { state = refl; mode = refl; cause = refl })
    (record { state = refl; mode = refl; cause = refl }))

pub rule_same : (d : List ℕ) (old word : ℕ) (v : Drive) → SameDrive v (set_point_rule d old word v)
unfolding set_point_rule
rule_same d old word v =
    whichever (SameDrive v) (bit new_set_point_bit word)
    (whichever (SameDrive v) (positions v && not (bit new_set_point_bit old)) (offered_same d word v) same)
    (record { state = refl; mode = refl; cause = refl })

-- without the taken mark a store in place is in place
unmarked : (a e t l : Bool) → (a || (e && not t && not l)) ≡ true → (a || (e && true && not l)) ≡ true
unmarked true e t l h = refl
unmarked false true t l h = and_right (not t) (not l) h
unmarked false false t l h = h

rule_store : (d : List ℕ) (old word : ℕ) (v : Drive) → store_in_place v ≡ true → store_in_place (set_point_rule d old word v) ≡ true
unfolding set_point_rule store_in_place
rule_store d old word v h =
    let P : Drive → Type 0 = λ w. store_in_place w ≡ true in
    let k = offered_same d word v in
    whichever P (bit new_set_point_bit word)
    (by_test P (positions v && not (bit new_set_point_bit old))
    (λ e. or_left (positions (offered d word v)) _ (rw (k.state, k.mode) (and_left (positions v) (not (bit new_set_point_bit old)) e))) (λ e. h))
    (unmarked (positions v) (is_empty v.store) v.taken v.limit h)

rule_taken : (d : List ℕ) (old : ℕ) (v : Drive) → taken_in_place (set_point_rule d old (read d control_word) v) d ≡ true
unfolding set_point_rule taken_in_place
rule_taken d old v =
    by_test (λ (w : Drive). taken_in_place w d ≡ true) (bit new_set_point_bit (read d control_word)) (λ e. rw (e, or-true)) (λ e. refl)

-- THE LAW of a control word: whatever stood before, the drive is sound with 6040h as it now stands
pub control_sound : (d : List ℕ) (old : ℕ) (v : Drive) → cause_in_place v ≡ true → drive_sound (control_written d old v).drive d ≡ true
unfolding control_written drive_sound cause_in_place
control_sound d old v h =
    let word = read d control_word in
    let q = next v.cause v.state (command old word) in
    let k = rule_same d old word (enters q v) in
    and_both _ _ (and_both _ _ (rule_store d old word (enters q v) (enters_store q v)) (rule_taken d old (enters q v)))
    (rw (k.cause, k.state) (enters_cause q v (next_cause v (command old word) h)))

pub control_mode : (d : List ℕ) (old : ℕ) (v : Drive) → (control_written d old v).drive.mode ≡ v.mode
unfolding control_written enters
control_mode d old v = (rule_same d old (read d control_word) _).mode ∙ (emptied_same _).mode

-- ---- 6060h

-- THE LAW of a mode: in place, whatever the mode
pub record Moded (d : List ℕ) (v w : Drive) : Type 0 where
  pub mode : w.mode ≡ mode_of (read d mode)
  pub store : store_in_place w ≡ true
  pub cause : cause_in_place v ≡ true → cause_in_place w ≡ true
  pub taken : (d' : List ℕ) → taken_in_place v d' ≡ true → taken_in_place w d' ≡ true

pub mode_moded : (d : List ℕ) (v : Drive) → Moded d v (mode_written d v)
unfolding mode_written cause_in_place taken_in_place
mode_moded d v =
    let w = with_mode (mode_of (read d mode)) v in
    let k = emptied_same w in
    record { mode = k.mode; store = emptied_store w; cause = λ h. rw (k.cause, k.state) h; taken = emptied_taken w }

-- ---- events

-- a store that moves is in place because the drive positions
moving_positions : (a t l : Bool) (s : Store) → (a || (is_empty s && not t && not l)) ≡ true → is_moving s ≡ true → a ≡ true
moving_positions true t l s h m = refl
moving_positions false t l Empty h m = clash false m refl
moving_positions false t l (Rested p) h m = h
moving_positions false t l (Moving p) h m = h
moving_positions false t l (Queued p q) h m = h

pub reached_sound : (v : Drive) (d : List ℕ) → drive_sound v d ≡ true → is_moving v.store ≡ true → drive_sound (moved_on v) d ≡ true
unfolding moved_on drive_sound store_in_place taken_in_place cause_in_place
reached_sound v d h m =
    let k = parts v d h in
    and_both _ _ (and_both _ _ (or_left (positions v) _ (moving_positions (positions v) v.taken v.limit v.store k.store m)) k.taken)
    k.cause
