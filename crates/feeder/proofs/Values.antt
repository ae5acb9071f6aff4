-- One frame's values, written while an answer of the feeder is on its way: what they leave of 6040h, 607Ah and the drive, and what they take.
-- Assumes nothing.
use lib.IntN.{ℤ, pos, negsuc}
use lib.Signed.{mag}
use mir.Syntax.{w32}
use mir.Val.{of_z, SFits}
use Rattle.theorems.proofs.Words.{ℕ, ◌<◌, ◌^◌, arith, ◌≡◌, refl, sym, ◌∙◌, ap, ◌⊎◌, inl, inr, Bool, true, false, cond, not, ◌&&◌, ◌||◌, List, [], ◌∷◌}
use Rattle.theorems.proofs.Words.{◌++◌, eqb, length, eqb-true, In, Drive, ProfilePosition, length_stored, stored_bytes, and_left, and_right, all_in}
use Rattle.theorems.proofs.Words.{either, clash, implied, by_test, or-false, or-true, and-false, append-nil}
use Rattle.theorems.proofs.Limits.{Positions, mode_same, enable_same}
use Rattle.theorems.proofs.Writes.{InTable}
use Rattle.theorems.proofs.Settled.{control_in, mode_in}
use Rattle.rules_dictionary.specs.Table.{same, dictionary_length, control_word, mode, target_position, open_table}
use Rattle.rules_dictionary.specs.Numbers.{all, are_bytes, bit}
use Rattle.rules_dictionary.specs.Values.{Write, read, stored}
use Rattle.rules_dictionary.specs.Legal.{mode_number}
use Rattle.drive.specs.declared.Command.TheVariants.{Enable}
use Rattle.drive.specs.declared.DriveState.TheVariants.{OperationEnabled}
use Rattle.drive.specs.DriveStates.{command}
use Rattle.drive.specs.SetPoints.{new_set_point_bit, is_queued, last_target, target, within_limits, set_point, with_taken, offered}
use Rattle.drive.specs.SetPoints.{set_point_rule, mode_written}
use Rattle.drive.specs.SetPoints.{control_written, with_marks}
use Rattle.rules_services.specs.Written.{wrote}
use Rattle.theorems.specs.Promises.{points}
use Rattle.theorems.specs.PromisesOfDrive.{acted}
use Rattle.feeder.specs.declared.Answer.{Answer}
use Rattle.feeder.specs.Feeder.{feed_word, wait_word}
use Rattle.feeder.specs.Feeding.{rises, newest, taking, taken_of, lengths_of, points_of, is_answers, keeps_mode_one}
use Rattle.feeder.proofs.Objects.{stored_read, control_alone, aim_alone, mode_alone, aim_in}
use Rattle.feeder.proofs.Targets.{far_is, stands_last, stands_behind, stands_as_last, SameLast, last_of}

-- ---- while an answer is on its way

-- the answer of an accepted step
pub record Spoken (u : Answer) : Type 0 where
  pub word : (u.word ≡ feed_word) ⊎ (u.word ≡ wait_word)
  pub target : SFits w32 u.target

-- the answer asks for a set-point
abbrev pub asks : Answer → Bool
asks u = bit new_set_point_bit u.word

-- the length that is still to be taken
abbrev pub owed : Answer → Bool → List ℤ
owed u done = cond done [] (cond (asks u) (u.target ∷ []) [])

-- the drive and the dictionary while it is written: `came` says that 607Ah was, `done` that 6040h was
pub record Stage (u : Answer) (done came : Bool) (v : Drive) (d : List ℕ) : Type 0 where
  pub long : length d ≡ dictionary_length
  pub bytes : are_bytes d ≡ true
  pub enabled : v.state ≡ OperationEnabled
  pub mode : v.mode ≡ ProfilePosition
  pub aimed : came ≡ true → read d target_position ≡ of_z w32 u.target
  pub word : done ≡ true → read d control_word ≡ u.word
  pub free : done ≡ false → asks u ≡ true → bit new_set_point_bit (read d control_word) ≡ false
  pub room : done ≡ false → asks u ≡ true → is_queued v.store ≡ false
  pub marked : bit new_set_point_bit (read d control_word) ≡ true → v.taken ≡ true

-- one frame's values as the premises have them
pub record Fair (u : Answer) (came : Bool) (ws : List Write) (v : Drive) (d : List ℕ) : Type 0 where
  pub rows : InTable ws
  pub answers : all (is_answers u) ws ≡ true
  pub mode_one : all keeps_mode_one ws ≡ true
  pub first : (not (wrote control_word ws) || (came || wrote target_position ws)) ≡ true
  pub inside : (not (rises ws d) || within_limits (stored ws d) (target (stored ws d) (read (stored ws d) control_word) v.store)) ≡ true

-- ---- THE STEP of one frame's values

module _ (u : Answer) (said : Spoken u) {came : Bool} (ws : List Write) (v : Drive) (d : List ℕ) (fair : Fair u came ws v d) where
  abbrev new : List ℕ
  new = stored ws d

  abbrev old : ℕ
  old = read d control_word

  -- what the answer's write of an object is
  of_word : (w : Write) → In w ws → same control_word w.row ≡ true → w.value ≡ u.word
  of_word w i e =
      eqb-true _ _ (implied (same control_word w.row) _ (and_left (not (same control_word w.row) || eqb w.value u.word) _
      (all_in (is_answers u) i fair.answers)) e)

  of_target : (w : Write) → In w ws → same target_position w.row ≡ true → w.value ≡ of_z w32 u.target
  of_target w i e =
      eqb-true _ _ (implied (same target_position w.row) _ (and_right (not (same control_word w.row) || eqb w.value u.word) _
      (all_in (is_answers u) i fair.answers)) e)

  of_mode : (w : Write) → In w ws → same mode w.row ≡ true → w.value ≡ mode_number ProfilePosition
  of_mode w i e = eqb-true _ _ (implied (same mode w.row) _ (all_in keeps_mode_one i fair.mode_one) e)

  word_fits : u.word < 256 ^ 2
  word_fits = elim said.word [ inl e ↦ rw e (omega arith) | inr e ↦ rw e (omega arith) ]

  target_fits : of_z w32 u.target < 256 ^ 4
  target_fits = word_of u.target said.target.sfits
    where
      word_of : (z : ℤ) → mag z < 0x80000000 → of_z w32 z < 256 ^ 4
      word_of (pos n) h = omega arith
      word_of (negsuc n) h = omega arith

  module _ {done : Bool} (at : Stage u done came v d) where
    new_word : read new control_word ≡ cond (wrote control_word ws) u.word old
    unfolding open_table
    new_word = stored_read control_word control_in control_alone u.word word_fits ws d at.long fair.rows of_word

    word_written : wrote control_word ws ≡ true → read new control_word ≡ u.word
    word_written e = new_word ∙ rw e

    word_kept : wrote control_word ws ≡ false → read new control_word ≡ old
    word_kept e = new_word ∙ rw e

    new_target : read new target_position ≡ cond (wrote target_position ws) (of_z w32 u.target) (read d target_position)
    unfolding open_table
    new_target = stored_read target_position aim_in aim_alone (of_z w32 u.target) target_fits ws d at.long fair.rows of_target

    new_mode : wrote mode ws ≡ true → read new mode ≡ mode_number ProfilePosition
    unfolding open_table
    new_mode e =
        stored_read mode mode_in mode_alone (mode_number ProfilePosition) (omega arith) ws d at.long fair.rows of_mode ∙ rw e

    new_long : length new ≡ dictionary_length
    new_long = length_stored ws d ∙ at.long

    new-bytes : are_bytes new ≡ true
    new-bytes = stored_bytes ws d at.bytes

    aim_stays : (came || wrote target_position ws) ≡ true → read new target_position ≡ of_z w32 u.target
    aim_stays h =
        elim (either (wrote target_position ws)) [
          | inl e ↦ new_target ∙ rw e
          | inr e ↦ new_target ∙ rw e (at.aimed (simp (e, or-false) at h))
        ]

    -- it is enabled in mode 1, so 6060h written 1 again and Enable leave it as it is
    on : Positions v
    on = record { state = at.enabled; mode = at.mode }

    moded_same : cond (wrote mode ws) (mode_written new v) v ≡ v
    moded_same = by_test (λ (w : Drive). w ≡ v) (wrote mode ws) (λ e. mode_same new v on (new_mode e)) (λ e. refl)

    enables : command old u.word ≡ Enable
    unfolding command
    enables = elim said.word [ inl e ↦ rw e | inr e ↦ rw e ]

    -- so that the rule for set-points alone is left
    ruled : wrote control_word ws ≡ true → acted ws v d ≡ set_point_rule new old u.word v
    unfolding acted control_written
    ruled e = rw (moded_same, e, word_written e, enables, enable_same new v on)

    unruled : wrote control_word ws ≡ false → acted ws v d ≡ v
    unfolding acted
    unruled e = rw (moded_same, e)

    -- what they leave, and what they take
    pub record Steps (w : Bool) : Type 0 where
      pub stage : Stage u (done || w) (came || wrote target_position ws) (acted ws v d) new
      pub lengths : lengths_of (taken_of ws v d) ++ owed u (done || w) ≡ owed u done
      pub held : points (acted ws v d).store ≡ points v.store ++ points_of (taken_of ws v d)
      pub last : SameLast (acted ws v d).store (last_of v.store (taken_of ws v d))

    -- where 6040h is not among them nothing is taken
    quiet : rises ws d ≡ false → taken_of ws v d ≡ []
    unfolding taken_of
    quiet e = rw e

    last_same : (acted ws v d).store ≡ v.store → taken_of ws v d ≡ [] → SameLast (acted ws v d).store (last_of v.store (taken_of ws v d))
    last_same e none p = ap (last_target p) e ∙ rw none

    holds_same : (acted ws v d).store ≡ v.store → taken_of ws v d ≡ [] → points (acted ws v d).store ≡ points v.store ++ points_of (taken_of ws v d)
    holds_same e none = ap points e ∙ rw (none, append-nil)

    no_rise : (b : Bool) → (not b && b) ≡ false
    no_rise true = refl
    no_rise false = refl

    without : wrote control_word ws ≡ false → Steps false
    without e =
        let same = unruled e in
        let word = word_kept e in
        let none = quiet (ap (λ (n : ℕ). not (bit new_set_point_bit old) && bit new_set_point_bit n) word ∙ no_rise (bit new_set_point_bit old)) in
        record {
          stage = record {
            long = new_long;
            bytes = new-bytes;
            enabled = rw same at.enabled;
            mode = rw same at.mode;
            aimed = aim_stays;
            word = λ h. word ∙ at.word (simp or-false at h);
            free = λ h k. rw word (at.free (simp or-false at h) k);
            room = λ h k. rw same (at.room (simp or-false at h) k);
            marked = λ h. rw same (at.marked (rw word at h));
          };
          lengths = rw (none, or-false);
          held = holds_same (ap (λ (w : Drive). w.store) same) none;
          last = last_same (ap (λ (w : Drive). w.store) same) none;
        }

    -- 6040h is among them, and is the answer's
    module _ (e : wrote control_word ws ≡ true) where
      came_first : (came || wrote target_position ws) ≡ true
      came_first = implied (wrote control_word ws) _ fair.first e

      abbrev goal : ℤ
      goal = target new u.word v.store

      -- the stage behind it, where what it makes of the drive is known
      behind_word : (w : Drive) → acted ws v d ≡ w → w.state ≡ v.state → w.mode ≡ v.mode → (asks u ≡ true → w.taken ≡ true) →
          Stage u (done || true) (came || wrote target_position ws) (acted ws v d) new
      behind_word w same state mode taken =
          record {
            long = new_long;
            bytes = new-bytes;
            enabled = rw same (state ∙ at.enabled);
            mode = rw same (mode ∙ at.mode);
            aimed = aim_stays;
            word = λ h. word_written e;
            free = λ h. clash (done || true) (simp or-true) h;
            room = λ h. clash (done || true) (simp or-true) h;
            marked = λ h. rw same (taken (rw (word_written e) at h));
          }

      -- with bit 4 zero nothing is taken, and the mark is cleared
      waits : asks u ≡ false → Steps true
      unfolding set_point_rule
      waits h =
          let same : acted ws v d ≡ with_marks false v.limit v = ruled e ∙ rw h in
          let nothing = quiet (rw (word_written e, h, and-false)) in
          record {
            stage = behind_word (with_marks false v.limit v) same refl refl (λ k. clash (asks u) k h);
            lengths = rw (nothing, h, or-true) (none done);
            held = holds_same (ap (λ (w : Drive). w.store) same) nothing;
            last = last_same (ap (λ (w : Drive). w.store) same) nothing;
          }
        where
          none : (b : Bool) → ◌≡◌ {A = List ℤ} [] (cond b [] [])
          none true = refl
          none false = refl

      -- written again, bit 4 does not rise
      again : asks u ≡ true → done ≡ true → Steps true
      unfolding set_point_rule
      again h k =
          let was : bit new_set_point_bit old ≡ true = ap (bit new_set_point_bit) (at.word k) ∙ h in
          let same : acted ws v d ≡ v = ruled e ∙ rw (h, was, and-false) in
          let nothing = quiet (rw was) in
          record {
            stage = behind_word v same refl refl (λ q. at.marked was);
            lengths = rw (nothing, k);
            held = holds_same (ap (λ (w : Drive). w.store) same) nothing;
            last = last_same (ap (λ (w : Drive). w.store) same) nothing;
          }

      -- .. and for the first time it takes the set-point that is asked for
      takes_it : asks u ≡ true → done ≡ false → Steps true
      unfolding set_point_rule offered with_taken taken_of
      takes_it h k =
          let was = at.free k h in
          let room = at.room k h in
          let rose : rises ws d ≡ true = rw (was, word_written e, h) in
          let word : u.word ≡ feed_word = elim said.word [ inl q ↦ q | inr q ↦ clash (asks u) h (rw q) ] in
          let inside : within_limits new goal ≡ true =
          ap (λ (n : ℕ). within_limits new (target new n v.store)) (sym (word_written e)) ∙ implied (rises ws d) _ fair.inside rose in
          let p = set_point new goal in
          let drive : acted ws v d ≡ with_taken u.word p v = ruled e ∙ rw (h, at.enabled, at.mode, was, word, room) (rw (← word, inside)) in
          let last : newest (with_taken u.word p v).store ≡ p ∷ [] =
          rw word (stands_last v.store (set_point new (target new feed_word v.store)) room) in
          let one : taken_of ws v d ≡ taking v.store new p ∷ [] = rw (rose, drive, last) in
          record {
            stage = behind_word (with_taken u.word p v) drive refl refl (λ q. refl);
            lengths = rw (k, h, one) (ap (λ (z : ℤ). z ∷ [])
                (far_is new new_long new-bytes v.store u.word u.target (rw word) said.target (aim_stays came_first) inside));
            held = rw one (ap (λ (w : Drive). points w.store) drive ∙ rw word (stands_behind v.store _ room));
            last = rw one (λ q. ap (λ (w : Drive). last_target q w.store) drive ∙ rw word (stands_as_last v.store _ room q));
          }

      within_word : Steps true
      within_word =
          elim (either (asks u)) [ inl h ↦ elim (either done) [ inl k ↦ again h k | inr k ↦ takes_it h k ] | inr h ↦ waits h ]

    pub values_step : Steps (wrote control_word ws)
    values_step = either_way (wrote control_word ws) refl
      where
        either_way : (b : Bool) → wrote control_word ws ≡ b → Steps b
        either_way true e = within_word e
        either_way false e = without e
