-- What one frame's values, stored and acted on, write and leave: of the fault, of the frames held and of the drive; and frames applied one after
-- another.
-- Assumes nothing.
use mathlib.Core.Bool.{and-true, and-false, and_comm}
use Rattle.theorems.proofs.Words.{ℕ, ◌≡◌, refl, sym, ◌∙◌, ap, ap₂, Bool, true, false, cond, not, ◌&&◌, Bool·beq, and-not_self, List, [], ◌∷◌}
use Rattle.theorems.proofs.Words.{◌++◌, append-nil, DriveState, Command, Drive, State, In, here, there, on_ways, by_test, both_by_test}
use Rattle.theorems.proofs.Words.{whichever, same_test, none_in}
use Rattle.theorems.proofs.Writes.{InTable, not_wrote}
use Rattle.theorems.proofs.{Settled.control_in, DriveKept.emptied_same, DriveKept.rule_same, Sent.control_state, Sent.found_by}
use Rattle.rules_dictionary.specs.Table.{error_register, control_word, mode, heartbeat_time}
use Rattle.rules_dictionary.specs.Values.{Write, write, read, stored}
use Rattle.drive.specs.DriveStates.{is_fault, is_fault_reset, asked as command_for, command, next, resets}
use Rattle.drive.specs.SetPoints.{mode_written, control_written, enters}
use Rattle.rules_services.specs.Effects.{Effect, and_then}
use Rattle.rules_services.specs.Written.{wrote, count_restarted, mode_acted, fault_reset, control_acted, applied}
use Rattle.theorems.specs.Promises.{is_clearable, asks_reset, written}
use Rattle.theorems.specs.PromisesOfDrive.{acted, acted_all}

-- ---- a fault reset

-- the command is a fault reset where bit 7 rose
reset_asked : (set was voltage quick on enable : Bool) → is_fault_reset (command_for set was voltage quick on enable) ≡ (set && not was)
reset_asked true true v q o e = refl
reset_asked true false v q o e = refl
reset_asked false was v q o e =
    let P : Command → Type 0 = λ c. is_fault_reset c ≡ false in
    whichever P (not v) refl (whichever P (not q) refl (whichever P (not o) refl (whichever P (not e) refl refl)))

-- `is_clearable` of a drive in that state, with its cause present or gone
abbrev clearable_in : DriveState → Bool → Bool
clearable_in q cause = is_fault q && not cause

-- a fault without cause stays one until it is reset, and no command makes one
clearable_next : (cause : Bool) (q : DriveState) (c : Command) →
    clearable_in (next cause q c) cause ≡ (clearable_in q cause && not (resets cause q c))
unfolding next resets
clearable_next cause q c =
    same_test _ _ (on_ways (λ b q c. Bool·beq (clearable_in (next b q c) b) (clearable_in q b && not (resets b q c))) refl cause q c)

control_cause : (d : List ℕ) (old : ℕ) (v : Drive) → (control_written d old v).drive.cause ≡ v.cause
unfolding control_written enters
control_cause d old v = (rule_same d old (read d control_word) _).cause ∙ (emptied_same _).cause

-- ---- values stored and acted on

-- acting on 6040h from s, where `reset` says that it resets the fault
record Acts (s : State) (reset : Bool) (e : Effect) : Type 0 where
  writes : e.writes ≡ cond reset (write error_register 0 ∷ []) []
  clearable : is_clearable e.state.axis.drive ≡ (is_clearable s.axis.drive && not reset)
  held : e.state.axis.held ≡ s.axis.held

and_last : (a b c : Bool) → (a && b && c) ≡ (a && c && b)
and_last true b c = and_comm b c
and_last false b c = refl

module _ (ws : List Write) (s : State) (d : List ℕ) (rows : InTable ws) where
  abbrev resetting : Bool
  resetting = is_clearable s.axis.drive && asks_reset d (stored ws d)

  abbrev moded : State
  moded = mode_acted ws (count_restarted ws s) (stored ws d)

  abbrev asking : Command
  asking = command (read d control_word) (read (stored ws d) control_word)

  reset_is : resets moded.axis.drive.cause moded.axis.drive.state asking ≡ resetting
  unfolding resets command
  reset_is =
      let f = found_by ws s (stored ws d) in
      rw (f.1, f.2, reset_asked) (and_last (is_fault s.axis.drive.state) (asks_reset d (stored ws d)) (not s.axis.drive.cause))

  clearable_after : is_clearable (control_written (stored ws d) (read d control_word) moded.axis.drive).drive
      ≡ (is_clearable s.axis.drive && not resetting)
  clearable_after =
      let f = found_by ws s (stored ws d) in
      let v = moded.axis.drive in
      ap₂ clearable_in (control_state (stored ws d) (read d control_word) v) (control_cause (stored ws d) (read d control_word) v)
      ∙ clearable_next v.cause v.state asking
      ∙ ap₂ (λ (b r : Bool). b && not r) (ap₂ clearable_in f.1 f.2) reset_is

  control_acts_lem : Acts s resetting (control_acted (read d control_word) ws moded (stored ws d))
  unfolding control_acted fault_reset control_written
  control_acts_lem =
      let f = found_by ws s (stored ws d) in
      by_test (Acts s resetting) (wrote control_word ws)
      (λ w. by_test (Acts s resetting) (resets moded.axis.drive.cause moded.axis.drive.state asking)
      (λ e. record { writes = rw (sym reset_is ∙ e); clearable = clearable_after; held = f.3 })
      (λ e. record { writes = rw (sym reset_is ∙ e); clearable = clearable_after; held = f.3 }))
      (λ w.
      let none : resetting ≡ false = rw (not_wrote control_word ws d control_in rows w, and-not_self, and-false) in
      record { writes = rw none; clearable = rw (none, and-true) (ap₂ clearable_in f.1 f.2); held = f.3 })

  -- all that is written, and what is left of the fault and of the frames held
  applied_writes : (applied ws s d).writes ≡ ws ++ cond resetting (write error_register 0 ∷ []) []
  unfolding applied
  applied_writes = ap (λ (vs : List Write). ws ++ vs) control_acts_lem.writes

  applied_clearable : is_clearable (applied ws s d).state.axis.drive ≡ (is_clearable s.axis.drive && not resetting)
  unfolding applied
  applied_clearable = control_acts_lem.clearable

  pub applied_held : (applied ws s d).state.axis.held ≡ s.axis.held
  unfolding applied
  applied_held = control_acts_lem.held

-- the drive is set by the mode and the control word alone
applied_drive : (ws : List Write) (s : State) (d : List ℕ) → (applied ws s d).state.axis.drive ≡ acted ws s.axis.drive d
unfolding applied control_acted fault_reset mode_acted count_restarted acted
applied_drive ws s d =
    let d1 = stored ws d in
    let P : State → Drive → Type 0 = λ t v. t.axis.drive ≡ v in
    let c = control_written d1 (read d control_word) in
    let moded = cond (wrote mode ws) (mode_written d1 s.axis.drive) s.axis.drive in
    let beat : P (count_restarted ws s) s.axis.drive = whichever (λ t. P t s.axis.drive) (wrote heartbeat_time ws) refl refl in
    let t = mode_acted ws (count_restarted ws s) d1 in
    let found_mode : P t moded = both_by_test P (wrote mode ws) (λ w. ap (mode_written d1) beat) (λ w. beat) in
    let then_word = ap (λ (v : Drive). (c v).drive) found_mode in
    both_by_test (λ (e : Effect). P e.state) (wrote control_word ws)
    (λ w. whichever (λ (e : Effect). P e.state (c moded).drive) (c t.axis.drive).reset then_word then_word) (λ w. found_mode)

-- ---- frames applied, one after another

-- each of rows of the table
abbrev pub FrameRows : List (List Write) → Type 0
FrameRows fs = (ws : List Write) → In ws fs → InTable ws

pub no_rows : FrameRows []
no_rows ws i = absurd (none_in i)

pub first_rows : {ws : List Write} {fs : List (List Write)} → InTable ws → FrameRows fs → FrameRows (ws ∷ fs)
first_rows rows rest vs here = rows
first_rows rows rest vs (there i) = rest vs i

-- from a drive and a dictionary those frames, of rows of the table, write that, and leave that drive where there is no fault to clear
pub record Yields (v : Drive) (d : List ℕ) (fs : List (List Write)) (vs : List Write) (w : Drive) : Type 0 where
  pub writes : vs ≡ written (is_clearable v) d fs
  pub drive : is_clearable v ≡ false → w ≡ acted_all fs v d
  pub rows : FrameRows fs

-- the effect does what those frames do
abbrev pub Brings : State → List ℕ → Effect → List (List Write) → Type 0
Brings s d e fs = Yields s.axis.drive d fs e.writes e.state.axis.drive

pub brings_none : {v : Drive} {d : List ℕ} → Yields v d [] [] v
unfolding written acted_all
brings_none = record { writes = refl; drive = λ h. refl; rows = no_rows }

module _ (ws : List Write) (s : State) (d : List ℕ) (rows : InTable ws) where
  -- one frame: its values, and 1001h where it resets the fault
  pub applied_brings : Brings s d (applied ws s d) (ws ∷ [])
  unfolding written acted_all
  applied_brings =
      record {
        writes = rw append-nil (applied_writes ws s d rows);
        drive = λ h. applied_drive ws s d;
        rows = first_rows rows no_rows;
      }

  -- .. and others from what it leaves
  pub applied_then : (fs : List (List Write)) (f : State → List ℕ → Effect) →
      let a = applied ws s d in
      let d1 = stored a.writes d in
      Brings a.state d1 (f a.state d1) fs → Brings s d (and_then d a f) (ws ∷ fs)
  unfolding written acted_all and_then
  applied_then fs f rest =
      let a = applied ws s d in
      let own = applied_writes ws s d rows in
      let clearable = applied_clearable ws s d rows in
      record {
        writes = ap₂ ◌++◌ own (rest.writes ∙ ap₂ (λ (b : Bool) (vs : List Write). written b (stored vs d) fs) clearable own);
        drive = λ h.
            let same : a.writes ≡ ws = own ∙ rw (h, append-nil) in
            rest.drive (clearable ∙ rw h) ∙ ap₂ (acted_all fs) (applied_drive ws s d) (ap (λ vs. stored vs d) same);
        rows = first_rows rows rest.rows;
      }
