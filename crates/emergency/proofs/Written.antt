-- An emergency's frame, and values stored and then acted on.
-- Assumes nothing.
use Prim.Native.Nat.{ℕ, ◌+◌}
use mathlib.Core.Path.{◌≡◌, refl, sym, ◌∙◌, ap, subst}
use mathlib.Core.List.{List, [], ◌∷◌, append-nil}
use mathlib.Core.Bool.{Bool, true, false, cond}
use lib.Dec.{lit≤}
use lib.ListN.{length}
use Rattle.state.specs.declared.Node.{Node}
use Rattle.state.specs.declared.State.{State}
use Rattle.rules_dictionary.specs.declared.PdoData.{PdoData}
use Rattle.rules_dictionary.specs.Numbers.{bytes}
use Rattle.rules_dictionary.specs.Plans.{pdo_data}
use Rattle.rules_dictionary.specs.Table.{error_register, control_word, mode}
use Rattle.rules_dictionary.specs.Values.{Write, read, stored}
use Rattle.drive.specs.declared.Drive.{Drive}
use Rattle.drive.specs.declared.Controlled.{Controlled}
use Rattle.drive.specs.SetPoints.{mode_written, control_written}
use Rattle.rules_services.specs.Effects.{Frame, writes, becomes, with_drive}
use Rattle.state.specs.NmtStates.{is_stopped}
use Rattle.rules_services.specs.Emergency.{emergency, emergency_base}
use Rattle.rules_services.specs.Written.{applied, mode_acted, control_acted, count_restarted, fault_reset, wrote}
use Rattle.rules.specs.Outcome.{sent_into}
use Rattle.output.specs.Laying.{IsData, frame_of}
use Rattle.output.proofs.Frames.{is_data, frame_of_data}
use Rattle.output.specs.declared.Done.{Done}
use Rattle.emergency.specs.Emergencies.{emergency_bytes, emergency_of}
use Rattle.form.specs.Holding.{Holds}
use Rattle.output.specs.Leaves.{keeping, Leaves}
use Rattle.emergency.specs.Acts.{mode_acts, control_acts, acts, Resets}

-- ---- emergencies

-- an emergency goes by the node's part alone
pub emergency_by : (code : ℕ) (s : State) (d : List ℕ) → emergency code s d ≡ emergency_of code s.node d
unfolding emergency emergency_of
emergency_by code s d = refl

-- none while Stopped
pub silent : (code : ℕ) (v : Node) (d o : List ℕ) → is_stopped v.nmt ≡ true →
    (0 ≡ length (emergency_of code v d)) × (o ≡ sent_into o (emergency_of code v d))
unfolding emergency_of sent_into
silent code v d o e = rw e (refl, refl)

-- else one
pub spoken : (code : ℕ) (v : Node) (d : List ℕ) (register : ℕ) (content : PdoData) (o o' : List ℕ) → is_stopped v.nmt ≡ false →
    register ≡ read d error_register → content ≡ pdo_data (emergency_bytes code register) →
    o' ≡ sent_into o (frame_of (emergency_base + v.id) content ∷ []) →
    (1 ≡ length (emergency_of code v d)) × (o' ≡ sent_into o (emergency_of code v d))
unfolding emergency_of bytes
spoken code v d register content o o' e is c h =
    let f = frame_of_data (emergency_base + v.id) (emergency_bytes code register) (lit≤ tt) in
    rw (e, ← is) (refl, h ∙ ap (λ (x : Frame). sent_into o (x ∷ [])) (ap (frame_of (emergency_base + v.id)) c ∙ f))

pub emergency_data_lem : (code register : ℕ) (content : PdoData) → content ≡ pdo_data (emergency_bytes code register) → IsData content
unfolding bytes
emergency_data_lem code register content c = subst IsData (sym c) (is_data (emergency_bytes code register) (lit≤ tt))

-- THE LAW for writers: values stored and then acted on are `applied`
pub stored_acted : (ws : List Write) (s : State) (d : List ℕ) →
    applied ws s d ≡ writes ws (acts (read d control_word) (wrote mode ws) (wrote control_word ws) (count_restarted ws s) (stored ws d))
unfolding applied mode_acted control_acted acts control_acts
stored_acted ws s d =
    ap (λ (t : State). writes ws (cond (wrote control_word ws) (control_acts (read d control_word) t (stored ws d)) (becomes t)))
    (mode_acts_lem (wrote mode ws) (count_restarted ws s))
  where
    mode_acts_lem : (w : Bool) (t : State) →
        cond w (with_drive (mode_written (stored ws d) t.axis.drive) t) t ≡ with_drive (mode_acts w t.axis.drive (stored ws d)) t
    mode_acts_lem true t = refl
    mode_acts_lem false t = refl

-- a fault reset on bytes that hold the state
pub reset_left : {s : State} {bs d o : List ℕ} {r : Done} {d' o' : List ℕ} (t : State) → Holds bs (keeping s t) → Resets t.node d o r d' o' →
    Leaves s (fault_reset t d) d o r bs d' o' × (r.quiet ≡ false)
unfolding fault_reset stored
reset_left t held h =
    let e = h.dictionary in
    rw h.done (
      record {
        state = held;
        frames = rw (append-nil, ← e, emergency_by);
        touched = refl;
        remapped = refl;
        occasion = refl;
        dictionary = e;
        output = rw (append-nil, ← e, emergency_by) h.output;
      },
      refl,
    )

-- ---- 6060h and 6040h

module _ (old : ℕ) (s : State) (d : List ℕ) (c : Controlled) (is : c ≡ control_written d old s.axis.drive) where
  pub control_resets : c.reset ≡ true → control_acts old s d ≡ fault_reset (with_drive c.drive s) d
  unfolding control_acts
  control_resets b = rw (← is, b)

  pub control_moves : c.reset ≡ false → control_acts old s d ≡ becomes (with_drive c.drive s)
  unfolding control_acts
  control_moves b = rw (← is, b)

pub mode_acts_lem : (written : Bool) (v w : Drive) (d : List ℕ) → written ≡ true → w ≡ mode_written d v → w ≡ mode_acts written v d
mode_acts_lem written v w d b e = rw b e

module _ (old : ℕ) (mode control : Bool) (s : State) (d : List ℕ) where
  pub acts_on : (v : Drive) → v ≡ mode_acts mode s.axis.drive d → control ≡ true → acts old mode control s d ≡ control_acts old (with_drive v s) d
  unfolding acts
  acts_on v is b = rw (b, is)

  pub acts_mode : (v : Drive) → v ≡ mode_written d s.axis.drive → control ≡ false → mode ≡ true → acts old mode control s d ≡ becomes
      (with_drive v s)
  unfolding acts
  acts_mode v is b m = rw (b, m, is)

  pub acts_not : control ≡ false → mode ≡ false → acts old mode control s d ≡ becomes s
  unfolding acts
  acts_not b m = rw (b, m)
