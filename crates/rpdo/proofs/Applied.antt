-- The values of a receive PDO's frame, by its kept plan: stored and acted on as the rules do, and what that leaves alone.
-- Assumes nothing.
use Prim.Native.Nat.{ℕ, ◌≤◌}
use native.Mathlib.Omega.{arith}
use mathlib.Core.Path.{◌≡◌, refl, ◌∙◌}
use mathlib.Core.Bool.{Bool, true, false, cond}
use mathlib.Core.List.{List, [], ◌∷◌, append-nil}
use lib.ListN.{length}
use Rattle.state.specs.declared.Node.{Node}
use Rattle.state.specs.declared.State.{State}
use Rattle.state.specs.NmtStates.{is_stopped}
use Rattle.drive.specs.SetPoints.{control_written}
use Rattle.rules_dictionary.specs.declared.Plan.{Plan}
use Rattle.rules_dictionary.specs.declared.Role.{Role}
use Rattle.rules_dictionary.specs.declared.Role.TheVariants.{Plain, ModeOfOperation, MinimumLimit, MaximumLimit, PdoIdentifier, PdoType}
use Rattle.rules_dictionary.specs.declared.Role.TheVariants.{MappingCount, MappingEntry}
use Rattle.rules_dictionary.specs.Table.{Row, place_of, control_word, mode}
use Rattle.rules_dictionary.specs.Values.{Write, read, stored, unpacked}
use Rattle.rules_dictionary.specs.Plans.{mapped}
use Rattle.rules_dictionary.specs.Members.{In}
use Rattle.rules_services.specs.Effects.{Effect, Frame, writes}
use Rattle.rules_services.specs.Emergency.{fault_gone}
use Rattle.rules_services.specs.Written.{applied, wrote, count_restarted, fault_reset}
use Rattle.rules.specs.Outcome.{sent_into}
use Rattle.theorems.proofs.Booleans.{any_false_of, whichever}
use Rattle.rules_dictionary.proofs.Plans.{mapped_in}
use Rattle.theorems.proofs.Dictionary.{is_pdo}
use Rattle.theorems.proofs.Mapped.{QuietRow}
use Rattle.theorems.proofs.PdoKept.{unpacked_rows}
use Rattle.theorems.proofs.Writes.{NoPdo}
use Rattle.theorems.proofs.Settled.{register_in}
use Rattle.theorems.proofs.Services.{applied_all}
use Rattle.mapping.specs.Received.{moves_of, has_place, stored_moves, Receives}
use Rattle.mapping.proofs.Unpacked.{stored_is, control_is, mode_is, heartbeat_is, quiet_is, no_pdo_row}
use Rattle.output.specs.Laying.{emitted}
use Rattle.output.specs.declared.Done.{Done}
use Rattle.output.specs.Leaves.{is_mapping, remaps, keeping, Leaves, Rests}
use Rattle.output.proofs.Left.{as_effect, loud}
use Rattle.emergency.specs.Emergencies.{emergency_of}
use Rattle.emergency.specs.Acts.{acts, control_acts}
use Rattle.emergency.proofs.Written.{emergency_by, stored_acted}
use Rattle.rpdo.proofs.Leaving.{Behind, left_behind}

-- rows of no PDO are no mapping's
pub no_mapping : (ws : List Write) → NoPdo ws → remaps ws ≡ false
no_mapping ws quiet = any_false_of (λ w. is_mapping w.row.role) ws (λ w i. kind w.row.role (quiet w i))
  where
    kind : (r : Role) → is_pdo r ≡ false → is_mapping r ≡ false
    kind Plain h = refl
    kind ModeOfOperation h = refl
    kind MinimumLimit h = refl
    kind MaximumLimit h = refl
    kind (PdoIdentifier p) h = refl
    kind (PdoType p) h = refl
    kind (MappingCount p) h = h
    kind (MappingEntry p) h = h

-- ---- by a plan

module _ {plan : Plan} {xs : List Row} (r : Receives plan xs) (bs : List ℕ) where
  abbrev ws : List Write
  ws = unpacked xs bs

  quiet : NoPdo ws
  quiet w i = no_pdo_row (r.received w.row (unpacked_rows xs bs i))

  -- 1017h is not among them
  acted_on_lem : (s : State) (d : List ℕ) →
      applied ws s d ≡ writes ws (acts (read d control_word) (wrote mode ws) (wrote control_word ws) s (stored ws d))
  unfolding count_restarted
  acted_on_lem s d = stored_acted ws s d ∙ rw (heartbeat_is r bs)

  pub applied_by : {s : State} {bs' d o d₁ d' o' : List ℕ} {f : Done} (old : ℕ) (m c : Bool) →
      old ≡ read d control_word → d₁ ≡ stored_moves (moves_of plan) bs d →
      m ≡ has_place (place_of mode) (moves_of plan) → c ≡ has_place (place_of control_word) (moves_of plan) →
      Leaves s (acts old m c s d₁) d₁ o f bs' d' o' × (f.quiet ≡ false) →
      Leaves s (applied ws s d) d o f bs' d' o' × Rests false s (applied ws s d) f
  unfolding emitted sent_into
  applied_by {s} {d = d} {d₁ = d₁} {f = f} old m c e k a b h =
      let at = k ∙ stored_is r bs d in
      let g = h.0 in
      let first : Behind ws [] (acts old m c s d₁).occasion f f = record {
        frames = omega arith;
        touched = rw (quiet_is r bs);
        remapped = rw (no_mapping ws quiet);
        occasion = g.occasion;
      } in (
        as_effect (acted_on_lem s d ∙ rw (← at, ← mode_is r bs, ← control_is r bs, ← a, ← b, ← e)) (left_behind ws [] first at g.output g),
        loud s _ f h.1,
      )

-- ---- what values that are applied leave alone

-- an emergency is one frame at the most
pub one_frame : (code : ℕ) (v : Node) (d : List ℕ) → length (emergency_of code v d) ≤ 1
unfolding emergency_of
one_frame code v d = go (is_stopped v.nmt) _
  where
    go : (b : Bool) (f : Frame) → length (cond b [] (f ∷ [])) ≤ 1
    go true f = omega arith
    go false f = omega arith

-- plans, ready frames and paces, the node-ID, and the rows of the PDOs; and n frames are sent at the most
pub record Keeps (n : ℕ) (s : State) (e : Effect) : Type 0 where
  pub own : keeping s e.state ≡ e.state
  pub id : e.state.node.id ≡ s.node.id
  pub few : length e.sent ≤ n
  pub quiet : (w : Write) → In w e.writes → QuietRow w.row

pub keeps_applied : {plan : Plan} (p : ℕ) (bs : List ℕ) (s : State) (d : List ℕ) → Receives plan (mapped d p) →
    Keeps 1 s (applied (unpacked (mapped d p) bs) s d)
unfolding acts control_acts fault_reset
keeps_applied p bs s d r =
    let ws = unpacked (mapped d p) bs in
    let P : Effect → Type 0 = λ e. (keeping s e.state ≡ e.state) × (e.state.node.id ≡ s.node.id) × (length e.sent ≤ 1) in
    let acted : P (applied ws s d) = rw (acted_on_lem r bs s d)
    (whichever P (wrote control_word ws) (whichever P (control_written (stored ws d) (read d control_word) _).reset
    (refl, refl, rw (append-nil, emergency_by) (one_frame fault_gone _ _)) (refl, refl, omega arith)) (refl, refl, omega arith)) in
    record {
      own = acted.0;
      id = acted.1;
      few = acted.2;
      quiet = applied_all (λ w. QuietRow w.row) ws s d (λ w i. (mapped_in d p (unpacked_rows (mapped d p) bs i), quiet r bs w i))
          (λ e. (register_in, refl));
    }
