-- What the end of a call needs of its effect, by the services' cases: rows of the table, a mapping written outside Operational alone, and
-- in Operational the paces of the call's start.
-- Assumes nothing.
use Prim.Native.Nat.{ℕ}
use mathlib.Core.Path.{◌≡◌, refl, ◌∙◌}
use mathlib.Core.Logic.{◌⊎◌, inl, inr}
use mathlib.Core.Bool.{Bool, true, false, cond, false≢true}
use mathlib.Core.List.{List, [], ◌∷◌, ◌++◌, append-nil}
use Rattle.rules_dictionary.specs.Numbers.{filter}
use Rattle.rules_dictionary.specs.Members.{In, here, there}
use Rattle.rules_dictionary.specs.Table.{Row, table, control_word, mode, heartbeat_time, error_register, is_reset}
use Rattle.rules_dictionary.specs.Values.{Write, write, read, stored}
use Rattle.rules_dictionary.proofs.Tests.{none_in}
use Rattle.drive.specs.SetPoints.{mode_written, control_written}
use Rattle.state.specs.declared.Transfer.{Transfer}
use Rattle.state.specs.declared.State.{State}
use Rattle.state.specs.NmtStates.{is_operational}
use Rattle.rules_services.specs.Effects.{Effect, and_then, with_drive, with_heartbeat, with_held, with_transfer}
use Rattle.rules_services.specs.Written.{wrote, count_restarted, mode_acted, fault_reset, control_acted, applied}
use Rattle.rules_services.specs.Nmt.{left, voltage_disabled, fresh_state, power_up, commanded}
use Rattle.rules_services.specs.Events.{faulted}
use Rattle.theorems.proofs.Dictionary.{is_pdo}
use Rattle.theorems.proofs.Booleans.{clash, whichever}
use Rattle.theorems.proofs.Lawful.{Lawful}
use Rattle.theorems.proofs.Settled.{register_in}
use Rattle.theorems.proofs.Services.{Serves, OneByOne, follow_lawful}
use Rattle.rules_dictionary.proofs.Members.{in_append, filtered}
use Rattle.theorems.proofs.Writes.{InTable, NoPdo, MayApply, defaults_within, one_row}
use Rattle.theorems.proofs.NmtKept.{position_row, velocity_row, code_row}
use Rattle.output.specs.Leaves.{remaps}
use Rattle.rpdo.proofs.Applied.{no_mapping}

pub record Regular (s : State) (e : Effect) : Type 0 where
  pub rows : InTable e.writes
  pub paces : is_operational e.state.node.nmt ≡ true → e.state.axis.paces ≡ s.axis.paces
  pub idle : remaps e.writes ≡ true → is_operational e.state.node.nmt ≡ false

-- ---- nothing written

unwritten : (s : State) (e : Effect) → e.writes ≡ [] → (is_operational e.state.node.nmt ≡ true → e.state.axis.paces ≡ s.axis.paces) →
    Regular s e
unwritten s e none paces =
    record { rows = λ w i. absurd (none_in (rw none at i)); paces = paces; idle = λ h. absurd (false≢true (rw none at h)) }

-- outside Operational there is nothing to show but the rows
outside : (s : State) (e : Effect) → InTable e.writes → is_operational e.state.node.nmt ≡ false → Regular s e
outside s e rows off = record { rows = rows; paces = λ on. clash (is_operational e.state.node.nmt) on off; idle = λ h. off }

-- ---- values stored and acted on

-- what a service that writes values leaves: the NMT state and the paces; its rows; and of a PDO's it writes none in Operational
record Applies (s : State) (e : Effect) : Type 0 where
  nmt : e.state.node.nmt ≡ s.node.nmt
  paces : e.state.axis.paces ≡ s.axis.paces
  rows : InTable e.writes
  quiet : (is_operational s.node.nmt ≡ false) ⊎ NoPdo e.writes

applies_regular : {s : State} {e : Effect} → Applies s e → Regular s e
applies_regular {s} {e} a =
    record {
      rows = a.rows;
      paces = λ on. a.paces;
      idle = λ h. elim a.quiet [ inl off ↦ rw a.nmt off | inr none ↦ clash (remaps e.writes) h (no_mapping e.writes none) ];
    }

-- the state that the control word finds
moded_keeps : (a b : Bool) (s : State) (ws : List Write) (d : List ℕ) →
    let r = cond a (with_heartbeat 0 s) s in
    let t = cond b (with_drive (mode_written (stored ws d) r.axis.drive) r) r in
    (t.node.nmt ≡ s.node.nmt) × (t.axis.paces ≡ s.axis.paces)
moded_keeps true true s ws d = (refl, refl)
moded_keeps true false s ws d = (refl, refl)
moded_keeps false true s ws d = (refl, refl)
moded_keeps false false s ws d = (refl, refl)

-- what is written beside the values is 1001h
beside : (ws : List Write) (P : Write → Type 0) → ((w : Write) → In w ws → P w) → P (write error_register 0) → (vs : List Write) →
    (vs ≡ []) ⊎ (vs ≡ write error_register 0 ∷ []) → (w : Write) → In w (ws ++ vs) → P w
beside ws P h r vs which w i =
    elim (in_append ws i) [
      | inl j ↦ h w j
      | inr j ↦ elim which [ inl e ↦ absurd (none_in (rw e at j)) | inr e ↦ one_row P r w (rw e at j) ]
    ]

-- what acting on 6040h leaves
Acts : State → Effect → Type 0
Acts t e =
    ((e.state.node.nmt ≡ t.node.nmt) × (e.state.axis.paces ≡ t.axis.paces)) × ((e.writes ≡ []) ⊎ (e.writes ≡ write error_register 0 ∷ []))

control_acts_lem : (old : ℕ) (ws : List Write) (t : State) (d : List ℕ) → Acts t (control_acted old ws t d)
unfolding Acts control_acted fault_reset
control_acts_lem old ws t d =
    let c = control_written d old t.axis.drive in
    whichever (Acts t) (wrote control_word ws) (whichever (Acts t) c.reset ((refl, refl), inr refl) ((refl, refl), inl refl))
    ((refl, refl), inl refl)

-- whatever transfer then runs
applied_applies : (t : Transfer) (ws : List Write) (s : State) (d : List ℕ) → MayApply s d ws → Applies s (applied ws (with_transfer t s) d)
unfolding applied mode_acted count_restarted Acts
applied_applies t ws s d may =
    let u = with_transfer t s in
    let k = moded_keeps (wrote heartbeat_time ws) (wrote mode ws) u ws d in
    let v = control_acts_lem (read d control_word) ws (mode_acted ws (count_restarted ws u) (stored ws d)) (stored ws d) in
    record {
      nmt = v.0.0 ∙ k.0;
      paces = v.0.1 ∙ k.1;
      rows = beside ws (λ w. In w.row table) (λ w i. (may.fit w i).0) register_in _ v.1;
      quiet = elim may.quiet [ inl off ↦ inl off | inr none ↦ inr (beside ws (λ w. is_pdo w.row.role ≡ false) none refl _ v.1) ];
    }

-- held frames released, one after another
one_by_one_apply : {K : Type 0} {s : State} {d : List ℕ} {e : Effect} → OneByOne K s d e → K → Lawful s d → Applies s e
unfolding and_then
one_by_one_apply OneByOne.none k law = record { nmt = refl; paces = refl; rows = λ w i. absurd (none_in i); quiet = inr (λ w i. absurd (none_in i)) }
one_by_one_apply (OneByOne.skips rest) k law =
    let b = one_by_one_apply rest k law in
    record { nmt = b.nmt; paces = b.paces; rows = b.rows; quiet = b.quiet }
one_by_one_apply {s = s} {d = d} (OneByOne.next h ws {e} may rest) k law =
    let m = may k law in
    let a = applied_applies s.transfer ws (with_held h s) d m.may in
    let b = one_by_one_apply rest k (follow_lawful m) in
    let first = (applied ws (with_held h s) d).writes in
    let off : is_operational s.node.nmt ≡ false → (is_operational s.node.nmt ≡ false) ⊎ NoPdo (first ++ e.writes) = λ n. inl n in
    record {
      nmt = b.nmt ∙ a.nmt;
      paces = b.paces ∙ a.paces;
      rows = λ w i. elim (in_append first i) [ inl j ↦ a.rows w j | inr j ↦ b.rows w j ];
      quiet = elim a.quiet [
        | inl n ↦ off n
        | inr none ↦ elim b.quiet [
          | inl n ↦ off (rw a.nmt at n)
          | inr none' ↦ inr (λ w i. elim (in_append first i) [ inl j ↦ none w j | inr j ↦ none' w j ])
        ]
      ];
    }

two_rows : {x y : Row} {u v : ℕ} → In x table → In y table → InTable (write x u ∷ write y v ∷ [])
two_rows i j w here = i
two_rows i j w (there here) = j
two_rows {y = y} {u = u} {v = v} i j w (there (there x)) = elim x [ ]

-- power-up, whatever the state was
pub power_up_regular : (n : ℕ) (s : State) → Regular s (power_up n)
unfolding power_up fresh_state
power_up_regular n s = outside s _ (λ w i. defaults_within n table w (rw append-nil at i)) refl

-- ---- THE LAW

pub regular : {K : Type 0} {s : State} {d : List ℕ} {e : Effect} → Serves K s d e → K → Lawful s d → Regular s e
unfolding commanded power_up fresh_state voltage_disabled left faulted
regular {s = s} Serves.nothing k law = unwritten s _ refl (λ on. refl)
regular {s = s} (Serves.replies t said) k law = unwritten s _ refl (λ on. refl)
regular {s = s} (Serves.alarms l code) k law = unwritten s _ refl (λ on. refl)
regular {s = s} {d = d} (Serves.applies t ws before may) k law =
    let r = applies_regular (applied_applies t ws s d (may k law)) in
    record { rows = r.rows; paces = r.paces; idle = r.idle }
regular {s = s} (Serves.holds bs l i on synchronous long legal) k law = unwritten s _ refl (λ on. refl)
regular (Serves.releases r) k law =
    let r = applies_regular (one_by_one_apply r k law) in
    record { rows = r.rows; paces = r.paces; idle = r.idle }
regular (Serves.loads r) k law = applies_regular (one_by_one_apply r k law)
regular {s = s} (Serves.starts h idle) k law = unwritten s _ refl (λ on. refl)
regular {s = s} Serves.leaves k law = unwritten s _ refl (λ on. absurd (false≢true on))
regular {s = s} Serves.stops k law = unwritten s _ refl (λ on. absurd (false≢true on))
regular {s = s} Serves.resets k law =
    outside s _ (λ w i. (filtered is_reset table (defaults_within s.node.id (filter is_reset table) w (rw append-nil at i))).0) refl
regular {s = s} Serves.begins k law = power_up_regular s.node.id s
regular {s = s} (Serves.moves q h) k law = unwritten s _ refl (λ on. refl)
regular {s = s} (Serves.reaches h) k law = unwritten s _ refl (λ on. refl)
regular {s = s} Serves.recovers k law = unwritten s _ refl (λ on. refl)
regular {s = s} (Serves.faults code register fits) k law =
    record { rows = two_rows code_row.inside register_in; paces = λ on. refl; idle = λ h. absurd (false≢true h) }
regular {s = s} (Serves.feeds at speed fits) k law =
    record { rows = two_rows position_row.inside velocity_row.inside; paces = λ on. refl; idle = λ h. absurd (false≢true h) }
regular {s = s} (Serves.powers v) k law = unwritten s _ refl (λ on. refl)
regular {s = s} Serves.rests k law = unwritten s _ refl (λ on. refl)
regular {s = s} (Serves.counts e) k law = unwritten s _ refl (λ on. refl)
regular {s = s} Serves.beats k law = unwritten s _ refl (λ on. refl)
