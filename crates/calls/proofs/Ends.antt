-- The three ways through a call's end.
-- Assumes nothing.
use Prim.Native.Nat.{ℕ, ◌+◌}
use native.Mathlib.Omega.{arith}
use mathlib.Core.Path.{◌≡◌, sym, ◌∙◌, ap}
use mathlib.Core.Bool.{Bool, true, false}
use mathlib.Core.List.{List}
use Rattle.rules_dictionary.specs.declared.PdoData.{PdoData}
use Rattle.rules_dictionary.specs.Numbers.{are_bytes}
use Rattle.rules_dictionary.specs.Table.{each_way}
use Rattle.rules_dictionary.specs.Plans.{plans_of, ready_of}
use Rattle.rules_dictionary.proofs.Members.{pdo_in}
use Rattle.state.specs.declared.State.{State}
use Rattle.state.specs.NmtStates.{is_operational}
use Rattle.rules_services.specs.Effects.{with_paces}
use Rattle.rules_services.specs.PdoTraffic.{works, no_data}
use Rattle.rules.specs.Outcome.{transmissions}
use Rattle.theorems.proofs.Dictionary.{works_alike, type_alike}
use Rattle.form.specs.Form.{state_of}
use Rattle.form.specs.Holding.{Holds, with_ready}
use Rattle.mapping.specs.Afresh.{GivesPlans}
use Rattle.output.proofs.Frames.{emitted_none}
use Rattle.output.specs.declared.Done.{Done}
use Rattle.tpdo.specs.declared.Sent.{Sent}
use Rattle.tpdo.specs.Sending.{turn, MaySend, SentBy}
use Rattle.calls.specs.Ending.{settled_by, written_by, turns_of, end_with, Still, MayEnd, MayReady, Stepped, Renews}
use Rattle.calls.proofs.StatusMade.{AlikeInPdos, plans_alike, plannable_alike, made_long, made_alike, unwritten}
use Rattle.calls.proofs.Plannable.{data_at_lem}

-- ---- nothing left to do

pub rests : {was : Bool} {t : State} {r : Done} {bs d o : List ℕ} → Holds bs t → Still was t r d → Stepped was t r d o r.frames bs d o
rests {r = r} {o = o} held h =
    record {
      frames = rw h (omega arith);
      state = rw h held;
      dictionary = rw h;
      output = rw h (sym (emitted_none r.frames o));
    }

-- ---- a mapping was written

pub renewed : {was : Bool} {t : State} {r : Done} {d' bs'' d'' : List ℕ} (o : List ℕ) → is_operational t.node.nmt ≡ false → Renews t d' bs'' d'' →
    Stepped was t r d' o r.frames bs'' d'' o
unfolding end_with turn works transmissions
renewed {r = r} o off h =
    let made = h.dictionary in
    record {
      frames = rw (← made, off) (omega arith);
      state = rw (← made, off) h.state;
      dictionary = made;
      output = rw (← made, off) (sym (emitted_none r.frames o));
    }

-- ---- 6041h and 6061h made

module _ {was : Bool} {t : State} {r : Done} {d' d'' : List ℕ} (made : d'' ≡ settled_by t.node t.axis.drive d') where
  -- the transmit PDOs were sent
  pub ended : (plans : t.axis.plans ≡ plans_of d'') (x : Sent) (bs'' o o' : List ℕ) →
      SentBy (turns_of was t r.occasion d'') (ready_of d'') d'' r.frames o x o' →
      Holds bs'' (with_paces x.paces (with_ready (ready_of d'') t)) → Stepped was t r d' o x.frames bs'' d'' o'
  unfolding end_with
  ended plans x bs'' o o' sent held =
      record {
        frames = rw (← made) sent.frames;
        state = rw (← made, ← sent.paces, ← plans) held;
        dictionary = made;
        output = rw (← made) sent.output;
      }

-- ---- what each way needs

pub still_plannable : (t : State) (d d'' : List ℕ) → d'' ≡ settled_by t.node t.axis.drive d → GivesPlans d → GivesPlans d''
still_plannable t d d'' made g = rw made (plannable_alike d _ (made_alike t d) (made_long t d) g)

module _ {bs : List ℕ} {r : Done} {d o : List ℕ} (h : MayEnd bs r d o) (q : r.remapped ≡ false) (d'' : List ℕ)
    (made : d'' ≡ settled_by (state_of bs).node (state_of bs).axis.drive d) where
  alike : AlikeInPdos d d''
  alike y i k = rw made (made_alike (state_of bs) d y i k)

  pub may_ready : (written : Bool) → written ≡ written_by r.touched (state_of bs).node (state_of bs).axis.drive d → are_bytes d ≡ true →
      MayReady written (state_of bs) d''
  may_ready written w b =
      let u = unwritten r.touched (state_of bs).node (state_of bs).axis.drive d b h.plannable.0 in
      record {
        plannable = still_plannable (state_of bs) d d'' made h.plannable;
        plans = h.plans q ∙ sym (plans_alike d d'' alike);
        ready = λ n. h.ready q (u (sym w ∙ n)).0 ∙ ap ready_of ((u (sym w ∙ n)).1 ∙ sym made);
      }

  pub may_send : (ready : List PdoData) → ready ≡ ready_of d'' → MaySend (state_of bs).node.nmt (state_of bs).axis.paces ready d''
  may_send ready fresh =
      let g = still_plannable (state_of bs) d d'' made h.plannable in
      record {
        long = g.0;
        shape = λ k i. rw fresh (data_at_lem d'' g k i no_data);
        counts = λ k i w c.
            let p = pdo_in (each_way + k) (omega arith) in
            let type = type_alike d d'' alike p in
            rw type (h.counts k i (sym (works_alike d d'' alike (state_of bs).node.nmt p) ∙ w) (rw type at c));
      }
