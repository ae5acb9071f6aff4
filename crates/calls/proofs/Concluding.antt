-- From what a service leaves to the answer of its call.
-- Assumes nothing.
use Prim.Native.Nat.{ℕ, ◌+◌, ◌*◌, ◌<◌, ◌≤◌}
use native.Mathlib.Omega.{arith}
use mathlib.Core.Path.{◌≡◌, refl, sym, ◌∙◌, subst}
use mathlib.Core.Bool.{Bool, true, false}
use mathlib.Core.List.{List, ◌++◌}
use borrow.Author.Tests.{eqb-true}
use lib.Dec.{eqb}
use lib.ListN.{length, get_or, length-append}
use Rattle.rules_dictionary.specs.Numbers.{are_bytes}
use Rattle.rules_dictionary.specs.Table.{each_way}
use Rattle.rules_dictionary.specs.Values.{stored}
use Rattle.rules_dictionary.specs.Plans.{plans_of, ready_of}
use Rattle.rules_dictionary.specs.Members.{In}
use Rattle.rules_dictionary.proofs.Tests.{and_left, get_or_in, below}
use Rattle.state.specs.declared.State.{State}
use Rattle.state.specs.NmtStates.{is_operational}
use Rattle.rules_services.specs.Effects.{Effect, Frame}
use Rattle.rules_services.specs.PdoTraffic.{works}
use Rattle.rules.specs.Outcome.{End, ended, settled, status_of, pace_for, enters_operational, changes, transmissions, transmitters}
use Rattle.rules.specs.Outcome.{frame_size, sent_into}
use Rattle.rules.specs.Calls.{accepted}
use Rattle.theorems.proofs.Lawful.{Lawful, clauses, sound_lawful}
use Rattle.theorems.proofs.Runs.{lawful}
use Rattle.theorems.proofs.Sent.{SpeaksAs, speaks}
use Rattle.theorems.proofs.Services.{Serves}
use Rattle.soundness.proofs.Fresh.{plans_are, ready_are}
use Rattle.mapping.specs.Afresh.{GivesPlans}
use Rattle.form.specs.Form.{state_of}
use Rattle.form.specs.Holding.{Holds}
use Rattle.form.proofs.Holding.{held_state, held_length}
use Rattle.output.specs.declared.Done.{Done}
use Rattle.output.specs.Laying.{emitted}
use Rattle.output.specs.Leaves.{keeping, Leaves, Calm, Rests}
use Rattle.output.proofs.Frames.{emitted_then, emitted_all, length_emitted}
use Rattle.tpdo.specs.Sending.{most_before, turn}
use Rattle.calls.specs.Answers.{accepted_given, Answers}
use Rattle.calls.specs.Ending.{Stands, settled_by, end_with, end_of, CountsBelow, Still, counted_in, MayRest, MayFinish, Stepped}
use Rattle.calls.proofs.Plannable.{plannable}
use Rattle.calls.proofs.Calm.{end_still}
use Rattle.calls.proofs.Regular.{Regular, regular}
use Rattle.calls.proofs.Stays.{plans_stay, ready_stays}

-- ---- the end of an effect, from the state that its service leaves

abbrev joined : List Frame → End → End
joined fs f = record { state = f.state; dictionary = f.dictionary; sent = fs ++ f.sent }

module _ (s : State) (d : List ℕ) (e : Effect) where
  abbrev ended_by : End
  ended_by =
      let d1 = stored e.writes d in
      joined e.sent (end_of (is_operational s.node.nmt) (counted_in e.occasion d1 (keeping s e.state)) e.occasion d1)

  -- outside Operational no pace counts
  pub ended_idle : is_operational e.state.node.nmt ≡ false → ended s d e ≡ ended_by
  unfolding ended settled status_of pace_for enters_operational changes works transmissions settled_by end_with turn
  ended_idle off = rw off

  ended_on : e.state.axis.paces ≡ s.axis.paces → ended s d e ≡ ended_by
  unfolding ended settled status_of pace_for enters_operational changes transmissions settled_by end_with turn
  ended_on paces = rw paces

  ended_by_lem : (is_operational e.state.node.nmt ≡ true → e.state.axis.paces ≡ s.axis.paces) → ended s d e ≡ ended_by
  ended_by_lem paces = go (is_operational e.state.node.nmt) refl
    where
      go : (b : Bool) → is_operational e.state.node.nmt ≡ b → ended s d e ≡ ended_by
      go true on = ended_on (paces on)
      go false off = ended_idle off

-- ---- the answer

-- a service's frames, and those of the end behind them
whole_output : (o : List ℕ) (fs gs : List Frame) → emitted (length fs) gs (sent_into o fs) ≡ sent_into o (fs ++ gs)
whole_output o fs gs =
    let z : 0 + length fs ≡ length fs = omega arith in
    rw (z, emitted_all fs o, emitted_all (fs ++ gs) o) at (emitted_then 0 fs gs o (omega arith))

-- whatever an end that is the effect's then leaves is the accepted answer of the effect
pub answers : (s : State) (d o : List ℕ) (e : Effect) (t : State) (r : Done) (was : Bool) (d' : List ℕ) {o' : List ℕ} →
    ended s d e ≡ joined e.sent (end_of was t r.occasion d') → r.frames ≡ length e.sent → o' ≡ sent_into o e.sent →
    {n : ℕ} {bs'' d'' o'' : List ℕ} → Stepped was t r d' o' n bs'' d'' o'' → Answers (accepted (ended s d e) o) (accepted_given n) bs'' d'' o''
unfolding accepted
answers s d o e t r was d' is few put h =
    let f = end_of was t r.occasion d' in
    rw is (record {
      refusal = refl;
      frames = h.frames ∙ rw (few, length-append);
      state = h.state;
      dictionary = h.dictionary;
      output = h.output ∙ rw (few, put) (whole_output o e.sent f.sent);
    })

-- ---- of a frame or an event: what its service leaves, the end may finish

transmitter : (t : ℕ) → t < each_way → In t transmitters
transmitter t h =
    subst (λ (q : ℕ). In q transmitters) (eqb-true _ _ (below (λ i. eqb (get_or transmitters i 0) i) each_way t refl h))
    (get_or_in transmitters t 0 h)

few_spoken : (n : ℕ) (e : Effect) → SpeaksAs n e → length e.sent ≤ most_before
few_spoken n e w =
    let k = w.1.spoken in
    subst (λ (l : List Frame). length l ≤ most_before) (sym k.whole) (rw (length-append, length-append) k.few)

module _ {s : State} {d o : List ℕ} {e : Effect} {r : Done} {bs' d' o' : List ℕ} (h : Stands s d o) (b : are_bytes d ≡ true)
    (serves : Serves Unit s d e) (left : Leaves s e d o r bs' d' o') {quiet : Bool} (rest : Rests quiet s e r) where
  law : Lawful s d
  law = sound_lawful s d h.long h.sound

  reg : Regular s e
  reg = regular serves tt law

  after : Lawful e.state d'
  after = rw left.dictionary (lawful serves tt b law)

  few : length e.sent ≤ most_before
  few = few_spoken s.node.id e (speaks tt b h.long serves)

  gives : GivesPlans d'
  gives = plannable after.long after.dictionary

  fresh : s.axis.ready ≡ ready_of d
  fresh = ready_are s d (clauses s d h.sound).ready

  -- the state that the bytes hold
  is : state_of bs' ≡ keeping s e.state
  is = held_state left.state

  plans_at : r.remapped ≡ false → s.axis.plans ≡ plans_of d'
  plans_at q =
      plans_are s d (clauses s d h.sound).plans ∙ sym (plans_stay e.writes d reg.rows (sym left.remapped ∙ q)) ∙ rw left.dictionary

  ready_at : r.remapped ≡ false → r.touched ≡ false → s.axis.ready ≡ ready_of d'
  ready_at q t =
      fresh ∙ sym (ready_stays e.writes d reg.rows (sym left.remapped ∙ q) (sym left.touched ∙ t) law.dictionary)
      ∙ rw left.dictionary

  counts_at : CountsBelow (keeping s e.state) d'
  unfolding works
  counts_at k i w c =
      let on : is_operational e.state.node.nmt ≡ true = and_left (is_operational e.state.node.nmt) _ (and_left _ _ w) in
      rw (reg.paces on) at (after.waits.counts k (transmitter k i) w c)

  rests_at : r.quiet ≡ true → MayRest (is_operational s.node.nmt) (keeping s e.state) r d'
  unfolding stored
  rests_at q =
      let c = rest.calm (sym rest.told ∙ q) in
      let none : d' ≡ d = left.dictionary ∙ rw c.writes in
      record {
        still = rw none (still c);
        placed = rw (none, c.drive) (clauses s d h.sound).stay;
      }
    where
      still : Calm s e → Still (is_operational s.node.nmt) (keeping s e.state) r d
      still c =
          end_still s (keeping s e.state) r.occasion d h.long b h.sound c.nmt c.voltage c.drive
          (plans_are s d (clauses s d h.sound).plans) fresh refl (rw left.occasion c.occasion)

  -- what its service leaves, the end may finish
  pub may_finish : MayFinish (is_operational s.node.nmt) bs' r d' o'
  may_finish =
      let roomy : frame_size * (0 + length e.sent) ≤ length o = omega (arith, few, h.room) in
      record {
        end = record {
          own = subst (Holds bs') (sym is) left.state;
          whole = held_length left.state;
          plannable = gives;
          room = rw (left.output, ← emitted_all, length_emitted 0 e.sent o roomy) h.room;
          few = rw left.frames few;
          counts = rw is counts_at;
          plans = λ q. rw is (plans_at q);
          ready = λ q t. rw is (ready_at q t);
        };
        idle = λ q. rw is (reg.idle (sym left.remapped ∙ q));
        rests = λ q. rw is (rests_at q);
      }

  -- THE LAW
  pub concludes : {n : ℕ} {bs'' d'' o'' : List ℕ} →
      Stepped (is_operational s.node.nmt) (counted_in r.occasion d' (state_of bs')) r d' o' n bs'' d'' o'' →
      Answers (accepted (ended s d e) o) (accepted_given n) bs'' d'' o''
  concludes =
      answers s d o e (counted_in r.occasion d' (state_of bs')) r (is_operational s.node.nmt) d'
      (rw (is, left.occasion, left.dictionary) (ended_by_lem s d e reg.paces)) left.frames left.output
