-- The transmit PDOs gone through, one after another: what is left to do from here is what was to do at the start, less what is done.
-- Assumes nothing.
use Prim.Native.Nat.{ℕ, zero, suc, ◌+◌, ◌*◌, ◌<◌, ◌≤◌}
use native.Mathlib.Omega.{arith}
use mathlib.Core.Path.{◌≡◌, refl, sym, ◌∙◌, ap}
use mathlib.Core.Bool.{Bool, true, false, true≢false, not, ◌||◌}
use mathlib.Core.List.{List, [], ◌∷◌, ◌++◌}
use lib.ListN.{length, get_or, set, drop, length-append}
use Rattle.rules_dictionary.specs.declared.PdoData.{PdoData}
use Rattle.state.specs.declared.NmtState.{NmtState}
use Rattle.state.specs.declared.NmtState.TheVariants.{PreOperational, Operational, Stopped}
use Rattle.state.specs.declared.Occasion.{Occasion}
use Rattle.state.specs.declared.Pace.{Pace}
use Rattle.state.specs.NmtStates.{is_operational}
use Rattle.rules_dictionary.specs.Table.{each_way}
use Rattle.rules_dictionary.specs.Legal.{is_cyclic}
use Rattle.rules_services.specs.Effects.{Frame}
use Rattle.rules_services.specs.declared.Paced.{Paced}
use Rattle.rules_services.specs.PdoTraffic.{paced, works, type_of, no_data, idle, all_idle}
use Rattle.rules.specs.Outcome.{frame_size, transmissions, transmitters}
use Rattle.rules.specs.Calls.{output_length}
use Rattle.form.specs.Form.{state_of, ready_in}
use Rattle.output.specs.Laying.{IsData, emitted}
use Rattle.output.proofs.Frames.{emitted_none, emitted_then, length_emitted}
use Rattle.mapping.proofs.Filling.{filled, none_filled, one_filled}
use Rattle.mapping.specs.Working.{is_open}
use Rattle.tpdo.specs.Sending.{most_before, open_pace, sent_one, turn, MaySend, SentBy}

-- an element of a list, whatever stands for one past its end
pub any-default : {A : Type 0} (xs : List A) (i : ℕ) (x y : A) → i < length xs → get_or xs i x ≡ get_or xs i y
any-default [] i x y h = absurd (omega arith)
any-default (a ∷ xs) zero x y h = refl
any-default (a ∷ xs) (suc i) x y h = any-default xs i x y (omega arith)

next-left : (t : ℕ) → t < each_way → drop t transmitters ≡ t ∷ drop (t + 1) transmitters
next-left zero h = refl
next-left (suc zero) h = refl
next-left (suc (suc zero)) h = refl
next-left (suc (suc (suc zero))) h = refl
next-left (suc (suc (suc (suc t)))) h = absurd (omega arith)

pub one_at_most : (send : Bool) (d : List ℕ) (t : ℕ) (content : PdoData) → length (sent_one send d t content) ≤ 1
unfolding sent_one
one_at_most true d t content = omega arith
one_at_most false d t content = omega arith

-- the one NMT state in which they are sent
pub operational : (m : NmtState) → is_operational m ≡ true → m ≡ Operational
operational PreOperational h = absurd (true≢false (sym h))
operational Operational h = refl
operational Stopped h = absurd (true≢false (sym h))

-- a ready frame of the state's, whatever stands for one past their end
pub ready_default : (bs : List ℕ) {t : ℕ} → t < each_way → ready_in bs t ≡ get_or (state_of bs).axis.ready t no_data
unfolding state_of
ready_default bs {t} h = any-default (state_of bs).axis.ready t (record { length = 0; bytes = [] }) no_data (omega arith)

pub ready_data : (bs : List ℕ) {nmt : NmtState} {paces : List Pace} {d : List ℕ} → MaySend nmt paces (state_of bs).axis.ready d →
    {t : ℕ} → t < each_way → IsData (ready_in bs t)
ready_data bs may {t} h = rw (ready_default bs h) (may.shape t h)

module _ (was : Bool) (occasion : Occasion) (nmt : NmtState) (changed : List Bool) (paces : List Pace) (d : List ℕ) (ready : List PdoData) where
  -- the turns, and the frames from transmit PDO t on
  abbrev turns : ℕ → Paced
  turns = turn was occasion nmt changed paces d

  abbrev left_from : ℕ → List Frame
  left_from t = transmissions d ready turns (drop t transmitters)

  -- those before t are gone through
  pub record Reached (n : ℕ) (o o' : List ℕ) (ks : List Pace) (frames t : ℕ) : Type 0 where
    pub far : t ≤ each_way
    pub few : frames ≤ n + t
    pub long : length o' ≡ length o
    pub left : frames + length (left_from t) ≡ n + length (left_from 0)
    pub output : emitted frames (left_from t) o' ≡ emitted n (left_from 0) o
    pub keeps : ks ≡ filled (λ i. (turns i).kept) t all_idle

  pub none_yet : (n : ℕ) (o : List ℕ) → Reached n o o all_idle n 0
  none_yet n o =
      record {
        far = omega arith;
        few = omega arith;
        long = refl;
        left = refl;
        output = refl;
        keeps = none_filled (λ i. (turns i).kept) all_idle;
      }

  -- one more
  pub one_more : {n : ℕ} {o o' : List ℕ} {ks : List Pace} {frames t : ℕ} → Reached n o o' ks frames t →
      t < each_way → n ≤ most_before → output_length ≤ length o →
      (p : Paced) → p ≡ turns t → (content : PdoData) → content ≡ get_or ready t no_data → (k : ℕ) → k ≡ length (sent_one p.send d t content) →
      (o'' : List ℕ) → o'' ≡ emitted frames (sent_one p.send d t content) o' → Reached n o o'' (set ks t p.kept) (frames + k) (t + 1)
  unfolding transmissions sent_one
  one_more {n} {o} {o'} {ks} {frames} {t} r h small room p is content c k e o'' put =
      let fs = sent_one p.send d t content in
      let more : left_from t ≡ fs ++ left_from (t + 1) = ap (transmissions d ready turns) (next-left t h) ∙ rw (is, c) in
      let lengths : length (left_from t) ≡ length fs + length (left_from (t + 1)) = ap length more ∙ length-append fs (left_from (t + 1)) in
      let one = one_at_most p.send d t content in
      let fits : frame_size * (frames + length fs) ≤ length o' = omega (arith, r.few, r.long) in
      record {
        far = omega arith;
        few = omega (arith, r.few);
        long = ap length put ∙ length_emitted frames fs o' fits ∙ r.long;
        left = omega (arith, r.left);
        output = rw (put, e, emitted_then frames fs (left_from (t + 1)) o' (omega (arith, fits)), ← more) r.output;
        keeps = one_filled (λ i. (turns i).kept) t all_idle ks p.kept r.keeps (ap (λ (q : Paced). q.kept) is);
      }

  -- nothing is left to do
  pub record Over (n : ℕ) (o o' : List ℕ) (ks : List Pace) (frames : ℕ) : Type 0 where
    pub few : frames ≤ n + each_way
    pub long : length o' ≡ length o
    pub sent : SentBy turns ready d n o (record { paces = ks; frames = frames }) o'

  -- all of them gone through
  pub all_done : {n : ℕ} {o o' : List ℕ} {ks : List Pace} {frames t : ℕ} → Reached n o o' ks frames t → each_way ≤ t → Over n o o' ks frames
  unfolding filled transmissions
  all_done {n} {o} {o'} {ks} {frames} {t} r e =
      let four : t ≡ each_way = omega (arith, r.far) in
      let all : frames + length (left_from each_way) ≡ n + length (left_from 0) = rw four at r.left in
      record {
        few = omega (arith, r.few, r.far);
        long = r.long;
        sent = record { paces = rw (r.keeps, four); frames = omega arith; output = sym (emitted_none frames o') ∙ rw four at r.output };
      }

  -- in Operational, the turn by what the code looks at
  pub in_operational : is_operational nmt ≡ true → {t : ℕ} → t < each_way → length changed ≡ each_way → length paces ≡ each_way →
      (x : Bool) (y : Pace) (new : Bool) → new ≡ (not was || get_or changed t x) → open_pace d t occasion new (get_or paces t y) ≡ turns t
  unfolding turn works open_pace
  in_operational on {t} h l k x y new e = rw (on, e, any-default changed t x false (omega arith), any-default paces t y idle (omega arith))

  -- a working one's count, in Operational
  pub count_below : is_operational nmt ≡ true → MaySend nmt paces ready d → (t : ℕ) → t < each_way →
      is_open d (each_way + t) ≡ true → is_cyclic (type_of d (each_way + t)) ≡ true → (get_or paces t idle).count < type_of d (each_way + t)
  unfolding works
  count_below on may t h works' cyclic = may.counts t h (rw on works') cyclic

  -- outside Operational nothing works
  resting : is_operational nmt ≡ false → (t : ℕ) → turns t ≡ paced false 0 false
  unfolding turn works
  resting off t = rw off

  pub at_rest : (n : ℕ) (o : List ℕ) → is_operational nmt ≡ false → Over n o o all_idle n
  unfolding transmissions
  at_rest n o off =
      record {
        few = omega arith;
        long = refl;
        sent = record {
          paces = rw (resting off 0, resting off 1, resting off 2, resting off 3);
          frames = rw (resting off 0, resting off 1, resting off 2, resting off 3) (omega arith);
          output = rw (resting off 0, resting off 1, resting off 2, resting off 3) (sym (emitted_none n o));
        };
      }
