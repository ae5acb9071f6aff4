-- A received frame: its length, its values, and whether it is held.
-- Assumes nothing.
use Prim.Native.Nat.{ℕ, zero, suc, ◌+◌, ◌-◌, ◌*◌, ◌<◌, ◌≤◌}
use native.Mathlib.Numerals.{unary_clauses}
use native.Mathlib.Omega.{arith}
use mathlib.Core.Path.{◌≡◌, refl, ◌∙◌, ap, ap₂}
use mathlib.Core.Bool.{Bool, true, false, cond, not, ◌&&◌}
use lib.Dec.{ltb}
use mathlib.Core.List.{List, [], ◌∷◌, ◌++◌, append-nil}
use borrow.Author.Tests.{lt-ltb, le-ltb, lt-leb, le-leb}
use lib.ListN.{length, take, drop, set, replicate, drop_of_length-le}
use lib.Seq.{take-take, length-take-le, drop-drop}
use borrow.Rule.Slice.PartMut.{put_mid}
use Rattle.state.specs.declared.State.{State}
use Rattle.rules_dictionary.specs.declared.Plan.{Plan}
use Rattle.rules_dictionary.specs.declared.PdoData.{PdoData}
use Rattle.rules_dictionary.specs.Numbers.{are_bytes, padded}
use Rattle.rules_dictionary.specs.Legal.{last_synchronous, is_synchronous}
use Rattle.rules_dictionary.specs.Values.{stored, unpacked}
use Rattle.rules_dictionary.specs.Plans.{mapped, pdo_data}
use Rattle.rules_services.specs.Effects.{Effect, Frame, becomes, sends, with_held}
use Rattle.rules_services.specs.Emergency.{emergency, pdo_too_short, pdo_too_long, value_refused}
use Rattle.rules_services.specs.Written.{applied}
use Rattle.rules_services.specs.PdoTraffic.{type_of, mapped_length, are_legal, held_or_applied, received}
use Rattle.rules.specs.Outcome.{frame_size, most_data, sent_into}
use Rattle.theorems.proofs.Booleans.{whichever}
use Rattle.theorems.proofs.PdoKept.{unpacked_same}
use Rattle.form.specs.Form.{plan_in}
use Rattle.mapping.specs.Received.{PlanFits, moves_of, sizes, moves_legal, Receives}
use Rattle.mapping.proofs.Unpacked.{legal_is, length_is, in_place}
use Rattle.output.specs.Laying.{IsData, data_of, emitted}
use Rattle.output.specs.Leaves.{Leaves, Rests}
use Rattle.output.specs.declared.Done.{Done}
use Rattle.output.proofs.Frames.{length_data, is_data, frame_of_data, lent_back}
use Rattle.output.proofs.Left.{lent}
use Rattle.emergency.specs.Emergencies.{emergency_of}
use Rattle.emergency.proofs.Written.{emergency_by}
use Rattle.rpdo.specs.Kept.{Serves}
use Rattle.rpdo.specs.Traffic.{says, judged, judged_rests, received_rests}
use Rattle.rpdo.proofs.Leaving.{renamed, left_behind}
use Rattle.rpdo.proofs.Applied.{one_frame, keeps_applied}

-- ---- the leading bytes, and zeros behind them

no_more : (k : ℕ) → replicate {A = ℕ} k 0 ≡ padded 0 k []
no_more zero = refl
no_more (suc k) = ap (λ (l : List ℕ). 0 ∷ l) (no_more k)

zeros_behind : (n k : ℕ) (bs : List ℕ) → length bs ≡ k → n ≤ k → take n bs ++ replicate {A = ℕ} (k - n) 0 ≡ padded 0 k (take n bs)
zeros_behind zero k bs l h = simp unary_clauses (no_more k)
zeros_behind (suc n) zero bs l h = absurd (omega arith)
zeros_behind (suc n) (suc k) [] l h = absurd (omega arith)
zeros_behind (suc n) (suc k) (b ∷ bs) l h =
    simp unary_clauses (ap (λ (x : List ℕ). b ∷ x) (zeros_behind n k bs (omega arith) (omega arith)))

-- zeros laid over what stands from the nth byte on
pub laid_zeros : (n k : ℕ) (bs part : List ℕ) → length bs ≡ k → n ≤ k → part ≡ replicate {A = ℕ} (k - n) 0 →
    put_mid n (k - n) bs part ≡ padded 0 k (take n bs)
laid_zeros n k bs part l h e =
    let none : drop (k - n) (drop n bs) ≡ [] = drop-drop (k - n) n bs ∙ drop_of_length-le bs (omega arith) in
    rw (none, e, append-nil) (zeros_behind n k bs l h)

-- ---- another part of the output lent

pub lends : {m p : ℕ} {state d o : List ℕ} → Serves m p state d o → {n : ℕ} {part : List ℕ} → n ≤ length part → Serves n p state d part
lends k room =
    let l = k.lent in
    record { lent = lent l.own l.long room l.id; number = k.number; receives = k.receives }

-- ---- its plan where it stands

pub fits_in : {n p : ℕ} {state d o : List ℕ} → Serves n p state d o → PlanFits state p
fits_in {p = p} {state} k = in_place state p k.lent.whole k.number k.receives

-- ---- what is done with bytes for a PDO, and whether it is quiet

abbrev as_judged : ℕ → List ℕ → State → List ℕ → Effect × Bool
as_judged p bs s d = (judged p bs s d, judged_rests p bs s d)

abbrev as_received : ℕ → List ℕ → State → List ℕ → Effect × Bool
as_received p bs s d = (received p bs s d, received_rests p bs s d)

-- ---- as many bytes as the PDO maps

module _ {needed p : ℕ} {state d o : List ℕ} (k : Serves needed p state d o) {content : PdoData} (shape : IsData content)
    (is : content.length ≡ mapped_length (mapped d p)) {legal : Bool} (tested : legal ≡ moves_legal (moves_of (plan_in state p)) content.bytes)
    (bytes : are_bytes content.bytes ≡ true) where
  values : unpacked (mapped d p) (data_of content) ≡ unpacked (mapped d p) content.bytes
  values = unpacked_same (mapped d p) _ _ (rw (← is) (take-take content.length content.length content.bytes (omega arith)))

  by_test : (s : State) → as_judged p (data_of content) s d
      ≡ (cond legal (held_or_applied p (data_of content) s d) (says value_refused s d), not (legal && not (is_synchronous (type_of d p))))
  unfolding judged
  by_test s = rw (values, ← legal_is k.receives d content.bytes bytes, ← tested)

  pub refuses : legal ≡ false → (s : State) → as_judged p (data_of content) s d ≡ (says value_refused s d, true)
  refuses b s = by_test s ∙ rw b

  module _ (b : legal ≡ true) {t : ℕ} (type : t ≡ type_of d p) where
    pub applies : last_synchronous < t → (s : State) → as_judged p (data_of content) s d ≡ (applied (unpacked (mapped d p) content.bytes) s d, false)
    unfolding held_or_applied
    applies h s = by_test s ∙ rw (b, ← type, lt-leb t last_synchronous h, values)

    pub holds : t ≤ last_synchronous → (s : State) → as_judged p (data_of content) s d ≡ (becomes (with_held (set s.axis.held p content) s), true)
    unfolding held_or_applied pdo_data
    holds h s = by_test s ∙ rw (b, ← type, le-leb t last_synchronous h, length_data content shape, ← shape.zeros)

-- one frame at the most
pub judged_few : {plan : Plan} (p : ℕ) (bs : List ℕ) (s : State) (d : List ℕ) → Receives plan (mapped d p) → length (judged p bs s d).sent ≤ 1
unfolding judged held_or_applied
judged_few p bs s d r =
    let P : Effect → Type 0 = λ e. length e.sent ≤ 1 in
    whichever P (are_legal d (unpacked (mapped d p) bs))
    (whichever P (is_synchronous (type_of d p)) (omega arith) (keeps_applied p bs s d r).few)
    (rw (append-nil, emergency_by) (one_frame value_refused s.node d))

-- ---- a frame that a PDO listens to, of n bytes or not

module _ {needed p : ℕ} {state d o : List ℕ} (k : Serves needed p state d o) {content : PdoData} (shape : IsData content)
    {n : ℕ} (sized : n ≡ sizes (moves_of (plan_in state p))) where
  is : n ≡ mapped_length (mapped d p)
  is = sized ∙ length_is k.receives

  pub too_short : content.length < n → (s : State) → as_received p (data_of content) s d ≡ (says pdo_too_short s d, true)
  unfolding received
  too_short h s = rw (← is, length_data content shape, lt-ltb content.length n h)

  -- not shorter: the leading bytes are used
  leads : n ≤ content.length → (s : State) → as_received p (data_of content) s d
      ≡ (
        sends (cond (ltb n content.length) (emergency pdo_too_long s d) []) (judged p (take n content.bytes) s d),
        judged_rests p (take n content.bytes) s d,
      )
  unfolding received judged
  leads h s =
      let front = take-take n content.length content.bytes h in
      let values = unpacked_same (mapped d p) (data_of content) (take n content.bytes)
      (rw (← is, front, take-take n n content.bytes (omega arith))) in
      rw (← is, length_data content shape, le-ltb content.length n h, values, front)

  pub fits : n ≡ content.length → (s : State) → as_received p (data_of content) s d ≡ as_judged p (data_of content) s d
  fits e s = leads (omega arith) s ∙ rw (le-ltb n content.length (omega arith), e)

  -- longer: those bytes with zeros behind them, after an emergency
  module _ (h : n < content.length) {front : List ℕ}
      (e : (front ≡ padded 0 most_data (take n content.bytes)) × (length content.bytes ≡ most_data)) where
    abbrev used : PdoData
    used = record { length = n; bytes = front }

    short : length (take n content.bytes) ≡ n
    short = length-take-le n content.bytes (omega (arith, shape.short))

    uses : used ≡ pdo_data (take n content.bytes)
    unfolding pdo_data
    uses = rw (short, e.0)

    pub used_data : IsData used
    used_data = rw uses (is_data (take n content.bytes) (omega (arith, short, shape.short)))

    pub too_long : {s : State} {m : ℕ} {bs o₁ d' part' : List ℕ} {r : Done} →
        (m ≡ length (emergency_of pdo_too_long s.node d)) × (o₁ ≡ sent_into o (emergency_of pdo_too_long s.node d)) →
        let now = judged p (data_of used) s d in
        let all = received p (data_of content) s d in
        let q : Done = record {
          frames = r.frames + m;
          touched = r.touched;
          remapped = r.remapped;
          occasion = r.occasion;
          quiet = r.quiet;
        } in
        Leaves s now d (take (length o₁ - frame_size * m) (drop (frame_size * m) o₁)) r bs d' part'
        × Rests (judged_rests p (data_of used) s d) s now r →
        Leaves s all d o q bs d' (take (frame_size * m) o₁ ++ (part' ++ drop (length o₁ - frame_size * m) (drop (frame_size * m) o₁)))
        × Rests (received_rests p (data_of content) s d) s all q
    unfolding stored
    too_long {s} {m} {o₁ = o₁} {part' = part'} {r} w g =
        let j = judged p (data_of used) s d in
        let fs = emergency_of pdo_too_long s.node d in
        let laid = lent_back o₁ part' j.sent m (length o₁ - frame_size * m) (omega arith) g.0.output
        ∙ ap₂ (λ (i : ℕ) (l : List ℕ). emitted i j.sent l) w.0 w.1 in
        let whole : data_of used ≡ take n content.bytes =
        ap data_of uses ∙ ap (λ (x : Frame). x.content) (frame_of_data 0 (take n content.bytes) (omega (arith, short, shape.short))) in
        renamed (leads (omega arith) s ∙ rw (lt-ltb n content.length h, emergency_by, ← whole)) (
          left_behind [] fs (record { frames = omega (arith, w.0); touched = refl; remapped = refl; occasion = g.0.occasion }) refl laid g.0,
          record {
            told = g.1.told;
            calm = λ z.
                let c = g.1.calm z in
                record { writes = c.writes; occasion = c.occasion; nmt = c.nmt; voltage = c.voltage; drive = c.drive };
          },
        )
