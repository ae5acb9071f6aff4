-- SYNC: held frames released one after another.
-- Assumes nothing.
use Prim.Native.Nat.{ℕ, zero, suc, ◌+◌, ◌-◌, ◌*◌, ◌<◌, ◌≤◌}
use native.Mathlib.Omega.{arith}
use mathlib.Core.Path.{◌≡◌, refl, sym, ◌∙◌, ap, ap₂}
use mathlib.Core.Logic.{⊎_elim}
use mathlib.Core.Bool.{Bool, true, false, not, ◌||◌}
use mathlib.Core.List.{List, [], ◌∷◌, ◌++◌, append-nil, append_assoc}
use borrow.Author.Tests.{lt-ltb}
use lib.ListN.{length, get_or, take, drop, length-append, length-take, length-drop}
use Rattle.state.specs.declared.State.{State}
use Rattle.state.specs.declared.Occasion.TheVariants.{Synced}
use Rattle.rules_dictionary.specs.declared.Plan.{Plan}
use Rattle.rules_dictionary.specs.declared.PdoData.{PdoData}
use Rattle.rules_dictionary.specs.Table.{each_way, receive_pdos, transmit_pdos}
use Rattle.rules_dictionary.specs.Values.{stored, unpacked}
use Rattle.rules_dictionary.specs.Plans.{mapped}
use Rattle.rules_dictionary.proofs.Tests.{none_in}
use Rattle.rules_dictionary.proofs.Members.{in_left, in_append}
use Rattle.rules_dictionary.proofs.Rows.{length_stored}
use Rattle.rules_services.specs.Effects.{Effect, becomes, on, and_then}
use Rattle.rules_services.specs.Written.{applied}
use Rattle.rules_services.specs.PdoTraffic.{no_data, is_held, release, release_all}
use Rattle.rules.specs.Outcome.{frame_size, sent_into}
use Rattle.theorems.proofs.Booleans.{by_match}
use Rattle.theorems.proofs.Dictionary.{mapped_alike}
use Rattle.theorems.proofs.Writes.{no_pdo_alike, stored_append}
use Rattle.form.specs.Form.{state_of, plan_in, held_in}
use Rattle.form.specs.Holding.{Holds, holding}
use Rattle.form.proofs.Holding.{held_state}
use Rattle.mapping.specs.Received.{Receives}
use Rattle.output.specs.Laying.{emitted}
use Rattle.output.specs.declared.Done.{Done}
use Rattle.output.specs.Leaves.{keeping, Leaves, LeavesIn, never}
use Rattle.output.proofs.Frames.{lent_back}
use Rattle.output.proofs.Left.{as_effect, lent, loud}
use Rattle.rpdo.specs.Kept.{Kept, Serves}
use Rattle.rpdo.specs.Traffic.{release_rests}
use Rattle.rpdo.proofs.Hearing.{receiver}
use Rattle.rpdo.proofs.Leaving.{renamed, started, behind, Behind, left_behind}
use Rattle.rpdo.proofs.Applied.{Keeps, keeps_applied, no_mapping}

-- ---- one held frame

-- whatever stands for none
other_none : (f : PdoData → Effect × Bool) (a b : PdoData) → f a ≡ f b → (l : List PdoData) (p : ℕ) → f (get_or l p a) ≡ f (get_or l p b)
other_none f a b h [] p = h
other_none f a b h (x ∷ l) zero = refl
other_none f a b h (x ∷ l) (suc p) = other_none f a b h l p

-- its PDO is served without it
pub still_serves : {n p : ℕ} {bs bs₁ d o : List ℕ} → Serves n p bs d o → Holds bs₁ (holding p no_data (state_of bs)) → Serves n p bs₁ d o
still_serves k held =
    let l = k.lent in
    record { lent = lent held l.long l.room l.id; number = k.number; receives = rw (held_state held) k.receives }

module _ (p : ℕ) (d : List ℕ) where
  -- what is done, and whether it is quiet
  abbrev as_released : State → Effect × Bool
  as_released s = (release p s d, release_rests p s d)

  by : State → PdoData → Bool → Effect
  by s f b = elim b [ true ↦ applied (unpacked (mapped d p) f.bytes) (holding p no_data s) d | false ↦ becomes s ]

  keeps_release : {plan : Plan} (s : State) → Receives plan (mapped d p) → Keeps 1 s (release p s d)
  unfolding release
  keeps_release s r =
      let f = get_or s.axis.held p no_data in
      let k = keeps_applied p f.bytes (holding p no_data s) d r in
      by_match (Keeps 1 s) (is_held f) (λ h. record { own = k.own; id = k.id; few = k.few; quiet = k.quiet })
      (λ h. record { own = refl; id = refl; few = omega arith; quiet = λ w i. absurd (none_in i) })

  -- by the held frame as the code reads it
  by_held : (bs : List ℕ) → as_released (state_of bs) ≡ (by (state_of bs) (held_in bs p) (is_held (held_in bs p)), not (is_held (held_in bs p)))
  unfolding release by
  by_held bs =
      other_none (λ f. (by (state_of bs) f (is_held f), not (is_held f))) no_data (record { length = 0; bytes = [] }) refl (state_of bs).axis.held p

  module _ (bs : List ℕ) {frame : PdoData} (is : frame ≡ held_in bs p) where
    pub none_held_lem : frame.length ≡ 0 → as_released (state_of bs) ≡ (becomes (state_of bs), true)
    unfolding by
    none_held_lem n = by_held bs ∙ rw (← is, n)

    -- applied to the state without it
    pub one_held : (frame.length ≡ 0 → ⊥) → {bs₁ bs' o d' o' : List ℕ} {r : Done} → Holds bs₁ (holding p no_data (state_of bs)) →
        LeavesIn (applied (unpacked (mapped d p) frame.bytes)) never bs₁ d o r bs' d' o' →
        LeavesIn (release p) (release_rests p) bs d o r bs' d' o'
    unfolding by
    one_held n held g =
        let h = rw (held_state held) at g in
        let named : as_released (state_of bs) ≡ (applied (unpacked (mapped d p) frame.bytes) (holding p no_data (state_of bs)) d, false) =
        by_held bs ∙ rw (← is, lt-ltb 0 frame.length (omega (arith, n))) in
        renamed named (started refl h.0, loud _ _ _ h.1.told)

-- ---- one after another

-- the frames so far, and whether an object that may be mapped to transmit was written
abbrev pub synced : ℕ → Bool → Done
synced frames touched = record { frames = frames; touched = touched; remapped = false; occasion = Synced; quiet = false }

-- before receive PDO p: what is left to release is what was to release at the start, less what is done
pub record Underway (s : State) (d₀ o₀ : List ℕ) (p : ℕ) (r : Done) (bs d o : List ℕ) : Type 0 where
  pub number : p ≤ each_way
  pub same : length o ≡ length o₀
  pub done : Effect
  pub leaves : Leaves s done d₀ o₀ r bs d o
  pub rest : and_then d₀ done (release_all (drop p receive_pdos)) ≡ on Synced (release_all receive_pdos s d₀)
  pub keeps : Keeps p s done

pub none_yet : {s : State} {bs d o : List ℕ} → Holds bs s → Underway s d o 0 (synced 0 false) bs d o
unfolding and_then stored sent_into
none_yet {s} held =
    record {
      number = omega arith;
      same = refl;
      done = on Synced (becomes s);
      leaves = record { state = held; frames = refl; touched = refl; remapped = refl; occasion = refl; dictionary = refl; output = refl };
      rest = refl;
      keeps = record { own = refl; id = refl; few = omega arith; quiet = λ w i. absurd (none_in i) };
    }

module _ {bs₀ d₀ o₀ : List ℕ} (k : Kept bs₀ d₀ o₀) {p : ℕ} (l : p < each_way) {frames : ℕ} {touched : Bool} {bs d o : List ℕ}
    (x : Underway (state_of bs₀) d₀ o₀ p (synced frames touched) bs d o) where
  abbrev s : State
  s = state_of bs₀

  abbrev e : Effect
  e = x.done

  -- the bytes hold the very state of what is done
  held : Holds bs e.state
  held = rw x.keeps.own at x.leaves.state

  rest : and_then d₀ e (release_all (p ∷ drop (p + 1) receive_pdos)) ≡ on Synced (release_all receive_pdos s d₀)
  rest = rw (receiver p l).1 at x.rest

  receives : Receives (plan_in bs p) (mapped d p)
  receives =
      let i = (receiver p l).0 in
      let pdos = no_pdo_alike e.writes d₀ (λ w j. (x.keeps.quiet w j).0) (λ w j. (x.keeps.quiet w j).1) in
      rw (held_state held, ← x.keeps.own, x.leaves.dictionary, mapped_alike d₀ (stored e.writes d₀) pdos (in_left transmit_pdos i))
      (k.plans p i)

  -- the output is long enough for its frames
  pub room : frame_size * frames + frame_size ≤ length o
  room = omega (arith, x.same, k.lent.room, x.leaves.frames, x.keeps.few)

  -- what is kept stays kept
  pub serves : {part : List ℕ} → frame_size ≤ length part → Serves frame_size p bs d part
  serves enough =
      let long = ap length x.leaves.dictionary ∙ length_stored e.writes d₀ ∙ k.lent.long in
      record { lent = lent held long enough (rw x.keeps.id k.lent.id); number = l; receives = receives }

  abbrev at : ℕ
  at = frame_size * frames

  abbrev left : ℕ
  left = length o - frame_size * frames

  pub one_more : {t : Bool} {r : Done} {bs₁ d₁ part' : List ℕ} → LeavesIn (release p) (release_rests p) bs d (take left (drop at o)) r bs₁ d₁ part' →
      length part' ≡ length (take left (drop at o)) → t ≡ (touched || r.touched) →
      Underway s d₀ o₀ (p + 1) (synced (frames + r.frames) t) bs₁ d₁ (take at o ++ (part' ++ drop left (drop at o)))
  unfolding and_then release_all
  one_more {t} {r} {bs₁} {d₁} {part'} f fits w =
      let b = x.leaves in
      let q = x.keeps in
      let one = release p e.state d in
      let h = rw (held_state held) at f.0 in
      let own = keeps_release p d e.state receives in
      let first : Behind e.writes e.sent e.occasion r (synced (frames + r.frames) t) = record {
        frames = ap (λ (m : ℕ). m + r.frames) b.frames;
        touched = w ∙ ap (λ (y : Bool). y || r.touched) b.touched;
        remapped = rw (← b.remapped, h.remapped, no_mapping one.writes (λ y i. (own.quiet y i).1));
        occasion = b.occasion;
      } in
      let laid = lent_back o part' one.sent frames left (omega arith) h.output
      ∙ ap₂ (λ (m : ℕ) (y : List ℕ). emitted m one.sent y) b.frames b.output in
      let is : and_then d₀ e (release p) ≡ behind e.writes e.sent e.occasion one = rw (← b.dictionary) in
      let from_start : keeping s one.state ≡ keeping e.state one.state = ap (λ (u : State). keeping u one.state) q.own in
      record {
        number = omega arith;
        same = simp (length-append, length-take, length-drop, fits) (omega (arith, room, x.same));
        done = and_then d₀ e (release p);
        leaves = as_effect is (left_behind e.writes e.sent first b.dictionary laid (started from_start h));
        rest = rw (stored_append, append_assoc, append_assoc) rest;
        keeps = rw is (record {
          own = from_start ∙ own.own;
          id = own.id ∙ q.id;
          few = rw length-append (omega (arith, q.few, own.few));
          quiet = λ y i. ⊎_elim (q.quiet y) (own.quiet y) (in_append e.writes i);
        });
      }

pub all_done : {s : State} {d₀ o₀ : List ℕ} {r : Done} {bs d o : List ℕ} → Underway s d₀ o₀ each_way r bs d o →
    Leaves s (on Synced (release_all receive_pdos s d₀)) d₀ o₀ r bs d o
unfolding and_then release_all
all_done x = as_effect (sym x.rest ∙ rw (append-nil, append-nil)) x.leaves
