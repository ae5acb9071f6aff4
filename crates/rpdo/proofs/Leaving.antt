-- What is left behind by one thing done after another.
-- Assumes nothing.
use Prim.Native.Nat.{ℕ, ◌+◌}
use native.Mathlib.Nat.{zero-add}
use native.Mathlib.Omega.{arith}
use mathlib.Core.Path.{◌≡◌, refl, sym, ◌∙◌, ap, subst}
use mathlib.Core.Bool.{Bool, true, false, ◌||◌, or_assoc}
use mathlib.Core.List.{List, [], ◌∷◌, ◌++◌, append-nil}
use lib.ListN.{length, length-append}
use Rattle.state.specs.declared.State.{State}
use Rattle.state.specs.declared.Occasion.{Occasion}
use Rattle.state.specs.declared.Occasion.TheVariants.{Plain}
use Rattle.rules_dictionary.specs.Numbers.{any}
use Rattle.rules_dictionary.specs.Values.{Write, stored}
use Rattle.rules_services.specs.Effects.{Effect, Frame, becomes}
use Rattle.rules_services.specs.Emergency.{emergency}
use Rattle.rules.specs.Outcome.{sent_into}
use Rattle.theorems.proofs.Writes.{stored_append}
use Rattle.form.specs.Holding.{Holds}
use Rattle.output.specs.Laying.{emitted}
use Rattle.output.specs.declared.Done.{Done}
use Rattle.output.specs.Leaves.{touches, remaps, keeping, Leaves, Rests, nothing_done}
use Rattle.output.proofs.Frames.{emitted_then}
use Rattle.output.proofs.Left.{left_as, calm_said, resting}
use Rattle.emergency.specs.Emergencies.{emergency_of}
use Rattle.emergency.proofs.Written.{emergency_by}
use Rattle.rpdo.specs.Traffic.{says}

-- ---- the promise under another name of the effect, and of whether it is quiet

pub renamed : {s : State} {e e' : Effect} {b b' : Bool} {d o : List ℕ} {r : Done} {bs' d' o' : List ℕ} →
    ◌≡◌ {A = Effect × Bool} (e', b') (e, b) → Leaves s e d o r bs' d' o' × Rests b s e r → Leaves s e' d o r bs' d' o' × Rests b' s e' r
renamed {s} {d = d} {o} {r} {bs'} {d'} {o'} q h =
    subst (λ (x : Effect × Bool). Leaves s x.0 d o r bs' d' o' × Rests x.1 s x.0 r) (sym q) h

-- the promise from another state that has the same plans, ready frames and paces
pub started : {s t : State} {e : Effect} {d o : List ℕ} {r : Done} {bs' d' o' : List ℕ} → keeping s e.state ≡ keeping t e.state →
    Leaves t e d o r bs' d' o' → Leaves s e d o r bs' d' o'
started same h =
    record {
      state = rw same h.state;
      frames = h.frames;
      touched = h.touched;
      remapped = h.remapped;
      occasion = h.occasion;
      dictionary = h.dictionary;
      output = h.output;
    }

-- ---- nothing done, and an emergency alone

pub left_still : {s : State} {bs : List ℕ} {r : Done} {d o : List ℕ} → Holds bs s → r ≡ nothing_done true →
    Leaves s (becomes s) d o r bs d o × Rests true s (becomes s) r
left_still {s} {d = d} {o} h is = rw is (left_as s s true d o h, resting s _ _ refl (calm_said s []))

pub left_said : (code : ℕ) {s : State} {bs : List ℕ} {k : ℕ} {d o o' : List ℕ} → Holds bs s →
    (k ≡ length (emergency_of code s.node d)) × (o' ≡ sent_into o (emergency_of code s.node d)) →
    let r : Done = record { frames = k; touched = false; remapped = false; occasion = Plain; quiet = true } in
    Leaves s (says code s d) d o r bs d o' × Rests true s (says code s d) r
unfolding stored
left_said code {s} {d = d} held h = (
  record {
    state = held;
    frames = rw (append-nil, emergency_by) h.0;
    touched = refl;
    remapped = refl;
    occasion = refl;
    dictionary = refl;
    output = rw (append-nil, emergency_by) h.1;
  },
  resting s _ _ refl (calm_said s (emergency code s d)),
)

-- ---- after writes and frames

any_append : {A : Type 0} (f : A → Bool) (xs ys : List A) → any f (xs ++ ys) ≡ (any f xs || any f ys)
any_append f [] ys = refl
any_append f (x ∷ xs) ys = rw (any_append f xs ys, or_assoc)

-- an effect after those writes and those frames
abbrev pub behind : List Write → List Frame → Occasion → Effect → Effect
behind ws fs call e = record { state = e.state; writes = ws ++ e.writes; sent = fs ++ e.sent; occasion = call }

-- q is r with what came first
pub record Behind (ws : List Write) (fs : List Frame) (call : Occasion) (r q : Done) : Type 0 where
  pub frames : q.frames ≡ length fs + r.frames
  pub touched : q.touched ≡ (touches ws || r.touched)
  pub remapped : q.remapped ≡ (remaps ws || r.remapped)
  pub occasion : q.occasion ≡ call

pub left_behind : (ws : List Write) (fs : List Frame) {call : Occasion} {s : State} {e : Effect} {bs d d₁ d₂ o part part' o₂ : List ℕ} {r q : Done} →
    Behind ws fs call r q → d₁ ≡ stored ws d → o₂ ≡ emitted (length fs) e.sent (sent_into o fs) →
    Leaves s e d₁ part r bs d₂ part' → Leaves s (behind ws fs call e) d o q bs d₂ o₂
unfolding emitted
left_behind ws fs {e = e} {d = d} {o = o} b is laid g =
    record {
      state = g.state;
      frames = rw length-append (b.frames ∙ ap (λ (n : ℕ). length fs + n) g.frames);
      touched = b.touched ∙ ap (λ (x : Bool). touches ws || x) g.touched ∙ sym (any_append _ ws e.writes);
      remapped = b.remapped ∙ ap (λ (x : Bool). remaps ws || x) g.remapped ∙ sym (any_append _ ws e.writes);
      occasion = b.occasion;
      dictionary = g.dictionary ∙ ap (stored e.writes) is ∙ sym (stored_append ws e.writes d);
      output = laid ∙ rw zero-add at (emitted_then 0 fs e.sent o (omega arith));
    }
