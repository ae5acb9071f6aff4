-- The ticks inside the window, counted at a call's end: what the end needs stays, and where they do not come to the window time nothing shows.
-- Assumes nothing.
use Prim.Native.Nat.{ℕ, suc}
use native.Mathlib.Omega.{arith}
use mathlib.Core.Path.{◌≡◌, refl, sym, ◌∙◌, ap, subst}
use mathlib.Core.Bool.{Bool, true, false, cond, not, ◌&&◌, ◌||◌, or-false, true≢false}
use mathlib.Core.List.{List}
use borrow.Author.Tests.{eqb-true, eqb-false, eq-eqb, ne_eqb, leb-true, leb-false, not-true}
use lib.Dec.{eqb, leb, ltb}
use Rattle.rules_dictionary.specs.declared.Mode.{Mode}
use Rattle.rules_dictionary.specs.declared.Mode.TheVariants.{NoMode, ProfilePosition, ProfileVelocity}
use Rattle.rules_dictionary.specs.Table.{window_time}
use Rattle.rules_dictionary.specs.Values.{read}
use Rattle.rules_dictionary.proofs.Tests.{and_left, and_right, or_left}
use Rattle.drive.specs.declared.Drive.{Drive}
use Rattle.drive.specs.SetPoints.{with_stay}
use Rattle.drive.specs.Window.{inside, most_ticks, one_more, counted, staying}
use Rattle.drive.specs.StatusWord.{ack_in_mode, reached_at_once, position_reached, reached_in_mode, enabled_bits, status}
use Rattle.state.specs.declared.State.{State}
use Rattle.state.specs.declared.Occasion.{Occasion}
use Rattle.state.specs.Occasions.{is_ticked}
use Rattle.rules.specs.Outcome.{End, drive_at_end}
use Rattle.rules.specs.Sound.{stay_sound}
use Rattle.form.specs.Form.{state_of}
use Rattle.form.specs.Holding.{Holds}
use Rattle.form.proofs.Holding.{held_state, held_length}
use Rattle.output.specs.declared.Done.{Done}
use Rattle.calls.specs.Ending.{settled_by, end_with, Still, counted_in, with_ticks, comes, left_by, MayEnd, MayRest}

-- ---- the count, by what the code tests

module _ (v : Drive) (d : List ℕ) where
  pub counted_outside : (ticked : Bool) → inside v.store d ≡ false → 0 ≡ counted ticked v d
  unfolding counted
  counted_outside ticked e = rw e

  pub counted_tick : (ticked : Bool) → inside v.store d ≡ true → ticked ≡ true → one_more v.stay ≡ counted ticked v d
  unfolding counted
  counted_tick ticked e t = rw (e, t)

  pub counted_else : (ticked : Bool) → inside v.store d ≡ true → ticked ≡ false → v.stay ≡ counted ticked v d
  unfolding counted
  counted_else ticked e t = rw (e, t)

  -- a count over 0 that is sound is inside
  some_inside : stay_sound v d ≡ true → (v.stay ≡ 0 → ⊥) → inside v.store d ≡ true
  unfolding stay_sound
  some_inside h n = go (eqb v.stay 0) (ne_eqb v.stay 0 n) h
    where
      go : (b : Bool) → b ≡ false → (b || inside v.store d) ≡ true → inside v.store d ≡ true
      go false e k = k
      go true e k = absurd (true≢false e)

  pub counted_more_lem : stay_sound v d ≡ true → (v.stay ≡ 0 → ⊥) → one_more v.stay ≡ counted true v d
  counted_more_lem h n = counted_tick true (some_inside h n) refl

  -- without a tick, one that is sound stays
  counted_plain : stay_sound v d ≡ true → counted false v d ≡ v.stay
  unfolding counted stay_sound
  counted_plain h = go (inside v.store d) h
    where
      go : (i : Bool) → (eqb v.stay 0 || i) ≡ true → cond i v.stay 0 ≡ v.stay
      go true h = refl
      go false h = sym (eqb-true v.stay 0 (sym (or-false (eqb v.stay 0)) ∙ h))

-- ---- in the bytes

module _ (t : State) (d : List ℕ) where
  -- no tick, and none counted before
  pub count_none : {bs : List ℕ} (ticked : Bool) → (eqb t.axis.drive.stay 0 && not ticked) ≡ true → Holds bs t →
      Holds bs (with_ticks (counted ticked t.axis.drive d) t)
  unfolding stay_sound
  count_none ticked h held =
      let v = t.axis.drive in
      let none : eqb v.stay 0 ≡ true = and_left (eqb v.stay 0) _ h in
      rw (not-true ticked (and_right (eqb v.stay 0) _ h), counted_plain v d (or_left (eqb v.stay 0) _ none)) held

  module _ {stay before : ℕ} (e : stay ≡ counted true t.axis.drive d) (is : before ≡ t.axis.drive.stay) where
    pub count_same : {bs : List ℕ} → Holds bs t → stay ≡ before →
        Holds bs (with_ticks (counted true t.axis.drive d) t) × (false ≡ comes t.axis.drive d)
    count_same held n = let k = sym e ∙ n ∙ is in (rw k held, rw (eq-eqb _ _ k))

    pub count_some : {bs : List ℕ} {w : ℕ} → Holds bs (with_ticks stay t) → (stay ≡ before → ⊥) → w ≡ read d window_time →
        Holds bs (with_ticks (counted true t.axis.drive d) t) × (eqb stay w ≡ comes t.axis.drive d)
    count_some held n ew =
        let other : eqb (counted true t.axis.drive d) t.axis.drive.stay ≡ false = ne_eqb _ _ (λ k. n (e ∙ k ∙ sym is)) in
        (rw (← e) held, rw (other, e, ew))

-- the state that a call's end starts from is the one with the ticks counted
pub counted_ticks : (occasion : Occasion) (ticked : Bool) (d : List ℕ) (t : State) → ticked ≡ is_ticked occasion →
    with_ticks (counted ticked t.axis.drive d) t ≡ counted_in occasion d t
unfolding drive_at_end staying
counted_ticks occasion ticked d t e = rw e

pub counted_none : (occasion : Occasion) (d : List ℕ) (t : State) → is_ticked occasion ≡ false → stay_sound t.axis.drive d ≡ true →
    counted_in occasion d t ≡ t
unfolding drive_at_end staying
counted_none occasion d t e h = rw (e, counted_plain t.axis.drive d h)

-- ---- 6041h

module _ (v : Drive) (d : List ℕ) (n : ℕ) (same : position_reached (with_stay n v) d ≡ position_reached v d) where
  ack_same : (m : Mode) → ack_in_mode m (with_stay n v) d ≡ ack_in_mode m v d
  unfolding ack_in_mode
  ack_same NoMode = refl
  ack_same ProfilePosition = refl
  ack_same ProfileVelocity = refl

  reached_same : (m : Mode) → reached_in_mode m (with_stay n v) d ≡ reached_in_mode m v d
  unfolding reached_in_mode
  reached_same NoMode = refl
  reached_same ProfilePosition = rw same
  reached_same ProfileVelocity = refl

  status_same : (remote voltage : Bool) → status remote voltage (with_stay n v) d ≡ status remote voltage v d
  unfolding status enabled_bits
  status_same remote voltage = rw (ack_same v.mode, reached_same v.mode)

-- one tick more shows nothing where it is not the window time
one_more_lem : (w k : ℕ) → (not (eqb (one_more k) k) && eqb (one_more k) w) ≡ false → leb w (one_more k) ≡ leb w k
one_more_lem w k h = grown (ltb k most_ticks) refl h
  where
    -- w is not the new count
    apart : (b : Bool) → eqb (suc k) w ≡ b → (not (eqb (suc k) k) && b) ≡ false → b ≡ false
    apart false e h = refl
    apart true e h = absurd (omega (arith, eqb-true (suc k) k (not-not (eqb (suc k) k) h)))
      where
        not-not : (b : Bool) → (not b && true) ≡ false → b ≡ true
        not-not true h = refl
        not-not false h = sym h

    below : (b c : Bool) → leb w (suc k) ≡ b → leb w k ≡ c → eqb (suc k) w ≡ false → b ≡ c
    below true true e f g = refl
    below false false e f g = refl
    below true false e f g = absurd (omega (arith, leb-true w (suc k) e, leb-false w k f, eqb-false (suc k) w g))
    below false true e f g = absurd (omega (arith, leb-false w (suc k) e, leb-true w k f))

    grown : (b : Bool) → ltb k most_ticks ≡ b → (not (eqb (cond b (suc k) k) k) && eqb (cond b (suc k) k) w) ≡ false →
        leb w (cond b (suc k) k) ≡ leb w k
    grown false e h = refl
    grown true e h = below (leb w (suc k)) (leb w k) refl refl (apart (eqb (suc k) w) refl h)

shows_nothing : (v : Drive) (d : List ℕ) → comes v d ≡ false → position_reached (with_stay (counted true v d) v) d ≡ position_reached v d
unfolding position_reached counted
shows_nothing v d h =
    ap (λ (b : Bool). cond (eqb (read d window_time) 0) (reached_at_once v.store d) b) (go (inside v.store d) h)
  where
    w : ℕ
    w = read d window_time

    k : ℕ
    k = v.stay

    go : (i : Bool) → (not (eqb (cond i (one_more k) 0) k) && eqb (cond i (one_more k) 0) w) ≡ false →
        (i && leb w (cond i (one_more k) 0)) ≡ (i && leb w k)
    go false h = refl
    go true h = one_more_lem w k h

-- ---- the end

-- an end with those ticks in its state
abbrev recounted : ℕ → End → End
recounted n e = record { state = with_ticks n e.state; dictionary = e.dictionary; sent = e.sent }

still_counted : (was : Bool) (t : State) (r : Done) (d : List ℕ) → comes t.axis.drive d ≡ false → Still was t r d →
    Still was (with_ticks (counted true t.axis.drive d) t) r d
unfolding end_with settled_by
still_counted was t r d h s =
    let v = t.axis.drive in
    let n = counted true v d in
    rw (status_same v d n (shows_nothing v d h)) (ap (recounted n) s)

-- nothing is left: the service was quiet, and a tick shows nothing
pub still_left : (was : Bool) (t : State) (r : Done) (d : List ℕ) → left_by r t.axis.drive d ≡ false → (r.quiet ≡ true → MayRest was t r d) →
    Still was (counted_in r.occasion d t) r d
still_left was t r d h rest = go r.quiet (is_ticked r.occasion) refl refl h
  where
    go : (quiet ticked : Bool) → r.quiet ≡ quiet → is_ticked r.occasion ≡ ticked → (not quiet || (ticked && comes t.axis.drive d)) ≡ false →
        Still was (counted_in r.occasion d t) r d
    go true false q e h = let k = rest q in subst (λ u. Still was u r d) (sym (counted_none r.occasion d t e k.placed)) k.still
    go true true q e h = subst (λ u. Still was u r d) (counted_ticks r.occasion true d t (sym e)) (still_counted was t r d h (rest q).still)
    go false ticked q e h = absurd (true≢false h)

-- what the end needs is none of the drive's to change
pub may_end_counted : {bs bs' : List ℕ} {r : Done} {d o : List ℕ} (occasion : Occasion) → Holds bs' (counted_in occasion d (state_of bs)) →
    MayEnd bs r d o → MayEnd bs' r d o
may_end_counted {bs' = bs'} occasion held h =
    let is = held_state held in
    record {
      own = rw is held;
      whole = held_length held;
      plannable = h.plannable;
      room = h.room;
      few = h.few;
      counts = rw is h.counts;
      plans = λ q. rw is (h.plans q);
      ready = λ q t. rw is (h.ready q t);
    }
