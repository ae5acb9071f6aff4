-- A test of every number below a bound, made in a loop: what is left of it from a number on. And what is kept for each PDO in a state's
-- bytes, tested PDO by PDO.
-- Assumes nothing.
use Prim.Native.Nat.{ℕ, zero, suc, ◌+◌, ◌-◌, ◌*◌, ◌<◌, ◌≤◌}
use native.Mathlib.Omega.{arith}
use mathlib.Core.Path.{◌≡◌, refl, sym, ◌∙◌, ap₂}
use mathlib.Core.Bool.{Bool, true, false, not, ◌&&◌, and_assoc}
use mathlib.Core.List.{List}
use borrow.Author.Tests.{not-true, not-false}
use Rattle.rules_dictionary.specs.Table.{Direction, receive, transmit, direction_of, each_way, mapping_place, open_table}
use Rattle.rules_dictionary.proofs.Tests.{and_left, and_right}
use Rattle.state.specs.declared.NmtState.{NmtState}
use Rattle.rules.specs.Sound.{pace_sound, held_sound}
use Rattle.form.specs.Form.{plan_length, plan_place, plan_at, data_at, pace_at, state_of}
use Rattle.form.specs.Own.{every_at, plan_own, plans_own}
use Rattle.mapping.specs.Kept.{record_length, plan_kept_in, plan_kept_at, frame_place}
use Rattle.mapping.proofs.Orders.{beside}
use Rattle.mapping.proofs.Keeping.{at_places}
use Rattle.soundness.specs.Kept.{plan_kept, plans_kept, plans_kept_in, plans_kept_from, frame_kept, ready_kept}
use Rattle.soundness.specs.Waiting.{pace_place, held_frame_place, wait_sound}

-- ---- one number after another

module _ (f : ℕ → Bool) where
  -- of every number below n
  abbrev pub every : ℕ → Bool
  every n = every_at f n 0 1

  every_from : (n first i : ℕ) → every_at f n first 1 ≡ true → i < n → f (first + i) ≡ true
  every_from zero first i e h = absurd (omega arith)
  every_from (suc n) first zero e h = let z : first + 0 ≡ first = omega arith in rw z (and_left (f first) _ e)
  every_from (suc n) first (suc i) e h =
      let z : first + suc i ≡ first + 1 + i = omega arith in
      rw z (every_from n (first + 1) i (and_right (f first) _ e) (omega arith))

  pub every_in : {n : ℕ} (i : ℕ) → every n ≡ true → i < n → f i ≡ true
  every_in {n} i e h = let z : 0 + i ≡ i = omega arith in rw z at (every_from n 0 i e h)

  module _ (n k : ℕ) where
    -- what is left from k on is the whole
    abbrev pub Left : Type 0
    Left = every_at f (n - k) k 1 ≡ every n

    step : k < n → every_at f (n - k) k 1 ≡ (f k && every_at f (n - (k + 1)) (k + 1) 1)
    step h = let z : n - k ≡ suc (n - (k + 1)) = omega arith in rw z

    module _ (left : Left) where
      pub fails : {r : Bool} → k < n → r ≡ f k → not r ≡ true → false ≡ every n
      fails {r} h e t = sym (sym left ∙ step h ∙ rw (← e, not-true r t))

      pub passes : {r : Bool} → k < n → r ≡ f k → not r ≡ false → every_at f (n - (k + 1)) (k + 1) 1 ≡ every n
      passes {r} h e t = sym (sym left ∙ step h ∙ rw (← e, not-false r t))

      pub ends : n ≤ k → true ≡ every n
      ends h = let z : n - k ≡ 0 = omega arith in rw z at left

every_both : (f g : ℕ → Bool) (n first : ℕ) →
    every_at (λ i. f i && g i) n first 1 ≡ (every_at f n first 1 && every_at g n first 1)
every_both f g zero first = refl
every_both f g (suc n) first =
    rw (every_both f g n (first + 1)) (beside (f first) (g first) (every_at f n (first + 1) 1) (every_at g n (first + 1) 1))

-- ---- what a state's bytes keep

module _ (bs d : List ℕ) where
  -- the plan of a PDO, at its places
  abbrev here : ℕ → Bool
  here p = plan_kept_at (direction_of p) (plan_place p) (mapping_place p) bs d

  pub plans_by_pdo : every (plan_kept_in bs d) (2 * each_way) ≡ plans_kept_in bs d
  unfolding plan_kept_in plans_kept_in plans_own plans_kept state_of
  plans_by_pdo = every_both (λ p. plan_own (plan_place p) bs) (λ p. plan_kept d p (plan_at (plan_place p) bs)) (2 * each_way) 0

  -- four PDOs, each at its places
  four_kept : (p : ℕ) → p ≤ each_way →
      (here p && (here (p + 1) && (here (p + 2) && (here (p + 3) && true)))) ≡ every_at (plan_kept_in bs d) each_way p 1
  four_kept p h =
      let at : (q : ℕ) → q < 2 * each_way → here q ≡ plan_kept_in bs d q = λ q l. at_places bs d q l in
      let two : p + 1 + 1 ≡ p + 2 = omega arith in
      let three : p + 2 + 1 ≡ p + 3 = omega arith in
      rw (two, three, at p (omega arith), at (p + 1) (omega arith), at (p + 2) (omega arith), at (p + 3) (omega arith))

  -- by direction, from place to place
  pub plans_by_way :
      (plans_kept_from each_way receive (plan_place 0) (mapping_place 0) bs d
      && plans_kept_from each_way transmit (plan_place each_way) (mapping_place each_way) bs d)
      ≡ plans_kept_in bs d
  unfolding open_table plans_kept_from
  plans_by_way = ap₂ ◌&&◌ (four_kept 0 (omega arith)) (four_kept each_way (omega arith)) ∙ (simp and_assoc) ∙ plans_by_pdo

  -- the ready frame of transmit PDO t
  abbrev pub framed : ℕ → Bool
  framed t = frame_kept d (each_way + t) (data_at (frame_place t) bs)

  pub frames_by_pdo : every framed each_way ≡ ready_kept d (state_of bs).axis.ready
  unfolding ready_kept state_of
  frames_by_pdo = refl

  module _ (m : NmtState) where
    -- what waits for one PDO of each way
    abbrev pub waits : ℕ → Bool
    waits t = pace_sound m d (t + each_way) (pace_at (pace_place t) bs) && held_sound m d t (data_at (held_frame_place t) bs)

    pub waits_by_pdo : every waits each_way ≡ wait_sound m d (state_of bs).axis.paces (state_of bs).axis.held
    unfolding wait_sound state_of
    waits_by_pdo =
        every_both (λ t. pace_sound m d (t + each_way) (pace_at (pace_place t) bs)) (λ t. held_sound m d t (data_at (held_frame_place t) bs)) each_way 0

    module _ (t : ℕ) {r : Bool} (e : r ≡ pace_sound m d (t + each_way) (pace_at (pace_place t) bs)) where
      pub pace_fails : not r ≡ true → false ≡ waits t
      pace_fails h = sym (rw (sym e ∙ not-true r h))

      -- where the pace is sound the held frame tells
      pub frame_tells : {o : Bool} → not r ≡ false → o ≡ held_sound m d t (data_at (held_frame_place t) bs) → o ≡ waits t
      frame_tells h f = f ∙ sym (rw (sym e ∙ not-false r h))

-- ---- one plan behind another

module _ (way : Direction) (bs d : List ℕ) where
  pub plans_step : (n plan map : ℕ) → 0 < n →
      plans_kept_from n way plan map bs d
      ≡ (plan_kept_at way plan map bs d && plans_kept_from (n - 1) way (plan + plan_length) (map + record_length) bs d)
  unfolding plans_kept_from
  plans_step zero plan map h = absurd (omega arith)
  plans_step (suc n) plan map h = let e : suc n - 1 ≡ n = omega arith in rw e

  pub plans_end : (n plan map : ℕ) → n ≤ 0 → plans_kept_from n way plan map bs d ≡ true
  unfolding plans_kept_from
  plans_end zero plan map h = refl
  plans_end (suc n) plan map h = absurd (omega arith)
