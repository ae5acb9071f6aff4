-- One move of a plan after another, read word by word where a state's bytes keep the plan, as the loops of the code go through them.
-- Assumes nothing.
use Prim.Native.Nat.{ℕ, zero, suc, ◌+◌, ◌*◌, ◌<◌, ◌≤◌}
use native.Mathlib.Numerals.{add-one}
use native.Mathlib.Omega.{arith}
use mathlib.Core.Path.{◌≡◌, refl, ◌∙◌, ap}
use mathlib.Core.Logic.{inl, inr}
use mathlib.Core.Bool.{true, ◌&&◌, ◌||◌}
use mathlib.Core.List.{List, [], ◌∷◌, ◌++◌}
use lib.Dec.{eqb}
use lib.ListN.{length, take, drop, get_or, length-append, length-drop, length-take, drop_of_length-le}
use lib.Seq.{drop-drop, sets, length-take-le}
use Rattle.rules_dictionary.specs.declared.Move.{Move}
use Rattle.rules_dictionary.specs.Numbers.{value, bytes, part}
use Rattle.rules_dictionary.specs.Table.{dictionary_length, most_moves}
use Rattle.rules_dictionary.specs.Plans.{no_move}
use Rattle.dictionary.specs.Sizes.{IsSize}
use Rattle.form.specs.Form.{word_length, word_at, move_length, move_of, move_at, plan_at, plan_in, plan_place}
use Rattle.form.proofs.Rows.{each_at}
use Rattle.form.proofs.OneForm.{plan_stands}
use Rattle.mapping.specs.Moves.{joined_moves, MoveFits, MovesFit}
use Rattle.mapping.specs.Received.{PlanFits, sizes, has_place, is_legal, moves_legal, stored_moves}

-- ---- the moves of a plan

-- those that are left at a step
abbrev pub left : List Move → ℕ → ℕ → List Move
left ms n k = drop k (take n ms)

-- within the count there is a move
unsized : IsSize 0 → ⊥
unsized (inl e) = absurd (omega arith)
unsized (inr (inl e)) = absurd (omega arith)
unsized (inr (inr e)) = absurd (omega arith)

next : (ms : List Move) (n k : ℕ) → ((i : ℕ) → i < n → MoveFits (get_or ms i no_move)) → k < n → left ms n k ≡ get_or ms k no_move ∷ left ms n (suc k)
next ms zero k f h = absurd (omega arith)
next [] (suc n) k f h = absurd (unsized (f 0 (omega arith)).size)
next (m ∷ ms) (suc n) zero f h = refl
next (m ∷ ms) (suc n) (suc k) f h = next ms n k (λ i l. f (suc i) (omega arith)) (omega arith)

-- ---- of the plan at a place

abbrev pub left_at : ℕ → List ℕ → ℕ → List Move
left_at place bs k = left (plan_at place bs).moves (plan_at place bs).count k

-- how many bytes they map
abbrev pub bytes_left : List ℕ → List ℕ → ℕ → ℕ → ℕ
bytes_left d bs place k = length (joined_moves d (left_at place bs k))

pub sized_part : (at size : ℕ) (bs : List ℕ) → at + size ≤ length bs → length (part at size bs) ≡ size
sized_part at size bs h = length-take-le _ (drop at bs) (rw length-drop (omega arith))

pub count_at : (place : ℕ) (bs : List ℕ) → (plan_at place bs).count ≡ get_or bs place 0
unfolding plan_at
count_at place bs = refl

-- so many moves are gone through, and the word of the next one stands at `word`
pub record Reached (bs : List ℕ) (place word k : ℕ) : Type 0 where
  pub fits : MovesFit (plan_at place bs).moves (plan_at place bs).count
  pub stands : word ≡ place + 1 + word_length * k
  pub few : get_or bs place 0 ≤ most_moves
  pub within : k ≤ get_or bs place 0

pub none_reached : (bs : List ℕ) (place : ℕ) → MovesFit (plan_at place bs).moves (plan_at place bs).count → Reached bs place (place + 1) 0
none_reached bs place f =
    record { fits = f; stands = omega arith; few = omega (arith, count_at place bs, f.few); within = omega arith }

module _ {bs : List ℕ} {place word k : ℕ} (r : Reached bs place word k) where
  -- none is left
  pub none_left : get_or bs place 0 ≤ k → left_at place bs k ≡ []
  none_left h = drop_of_length-le (take (plan_at place bs).count (plan_at place bs).moves) {i = k} (rw length-take (omega (arith, count_at place bs)))

  pub none_joined : get_or bs place 0 ≤ k → (d : List ℕ) → joined_moves d (left_at place bs k) ≡ []
  unfolding joined_moves
  none_joined h d = rw (none_left h)

  pub none_legal : get_or bs place 0 ≤ k → (at : ℕ) (xs : List ℕ) → moves_legal (left_at place bs k) (drop at xs) ≡ true
  unfolding moves_legal
  none_legal h at xs = rw (none_left h)

  pub none_stored : get_or bs place 0 ≤ k → (at : ℕ) (xs d : List ℕ) → stored_moves (left_at place bs k) (drop at xs) d ≡ d
  unfolding stored_moves
  none_stored h at xs d = rw (none_left h)

  -- the move of this step, by its word as the code reads it
  module _ (h : k < get_or bs place 0) where
    pub further : Reached bs place (word + word_length) (k + 1)
    further = record { fits = r.fits; stands = omega (arith, r.stands); few = r.few; within = omega arith }

    in_count : k < (plan_at place bs).count
    in_count = omega (arith, count_at place bs)

    module _ {v : ℕ} (reads : v ≡ word_at word bs) where
      here : get_or (plan_at place bs).moves k no_move ≡ move_of v
      unfolding plan_at move_at
      here =
          each_at most_moves (place + 1) move_length (λ i. move_at i bs) no_move k (omega (arith, r.few)) ∙ rw (reads, r.stands)

      pub step : left_at place bs k ≡ move_of v ∷ left_at place bs (k + 1)
      step = rw (add-one k) (next _ _ k r.fits.each in_count ∙ ap (λ (m : Move). m ∷ left_at place bs (suc k)) here)

      pub place_step : {p : ℕ} → p ≡ (move_of v).place → (x : ℕ) → has_place x (left_at place bs k)
          ≡ (eqb p x || has_place x (left_at place bs (k + 1)))
      place_step ep x = rw (step, ep)

      pub size_step : {s : ℕ} → s ≡ (move_of v).size → sizes (left_at place bs k) ≡ s + sizes (left_at place bs (k + 1))
      size_step es = rw (step, es)

      -- by the place and the size that it takes out of the word
      module _ {p s : ℕ} (ep : p ≡ (move_of v).place) (es : s ≡ (move_of v).size) where
        pub move_fits : (p + s ≤ dictionary_length) × IsSize s
        move_fits = let m = rw here at (r.fits.each k in_count) in (rw (ep, es) m.inside, rw es m.size)

        pub joined_step : (d : List ℕ) → joined_moves d (left_at place bs k) ≡ part p s d ++ joined_moves d (left_at place bs (k + 1))
        unfolding joined_moves
        joined_step d = rw (step, ep, es)

        module _ (d : List ℕ) (full : length d ≡ dictionary_length) where
          pub value_sized : length (part p s d) ≡ s
          value_sized = sized_part p s d (rw full move_fits.0)

          pub longer : bytes_left d bs place k ≡ s + bytes_left d bs place (k + 1)
          longer = rw (joined_step d, length-append, value_sized)

        pub legal_step : (at : ℕ) (xs : List ℕ) →
            moves_legal (left_at place bs k) (drop at xs)
            ≡ (is_legal p (value (part at s xs)) && moves_legal (left_at place bs (k + 1)) (drop (at + s) xs))
        unfolding moves_legal
        legal_step at xs = rw (step, ep, es, drop-drop)

        pub store_step : (at : ℕ) (xs d : List ℕ) →
            stored_moves (left_at place bs k) (drop at xs) d
            ≡ stored_moves (left_at place bs (k + 1)) (drop (at + s) xs) (sets d p (bytes s (value (part at s xs))))
        unfolding stored_moves
        store_step at xs d = rw (step, ep, es, ← drop-drop (move_of v).size at xs)

-- ---- of the plan of a PDO

pub plan_is : {bs : List ℕ} {p place : ℕ} → PlanFits bs p → place ≡ plan_place p → plan_in bs p ≡ plan_at place bs
plan_is {bs} {p} f e = plan_stands bs p f.number ∙ rw e

pub begun : {bs : List ℕ} {p place : ℕ} → PlanFits bs p → place ≡ plan_place p → Reached bs place (place + 1) 0
begun {bs} {p} {place} f e = none_reached bs place (rw (plan_is f e) at f.fits)
