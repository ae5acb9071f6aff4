-- The words of a plan's moves, one after another.
-- Assumes nothing.
use Prim.Native.Nat.{ℕ, zero, suc, ◌+◌, ◌-◌, ◌<◌, ◌≤◌}
use native.Mathlib.Omega.{arith}
use mathlib.Core.Path.{◌≡◌, refl, ap}
use mathlib.Core.List.{List, [], ◌∷◌, map}
use Rattle.rules_dictionary.specs.Numbers.{value, part, bytes}
use Rattle.rules_dictionary.specs.declared.Move.{Move}
use Rattle.rules_dictionary.specs.Table.{most_moves}
use Rattle.form.specs.Form.{move_of, plan_at, each, move_at}
use Rattle.rules_dictionary.specs.declared.Plan.{Plan}
use Rattle.rules_dictionary.specs.Plans.{no_move}
use Rattle.mapping.specs.Moves.{MoveFits, MovesFit}
use Rattle.mapping.specs.Slots.{words_from}
use Rattle.mapping.specs.Received.{moves_of, sizes, is_legal, moves_legal, stored_moves}
use mathlib.Core.Bool.{true, ◌&&◌}
use lib.Seq.{drop-drop, sets}
use lib.ListN.{take, drop, get_or}

pub no_words : (n place : ℕ) (d : List ℕ) → n ≡ 0 → words_from n place d ≡ []
unfolding words_from
no_words n place d e = rw e

pub words_step : (n place : ℕ) (d : List ℕ) → 0 < n → words_from n place d ≡ value (part place 4 d) ∷ words_from (n - 1) (place + 4) d
unfolding words_from
words_step zero place d h = absurd (omega arith)
words_step (suc n) place d h = let e : suc n - 1 ≡ n = omega arith in rw e

words_moves : (n m place : ℕ) (bs : List ℕ) → n ≤ m → map move_of (words_from n place bs) ≡ take n (each m place 4 (λ i. move_at i bs))
unfolding words_from move_at
words_moves zero m place bs h = refl
words_moves (suc n) zero place bs h = absurd (omega arith)
words_moves (suc n) (suc m) place bs h =
    ap (λ (ms : List Move). move_of (value (part place 4 bs)) ∷ ms) (words_moves n m (place + 4) bs (omega arith))

pub plan_words : (place : ℕ) (bs : List ℕ) → get_or bs place 0 ≤ most_moves →
    map move_of (words_from (get_or bs place 0) (place + 1) bs) ≡ moves_of (plan_at place bs)
unfolding plan_at
plan_words place bs h = words_moves (get_or bs place 0) most_moves (place + 1) bs h

-- each of them is a value of the dictionary
abbrev pub EachFits : List Move → Type 0
EachFits [] = Unit
EachFits (m ∷ ms) = MoveFits m × EachFits ms

each_below : (n : ℕ) (ms : List Move) → ((i : ℕ) → i < n → MoveFits (get_or ms i no_move)) → EachFits (take n ms)
each_below zero ms f = tt
each_below (suc n) [] f = tt
each_below (suc n) (m ∷ ms) f = (f 0 (omega arith), each_below n ms (λ i h. f (suc i) (omega arith)))

pub each_fits : (plan : Plan) → MovesFit plan.moves plan.count → EachFits (moves_of plan)
each_fits plan f = each_below plan.count plan.moves f.each

-- the next move of those left, whose size and place the code takes out of its word
module _ {ms rest : List Move} {s : ℕ} (w : ℕ) (e : ms ≡ move_of w ∷ rest) (es : s ≡ (move_of w).size) where
  pub size_next : sizes ms ≡ s + sizes rest
  size_next = rw (e, es)

  module _ {p v : ℕ} (at : ℕ) (xs : List ℕ) (ep : p ≡ (move_of w).place) (ev : v ≡ value (part at s xs)) where
    pub legal_next : moves_legal ms (drop at xs) ≡ (is_legal p v && moves_legal rest (drop (at + s) xs))
    unfolding moves_legal
    legal_next = rw (e, ev, ep, es, drop-drop)

    pub store_next : (d : List ℕ) → stored_moves ms (drop at xs) d ≡ stored_moves rest (drop (at + s) xs) (sets d p (bytes s v))
    unfolding stored_moves
    store_next d = rw (e, ev, ep, es, ← drop-drop (move_of w).size at xs)

-- none is left
module _ {ms : List Move} (e : ms ≡ []) (xs : List ℕ) where
  pub legal_end : moves_legal ms xs ≡ true
  unfolding moves_legal
  legal_end = rw e

  pub store_end : (d : List ℕ) → stored_moves ms xs d ≡ d
  unfolding stored_moves
  store_end d = rw e
