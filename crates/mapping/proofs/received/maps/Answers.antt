-- `mapping::received::maps` meets its contract: the words of the plan's moves are tested one after another. Assumes nothing.
use Rattle.std.proofs.Common.{rules, tests, ◌≡◌, ℕ, List, [], ◌∷◌, eqb, map, ◌||◌}
use mathlib.Core.Path.{refl, ap, ◌∙◌}
use Rattle.std.specs.List.{list_any}
use Rattle.std.proofs.lemmas.Iterator.Consumers.{YieldsList-from_first}
use Rattle.std.proofs.lemmas.Iterator.Search.{any_from_yields_List}
use Rattle.form.specs.Form.{move_of}
use Rattle.mapping.specs.Slots.{words_from}
use Rattle.mapping.specs.Received.{has_place}
use Rattle.mapping.proofs.received.maps.Goals as goal

place_among : (place : ℕ) (ws : List ℕ) → list_any (λ w. eqb (move_of w).place place) ws ≡ has_place place (map move_of ws)
place_among place [] = refl
place_among place (w ∷ ws) = ap (λ b. eqb (move_of w).place place || b) (place_among place ws)

pub returns : goal.returns
returns c =
    let place = c.args.place in
    let ms = c.moves_in.result in
    any_from_yields_List
    (λ w. eqb (move_of w).place place) c.any.new.self _ c.any.result c.any.ensures.ran
    (YieldsList-from_first (λ x. x) (λ s. words_from s.left s.spot s.state.now) (words_from ms.left ms.spot ms.state.now) refl)
    (λ x b q d. search (rules, tests))
    ∙ place_among place (words_from ms.left ms.spot ms.state.now)
    ∙ ap (has_place place) c.moves_in.ensures.moves
