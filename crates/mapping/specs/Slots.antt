-- The mapping words of a PDO, and the moves that they name.
-- Assumes nothing.
use Rattle.std.specs.Prelude.{ℕ, zero, suc, ◌+◌, List, [], ◌∷◌, map}
use Rattle.rules_dictionary.specs.declared.Move.{Move}
use Rattle.rules_dictionary.specs.Numbers.{value, part, padded}
use Rattle.rules_dictionary.specs.Table.{Direction, most_moves}
use Rattle.rules_dictionary.specs.Plans.{no_move}
use Rattle.mapping.specs.Words.{word_move}

-- so many words of four bytes, one after another from a place on
unfoldable pub words_from : ℕ → ℕ → List ℕ → List ℕ
words_from zero place d = []
words_from (suc n) place d = value (part place 4 d) ∷ words_from n (place + 4) d

-- the moves that so many words from a place on name, then spare slots
unfoldable pub moves_named : Direction → ℕ → ℕ → List ℕ → List Move
moves_named way n place d = padded no_move most_moves (map (word_move way) (words_from n place d))
