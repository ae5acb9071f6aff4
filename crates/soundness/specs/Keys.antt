-- Document 01, 'SDO': PDO identifiers, each word as a key: legal words have legal keys, and no two words clash where no two keys are alike.
-- Assumes nothing.
use Rattle.std.specs.Prelude.{ℕ, ◌+◌, ◌-◌, ◌*◌, ◌^◌, List, [], ◌∷◌, Bool, true, cond, not, ◌&&◌, eqb, ltb}
use Rattle.rules_dictionary.specs.Numbers.{all, between}
use Rattle.rules_dictionary.specs.Table.{pdos, direction_of, by_direction, identifier}
use Rattle.rules_dictionary.specs.Values.{read}
use Rattle.rules_dictionary.specs.Legal.{invalid_bit, transmit_bit, identifier_bits, first_identifier, last_identifier, identifiers, bad_identifier}

-- "PDO identifiers legal": each word is one that its PDO may have beside the others
unfoldable pub identifiers_legal : List ℕ → Bool
identifiers_legal d = all (λ p. not (bad_identifier (identifiers d) p (read d (identifier p)))) pdos

-- bit 30 in a word
abbrev pub transmit_way : ℕ
transmit_way = 2 ^ transmit_bit

abbrev pub way_of : ℕ → ℕ
way_of p = by_direction (direction_of p) 0 transmit_way

-- the key of an illegal word
abbrev pub illegal_key : ℕ
illegal_key = 2 * 2 ^ identifier_bits

-- the first identifier past the eleven bits' last
abbrev pub past_last : ℕ
past_last = 2 ^ identifier_bits

-- of a valid word the identifier from the first one on, of an invalid one a number of its PDO's own
unfoldable pub word_key : ℕ → ℕ → ℕ → ℕ
word_key way p w =
    cond (between (way + first_identifier) (way + last_identifier) w)
    (w - (way + first_identifier))
    (cond (between (way + 2 ^ invalid_bit) (way + 2 ^ invalid_bit + (past_last - 1)) w) (past_last + p) illegal_key)

-- the key of a PDO
unfoldable pub key_in : List ℕ → ℕ → ℕ
key_in d p = word_key (way_of p) p (read d (identifier p))

abbrev pub is_other : ℕ → ℕ → Bool
is_other x y = not (eqb x y)

abbrev pub is_legal_key : ℕ → Bool
is_legal_key k = ltb k illegal_key

-- no two keys are alike
unfoldable pub distinct : List ℕ → Bool
distinct [] = true
distinct (k ∷ ks) = all (is_other k) ks && distinct ks

-- no key is one of the others
abbrev pub are_apart : List ℕ → List ℕ → Bool
are_apart ks others = all (λ k. all (is_other k) others) ks

-- the keys of a direction
abbrev pub four : ℕ → ℕ → ℕ → ℕ → List ℕ
four a b c d = a ∷ b ∷ c ∷ d ∷ []
