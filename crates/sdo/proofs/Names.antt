-- The identifiers of the PDOs, one after another.
-- Assumes nothing.
use Rattle.std.proofs.Common.{◌≡◌, ℕ, zero, suc, ◌+◌, ◌*◌, ◌<◌, Bool, true, false, not, ◌&&◌, ◌||◌, eqb, List, [], ◌∷◌, map, length, get_or, drop}
use Rattle.std.proofs.Common.{refl, ◌∙◌, add-one, arith, drop-cons}
use mathlib.Core.Bool.{beq}
use borrow.Author.Tests.{eqb-true}
use Rattle.rules_dictionary.specs.Numbers.{any}
use Rattle.rules_dictionary.specs.Table.{each_way, pdos, identifier}
use Rattle.rules_dictionary.specs.Values.{read}
use Rattle.rules_dictionary.specs.Legal.{is_valid, identifiers, clashes, bad_identifier}
use Rattle.rules_dictionary.proofs.Tests.{below}
use Rattle.dictionary.specs.Sizes.{IsPdo}
use Rattle.sdo.specs.Verdicts.{ill_formed, outside, takes}

-- bit 30 is 0 for receive, 1 for transmit
pub receives : (b r : Bool) → (b || r) ≡ (not (beq b false) || r)
receives true r = refl
receives false r = refl

pub transmits : (b r : Bool) → (not b || r) ≡ (not (beq b true) || r)
transmits true r = refl
transmits false r = refl

get_or_mapped : (f : ℕ → ℕ) (xs : List ℕ) (q z : ℕ) → q < length xs → get_or (map f xs) q z ≡ f (get_or xs q z)
get_or_mapped f [] q z h = absurd (omega arith)
get_or_mapped f (x ∷ xs) zero z h = refl
get_or_mapped f (x ∷ xs) (suc q) z h = get_or_mapped f xs q z (omega arith)

-- the PDOs are numbered in order
is_pdo_lem : (q : ℕ) → IsPdo q → get_or pdos q 0 ≡ q
is_pdo_lem q h = eqb-true _ _ (below (λ k. eqb (get_or pdos k 0) k) (2 * each_way) q refl h)

-- the word of a PDO is what stands in its row
word_of : (d : List ℕ) (q : ℕ) → IsPdo q → get_or (identifiers d) q 0 ≡ read d (identifier q)
unfolding identifiers
word_of d q h = get_or_mapped (λ p. read d (identifier p)) pdos q 0 h ∙ rw (is_pdo_lem q h)

-- one PDO after another
pub next_pdo : (d : List ℕ) (p w q : ℕ) → IsPdo q →
    any (clashes (identifiers d) p w) (drop q pdos)
    ≡ (takes p q w (read d (identifier q)) || any (clashes (identifiers d) p w) (drop (q + 1) pdos))
unfolding clashes
next_pdo d p w q h = rw (drop-cons pdos q 0 h, is_pdo_lem q h, word_of d q h, add-one q)

-- ---- the tests in the order of the code

regroup : (f v o t v' n : Bool) → (f || (v && o) || (v && t) || (v && v' && n)) ≡ (f || (v && (o || t || (v' && n))))
regroup true v o t v' n = refl
regroup false true o t v' n = refl
regroup false false o t v' n = refl

pub in_order : (d : List ℕ) (p w : ℕ) → IsPdo p →
    bad_identifier (identifiers d) p w
    ≡ (ill_formed p w
    || (is_valid w
    && (outside w || any (clashes (identifiers d) p w) pdos || (is_valid (read d (identifier p)) && not (eqb w (read d (identifier p)))))))
unfolding bad_identifier
in_order d p w h =
    rw (word_of d p h)
    (regroup (ill_formed p w) (is_valid w) (outside w) (any (clashes (identifiers d) p w) pdos)
    (is_valid (read d (identifier p))) (not (eqb w (read d (identifier p)))))
