-- The set-point that an answer asks for: where it stands among those held, how far it lies from the last taken target, and that one set-point starts
-- where the one before it ends.
-- Assumes nothing.
use lib.IntN.{ℤ, pos, negsuc, ◌+ℤ◌, ◌-ℤ◌, +ℤ_comm, +ℤ-neg_ℤ_cancel}
use lib.Signed.{le_z, mag}
use mir.Syntax.{w32}
use mir.Val.{of_z, SFits}
use mir.Facts.{to_z-of_z}
use Rattle.theorems.proofs.Words.{ℕ, ◌<◌, ◌^◌, arith, ◌≡◌, refl, sym, ◌∙◌, ap, subst, true, false, false≢true, List, [], ◌∷◌, ◌++◌, map, length, In}
use Rattle.theorems.proofs.Words.{Drive, Store, Empty, Rested, Moving, Queued, SetPoint, within, read_fits, and_left, and_right, whichever}
use Rattle.theorems.proofs.Words.{leb-true}
use Rattle.theorems.proofs.Dictionary.{minimum_in, maximum_in}
use Rattle.drive.proofs.Raised.{word_small}
use Rattle.rules_dictionary.specs.Table.{Row, table, size_of, dictionary_length, target_position, position, minimum_position}
use Rattle.rules_dictionary.specs.Table.{maximum_position, open_table}
use Rattle.rules_dictionary.specs.Numbers.{are_bytes, bit, integer}
use Rattle.rules_dictionary.specs.Values.{Write, read, stored}
use Rattle.drive.specs.SetPoints.{relative_bit, is_queued, behind, last_target, target, within_limits, set_point}
use Rattle.theorems.specs.Promises.{points}
use Rattle.theorems.specs.PromisesOfDrive.{acted}
use Rattle.feeder.specs.Feeding.{takes, Taking, newest, taking, far, taken_of}
use Rattle.feeder.specs.Promises.{Linked}

-- ---- the set-point that an answer asks for

-- what lies between two words is one
between_small : (k : ℕ) (low t high : ℤ) → mag low < k → mag high < k → le_z low t ≡ true → le_z t high ≡ true → mag t < k
between_small k low (pos n) (pos h) l m p q = omega (arith, leb-true n h q)
between_small k low (pos n) (negsuc h) l m p q = absurd (false≢true q)
between_small k (pos b) (negsuc n) high l m p q = absurd (false≢true p)
between_small k (negsuc b) (negsuc n) high l m p q = omega (arith, leb-true n b p)

module _ (d : List ℕ) (long : length d ≡ dictionary_length) (bytes : are_bytes d ≡ true) where
  limit_small : (x : Row) → In x table → size_of x ≡ 4 → mag (integer (read d x)) < 0x80000000
  limit_small x i four = word_small (read d x) (subst (λ (n : ℕ). read d x < 256 ^ n) four (read_fits x d bytes (omega (arith, within i, long))))

  pub inside_fits : (t : ℤ) → within_limits d t ≡ true → SFits w32 t
  unfolding within_limits open_table
  inside_fits t h =
      let low = integer (read d minimum_position) in
      let high = integer (read d maximum_position) in
      record {
        sfits = between_small 0x80000000 low t high (limit_small minimum_position minimum_in refl) (limit_small maximum_position maximum_in refl)
            (and_left (le_z low t) _ h) (and_right (le_z low t) (le_z t high) h);
      }

  -- it lies as far from the last taken target as the answer says
  pub far_is : (held : Store) (word : ℕ) (z : ℤ) → bit relative_bit word ≡ true → SFits w32 z → read d target_position ≡ of_z w32 z →
      within_limits d (target d word held) ≡ true → far (taking held d (set_point d (target d word held))) ≡ z
  unfolding target set_point
  far_is held word z relative fits aim inside =
      let from = integer (last_target (read d position) held) in
      let goal : target d word held ≡ from +ℤ z = rw relative (ap (λ (n : ℕ). from +ℤ integer n) aim ∙ ap (λ (y : ℤ). from +ℤ y) (to_z-of_z fits)) in
      ap (λ (y : ℤ). y -ℤ from) (to_z-of_z (inside_fits (target d word held) inside) ∙ goal ∙ +ℤ_comm from z) ∙ +ℤ-neg_ℤ_cancel z from

-- behind those held there is room, and there it stands last
pub stands_last : (held : Store) (p : SetPoint) → is_queued held ≡ false → newest (behind held p) ≡ p ∷ []
stands_last Empty p h = refl
stands_last (Rested t) p h = refl
stands_last (Moving a) p h = refl
stands_last (Queued a b) p h = absurd (false≢true (sym h))

pub stands_behind : (held : Store) (p : SetPoint) → is_queued held ≡ false → points (behind held p) ≡ points held ++ p ∷ []
stands_behind Empty p h = refl
stands_behind (Rested t) p h = refl
stands_behind (Moving a) p h = refl
stands_behind (Queued a b) p h = absurd (false≢true (sym h))

-- ---- from target to target

-- the two have one last taken target
abbrev pub SameLast : Store → Store → Type 0
SameLast a b = (p : ℕ) → last_target p a ≡ last_target p b

-- what was taken behind those held, as far as the last taken target goes
abbrev pub last_of : Store → List Taking → Store
last_of held [] = held
last_of held (t ∷ ts) = last_of (Moving t.point) ts

same_linked : (a b : Store) (ts : List Taking) → SameLast a b → Linked b ts → Linked a ts
unfolding Linked
same_linked a b [] e h = tt
same_linked a b (t ∷ ts) e h = (h.0 ∙ sym (e t.here), h.1)

pub linked_both : (held after : Store) (ts us : List Taking) → Linked held ts → SameLast after (last_of held ts) → Linked after us →
    Linked held (ts ++ us)
unfolding Linked
linked_both held after [] us h e k = same_linked held after us (λ p. sym (e p)) k
linked_both held after (t ∷ ts) us h e k = (h.0, linked_both (Moving t.point) after ts us h.1 e k)

same_last_of : (a b : Store) (ts : List Taking) → SameLast a b → SameLast (last_of a ts) (last_of b ts)
same_last_of a b [] e = e
same_last_of a b (t ∷ ts) e = λ p. refl

last_both : (held : Store) (ts us : List Taking) → last_of held (ts ++ us) ≡ last_of (last_of held ts) us
last_both held [] us = refl
last_both held (t ∷ ts) us = last_both (Moving t.point) ts us

pub last_on : (held after end : Store) (ts us : List Taking) → SameLast after (last_of held ts) → SameLast end (last_of after us) →
    SameLast end (last_of held (ts ++ us))
last_on held after end ts us e k p = k p ∙ same_last_of after (last_of held ts) us e p ∙ ap (last_target p) (sym (last_both held ts us))

pub stands_as_last : (held : Store) (p : SetPoint) → is_queued held ≡ false → SameLast (behind held p) (Moving p)
stands_as_last Empty p h q = refl
stands_as_last (Rested t) p h q = refl
stands_as_last (Moving a) p h q = refl
stands_as_last (Queued a b) p h q = absurd (false≢true (sym h))

-- one frame's values take from there
pub taken_linked : (ws : List Write) (v : Drive) (d : List ℕ) → Linked v.store (taken_of ws v d)
unfolding taken_of Linked
taken_linked ws v d = whichever (Linked v.store) (takes ws v d) (one (acted ws v d).store) tt
  where
    one : (s : Store) → Linked v.store (map (taking v.store (stored ws d)) (newest s))
    one Empty = tt
    one (Rested t) = tt
    one (Moving a) = (refl, tt)
    one (Queued a b) = (refl, tt)
