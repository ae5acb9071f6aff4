-- The dictionary stays sound when a row is written with a value that it may hold, and two dictionaries that agree on the rows of the PDOs have
-- the same mappings, plans, working PDOs and legal values.
-- Assumes nothing.
use Rattle.theorems.proofs.Words.{ℕ, ◌^◌, ◌<◌, arith, ◌≡◌, refl, sym, ◌∙◌, subst, ap, ap₂, ◌⊎◌, inl, inr, Bool, true, false, not, ◌&&◌, ◌||◌}
use Rattle.theorems.proofs.Words.{Bool·beq, map, List, [], ◌∷◌, eq-eqb, eqb-true, ltb-true, eqb, ltb, get_or, length, take, drop, Role, Plain}
use Rattle.theorems.proofs.Words.{MinimumLimit, MaximumLimit, ModeOfOperation, PdoIdentifier, PdoType, MappingCount, MappingEntry, PdoData}
use Rattle.theorems.proofs.Words.{NmtState, In, here, there, apart, found_in, is_good_lem, each_in, and_left, and_right, and_both, all_in, within}
use Rattle.theorems.proofs.Words.{same_or_apart, read_apart, read_same, all_of, unpacked_table, words_read, pdo_in, identifier_in, count_in_lem}
use Rattle.theorems.proofs.Words.{entry_in, type_in, clash, or_false_left, or_false_right, or_both_false, and_false_if, and_then_false}
use Rattle.theorems.proofs.Words.{not-true, any_false_in, any_false_of, eqb_comm, either, implied, implies}
use borrow.Author.Tests.{not-false}
use Rattle.rules_dictionary.specs.Numbers.{bit, between, any, all, value}
use Rattle.rules_dictionary.specs.Table.{pdos, direction_of, Row, table, size_of, dictionary_length, is_constant, identifier, map_count, map_entry}
use Rattle.rules_dictionary.specs.Table.{map_slots, transmission_type, minimum_position, maximum_position, open_table}
use Rattle.rules_dictionary.specs.Legal.{bad_identifier, clashes, is_valid, frame_identifier, reserved_bits, transmits, transmit_bit, first_identifier}
use Rattle.rules_dictionary.specs.Legal.{last_identifier, entry_verdict, count_verdict, map_words, identifiers, value_verdict, other_bad_value}
use Rattle.rules_dictionary.specs.Legal.{in_order, swaps_limits, mapping_verdict, may_hold, bad_choice, is_below, is_above}
use Rattle.rules_dictionary.specs.Values.{Write, write, read, store, default_of, unpacked}
use Rattle.rules_dictionary.specs.{Aborts.good, Aborts.is_good, Aborts.first_firing, Plans.targets, Plans.mapped}
use Rattle.theorems.proofs.GoodValues.{in_range, GoodValue, good_value, value_good, good_range}
use Rattle.rules.specs.Sound.{constants_as_listed, values_legal, dictionary_sound, held_sound}
use Rattle.rules_services.specs.PdoTraffic.{works, type_of, are_legal}

-- the eight PDOs are 0 to 7 in order
pub of_pdo_lem {ℓ} : {A : Type ℓ} (f : ℕ → A) (z : A) {p : ℕ} → In p pdos → get_or (map f pdos) p z ≡ f p
of_pdo_lem f z i = each_in (λ p. get_or (map f pdos) p z ≡ f p) i (refl, (refl, (refl, (refl, (refl, (refl, (refl, (refl, tt))))))))

-- what a word must be by itself
unfoldable pub bad_alone : ℕ → ℕ → Bool
bad_alone p w =
    not (Bool·beq (bit transmit_bit w) (transmits (direction_of p)))
    || not (eqb (reserved_bits w) 0)
    || (is_valid w && not (between first_identifier last_identifier (frame_identifier w)))

-- a word is legal for PDO p among the others' words f: alone, and against each other valid one
pub record Fits (f : ℕ → ℕ) (p w : ℕ) : Type 0 where
  pub alone : bad_alone p w ≡ false
  pub unlike : {q : ℕ} → In q pdos → eqb q p ≡ false → is_valid w ≡ true → is_valid (f q) ≡ true →
      eqb (frame_identifier w) (frame_identifier (f q)) ≡ false

module _ (f : ℕ → ℕ) {p : ℕ} (w : ℕ) (i : In p pdos) where
  pub fits : bad_identifier (map f pdos) p w ≡ false → Fits f p w
  unfolding bad_identifier bad_alone clashes
  fits h =
      let ws = map f pdos in
      let front = or_false_left (bad_alone p w || (is_valid w && any (clashes ws p w) pdos)) _ h in
      record {
        alone = or_false_left (bad_alone p w) _ front;
        unlike = λ {q} j other valid valid'.
            let none = and_then_false (is_valid w) _ (or_false_right (bad_alone p w) _ front) valid in
            let q_free = any_false_in (clashes ws p w) j none in
            let free = subst (λ (v : ℕ). (not (eqb q p) && is_valid v && eqb (frame_identifier w) (frame_identifier v)) ≡ false) (of_pdo_lem f 0 j) q_free in
            and_then_false (not (eqb q p) && is_valid (f q)) _ free (and_both (not (eqb q p)) (is_valid (f q)) (rw other) valid');
      }

  pub fits_back : Fits f p w → f p ≡ w → bad_identifier (map f pdos) p w ≡ false
  unfolding bad_identifier bad_alone clashes
  fits_back g e =
      let ws = map f pdos in
      let self : eqb w (get_or ws p 0) ≡ true = eq-eqb w _ (sym (of_pdo_lem f 0 i ∙ e)) in
      or_both_false _ _
      (or_both_false (bad_alone p w) _ g.alone
      (and_false_if (is_valid w) _ (λ valid. any_false_of (clashes ws p w) pdos (λ q j. free q j valid))))
      (and_false_if (is_valid w && is_valid (get_or ws p 0)) (not (eqb w (get_or ws p 0))) (λ valid. rw self))
    where
      free : (q : ℕ) → In q pdos → is_valid w ≡ true → clashes (map f pdos) p w q ≡ false
      free q j valid =
          subst (λ (v : ℕ). (not (eqb q p) && is_valid v && eqb (frame_identifier w) (frame_identifier v)) ≡ false) (sym (of_pdo_lem f 0 j))
          (and_false_if (not (eqb q p) && is_valid (f q)) _ (λ h.
          g.unlike j (not-true (eqb q p) (and_left (not (eqb q p)) (is_valid (f q)) h)) valid (and_right (not (eqb q p)) (is_valid (f q)) h)))

-- THE LAW: f are the words before and g those after, of which one at most is another, and that one is legal beside those before
module _ (f g : ℕ → ℕ) (legal : (q : ℕ) → In q pdos → bad_identifier (map f pdos) q (f q) ≡ false)
    (change : (q : ℕ) → In q pdos →
    (g q ≡ f q) ⊎ ((bad_identifier (map f pdos) q (g q) ≡ false) × ((r : ℕ) → In r pdos → (g r ≡ f r) ⊎ (r ≡ q)))) where
  -- each word fits those before, and against each word after it stands as it stood, or as the new one does
  stays : {q : ℕ} (j : In q pdos) → Fits f q (g q) → ((r : ℕ) → In r pdos → eqb r q ≡ false → (g r ≡ f r) ⊎ ((g q ≡ f q) × Fits f r (g r))) →
      Fits g q (g q)
  stays {q} j own others =
      record {
        alone = own.alone;
        unlike = λ {q = r} k other valid valid'. elim (others r k other) [
          | inl s ↦ rw s (own.unlike k other valid (rw s at valid'))
          | inr s ↦ rw s.0
              (eqb_comm (frame_identifier (f q)) (frame_identifier (g r)) ∙ s.1.unlike j (eqb_comm q r ∙ other) valid' (rw s.0 at valid))
        ];
      }

  pub identifiers_stay : (q : ℕ) (j : In q pdos) → bad_identifier (map g pdos) q (g q) ≡ false
  identifiers_stay q j =
      fits_back g (g q) j
      (elim (change q j) [
        | inl e ↦ stays j (rw e (fits f (f q) j (legal q j)))
            (λ r k other. elim (change r k) [ inl s ↦ inl s | inr s ↦ inr (e, fits f (g r) k s.0) ])
        | inr c ↦ stays j (fits f (g q) j c.0) (λ r k other. elim (c.1 r k) [ inl s ↦ inl s | inr s ↦ clash (eqb r q) (eq-eqb r q s) other ])
      ]) refl

-- ---- the clauses, row by row

pub record DictionaryOk (n : ℕ) (d : List ℕ) : Type 0 where
  pub listed : (x : Row) → In x table → is_constant x.access ≡ true → read d x ≡ default_of n x
  pub ranged : (x : Row) → In x table → in_range x (read d x) ≡ true
  pub words : (p k : ℕ) → In p pdos → In k map_slots → is_good (entry_verdict p (read d (map_entry p k))) ≡ true
  pub counts : (p : ℕ) → In p pdos → is_good (count_verdict (map_words d p) (read d (map_count p))) ≡ true
  pub named : (p : ℕ) → In p pdos → bad_identifier (identifiers d) p (read d (identifier p)) ≡ false
  pub ordered : in_order (read d minimum_position) (read d maximum_position) ≡ true

all_map : {A B : Type 0} (f : B → Bool) (g : A → B) (xs : List A) → all f (map g xs) ≡ all (λ x. f (g x)) xs
all_map f g [] = refl
all_map f g (x ∷ xs) = ap (λ (b : Bool). f (g x) && b) (all_map f g xs)

-- a test of every value, as a test of every row
pub of_values : (f : Write → Bool) (d : List ℕ) → all f (unpacked table d) ≡ all (λ x. f (write x (read d x))) table
of_values f d = rw unpacked_table (all_map f (λ x. write x (read d x)) table)

-- the clauses of a row, taken apart: it is not above its range, and no bad choice
module _ {n : ℕ} {d : List ℕ} (ok : DictionaryOk n d) {x : Row} (i : In x table) where
  pub not_above_lem : is_above x (read d x) ≡ false
  unfolding in_range
  not_above_lem =
      let v = read d x in
      not-true _ (and_right (not (is_below x v)) _ (and_left (not (is_below x v) && not (is_above x v)) (not (bad_choice x.role v)) (ok.ranged x i)))

  pub well_chosen : bad_choice x.role (read d x) ≡ false
  unfolding in_range
  well_chosen = let v = read d x in not-true _ (and_right (not (is_below x v) && not (is_above x v)) _ (ok.ranged x i))

-- the words of a PDO's mapping are legal, all eight or one by one
words_tested : {p : ℕ} (d : List ℕ) → In p pdos →
    all (λ w. is_good (entry_verdict p w)) (map_words d p) ≡ all (λ k. is_good (entry_verdict p (read d (map_entry p k)))) map_slots
words_tested {p} d i = rw (words_read d i) (all_map (λ w. is_good (entry_verdict p w)) (λ k. read d (map_entry p k)) map_slots)

pub word_legal : {p k : ℕ} (d : List ℕ) → In p pdos → In k map_slots → all (λ w. is_good (entry_verdict p w)) (map_words d p) ≡ true →
    is_good (entry_verdict p (read d (map_entry p k))) ≡ true
word_legal {p} d i j h = all_in (λ k. is_good (entry_verdict p (read d (map_entry p k)))) j (sym (words_tested d i) ∙ h)

pub words_legal : {n : ℕ} {d : List ℕ} → DictionaryOk n d → {p : ℕ} → In p pdos → all (λ w. is_good (entry_verdict p w)) (map_words d p) ≡ true
words_legal {d = d} ok {p} i =
    words_tested d i ∙ all_of (λ k. is_good (entry_verdict p (read d (map_entry p k)))) map_slots (λ k j. ok.words p k i j)

-- ---- rows, found by their role

-- a PDO's row belongs to one of the eight
abbrev pub of_pdo : Role → Bool
of_pdo Plain = true
of_pdo ModeOfOperation = true
of_pdo MinimumLimit = true
of_pdo MaximumLimit = true
of_pdo (PdoIdentifier p) = ltb p 8
of_pdo (PdoType p) = ltb p 8
of_pdo (MappingCount p) = ltb p 8
of_pdo (MappingEntry p) = ltb p 8

pub pdo_of_lem : {x : Row} {p : ℕ} → In x table → of_pdo x.role ≡ ltb p 8 → In p pdos
unfolding table
pdo_of_lem {x} {p} i e = pdo_in p (ltb-true p 8 (sym e ∙ all_in (λ x. of_pdo x.role) i refl))

-- a row that has the role of a limit, of an identifier, of a count or of an entry is the row of that name: it stands nowhere else
abbrev is_at_home : Row → Role → Bool
is_at_home x Plain = true
is_at_home x ModeOfOperation = true
is_at_home x MinimumLimit = not (apart x minimum_position)
is_at_home x MaximumLimit = not (apart x maximum_position)
is_at_home x (PdoIdentifier p) = not (apart x (identifier p))
is_at_home x (PdoType p) = true
is_at_home x (MappingCount p) = not (apart x (map_count p))
is_at_home x (MappingEntry p) = not (apart x (map_entry p x.subindex)) && any (eqb x.subindex) map_slots

home_test : all (λ x. is_at_home x x.role) table ≡ true
unfolding open_table
home_test = refl

at_home : {x : Row} → In x table → (r : Role) → x.role ≡ r → is_at_home x r ≡ true
at_home {x} i r e = subst (λ (q : Role). is_at_home x q ≡ true) e (all_in (λ x. is_at_home x x.role) i home_test)

not_apart : {x y : Row} → In x table → In y table → not (apart x y) ≡ true → y ≡ x
not_apart {x} {y} i j h = elim (same_or_apart i j) [ inl e ↦ sym e | inr a ↦ clash (apart x y) a (not-true _ h) ]

pub minimum_in : In minimum_position table
unfolding open_table
minimum_in = found_in 0x607D 1 refl

pub maximum_in : In maximum_position table
unfolding open_table
maximum_in = found_in 0x607D 2 refl

any_in : (k : ℕ) (xs : List ℕ) → any (eqb k) xs ≡ true → In k xs
any_in k [] h = clash false h refl
any_in k (x ∷ xs) h =
    elim (either (eqb k x)) [
      | inl e ↦ subst (λ (z : ℕ). In k (z ∷ xs)) (eqb-true k x e) here
      | inr e ↦ there (any_in k xs (rw e at h))
    ]

-- ---- the test of a dictionary, and its clauses

-- what is asked of a constant
unfoldable pub listed : ℕ → Write → Bool
listed n w = not (is_constant w.row.access) || eqb w.value (default_of n w.row)

-- .. and so it is with each of them
pub constant_row : (n : ℕ) (d : List ℕ) → constants_as_listed n d ≡ true → {x : Row} → In x table → is_constant x.access ≡ true →
    read d x ≡ default_of n x
unfolding constants_as_listed listed
constant_row n d h {x} i k =
    eqb-true _ _ (implied (is_constant x.access) _ (all_in (λ x. listed n (write x (read d x))) i (sym (of_values (listed n) d) ∙ h)) k)

-- what is asked of every value
unfoldable rightful : List ℕ → Write → Bool
rightful d w = may_hold d w.row w.value

pub from_test : (n : ℕ) (d : List ℕ) → dictionary_sound n d ≡ true → DictionaryOk n d
unfolding dictionary_sound values_legal are_legal rightful other_bad_value swaps_limits mapping_verdict
from_test n d h =
    let value : (x : Row) → In x table → GoodValue d x (read d x) = λ x i.
    good_value d x (read d x) (is_good_lem _ (all_in (λ x. may_hold d x (read d x)) i
    (sym (of_values (rightful d) d) ∙ and_right (constants_as_listed n d) (values_legal d) h))) in
    record {
      listed = λ x i k. constant_row n d (and_left (constants_as_listed n d) (values_legal d) h) i k;
      ranged = λ x i. good_range d x (read d x) (value x i);
      words = λ p k i j. ap is_good (value (map_entry p k) (entry_in i j)).mapping;
      counts = λ p i. ap is_good (value (map_count p) (count_in_lem i)).mapping;
      named = λ p i. (value (identifier p) (identifier_in i)).choice;
      ordered = not-false _ (value minimum_position minimum_in).ordered;
    }

module _ {n : ℕ} {d : List ℕ} (ok : DictionaryOk n d) where
  -- what the role of a row asks of its value
  by_role : {x : Row} → In x table → (r : Role) → x.role ≡ r →
      (other_bad_value d r (read d x) ≡ false) × (swaps_limits d r (read d x) ≡ false) × (mapping_verdict d r (read d x) ≡ good)
  unfolding other_bad_value swaps_limits mapping_verdict
  by_role i Plain e = (refl, refl, refl)
  by_role {x} i ModeOfOperation e = (subst (λ (r : Role). bad_choice r (read d x) ≡ false) e (well_chosen ok i), refl, refl)
  by_role i MinimumLimit e = (
    refl,
    subst (λ (z : Row). not (in_order (read d z) (read d maximum_position)) ≡ false) (not_apart i minimum_in (at_home i MinimumLimit e))
        (rw ok.ordered),
    refl,
  )
  by_role i MaximumLimit e = (
    refl,
    subst (λ (z : Row). not (in_order (read d minimum_position) (read d z)) ≡ false) (not_apart i maximum_in (at_home i MaximumLimit e))
        (rw ok.ordered),
    refl,
  )
  by_role i (PdoIdentifier p) e =
      let j = pdo_of_lem i (ap of_pdo e) in (
        subst (λ (z : Row). bad_identifier (identifiers d) p (read d z) ≡ false) (not_apart i (identifier_in j) (at_home i (PdoIdentifier p) e))
            (ok.named p j),
        refl,
        refl,
      )
  by_role {x} i (PdoType p) e = (subst (λ (r : Role). bad_choice r (read d x) ≡ false) e (well_chosen ok i), refl, refl)
  by_role i (MappingCount p) e =
      let j = pdo_of_lem i (ap of_pdo e) in (
        refl,
        refl,
        is_good_lem _ (subst (λ (z : Row). is_good (count_verdict (map_words d p) (read d z)) ≡ true)
            (not_apart i (count_in_lem j) (at_home i (MappingCount p) e)) (ok.counts p j)),
      )
  by_role {x} i (MappingEntry p) e =
      let j = pdo_of_lem i (ap of_pdo e) in
      let k = x.subindex in
      let h = at_home i (MappingEntry p) e in
      let slot = any_in k map_slots (and_right (not (apart x (map_entry p k))) _ h) in (
        refl,
        refl,
        is_good_lem _ (subst (λ (z : Row). is_good (entry_verdict p (read d z)) ≡ true)
            (not_apart i (entry_in j slot) (and_left _ (any (eqb k) map_slots) h)) (ok.words p k j slot)),
      )

  good_row : {x : Row} → In x table → GoodValue d x (read d x)
  unfolding in_range
  good_row {x} i =
      let v = read d x in
      let r = by_role i x.role refl in
      let range = and_left (not (is_below x v) && not (is_above x v)) (not (bad_choice x.role v)) (ok.ranged x i) in
      let low = not-true _ (and_left _ (not (is_above x v)) range) in
      record { not_below = low; not_above = not_above_lem ok i; choice = r.0; ordered = r.1; mapping = r.2 }

pub to_test : (n : ℕ) (d : List ℕ) → DictionaryOk n d → dictionary_sound n d ≡ true
unfolding dictionary_sound constants_as_listed values_legal are_legal listed rightful
to_test n d ok =
    rw (
      of_values (listed n) d,
      all_of (λ x. listed n (write x (read d x))) table (λ x i. implies (is_constant x.access) _ (λ k. eq-eqb _ _ (ok.listed x i k))),
      of_values (rightful d) d,
      all_of (λ x. may_hold d x (read d x)) table (λ x i. ap is_good (value_good d x (read d x) (good_row ok i))),
    )

-- ---- one write

-- the value is one that the row may hold, beside what the dictionary holds now
pub record MayHold (n : ℕ) (d : List ℕ) (x : Row) (v : ℕ) : Type 0 where
  pub fits : v < 256 ^ size_of x
  pub listed : is_constant x.access ≡ true → v ≡ default_of n x
  pub ranged : in_range x v ≡ true
  pub entry : (p : ℕ) → x.role ≡ MappingEntry p → (is_good (entry_verdict p v) ≡ true) × (read d (map_count p) ≡ 0)
  pub count : (p : ℕ) → x.role ≡ MappingCount p → is_good (count_verdict (map_words d p) v) ≡ true
  pub named : (p : ℕ) → x.role ≡ PdoIdentifier p → bad_identifier (identifiers d) p v ≡ false
  pub ordered : swaps_limits d x.role v ≡ false

pub map_same {ℓ κ} : {A : Type ℓ} {B : Type κ} (f g : A → B) (xs : List A) → ((x : A) → In x xs → f x ≡ g x) → map f xs ≡ map g xs
map_same f g [] h = refl
map_same f g (x ∷ xs) h = ap₂ ◌∷◌ (h x here) (map_same f g xs (λ y i. h y (there i)))

-- no mapping at all is legal, whatever the words
good_zero : (ws : List ℕ) → is_good (count_verdict ws 0) ≡ true
unfolding count_verdict first_firing
good_zero ws = refl

module _ (n : ℕ) (d : List ℕ) (x : Row) (v : ℕ) (here_in : In x table) (long : length d ≡ dictionary_length)
    (ok : DictionaryOk n d) (may : MayHold n d x v) where
  abbrev d' : List ℕ
  d' = store x v d

  -- a row after the write: it is the row written, or it stays
  after : (y : Row) → In y table → ((x ≡ y) × (read d' y ≡ v)) ⊎ (read d' y ≡ read d y)
  after y j =
      elim (same_or_apart here_in j) [
        | inl e ↦ inl (e, subst (λ (z : Row). read d' z ≡ v) e (read_same x v d (omega (arith, within here_in)) may.fits))
        | inr a ↦ inr (read_apart x y v d a)
      ]

  words_after : (p k : ℕ) → In p pdos → In k map_slots → is_good (entry_verdict p (read d' (map_entry p k))) ≡ true
  words_after p k i j =
      elim (after (map_entry p k) (entry_in i j)) [
        | inl s ↦ rw s.1 (may.entry p (ap (λ (z : Row). z.role) s.0)).0
        | inr s ↦ rw s (ok.words p k i j)
      ]

  -- the words stay where no entry of the PDO was written
  words_stay : (p : ℕ) → In p pdos → ((k : ℕ) → In k map_slots → x ≡ map_entry p k → ⊥) → map_words d' p ≡ map_words d p
  words_stay p i other =
      words_read d' i
      ∙ map_same (λ k. read d' (map_entry p k)) (λ k. read d (map_entry p k)) map_slots
      (λ k j. elim (after (map_entry p k) (entry_in i j)) [ inl s ↦ absurd (other k j s.0) | inr s ↦ s ])
      ∙ sym (words_read d i)

  counts_after : (p : ℕ) → In p pdos → is_good (count_verdict (map_words d' p) (read d' (map_count p))) ≡ true
  counts_after p i =
      elim (after (map_count p) (count_in_lem i)) [
        | inl s ↦ rw (words_stay p i (λ k j e. let z : ◌≡◌ {A = ℕ} 0 1 = cc (ap (λ (z : Row). z.role) (sym s.0 ∙ e)) in omega arith), s.1)
            (may.count p (ap (λ (z : Row). z.role) s.0))
        | inr s ↦ elim (either (eqb (read d (map_count p)) 0)) [
          | inl z ↦ rw (s, eqb-true (read d (map_count p)) 0 z) (good_zero (map_words d' p))
          | inr z ↦ rw (words_stay p i (λ k j e. clash _ (eq-eqb _ _ (may.entry p (ap (λ (z : Row). z.role) e)).1) z), s) (ok.counts p i)
        ]
      ]

  -- the identifiers: one of them is written, or all stay
  named_after : (q : ℕ) → In q pdos → bad_identifier (identifiers d') q (read d' (identifier q)) ≡ false
  unfolding identifiers
  named_after =
      identifiers_stay (λ q. read d (identifier q)) (λ q. read d' (identifier q)) ok.named
      (λ q j. elim (after (identifier q) (identifier_in j)) [
        | inl s ↦ inr (
          rw s.1 (may.named q (ap (λ (z : Row). z.role) s.0)),
          λ r k. elim (after (identifier r) (identifier_in k)) [
            | inl u ↦ inr (cc (ap (λ (z : Row). z.role) (sym u.0 ∙ s.0)))
            | inr u ↦ inl u
          ],
        )
        | inr s ↦ inl s
      ])

  -- the limits: one of them is written, or both stay
  ordered_after : in_order (read d' minimum_position) (read d' maximum_position) ≡ true
  unfolding swaps_limits
  ordered_after =
      let with : (y : Row) → x ≡ y → swaps_limits d y.role v ≡ false =
      λ y e. subst (λ (z : Row). swaps_limits d z.role v ≡ false) e may.ordered in
      elim (after minimum_position minimum_in) [
        | inl s ↦ elim (after maximum_position maximum_in) [
          | inl u ↦ let z : ◌≡◌ {A = ℕ} 1 2 = ap (λ (z : Row). z.subindex) (sym s.0 ∙ u.0) in absurd (omega arith)
          | inr u ↦ rw (s.1, u) (not-false _ (with minimum_position s.0))
        ]
        | inr s ↦ elim (after maximum_position maximum_in) [
          | inl u ↦ rw (s, u.1) (not-false _ (with maximum_position u.0))
          | inr u ↦ rw (s, u) ok.ordered
        ]
      ]

pub store_ok : (n : ℕ) (d : List ℕ) (x : Row) (v : ℕ) → In x table → length d ≡ dictionary_length → DictionaryOk n d → MayHold n d x v →
    DictionaryOk n (store x v d)
store_ok n d x v i l ok may =
    record {
      listed = λ y j k. elim (after n d x v i l ok may y j) [
        | inl s ↦ rw s.1 (subst (λ (z : Row). is_constant z.access ≡ true → v ≡ default_of n z) s.0 may.listed k)
        | inr s ↦ s ∙ ok.listed y j k
      ];
      ranged = λ y j. elim (after n d x v i l ok may y j) [
        | inl s ↦ rw s.1 (subst (λ (z : Row). in_range z v ≡ true) s.0 may.ranged)
        | inr s ↦ rw s (ok.ranged y j)
      ];
      words = words_after n d x v i l ok may;
      counts = counts_after n d x v i l ok may;
      named = named_after n d x v i l ok may;
      ordered = ordered_after n d x v i l ok may;
    }

-- the row is of a PDO
abbrev pub is_pdo : Role → Bool
is_pdo Plain = false
is_pdo ModeOfOperation = false
is_pdo MinimumLimit = false
is_pdo MaximumLimit = false
is_pdo (PdoIdentifier p) = true
is_pdo (PdoType p) = true
is_pdo (MappingCount p) = true
is_pdo (MappingEntry p) = true

-- the row is one of the limits
abbrev pub is_limit : Role → Bool
is_limit Plain = false
is_limit ModeOfOperation = false
is_limit MinimumLimit = true
is_limit MaximumLimit = true
is_limit (PdoIdentifier p) = false
is_limit (PdoType p) = false
is_limit (MappingCount p) = false
is_limit (MappingEntry p) = false

-- a row of the table, and none of the limits
abbrev pub FreeRow : Row → Type 0
FreeRow x = In x table × (is_limit x.role ≡ false)

-- the other rows have no order
pub no_order : (d : List ℕ) (v : ℕ) (r : Role) → is_limit r ≡ false → swaps_limits d r v ≡ false
unfolding swaps_limits
no_order d v Plain h = refl
no_order d v ModeOfOperation h = refl
no_order d v MinimumLimit h = clash true refl h
no_order d v MaximumLimit h = clash true refl h
no_order d v (PdoIdentifier p) h = refl
no_order d v (PdoType p) h = refl
no_order d v (MappingCount p) h = refl
no_order d v (MappingEntry p) h = refl

-- ---- two dictionaries

module _ (d d' : List ℕ) (alike : (y : Row) → In y table → is_pdo y.role ≡ true → read d' y ≡ read d y) where
  pub identifiers_alike : identifiers d' ≡ identifiers d
  unfolding identifiers
  identifiers_alike = map_same (λ p. read d' (identifier p)) (λ p. read d (identifier p)) pdos (λ p i. alike (identifier p) (identifier_in i) refl)

  pub words_alike : {p : ℕ} → In p pdos → map_words d' p ≡ map_words d p
  words_alike {p} i =
      words_read d' i ∙ map_same (λ k. read d' (map_entry p k)) (λ k. read d (map_entry p k)) map_slots (λ k j. alike (map_entry p k) (entry_in i j) refl)
      ∙ sym (words_read d i)

  pub count_alike : {p : ℕ} → In p pdos → read d' (map_count p) ≡ read d (map_count p)
  count_alike {p} i = alike (map_count p) (count_in_lem i) refl

  pub mapped_alike : {p : ℕ} → In p pdos → mapped d' p ≡ mapped d p
  unfolding mapped
  mapped_alike i = ap₂ (λ (n : ℕ) (ws : List ℕ). targets (take n ws)) (count_alike i) (words_alike i)

  pub works_alike : (m : NmtState) {p : ℕ} → In p pdos → works m d' p ≡ works m d p
  unfolding works
  works_alike m {p} i = rw (alike (identifier p) (identifier_in i) refl, count_alike i)

  pub type_alike : {p : ℕ} → In p pdos → type_of d' p ≡ type_of d p
  type_alike {p} i = alike (transmission_type p) (type_in i) refl

  pub other_alike : (v : ℕ) (r : Role) → other_bad_value d' r v ≡ other_bad_value d r v
  unfolding other_bad_value
  other_alike v Plain = refl
  other_alike v ModeOfOperation = refl
  other_alike v MinimumLimit = refl
  other_alike v MaximumLimit = refl
  other_alike v (PdoIdentifier p) = rw identifiers_alike
  other_alike v (PdoType p) = refl
  other_alike v (MappingCount p) = refl
  other_alike v (MappingEntry p) = refl

  pub mapping_alike : {x : Row} → In x table → (v : ℕ) (r : Role) → x.role ≡ r → mapping_verdict d' r v ≡ mapping_verdict d r v
  unfolding mapping_verdict
  mapping_alike i v Plain e = refl
  mapping_alike i v ModeOfOperation e = refl
  mapping_alike i v MinimumLimit e = refl
  mapping_alike i v MaximumLimit e = refl
  mapping_alike i v (PdoIdentifier p) e = refl
  mapping_alike i v (PdoType p) e = refl
  mapping_alike i v (MappingCount p) e = rw (words_alike (pdo_of_lem i (ap of_pdo e)))
  mapping_alike i v (MappingEntry p) e = refl

  verdict_alike : (x : Row) → FreeRow x → (v : ℕ) → value_verdict d' x v ≡ value_verdict d x v
  unfolding value_verdict
  verdict_alike x f v =
      rw (other_alike v x.role, no_order d' v x.role f.1, no_order d v x.role f.1, mapping_alike f.0 v x.role refl)

  legal_alike : (xs : List Row) (bs : List ℕ) → ((x : Row) → In x xs → FreeRow x) → are_legal d' (unpacked xs bs) ≡ are_legal d (unpacked xs bs)
  unfolding are_legal unpacked
  legal_alike [] bs h = refl
  legal_alike (x ∷ xs) bs h =
      ap₂ ◌&&◌ (ap is_good (verdict_alike x (h x here) (value (take (size_of x) bs)))) (legal_alike xs (drop (size_of x) bs) (λ y i. h y (there i)))

  pub held_alike : (m : NmtState) {p : ℕ} → In p pdos → ((x : Row) → In x (mapped d p) → FreeRow x) → (f : PdoData) →
      held_sound m d' p f ≡ held_sound m d p f
  unfolding held_sound
  held_alike m {p} i free f = rw (works_alike m i, type_alike i, mapped_alike i, legal_alike (mapped d p) f.bytes free)
