-- What a mapping word names: the rules' verdict on it and their look-up, by the objects that may be mapped.
-- Assumes nothing.
use Prim.Native.Nat.{ℕ, ◌+◌, ◌*◌, ◌/◌, ◌%◌, ◌^◌}
use native.Mathlib.Omega.{arith}
use mathlib.Core.Path.{◌≡◌, refl, sym, ◌∙◌, ap}
use mathlib.Core.Logic.{◌⊎◌, inl, inr}
use mathlib.Core.Bool.{Bool, true, false, cond, not, ◌&&◌, ◌||◌, false≢true, true≢false}
use mathlib.Core.List.{List, [], ◌∷◌, map}
use borrow.Author.Tests.{eqb-true, eqb-false, eq-eqb, ne_eqb, not-true}
use lib.Arith.{mod-mul}
use lib.Dec.{eqb, lit<}
use Rattle.rules_dictionary.specs.Numbers.{all, filter}
use Rattle.rules_dictionary.specs.Table.{Row, ValueType, u8, u16, u32, i8, i32, size, table, size_of, Direction, receive, transmit}
use Rattle.rules_dictionary.specs.Table.{direction_of, mapping_word, word_index, word_subindex, word_length}
use Rattle.rules_dictionary.specs.Table.{Found, found, the_name, no_object, no_subindex}
use Rattle.rules_dictionary.specs.Table.{lookup, open_table}
use Rattle.rules_dictionary.specs.Aborts.{good, bad, is_good, first_firing, not_mappable}
use Rattle.rules_dictionary.specs.Legal.{suits, target_verdict, entry_verdict}
use Rattle.rules_dictionary.specs.Plans.{move, no_move}
use Rattle.rules_dictionary.specs.Members.{In, here, there}
use Rattle.rules_dictionary.proofs.Tests.{and_left, and_right, all_in, or-none}
use Rattle.rules_dictionary.proofs.LookUp.{found_in, is_found}
use Rattle.rules_dictionary.proofs.Members.{map_in, filter_in}
use Rattle.mapping.specs.Words.{mappables, named, word_move, names_one}

-- ---- the objects that may be mapped, each by one computed test

-- they are those of the table
mappables_are : (way : Direction) → filter (λ x. suits way x.mappable) table ≡ mappables way
unfolding open_table
mappables_are receive = refl
mappables_are transmit = refl

-- each is found by its word, and by no other object's
lookups : (way : Direction) → map (λ x. lookup x.index x.subindex) (mappables way) ≡ map found (mappables way)
unfolding open_table
lookups receive = refl
lookups transmit = refl

moves : (way : Direction) → map (λ x. named (mapping_word x) (mappables way)) (mappables way) ≡ map move (mappables way)
unfolding named
moves receive = refl
moves transmit = refl

-- a word holds index, subindex and length of its row
sized_row : Direction → Row → Bool
sized_row way x =
    suits way x.mappable
    && (eqb (word_index (mapping_word x)) x.index
    && (eqb (word_subindex (mapping_word x)) x.subindex && (eqb (word_length (mapping_word x)) (8 * size_of x) && not (eqb (mapping_word x) 0))))

sized : (way : Direction) → all (sized_row way) (mappables way) ≡ true
unfolding sized_row
sized receive = refl
sized transmit = refl

-- ---- a word that names an object

-- the word's 32 bits are those of an object that may be mapped that way
pub record Names (way : Direction) (w : ℕ) (x : Row) : Type 0 where
  pub among : In x (mappables way)
  pub word : w % 2 ^ 32 ≡ mapping_word x

pub record Facts (way : Direction) (w : ℕ) (x : Row) : Type 0 where
  pub finds : lookup (word_index w) (word_subindex w) ≡ found x
  pub moves : word_move way w ≡ move x
  pub suited : suits way x.mappable ≡ true
  pub length : word_length w ≡ 8 * size_of x
  pub nonzero : w ≡ 0 → ⊥

low-index : (w v : ℕ) → w % 2 ^ 32 ≡ v → word_index w ≡ word_index v
low-index w v h = omega arith

low_subindex : (w v : ℕ) → w % 2 ^ 32 ≡ v → word_subindex w ≡ word_subindex v
low_subindex w v h = omega arith

low_length : (w v : ℕ) → w % 2 ^ 32 ≡ v → word_length w ≡ word_length v
low_length w v h = omega arith

pub facts : {way : Direction} {w : ℕ} {x : Row} → Names way w x → Facts way w x
unfolding sized_row word_move
facts {way} {w} {x} n =
    let v = mapping_word x in
    let s = all_in (sized_row way) n.among (sized way) in
    let a = and_right (suits way x.mappable) _ s in
    let b = and_right (eqb (word_index v) x.index) _ a in
    let c = and_right (eqb (word_subindex v) x.subindex) _ b in
    let i : word_index w ≡ x.index = low-index w v n.word ∙ eqb-true _ _ (and_left (eqb (word_index v) x.index) _ a) in
    let j : word_subindex w ≡ x.subindex = low_subindex w v n.word ∙ eqb-true _ _ (and_left (eqb (word_subindex v) x.subindex) _ b) in
    let l : word_length v ≡ 8 * size_of x = eqb-true _ _ (and_left (eqb (word_length v) (8 * size_of x)) _ c) in
    let z : mapping_word x ≡ 0 → ⊥ = eqb-false _ _ (not-true _ (and_right (eqb (word_length v) (8 * size_of x)) _ c)) in
    record {
      finds = rw (i, j) (map_in (λ y. lookup y.index y.subindex) found n.among (lookups way));
      moves = rw n.word (map_in (λ y. named (mapping_word y) (mappables way)) move n.among (moves way));
      suited = and_left (suits way x.mappable) _ s;
      length = low_length w v n.word ∙ l;
      nonzero = λ e. z (sym n.word ∙ ap (λ (k : ℕ). k % 2 ^ 32) e);
    }

-- a word names no object, or one
from_rows : (v : ℕ) (xs : List Row) → (named v xs ≡ no_move) ⊎ ((x : Row) × (In x xs × (v ≡ mapping_word x)))
unfolding named
from_rows v [] = inl refl
from_rows v (x ∷ xs) = go (eqb v (mapping_word x)) refl (from_rows v xs)
  where
    go : (b : Bool) → eqb v (mapping_word x) ≡ b → (named v xs ≡ no_move) ⊎ ((y : Row) × (In y xs × (v ≡ mapping_word y))) →
        (cond b (move x) (named v xs) ≡ no_move) ⊎ ((y : Row) × (In y (x ∷ xs) × (v ≡ mapping_word y)))
    go true e r = inr (x, (here, eqb-true v (mapping_word x) e))
    go false e (inl q) = inl q
    go false e (inr (y, (i, q))) = inr (y, (there i, q))

pub one_or_none : (way : Direction) (w : ℕ) → (word_move way w ≡ no_move) ⊎ ((x : Row) × Names way w x)
unfolding word_move
one_or_none way w = go (from_rows (w % 2 ^ 32) (mappables way))
  where
    go : (named (w % 2 ^ 32) (mappables way) ≡ no_move) ⊎ ((x : Row) × (In x (mappables way) × (w % 2 ^ 32 ≡ mapping_word x))) →
        (named (w % 2 ^ 32) (mappables way) ≡ no_move) ⊎ ((x : Row) × Names way w x)
    go (inl e) = inl e
    go (inr (x, (i, e))) = inr (x, record { among = i; word = e })

-- ---- the verdict on a word

low_bits : (w : ℕ) → w % 2 ^ 8 ≡ word_length w
low_bits w = omega arith

joins : (v a b c m k : ℕ) → v ≡ a * 2 ^ 16 + m → m ≡ b * 2 ^ 8 + c → c ≡ k → v ≡ a * 2 ^ 16 + b * 2 ^ 8 + k
joins v a b c m k e f g = omega arith

is_word : (w : ℕ) (x : Row) → x.index ≡ word_index w → x.subindex ≡ word_subindex w → word_length w ≡ 8 * size_of x → w % 2 ^ 32 ≡ mapping_word x
is_word w x i s l =
    let high : w % 2 ^ 32 ≡ w / 2 ^ 16 % 2 ^ 16 * 2 ^ 16 + w % 2 ^ 16 = mod-mul w (lit< tt) (lit< tt) in
    let low : w % 2 ^ 16 ≡ w / 2 ^ 8 % 2 ^ 8 * 2 ^ 8 + w % 2 ^ 8 = mod-mul w (lit< tt) (lit< tt) in
    let last : w % 2 ^ 8 ≡ word_length w = low_bits w in
    rw (i, s) (joins _ _ _ _ _ _ high low (last ∙ l))

good_names : (way : Direction) (w : ℕ) (f : Found) → lookup (word_index w) (word_subindex w) ≡ f → is_good (target_verdict way w f) ≡ true →
    (x : Row) × Names way w x
unfolding target_verdict first_firing
good_names way w (found x) e h = go (suits way x.mappable) (eqb (word_length w) (8 * size_of x)) refl refl h
  where
    go : (a b : Bool) → suits way x.mappable ≡ a → eqb (word_length w) (8 * size_of x) ≡ b →
        is_good (elim (not a || not b) [ true ↦ bad not_mappable | false ↦ good ]) ≡ true → (y : Row) × Names way w y
    go true true p q k =
        let r = is_found _ _ e in
        let i : In x (mappables way) = rw (← mappables_are way) (filter_in (λ y. suits way y.mappable) (found_in _ _ e) p) in
        (x, record { among = i; word = is_word w x r.0 r.1 (eqb-true _ _ q) })
    go true false p q k = absurd (false≢true k)
    go false b p q k = absurd (false≢true k)
good_names way w the_name e h = absurd (false≢true h)
good_names way w no_object e h = absurd (false≢true h)
good_names way w no_subindex e h = absurd (false≢true h)

suited_good : (way : Direction) (w : ℕ) (x : Row) → suits way x.mappable ≡ true → eqb (word_length w) (8 * size_of x) ≡ true →
    target_verdict way w (found x) ≡ good
unfolding target_verdict first_firing
suited_good way w x h l = rw (h, l)

pub sizes : (x : Row) → eqb (size_of x) 0 ≡ false
sizes x = go x.type
  where
    go : (t : ValueType) → eqb (size t) 0 ≡ false
    go u8 = refl
    go u16 = refl
    go u32 = refl
    go i8 = refl
    go i32 = refl

module _ (p w : ℕ) where
  abbrev way : Direction
  way = direction_of p

  pub names_one_lem : {x : Row} → Names way w x → names_one way w ≡ true
  names_one_lem {x} n = rw ((facts n).moves, sizes x)

  pub names_none : word_move way w ≡ no_move → names_one way w ≡ false
  names_none e = rw e

  -- THE LAW: a legal mapping word is zero, or names an object
  pub verdict : is_good (entry_verdict p w) ≡ (eqb w 0 || names_one way w)
  unfolding entry_verdict
  verdict = go (one_or_none way w)
    where
      unnamed : word_move way w ≡ no_move → (b c : Bool) → is_good (target_verdict way w (lookup (word_index w) (word_subindex w))) ≡ c →
          is_good (elim b [ true ↦ good | false ↦ target_verdict way w (lookup (word_index w) (word_subindex w)) ]) ≡ b
      unnamed e true c h = refl
      unnamed e false true h =
          let n = good_names way w (lookup (word_index w) (word_subindex w)) refl h in
          absurd (true≢false (sym (names_one_lem n.1) ∙ names_none e))
      unnamed e false false h = h

      go : (word_move way w ≡ no_move) ⊎ ((x : Row) × Names way w x) →
          is_good (elim (eqb w 0) [ true ↦ good | false ↦ target_verdict way w (lookup (word_index w) (word_subindex w)) ])
          ≡ (eqb w 0 || names_one way w)
      go (inl e) = unnamed e (eqb w 0) (is_good (target_verdict way w (lookup (word_index w) (word_subindex w)))) refl
          ∙ sym (or-none _ _ (names_none e))
      go (inr (x, n)) =
          let f = facts n in
          rw (ne_eqb w 0 f.nonzero, f.finds, suited_good way w x f.suited (eq-eqb _ _ f.length)) (sym (names_one_lem n))
