-- What a legal mapping maps: rows of its direction, and eight bytes at the most; of a receive PDO no row of a PDO, no limit and no constant.
-- Assumes nothing.
use Rattle.theorems.proofs.Words.{ℕ, ◌*◌, ◌^◌, ◌<◌, ◌≤◌, arith, ◌≡◌, refl, ◌∙◌, ap, subst, ◌⊎◌, inl, inr, Bool, true, false, not, ◌&&◌, ◌||◌}
use Rattle.theorems.proofs.Words.{and-eq-true_iff, Bool·not-not, List, [], ◌∷◌, map, eqb-true, ltb-true, ltb-false, eqb, ltb, take, In}
use Rattle.theorems.proofs.Words.{and_left, and_right, none_in, all_in, each_in, in_left, by_match, false_not, clash, implied, or_false_left}
use Rattle.theorems.proofs.Words.{or_false_right, not-true, is_good_lem, all_leading}
use Rattle.rules_dictionary.proofs.Plans.{mapped_in}
use Rattle.rules_dictionary.proofs.Members.{in_cons}
use Rattle.theorems.proofs.Dictionary.{is_limit, DictionaryOk, words_legal, is_pdo}
use Rattle.theorems.proofs.GoodValues.{good_passes}
use Rattle.rules_dictionary.specs.Table.{Row, table, size_of, is_constant, receive, direction_of, pdos, receive_pdos, transmit_pdos, map_count}
use Rattle.rules_dictionary.specs.Table.{word_index, word_subindex, word_length, Found, found, the_name, no_object, no_subindex, lookup, open_table}
use Rattle.rules_dictionary.specs.Values.{read}
use Rattle.rules_dictionary.specs.Legal.{suits, target_verdict, entry_verdict, count_verdict, map_words, most_bits, is_above}
use Rattle.rules_dictionary.specs.{Numbers.all, Numbers.sum, Aborts.good, Aborts.is_good, Plans.and_then, Plans.targets, Plans.mapped}
use Rattle.rules_services.specs.PdoTraffic.{mapped_length}

-- ---- a legal word is zero, or names a row of its direction by its length

record Names (p w : ℕ) (y : Row) : Type 0 where
  finds : lookup (word_index w) (word_subindex w) ≡ found y
  way : suits (direction_of p) y.mappable ≡ true
  length : word_length w ≡ 8 * size_of y

named : (p w : ℕ) (f : Found) → lookup (word_index w) (word_subindex w) ≡ f → target_verdict (direction_of p) w f ≡ good → (y : Row) × Names p w y
unfolding target_verdict
named p w (found y) e h =
    let t = (good_passes _ _ _ h).0 in
    let on = suits (direction_of p) y.mappable in
    let fits = simp Bool·not-not at (false_not (not (eqb (word_length w) (8 * size_of y))) (or_false_right (not on) _ t)) in
    (y, record { finds = e; way = simp Bool·not-not at (false_not (not on) (or_false_left (not on) _ t)); length = eqb-true _ _ fits })
named p w the_name e h = clash (is_good (target_verdict (direction_of p) w the_name)) (ap is_good h) refl
named p w no_object e h = clash (is_good (target_verdict (direction_of p) w no_object)) (ap is_good h) refl
named p w no_subindex e h = clash (is_good (target_verdict (direction_of p) w no_subindex)) (ap is_good h) refl

word_cases : (p w : ℕ) → is_good (entry_verdict p w) ≡ true → (w ≡ 0) ⊎ ((y : Row) × Names p w y)
unfolding entry_verdict
word_cases p w h =
    by_match (λ v. is_good v ≡ true → (w ≡ 0) ⊎ ((y : Row) × Names p w y)) (eqb w 0) (λ e k. inl (eqb-true w 0 e))
    (λ e k. inr (named p w (lookup (word_index w) (word_subindex w)) refl (is_good_lem _ k))) h

nothing_zero : lookup (word_index 0) (word_subindex 0) ≡ no_object
unfolding open_table
nothing_zero = refl

-- the rows that legal words name: by induction, all of the direction, and of the words' bits
record Targets (p : ℕ) (ws : List ℕ) : Type 0 where
  way : (x : Row) → In x (targets ws) → suits (direction_of p) x.mappable ≡ true
  bits : 8 * mapped_length (targets ws) ≡ sum (map word_length ws)

targets_of : (p : ℕ) (ws : List ℕ) → all (λ w. is_good (entry_verdict p w)) ws ≡ true → Targets p ws
unfolding targets and_then mapped_length
targets_of p [] h = record { way = λ x i. absurd (none_in i); bits = refl }
targets_of p (w ∷ ws) h =
    let rest = targets_of p ws (and_right (is_good (entry_verdict p w)) _ h) in
    elim (word_cases p w (and_left _ (all (λ w. is_good (entry_verdict p w)) ws) h)) [
      | inl e ↦
          let q : targets (w ∷ ws) ≡ targets ws = rw (e, nothing_zero) in
          let z : word_length w ≡ 0 = ap word_length e in
          record { way = λ x i. rest.way x (subst (In x) q i); bits = ap (λ (l : List Row). 8 * mapped_length l) q ∙ rest.bits ∙ omega arith }
      | inr n ↦
          let q : targets (w ∷ ws) ≡ n.0 ∷ targets ws = ap (λ (f : Found). and_then f (targets ws)) n.1.finds in
          record {
            way = λ x i. elim (in_cons (subst (In x) q i)) [ inl e ↦ rw e n.1.way | inr j ↦ rest.way x j ];
            bits = ap (λ (l : List Row). 8 * mapped_length l) q ∙ omega (arith, rest.bits, n.1.length);
          }
    ]

-- ---- of a PDO with a legal mapping

module _ {n : ℕ} {d : List ℕ} (ok : DictionaryOk n d) {p : ℕ} (i : In p pdos) where
  targets_now : Targets p (take (read d (map_count p)) (map_words d p))
  targets_now =
      targets_of p (take (read d (map_count p)) (map_words d p))
      (all_leading (λ w. is_good (entry_verdict p w)) (read d (map_count p)) (map_words d p)
      (words_legal ok i))

  pub mapped_way : (x : Row) → In x (mapped d p) → suits (direction_of p) x.mappable ≡ true
  unfolding mapped
  mapped_way x j = targets_now.way x j

  -- "over 64 bits" is refused, so eight bytes are enough
  pub mapped_short : mapped_length (mapped d p) ≤ 8
  unfolding mapped count_verdict
  mapped_short =
      let u = good_passes _ _ _ (good_passes _ _ _ (is_good_lem _ (ok.counts p i))).1 in
      let b : sum (map word_length (take (read d (map_count p)) (map_words d p))) ≤ most_bits = ltb-false most_bits _ u.0 in
      omega (arith, targets_now.bits)

-- ---- rows that are mapped to receive: of no PDO, no limit, not constant, and with a range that lies within the type

receivable : Row → Bool
receivable x = not (suits receive x.mappable) || (not (is_pdo x.role) && not (is_limit x.role) && not (is_constant x.access))

rows_test : all (λ x. receivable x && ltb x.range.greatest (256 ^ size_of x)) table ≡ true
unfolding receivable open_table
rows_test = refl

pub range_fits : {x : Row} (v : ℕ) → In x table → is_above x v ≡ false → v < 256 ^ size_of x
range_fits {x} v i h =
    let g : x.range.greatest < 256 ^ size_of x =
    ltb-true _ _ (and_right (receivable x) _ (all_in (λ x. receivable x && ltb x.range.greatest (256 ^ size_of x)) i rows_test)) in
    let l : v ≤ x.range.greatest = ltb-false x.range.greatest v h in
    omega arith

-- a row of the table, and of no PDO
abbrev pub QuietRow : Row → Type 0
QuietRow x = In x table × (is_pdo x.role ≡ false)

-- what a receive PDO maps
pub record ReceivedRow (x : Row) : Type 0 where
  pub quiet : QuietRow x
  pub free : is_limit x.role ≡ false
  pub variable : is_constant x.access ≡ false

pub received_row : {n : ℕ} {d : List ℕ} → DictionaryOk n d → {p : ℕ} → In p receive_pdos → {x : Row} → In x (mapped d p) → ReceivedRow x
unfolding receivable
received_row {d = d} ok {p} i {x} j =
    let inside = mapped_in d p j in
    let way : direction_of p ≡ receive = each_in (λ p. direction_of p ≡ receive) i (refl, (refl, (refl, (refl, tt)))) in
    let test = and_left (receivable x) _ (all_in (λ x. receivable x && ltb x.range.greatest (256 ^ size_of x)) inside rows_test) in
    let r = simp and-eq-true_iff at (implied (suits receive x.mappable) _ test (rw way at (mapped_way ok (in_left transmit_pdos i) x j))) in
    record { quiet = (inside, not-true _ r.0.0); free = not-true _ r.0.1; variable = not-true _ r.1 }
