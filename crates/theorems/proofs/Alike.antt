-- Dictionaries that agree but for 6041h and 6061h: a download is judged alike in them. And a dictionary is what its rows hold.
-- Assumes nothing.
use Rattle.theorems.proofs.Words.{ℕ, ◌≤◌, arith, ◌≡◌, refl, sym, ◌∙◌, ap, subst, inl, inr, Bool, true, false, List, [], ◌∷◌}
use Rattle.theorems.proofs.Words.{length, take, drop, take-append-drop, length-drop, length-take-le, NmtState, In, apart, same_or_apart}
use Rattle.theorems.proofs.Words.{read_apart, within, bytes_value, all_take, all_drop, unpacked_table, clash, Role, Plain, ModeOfOperation}
use Rattle.theorems.proofs.Words.{MinimumLimit, MaximumLimit, PdoIdentifier, PdoType, MappingCount, MappingEntry, identifier_in, found_in}
use mathlib.Core.List.{head-eq_of_cons-eq, tail-eq_of_cons-eq}
use Rattle.theorems.proofs.Dictionary.{is_pdo, of_pdo, pdo_of_lem, map_same, minimum_in, maximum_in, count_alike, other_alike, mapping_alike}
use Rattle.theorems.proofs.Settled.{SameMotion, status_in, display_in, settled_apart}
use Rattle.rules_dictionary.specs.Numbers.{are_bytes, value, bytes}
use Rattle.rules_dictionary.specs.Table.{Row, table, total, size_of, dictionary_length, status_word, mode_display, control_word, position}
use Rattle.rules_dictionary.specs.Table.{position_window, window_time, velocity, velocity_window, velocity_threshold, target_velocity, identifier}
use Rattle.rules_dictionary.specs.Table.{minimum_position, maximum_position, open_table}
use Rattle.rules_dictionary.specs.Values.{Write, write, read, store, unpacked}
use Rattle.rules_dictionary.specs.Legal.{value_verdict, swaps_limits}
use Rattle.rules_dictionary.proofs.Rows.{field_same}
use Rattle.state.specs.declared.State.{State}
use Rattle.rules_services.specs.Sdo.{Offer, is_wrong_time, offer_verdict}
use Rattle.rules.specs.Outcome.{settled}

-- ---- a dictionary is what its rows hold

taken_bytes : (n : ℕ) (d : List ℕ) → n ≤ length d → are_bytes d ≡ true → bytes n (value (take n d)) ≡ take n d
taken_bytes n d l b = ap (λ (k : ℕ). bytes k (value (take n d))) (sym (length-take-le n d l)) ∙ bytes_value (take n d) (all_take n d b)

no_bytes : (d : List ℕ) → length d ≡ 0 → d ≡ []
no_bytes [] l = refl
no_bytes (b ∷ d) l = absurd (omega (arith, l))

unpacked_whole : (xs : List Row) (d d' : List ℕ) → length d ≡ total xs → length d' ≡ total xs → are_bytes d ≡ true → are_bytes d' ≡ true →
    unpacked xs d ≡ unpacked xs d' → d ≡ d'
unfolding unpacked
unpacked_whole [] d d' l l' b b' e = no_bytes d l ∙ sym (no_bytes d' l')
unpacked_whole (x ∷ xs) d d' l l' b b' e =
    let n = size_of x in
    let front : take n d ≡ take n d' =
    sym (taken_bytes n d (omega (arith, l)) b) ∙ ap (λ (w : Write). bytes n w.value) (head-eq_of_cons-eq e)
    ∙ taken_bytes n d' (omega (arith, l')) b' in
    let back : drop n d ≡ drop n d' =
    unpacked_whole xs (drop n d) (drop n d') (rw length-drop (omega (arith, l))) (rw length-drop (omega (arith, l'))) (all_drop n d b)
    (all_drop n d' b') (tail-eq_of_cons-eq e) in
    sym (take-append-drop n d) ∙ rw (front, back) (take-append-drop n d')

pub rows_whole : (d d' : List ℕ) → length d ≡ dictionary_length → length d' ≡ dictionary_length → are_bytes d ≡ true → are_bytes d' ≡ true →
    ((x : Row) → In x table → read d x ≡ read d' x) → d ≡ d'
unfolding dictionary_length
rows_whole d d' l l' b b' same =
    unpacked_whole table d d' l l' b b'
    (unpacked_table d
    ∙ map_same (λ x. write x (read d x)) (λ x. write x (read d' x)) table (λ x i. ap (write x) (same x i))
    ∙ sym (unpacked_table d'))

-- ---- all rows but 6041h and 6061h

-- it lies apart from both
pub record Unshown (x : Row) : Type 0 where
  pub word : apart status_word x ≡ true
  pub display : apart mode_display x ≡ true

abbrev pub Alike : List ℕ → List ℕ → Type 0
Alike d d' = (x : Row) → In x table → Unshown x → read d x ≡ read d' x

-- a row that differs from both in something does
pub unshown : (f : Row → Bool) (x : Row) → In x table → f x ≡ true → f status_word ≡ false → f mode_display ≡ false → Unshown x
unshown f x i h a b =
    let other : (y : Row) → In y table → f y ≡ false → apart y x ≡ true =
    λ y j q. elim (same_or_apart j i) [ inl e ↦ clash (f y) (rw e h) q | inr k ↦ k ] in
    record { word = other status_word status_in a; display = other mode_display display_in b }

-- 6041h and 6061h made leave the others
pub settled_alike : (s : State) (d : List ℕ) → Alike (settled s d) d
settled_alike s d x i h = settled_apart s d x h.word h.display

-- one value stored in both
pub store_alike : (d d' : List ℕ) (x : Row) (v : ℕ) → In x table → length d ≡ dictionary_length → length d' ≡ dictionary_length → Alike d d' →
    Alike (store x v d) (store x v d')
unfolding read
store_alike d d' x v i l l' alike y j h =
    elim (same_or_apart i j) [
      | inl e ↦ subst (λ (z : Row). read (store x v d) z ≡ read (store x v d') z) e
          (ap value (field_same x v d (omega (arith, within i, l)) ∙ sym (field_same x v d' (omega (arith, within i, l')))))
      | inr a ↦ read_apart x y v d a ∙ alike y j h ∙ sym (read_apart x y v d' a)
    ]

module _ (d d' : List ℕ) (alike : Alike d d') where
  pdo_alike : (y : Row) → In y table → is_pdo y.role ≡ true → read d y ≡ read d' y
  pdo_alike y i h = alike y i (unshown (λ x. is_pdo x.role) y i h refl refl)

  limits_alike : (v : ℕ) (r : Role) → swaps_limits d r v ≡ swaps_limits d' r v
  unfolding swaps_limits open_table
  limits_alike v Plain = refl
  limits_alike v ModeOfOperation = refl
  limits_alike v MinimumLimit = rw (alike maximum_position maximum_in (record { word = refl; display = refl }))
  limits_alike v MaximumLimit = rw (alike minimum_position minimum_in (record { word = refl; display = refl }))
  limits_alike v (PdoIdentifier p) = refl
  limits_alike v (PdoType p) = refl
  limits_alike v (MappingCount p) = refl
  limits_alike v (MappingEntry p) = refl

  time_alike : (nmt : NmtState) {x : Row} → In x table → (r : Role) → x.role ≡ r → is_wrong_time nmt d r ≡ is_wrong_time nmt d' r
  unfolding is_wrong_time
  time_alike nmt i Plain e = refl
  time_alike nmt i ModeOfOperation e = refl
  time_alike nmt i MinimumLimit e = refl
  time_alike nmt i MaximumLimit e = refl
  time_alike nmt i (PdoIdentifier p) e = refl
  time_alike nmt i (PdoType p) e = refl
  time_alike nmt i (MappingCount p) e = rw (pdo_alike (identifier p) (identifier_in (pdo_of_lem i (ap of_pdo e))) refl)
  time_alike nmt i (MappingEntry p) e =
      let j = pdo_of_lem i (ap of_pdo e) in
      rw (pdo_alike (identifier p) (identifier_in j) refl, count_alike d' d pdo_alike j)

  -- THE LAW
  pub offer_alike : (nmt : NmtState) (t : Offer) → In t.row table → offer_verdict nmt d t ≡ offer_verdict nmt d' t
  unfolding offer_verdict value_verdict
  offer_alike nmt t i =
      let r = t.row.role in
      let v = t.value in
      rw (time_alike nmt i r refl, other_alike d' d pdo_alike v r, limits_alike v r, mapping_alike d' d pdo_alike i v r refl)

  -- .. and 6041h is made alike of them
  pub motion_alike : SameMotion d' d
  unfolding open_table
  motion_alike =
      let same : (x : Row) → In x table → apart status_word x ≡ true → apart mode_display x ≡ true → read d x ≡ read d' x =
      λ x i a b. alike x i (record { word = a; display = b }) in
      record {
        control = same control_word (found_in 0x6040 0 refl) refl refl;
        place = same position (found_in 0x6064 0 refl) refl refl;
        window = same position_window (found_in 0x6067 0 refl) refl refl;
        time = same window_time (found_in 0x6068 0 refl) refl refl;
        speed = same velocity (found_in 0x606C 0 refl) refl refl;
        speed_window = same velocity_window (found_in 0x606D 0 refl) refl refl;
        threshold = same velocity_threshold (found_in 0x606F 0 refl) refl refl;
        goal = same target_velocity (found_in 0x60FF 0 refl) refl refl;
      }
