-- Received frames: what they write, by values that SDO would take; and what may be held.
-- Assumes nothing.
use Rattle.theorems.proofs.Words.{ℕ, zero, suc, ◌<◌, ◌≤◌, ◌+◌, arith, zero-add, suc-add, ◌≡◌, refl, sym, ◌∙◌, ap, ap₂, inl, inr, Bool, true}
use Rattle.theorems.proofs.Words.{false, ◌&&◌, List, [], ◌∷◌, ltb-false, length, take, drop, get_or, set, length-take-le, take-take, take-nil}
use Rattle.theorems.proofs.Words.{PdoData, NmtState, State, In, here, there, and_left, and_right, none_in, all_in, each_in, in_left}
use Rattle.theorems.proofs.Words.{length_store, either, clash, is_good_lem, take_padded}
use Rattle.theorems.proofs.Mapped.{mapped_short, range_fits, received_row}
use Rattle.theorems.proofs.Dictionary.{is_limit, DictionaryOk, store_ok, is_pdo}
use Rattle.theorems.proofs.GoodValues.{GoodValue, good_value, good_range}
use Rattle.theorems.proofs.{Writes.MayApply, Settled.drive_may, Lawful.Lawful, Lawful.data_refl, Lawful.pairwise_at, Lawful.node_lawful}
use Rattle.rules_dictionary.specs.Table.{Row, table, size_of, is_constant, receive_pdos, transmit_pdos, dictionary_length}
use Rattle.rules_dictionary.specs.Values.{Write, write, store, stored, unpacked}
use Rattle.rules_dictionary.specs.Legal.{value_verdict, is_synchronous}
use Rattle.rules_dictionary.specs.{Numbers.value, Numbers.padded, Aborts.is_good, Plans.mapped, Plans.pdo_data}
use Rattle.rules_services.specs.PdoTraffic.{mapped_length, are_legal, works, type_of, no_data, is_held}
use Rattle.rules_services.specs.Effects.{with_held}
use Rattle.rules.specs.{Outcome.same_data, Sound.held_sound, Sound.pairwise}

-- ---- values that a receive PDO may write

record MayWrite (d : List ℕ) (w : Write) : Type 0 where
  inside : In w.row table
  quiet : is_pdo w.row.role ≡ false
  free : is_limit w.row.role ≡ false
  variable : is_constant w.row.access ≡ false
  value : GoodValue d w.row w.value

writes_ok : (n : ℕ) (d₀ : List ℕ) (ws : List Write) (d : List ℕ) → length d ≡ dictionary_length → DictionaryOk n d →
    ((w : Write) → In w ws → MayWrite d₀ w) → DictionaryOk n (stored ws d)
unfolding stored
writes_ok n d₀ [] d l ok h = ok
writes_ok n d₀ (w ∷ ws) d l ok h =
    let m = h w here in
    writes_ok n d₀ ws (store w.row w.value d) (length_store w.row w.value d ∙ l)
    (store_ok n d w.row w.value m.inside l ok
    (drive_may n d w.row w.value m.quiet m.free m.variable (range_fits w.value m.inside m.value.not_above)
    (good_range d₀ w.row w.value m.value)))
    (λ v i. h v (there i))

pub unpacked_rows : (xs : List Row) (bs : List ℕ) {w : Write} → In w (unpacked xs bs) → In w.row xs
unfolding unpacked
unpacked_rows [] bs i = absurd (none_in i)
unpacked_rows (x ∷ xs) bs here = here
unpacked_rows (x ∷ xs) bs (there i) = there (unpacked_rows xs (drop (size_of x) bs) i)

pub values_may : (s : State) (d : List ℕ) {p : ℕ} (bs : List ℕ) → In p receive_pdos → are_legal d (unpacked (mapped d p) bs) ≡ true → Lawful s d →
    MayApply s d (unpacked (mapped d p) bs)
unfolding are_legal
values_may s d {p} bs i legal law =
    let ws = unpacked (mapped d p) bs in
    let may : (w : Write) → In w ws → MayWrite d w = λ w j.
    let r = received_row law.dictionary i (unpacked_rows (mapped d p) bs j) in
    let v = is_good_lem _ (all_in (λ w. is_good (value_verdict d w.row w.value)) j legal) in
    record { inside = r.quiet.0; quiet = r.quiet.1; free = r.free; variable = r.variable; value = good_value d w.row w.value v } in
    record {
      fit = λ w j. ((may w j).inside, range_fits w.value (may w j).inside (may w j).value.not_above);
      quiet = inr (λ w j. (may w j).quiet);
      ok = writes_ok s.node.id d ws d law.long law.dictionary may;
    }

-- ---- a held frame

pairwise_set {ℓ} : {A : Type ℓ} (f : ℕ → A → Bool) (xs : List ℕ) (ys : List A) (i : ℕ) (y : A) → pairwise f xs ys ≡ true → f (get_or xs i 0) y ≡ true →
    pairwise f xs (set ys i y) ≡ true
pairwise_set f [] [] i y h k = refl
pairwise_set f [] (z ∷ zs) i y h k = clash false h refl
pairwise_set f (x ∷ xs) [] i y h k = clash false h refl
pairwise_set f (x ∷ xs) (z ∷ zs) zero y h k = rw k (and_right (f x z) (pairwise f xs zs) h)
pairwise_set f (x ∷ xs) (z ∷ zs) (suc i) y h k =
    rw (and_left (f x z) (pairwise f xs zs) h) (pairwise_set f xs zs i y (and_right (f x z) (pairwise f xs zs) h) k)

receiver_at : {p : ℕ} → In p receive_pdos → (get_or receive_pdos p 0 ≡ p) × (p < 4)
receiver_at i =
    each_in (λ p. (get_or receive_pdos p 0 ≡ p) × (p < 4)) i
    ((refl, omega arith), ((refl, omega arith), ((refl, omega arith), ((refl, omega arith), tt))))

pub held_lawful : (s : State) (d : List ℕ) {p : ℕ} (f : PdoData) → Lawful s d → In p receive_pdos → held_sound s.node.nmt d p f ≡ true →
    Lawful (with_held (set s.axis.held p f) s) d
held_lawful s d {p} f law i h =
    let w = law.waits in
    let sound = pairwise_set (held_sound s.node.nmt d) receive_pdos s.axis.held p f w.held (rw (receiver_at i).0 h) in
    node_lawful s d s.node.nmt s.node.voltage s.node.heartbeat s.axis.paces (set s.axis.held p f) law law.heartbeat
    (record { counts = w.counts; held = sound })

pub none_sound : (m : NmtState) (d : List ℕ) (p : ℕ) → held_sound m d p no_data ≡ true
unfolding held_sound
none_sound m d p = refl

drop-take : (n m : ℕ) (l : List ℕ) → drop n (take (n + m) l) ≡ take m (drop n l)
drop-take zero m l = ap (λ (k : ℕ). take k l) (zero-add m)
drop-take (suc n) m [] = rw suc-add (sym (take-nil m))
drop-take (suc n) m (x ∷ xs) = rw suc-add (drop-take n m xs)

-- values look at no more than the mapped length
pub unpacked_same : (xs : List Row) (l l' : List ℕ) → take (mapped_length xs) l ≡ take (mapped_length xs) l' → unpacked xs l ≡ unpacked xs l'
unfolding unpacked mapped_length
unpacked_same [] l l' h = refl
unpacked_same (x ∷ xs) l l' h =
    let n = size_of x in
    let m = mapped_length xs in
    let front : take n l ≡ take n l' = sym (take-take n (n + m) l (omega arith)) ∙ ap (take n) h ∙ take-take n (n + m) l' (omega arith) in
    let back : take m (drop n l) ≡ take m (drop n l') = sym (drop-take n m l) ∙ ap (drop n) h ∙ drop-take n m l' in
    ap₂ (λ (bs : List ℕ) (ws : List Write). write x (value bs) ∷ ws) front (unpacked_same xs (drop n l) (drop n l') back)

empty_data : (l : List ℕ) → is_held (pdo_data l) ≡ false → same_data (pdo_data l) no_data ≡ true
unfolding pdo_data
empty_data [] h = refl
empty_data (x ∷ xs) h = let z : suc (length xs) ≤ 0 = ltb-false 0 _ h in absurd (omega arith)

-- the leading bytes of a legal frame of a working synchronous PDO may be held
pub new_held : (n : ℕ) (d : List ℕ) {p : ℕ} (bs : List ℕ) (m : NmtState) → DictionaryOk n d → In p receive_pdos → works m d p ≡ true →
    is_synchronous (type_of d p) ≡ true → mapped_length (mapped d p) ≤ length bs → are_legal d (unpacked (mapped d p) bs) ≡ true →
    held_sound m d p (pdo_data (take (mapped_length (mapped d p)) bs)) ≡ true
unfolding held_sound pdo_data
new_held n d {p} bs m ok i w c long legal =
    let k = mapped_length (mapped d p) in
    let front = take k bs in
    let l : length front ≡ k = length-take-le k bs long in
    let back : take k (padded 0 8 front) ≡ front =
    ap (λ (j : ℕ). take j (padded 0 8 front)) (sym l) ∙ take_padded 0 8 front (rw l (mapped_short ok (in_left transmit_pdos i))) in
    let all_legal = ap (are_legal d) (unpacked_same (mapped d p) (padded 0 8 front) bs back) ∙ legal in
    elim (either (is_held (pdo_data front))) [
      | inl e ↦ rw (e, w, c, all_legal) (rw back (rw (data_refl (pdo_data front))))
      | inr e ↦ rw e (empty_data front e)
    ]

-- ---- SYNC

pub held_at : (s : State) (d : List ℕ) {p : ℕ} → Lawful s d → In p receive_pdos → held_sound s.node.nmt d p (get_or s.axis.held p no_data) ≡ true
held_at s d {p} law i =
    rw (receiver_at i).0 at
    (pairwise_at (held_sound s.node.nmt d) 0 no_data receive_pdos s.axis.held law.waits.held p (receiver_at i).1)

pub held_legal : (m : NmtState) (d : List ℕ) (p : ℕ) (f : PdoData) → held_sound m d p f ≡ true → is_held f ≡ true →
    are_legal d (unpacked (mapped d p) f.bytes) ≡ true
unfolding held_sound
held_legal m d p f h e =
    and_right (works m d p && is_synchronous (type_of d p) && same_data f (pdo_data (take (mapped_length (mapped d p)) f.bytes))) _ (rw e at h)
