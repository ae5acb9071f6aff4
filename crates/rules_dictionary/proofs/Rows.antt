-- Reading and storing rows: what is stored is read back, every other row stays, bytes stay bytes.
-- Assumes nothing.
use Prim.Native.Nat.{ℕ, zero, suc, ◌+◌, ◌*◌, ◌-◌, ◌/◌, ◌%◌, ◌^◌, ◌<◌, ◌≤◌}
use native.Mathlib.Omega.{arith}
use native.Mathlib.Nat.{pow-suc, pow-le-pow_right}
use mathlib.Core.Path.{◌≡◌, refl, ◌∙◌, ap, subst}
use mathlib.Core.Bool.{Bool, true, false, ◌||◌}
use mathlib.Core.List.{List, [], ◌∷◌, ◌++◌, append_assoc}
use borrow.Author.Tests.{leb-true, lt-ltb, ltb-true}
use lib.Dec.{leb}
use lib.ListN.{length, take, drop, set, length-drop, length-take}
use lib.Seq.{sets, length-sets, sets-eq, drop-set-lt, drop-set-add, take-set-le, take_at, drop_at, length-take-le}
use Rattle.rules_dictionary.specs.Numbers.{value, bytes, part, all, is_byte, are_bytes}
use Rattle.rules_dictionary.specs.Table.{Row, size_of, place_of}
use Rattle.rules_dictionary.specs.Values.{Write, field, read, store, stored}
use Rattle.rules_dictionary.proofs.Tests.{and_left, and_right, and_both, all_leading}
use Rattle.rules_dictionary.proofs.Packing.{apart}
use Rattle.rules_dictionary.proofs.Defaults.{length_bytes}

-- ---- values and their bytes

pub value_bytes : (size v : ℕ) → v < 256 ^ size → value (bytes size v) ≡ v
unfolding value bytes
value_bytes zero v h = omega arith
value_bytes (suc size) v h =
    let p : 256 ^ suc size ≡ 256 ^ size * 256 = pow-suc 256 size in
    let r : value (bytes size (v / 256)) ≡ v / 256 = value_bytes size (v / 256) (omega arith) in
    omega arith

pub bytes_value : (bs : List ℕ) → are_bytes bs ≡ true → bytes (length bs) (value bs) ≡ bs
unfolding value bytes
bytes_value [] h = refl
bytes_value (b ∷ bs) h =
    let l : b < 256 = ltb-true b 256 (and_left (is_byte b) (are_bytes bs) h) in
    let r : bytes (length bs) (value bs) ≡ bs = bytes_value bs (and_right (is_byte b) (are_bytes bs) h) in
    let low : (b + 256 * value bs) % 256 ≡ b = omega arith in
    let high : (b + 256 * value bs) / 256 ≡ value bs = omega arith in
    rw (low, high, r)

pub value_fits : (bs : List ℕ) → are_bytes bs ≡ true → value bs < 256 ^ length bs
unfolding value
value_fits [] h = omega arith
value_fits (b ∷ bs) h =
    let l : b < 256 = ltb-true b 256 (and_left (is_byte b) (are_bytes bs) h) in
    let r : value bs < 256 ^ length bs = value_fits bs (and_right (is_byte b) (are_bytes bs) h) in
    let p : 256 ^ suc (length bs) ≡ 256 ^ length bs * 256 = pow-suc 256 (length bs) in
    omega arith

-- ---- bytes stay bytes

pub bytes_are : (size v : ℕ) → are_bytes (bytes size v) ≡ true
unfolding bytes
bytes_are zero v = refl
bytes_are (suc size) v = and_both _ _ (lt-ltb (v % 256) 256 (omega arith)) (bytes_are size (v / 256))

pub all_set : (d : List ℕ) (i v : ℕ) → are_bytes d ≡ true → is_byte v ≡ true → are_bytes (set d i v) ≡ true
all_set [] i v h p = refl
all_set (b ∷ bs) zero v h p = and_both _ _ p (and_right (is_byte b) (are_bytes bs) h)
all_set (b ∷ bs) (suc i) v h p = and_both _ _ (and_left (is_byte b) (are_bytes bs) h) (all_set bs i v (and_right (is_byte b) (are_bytes bs) h) p)

all_sets : (vs d : List ℕ) (i : ℕ) → are_bytes d ≡ true → are_bytes vs ≡ true → are_bytes (sets d i vs) ≡ true
all_sets [] d i h p = h
all_sets (v ∷ vs) d i h p =
    all_sets vs (set d i v) (suc i) (all_set d i v h (and_left (is_byte v) (are_bytes vs) p)) (and_right (is_byte v) (are_bytes vs) p)

pub all_take : (n : ℕ) (d : List ℕ) → are_bytes d ≡ true → are_bytes (take n d) ≡ true
all_take n d h = all_leading is_byte n d h

pub all_drop : (n : ℕ) (d : List ℕ) → are_bytes d ≡ true → are_bytes (drop n d) ≡ true
all_drop zero d h = h
all_drop (suc n) [] h = refl
all_drop (suc n) (b ∷ bs) h = all_drop n bs (and_right (is_byte b) (are_bytes bs) h)

pub part_bytes : (place size : ℕ) (d : List ℕ) → are_bytes d ≡ true → are_bytes (part place size d) ≡ true
part_bytes place size d h = all_take size (drop place d) (all_drop place d h)

-- so many leading bytes hold what fits them
pub value_take : (k : ℕ) (bs : List ℕ) → are_bytes bs ≡ true → value (take k bs) < 256 ^ k
value_take k bs h =
    let short : length (take k bs) ≤ k = rw length-take (omega arith) in
    omega (arith, value_fits (take k bs) (all_take k bs h), pow-le-pow_right {n = 256} (omega arith) short)

-- ---- a part that a store does not reach

above : (vs d : List ℕ) (i at k : ℕ) → at + k ≤ i → part at k (sets d i vs) ≡ part at k d
above [] d i at k h = refl
above (v ∷ vs) d i at k h =
    above vs (set d i v) (suc i) at k (omega arith)
    ∙ subst (λ (j : ℕ). take k (drop at (set d j v)) ≡ take k (drop at d)) (omega arith)
    (ap (take k) (drop-set-add at d (i - at) v) ∙ take-set-le k (drop at d) (i - at) v (omega arith))

below : (vs d : List ℕ) (i at k : ℕ) → i + length vs ≤ at → part at k (sets d i vs) ≡ part at k d
below [] d i at k h = refl
below (v ∷ vs) d i at k h =
    below vs (set d i v) (suc i) at k (omega arith) ∙ ap (take k) (drop-set-lt at d i v (omega arith))

pub part_apart : (vs d : List ℕ) (i at k : ℕ) → (leb (i + length vs) at || leb (at + k) i) ≡ true → part at k (sets d i vs) ≡ part at k d
part_apart vs d i at k h = go (leb (i + length vs) at) refl h
  where
    go : (b : Bool) → leb (i + length vs) at ≡ b → (b || leb (at + k) i) ≡ true → part at k (sets d i vs) ≡ part at k d
    go true e q = below vs d i at k (leb-true _ _ e)
    go false e q = above vs d i at k (leb-true _ _ q)

pub part_same : (d bs : List ℕ) (place n : ℕ) → length bs ≡ n → place + n ≤ length d → part place n (sets d place bs) ≡ bs
part_same d bs place n l h =
    let t = take place d in
    let rest = drop (place + length bs) d in
    rw (sets-eq bs d place (omega arith), append_assoc t bs, drop_at t (bs ++ rest) place (length-take-le place d (omega arith)))
    (take_at bs rest n l)

-- ---- rows

pub length_store : (x : Row) (v : ℕ) (d : List ℕ) → length (store x v d) ≡ length d
unfolding store
length_store x v d = length-sets d (place_of x) (bytes (size_of x) v)

pub store_bytes : (x : Row) (v : ℕ) (d : List ℕ) → are_bytes d ≡ true → are_bytes (store x v d) ≡ true
unfolding store
store_bytes x v d h = all_sets (bytes (size_of x) v) d (place_of x) h (bytes_are (size_of x) v)

pub field_apart : (x y : Row) (v : ℕ) (d : List ℕ) → apart x y ≡ true → field (store x v d) y ≡ field d y
unfolding store
field_apart x y v d h = part_apart (bytes (size_of x) v) d (place_of x) (place_of y) (size_of y) (rw (length_bytes (size_of x) v) h)

pub field_same : (x : Row) (v : ℕ) (d : List ℕ) → place_of x + size_of x ≤ length d → field (store x v d) x ≡ bytes (size_of x) v
unfolding store
field_same x v d h = part_same d (bytes (size_of x) v) (place_of x) (size_of x) (length_bytes (size_of x) v) h

pub read_apart : (x y : Row) (v : ℕ) (d : List ℕ) → apart x y ≡ true → read (store x v d) y ≡ read d y
unfolding read
read_apart x y v d h = ap value (field_apart x y v d h)

pub read_same : (x : Row) (v : ℕ) (d : List ℕ) → place_of x + size_of x ≤ length d → v < 256 ^ size_of x → read (store x v d) x ≡ v
unfolding read
read_same x v d h l = ap value (field_same x v d h) ∙ value_bytes (size_of x) v l

pub read_fits : (x : Row) (d : List ℕ) → are_bytes d ≡ true → place_of x + size_of x ≤ length d → read d x < 256 ^ size_of x
unfolding read
read_fits x d h l =
    let bs = field d x in
    let e : length bs ≡ size_of x = length-take-le (size_of x) (drop (place_of x) d) (rw length-drop (omega arith)) in
    subst (λ (k : ℕ). value bs < 256 ^ k) e (value_fits bs (part_bytes (place_of x) (size_of x) d h))

-- ---- writes in order

pub length_stored : (ws : List Write) (d : List ℕ) → length (stored ws d) ≡ length d
unfolding stored
length_stored [] d = refl
length_stored (w ∷ ws) d = length_stored ws (store w.row w.value d) ∙ length_store w.row w.value d

pub stored_bytes : (ws : List Write) (d : List ℕ) → are_bytes d ≡ true → are_bytes (stored ws d) ≡ true
unfolding stored
stored_bytes [] d h = h
stored_bytes (w ∷ ws) d h = stored_bytes ws (store w.row w.value d) (store_bytes w.row w.value d h)

-- THE FRAME RULE: a row that every write stands apart from keeps its bytes
pub field_stored : (y : Row) (ws : List Write) (d : List ℕ) → all (λ w. apart w.row y) ws ≡ true → field (stored ws d) y ≡ field d y
unfolding stored
field_stored y [] d h = refl
field_stored y (w ∷ ws) d h =
    field_stored y ws (store w.row w.value d) (and_right (apart w.row y) (all (λ w. apart w.row y) ws) h)
    ∙ field_apart w.row y w.value d (and_left (apart w.row y) (all (λ w. apart w.row y) ws) h)
