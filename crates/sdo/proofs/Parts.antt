-- Bytes one by one: parts of a request, of a reply and of the device name.
-- Assumes nothing.
use Rattle.std.proofs.Common.{◌≡◌, ℕ, zero, suc, ◌+◌, ◌-◌, ◌*◌, ◌/◌, ◌%◌, ◌<◌, ◌≤◌, min, Bool, true, false, cond, not, eqb, List, [], ◌∷◌, length}
use Rattle.std.proofs.Common.{get_or, take, drop, bit_and, refl, ap, ◌∙◌, add-one, arith, length-drop, drop_of_length-le, length-take, drop-cons}
use Rattle.std.proofs.Common.{w32}
use Rattle.std.specs.Int.{to_le_bytes}
use Rattle.std.proofs.lemmas.Nat.Bits.{and_pow}
use lib.Seq.{take-nil, drop-nil}
use Rattle.state.specs.declared.Receipt.{Receipt}
use Rattle.rules_dictionary.specs.Numbers.{bit, bytes, part, padded}
use Rattle.rules_services.specs.Sdo.{request_length, command_byte, object_size, data_size, object_of, data_place}
use Rattle.rules_services.specs.Segments.{segment_place, segment_size, unused_in, carried, added, gathered}
use Rattle.sdo.specs.Requests.{reply_bytes}

-- ---- of a request

module _ (rq : List ℕ) (long : length rq ≡ request_length) where
  pub object_made : get_or rq 1 0 ∷ get_or rq 2 0 ∷ get_or rq 3 0 ∷ [] ≡ object_of rq
  object_made = rw (drop-cons rq 1 0 (omega arith), drop-cons rq 2 0 (omega arith), drop-cons rq 3 0 (omega arith))

  pub data_made : get_or rq 4 0 ∷ get_or rq 5 0 ∷ get_or rq 6 0 ∷ get_or rq 7 0 ∷ [] ≡ part data_place data_size rq
  data_made =
      rw (drop-cons rq 4 0 (omega arith), drop-cons rq 5 0 (omega arith), drop-cons rq 6 0 (omega arith), drop-cons rq 7 0 (omega arith))

-- ---- of a reply

-- the bytes of a value
le_made : (v : ℕ) → to_le_bytes w32 v ≡ bytes data_size v
unfolding bytes
le_made v = grind (arith)

pub reply_made : (c v : ℕ) (o vs : List ℕ) → length o ≡ object_size → vs ≡ to_le_bytes w32 v →
    c ∷ get_or o 0 0 ∷ get_or o 1 0 ∷ get_or o 2 0 ∷ get_or vs 0 0 ∷ get_or vs 1 0 ∷ get_or vs 2 0 ∷ get_or vs 3 0 ∷ [] ≡ reply_bytes c o v
reply_made c v [] vs l e = absurd (omega arith)
reply_made c v (x ∷ []) vs l e = absurd (omega arith)
reply_made c v (x ∷ y ∷ []) vs l e = absurd (omega arith)
reply_made c v (x ∷ y ∷ z ∷ []) vs l e = rw (e, ← le_made v)
reply_made c v (x ∷ y ∷ z ∷ w ∷ o) vs l e = absurd (omega arith)

-- ---- of a segment that is sent

-- the bytes between their bounds
pub carried_slice : (rq : List ℕ) → take (1 + (segment_size - unused_in (command_byte rq)) - 1) (drop segment_place rq) ≡ carried rq
carried_slice rq = let n = segment_size - unused_in (command_byte rq) in let e : 1 + n - 1 ≡ n = omega arith in rw e

-- the next byte, and what is left
pub gathered_next : (g : Receipt) (bs : List ℕ) (i : ℕ) → i < length bs →
    gathered g (drop i bs) ≡ gathered (added g (get_or bs i 0)) (drop (i + 1) bs)
unfolding gathered
gathered_next g bs i h = rw (drop-cons bs i 0 h, add-one)

-- .. and all of them
pub gathered_all : (rq : List ℕ) {bs : List ℕ} (is : bs ≡ carried rq) (g after : Receipt) (i : ℕ) → length bs ≤ i →
    gathered after (drop i bs) ≡ gathered g bs → after ≡ gathered g (carried rq)
unfolding gathered
gathered_all rq {bs} is g after i past h = rw (drop_of_length-le bs past, is) at h

-- ---- of the device name, whatever it is

pub flag_most : (n : ℕ) (b : Bool) → cond b n 0 ≤ n
flag_most n true = omega arith
flag_most n false = omega arith

pub part_length : (p n : ℕ) (xs : List ℕ) → length (part p n xs) ≡ min n (length xs - p)
part_length p n xs = simp (length-take, length-drop)

-- so many of a list from a place on, zeros behind its end
from : ℕ → ℕ → List ℕ → List ℕ
from zero p xs = []
from (suc n) p xs = get_or xs p 0 ∷ from n (p + 1) xs

pad_first : (n p : ℕ) (xs : List ℕ) → padded 0 (suc n) (part p (suc n) xs) ≡ get_or xs p 0 ∷ padded 0 n (part (suc p) n xs)
pad_first n p [] = rw (drop-nil p, take-nil n)
pad_first n zero (x ∷ xs) = refl
pad_first n (suc p) (x ∷ xs) = pad_first n p xs

padded_from : (n p : ℕ) (xs : List ℕ) → padded 0 n (part p n xs) ≡ from n p xs
unfolding from
padded_from zero p xs = refl
padded_from (suc n) p xs =
    let e : suc p ≡ p + 1 = omega arith in
    pad_first n p xs ∙ ap (λ (l : List ℕ). get_or xs p 0 ∷ l) (rw e (padded_from n (p + 1) xs))

-- seven of them
pub segment_made : (c p : ℕ) (xs : List ℕ) →
    c ∷ get_or xs p 0 ∷ get_or xs (p + 1) 0 ∷ get_or xs (p + 2) 0 ∷ get_or xs (p + 3) 0
    ∷ get_or xs (p + 4) 0 ∷ get_or xs (p + 5) 0 ∷ get_or xs (p + 6) 0 ∷ []
    ≡ c ∷ padded 0 segment_size (part p segment_size xs)
unfolding from
segment_made c p xs =
    let e2 : p + 1 + 1 ≡ p + 2 = omega arith in
    let e3 : p + 2 + 1 ≡ p + 3 = omega arith in
    let e4 : p + 3 + 1 ≡ p + 4 = omega arith in
    let e5 : p + 4 + 1 ≡ p + 5 = omega arith in
    let e6 : p + 5 + 1 ≡ p + 6 = omega arith in
    rw (padded_from segment_size p xs, e2, e3, e4, e5, e6)

-- ---- a bit of a command byte

pub toggle_bit_set : (n : ℕ) → not (eqb (bit_and n 16) 0) ≡ bit 4 n
toggle_bit_set n = rw (and_pow n 4) (go (n / 16 % 2) (omega arith))
  where
    go : (b : ℕ) → b < 2 → not (eqb (b * 16) 0) ≡ eqb b 1
    go zero h = refl
    go (suc zero) h = refl
    go (suc (suc b)) h = absurd (omega arith)
