-- The transfer in progress between calls: sound, and of bytes. Segments keep it so.
-- Assumes nothing.
use Rattle.theorems.proofs.Words.{ℕ, zero, suc, ◌*◌, ◌≤◌, arith, ◌≡◌, refl, true, ◌&&◌, and-eq-true_iff, false≢true, List, [], ◌∷◌, eqb, leb}
use Rattle.theorems.proofs.Words.{ltb, eqb_self, le-leb, leb-false, lt-ltb, ltb-true, ltb-false, length, take, set, Receipt, Transfer}
use Rattle.theorems.proofs.Words.{NoTransfer, Uploading, Downloading, and_left, and_right, and_both, by_test, all_set, drop, length-drop}
use Rattle.theorems.proofs.Words.{length-take-le, part_bytes, ◌-◌, cond, false, ne_eqb, ap, ◌∙◌}
use Rattle.rules_dictionary.specs.Numbers.{are_bytes, is_byte, bytes, padded}
use Rattle.rules_dictionary.specs.DeviceName.{device_name}
use Rattle.rules_services.specs.Sdo.{request_length, command_byte, object_of, object_place, object_size, data_size}
use Rattle.rules_services.specs.Segments.{segment_place, segment_size, unused_in, carried, object_run, is_last_of, next_of, nothing_yet, too_many, added}
use Rattle.rules_services.specs.Segments.{gathered, turned, object_in, bytes_in}
use Rattle.rules.specs.{Outcome.same_by, Sound.receipt_sound, Sound.transfer_sound}

-- ---- what may run

-- index and subindex, as a request names them
pub record IsObject (o : List ℕ) : Type 0 where
  pub long : length o ≡ object_size
  pub octets : are_bytes o ≡ true

pub object_long : (rq : List ℕ) → length rq ≡ request_length → length (object_of rq) ≡ object_size
object_long rq long = length-take-le object_size (drop object_place rq) (rw length-drop (omega (arith, long)))

pub request_object : (rq : List ℕ) → length rq ≡ request_length → are_bytes rq ≡ true → IsObject (object_of rq)
request_object rq long octets = record { long = object_long rq long; octets = part_bytes object_place object_size rq octets }

-- what a download has brought, and the object that it names, are bytes
abbrev pub OctetsIn : Transfer → Type 0
OctetsIn NoTransfer = Unit
OctetsIn (Uploading k) = Unit
OctetsIn (Downloading g) = (are_bytes (object_in g) ≡ true) × (are_bytes (bytes_in g) ≡ true)

pub record MayRun (t : Transfer) : Type 0 where
  pub sound : transfer_sound t ≡ true
  pub octets : OctetsIn t

pub nothing_runs_lem : MayRun NoTransfer
unfolding transfer_sound
nothing_runs_lem = record { sound = refl; octets = tt }

-- the object that an abort of a segment names
pub run_object : (t : Transfer) → MayRun t → IsObject (object_run t)
unfolding bytes
run_object NoTransfer r = record { long = refl; octets = refl }
run_object (Uploading k) r = record { long = refl; octets = refl }
run_object (Downloading g) r = record { long = refl; octets = r.octets.0 }

-- ---- an upload

pub name_runs : MayRun (Uploading 0)
unfolding transfer_sound
name_runs = record { sound = refl; octets = tt }

pub next_runs : (k : ℕ) → MayRun (next_of k)
unfolding transfer_sound
next_runs k =
    by_test MayRun (is_last_of k) (λ last. nothing_runs_lem)
    (λ more.
    let further = leb-false (length device_name) (suc k * segment_size) more in
    record { sound = lt-ltb (suc k * segment_size) (length device_name) further; octets = tt })

-- ---- a download

pub object_kept_lem : (o : List ℕ) → length o ≡ object_size → object_in (nothing_yet o) ≡ o
object_kept_lem [] l = absurd (omega arith)
object_kept_lem (a ∷ []) l = absurd (omega arith)
object_kept_lem (a ∷ b ∷ []) l = absurd (omega arith)
object_kept_lem (a ∷ b ∷ c ∷ []) l = refl
object_kept_lem (a ∷ b ∷ c ∷ e ∷ o) l = absurd (omega arith)

pub begun_runs : (o : List ℕ) → IsObject o → MayRun (Downloading (nothing_yet o))
unfolding transfer_sound receipt_sound
begun_runs o h = record { sound = refl; octets = (ap are_bytes (object_kept_lem o h.long) ∙ h.octets, refl) }

-- one byte more stands where the count says
pub bytes_added : (g : Receipt) (b : ℕ) → bytes_in (added g b) ≡ set (bytes_in g) g.count b
bytes_added g b = go g.count
  where
    go : (n : ℕ) →
        cond (eqb n 0) b g.first ∷ cond (eqb n 1) b g.second ∷ cond (eqb n 2) b g.third ∷ cond (eqb n 3) b g.fourth ∷ []
        ≡ set (bytes_in g) n b
    go zero = refl
    go (suc zero) = refl
    go (suc (suc zero)) = refl
    go (suc (suc (suc zero))) = refl
    go (suc (suc (suc (suc n)))) =
        let other : (k : ℕ) → k ≤ 3 → eqb (suc (suc (suc (suc n)))) k ≡ false = λ k l. ne_eqb _ k (λ q. omega (arith, q)) in
        rw (other 0 (omega arith), other 1 (omega arith), other 2 (omega arith), other 3 (omega arith))

-- zeros behind so many: one byte more, or one that has no place
zeros_behind : (n c : ℕ) (bs : List ℕ) (b : ℕ) → same_by eqb bs (padded 0 n (take c bs)) ≡ true →
    same_by eqb (set bs c b) (padded 0 n (take (suc c) (set bs c b))) ≡ true
zeros_behind zero c [] b h = refl
zeros_behind zero c (x ∷ xs) b h = absurd (false≢true h)
zeros_behind (suc n) zero [] b h = absurd (false≢true h)
zeros_behind (suc n) (suc c) [] b h = absurd (false≢true h)
zeros_behind (suc n) zero (x ∷ xs) b h = and_both (eqb b b) _ (eqb_self b) (and_right (eqb x 0) _ h)
zeros_behind (suc n) (suc c) (x ∷ xs) b h = and_both (eqb x x) _ (eqb_self x) (zeros_behind n c xs b (and_right (eqb x x) _ h))

no_place : (n c : ℕ) (bs : List ℕ) (b : ℕ) → n ≤ c → same_by eqb bs (padded 0 n (take c bs)) ≡ true →
    same_by eqb (set bs c b) (padded 0 n (take c (set bs c b))) ≡ true
no_place zero c [] b l h = refl
no_place zero c (x ∷ xs) b l h = absurd (false≢true h)
no_place (suc n) zero bs b l h = absurd (omega arith)
no_place (suc n) (suc c) [] b l h = absurd (false≢true h)
no_place (suc n) (suc c) (x ∷ xs) b l h = and_both (eqb x x) _ (eqb_self x) (no_place n c xs b (omega arith) (and_right (eqb x x) _ h))

added_sound : (g : Receipt) (b : ℕ) → receipt_sound g ≡ true → receipt_sound (added g b) ≡ true
unfolding receipt_sound
added_sound g b h =
    let k = simp and-eq-true_iff at h in
    let now = set (bytes_in g) g.count b in
    let P : ℕ → Type 0 = λ c. (leb c too_many && same_by eqb now (padded 0 data_size (take c now))) ≡ true in
    rw (bytes_added g b)
    (by_test P (ltb g.count too_many)
    (λ room.
    and_both _ _ (le-leb (suc g.count) too_many (ltb-true g.count too_many room)) (zeros_behind data_size g.count (bytes_in g) b k.1))
    (λ full. and_both _ _ k.0 (no_place data_size g.count (bytes_in g) b (omega (arith, ltb-false g.count too_many full)) k.1)))

pub gathered_sound : (g : Receipt) (bs : List ℕ) → receipt_sound g ≡ true → receipt_sound (gathered g bs) ≡ true
unfolding gathered
gathered_sound g [] h = h
gathered_sound g (b ∷ bs) h = gathered_sound (added g b) bs (added_sound g b h)

gathered_octets : (g : Receipt) (bs : List ℕ) → are_bytes bs ≡ true → OctetsIn (Downloading g) → OctetsIn (Downloading (gathered g bs))
unfolding gathered
gathered_octets g [] h o = o
gathered_octets g (b ∷ bs) h o =
    let more = ap are_bytes (bytes_added g b) ∙ all_set (bytes_in g) g.count b o.1 (and_left (is_byte b) (are_bytes bs) h) in
    gathered_octets (added g b) bs (and_right (is_byte b) _ h) (o.0, more)

-- what a segment brings
pub carried_runs : (g : Receipt) (rq : List ℕ) → are_bytes rq ≡ true → MayRun (Downloading g) → MayRun (Downloading (gathered g (carried rq)))
unfolding transfer_sound
carried_runs g rq octet r =
    record {
      sound = gathered_sound g (carried rq) r.sound;
      octets = gathered_octets g (carried rq) (part_bytes segment_place (segment_size - unused_in (command_byte rq)) rq octet) r.octets;
    }

pub turned_runs : (g : Receipt) → MayRun (Downloading g) → MayRun (Downloading (turned g))
unfolding transfer_sound receipt_sound
turned_runs g r = record { sound = r.sound; octets = r.octets }
