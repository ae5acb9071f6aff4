-- What a service owes: its effect is lawful. A sound state is, and what the call's end makes of paces, plans and frames is sound.
-- Assumes nothing.
use Rattle.theorems.proofs.Words.{ℕ, zero, suc, ◌+◌, ◌<◌, arith, ◌≡◌, refl, sym, ◌∙◌, ap, Bool, true, or-true, false≢true, pdo_in, ltb, all_in}
use Rattle.theorems.proofs.Words.{and-eq-true_iff, List, [], ◌∷◌, eqb-true, eqb-false, lt-ltb, ltb-true, eqb, length, get_or, Plan, PdoData}
use Rattle.theorems.proofs.Words.{Drive, NmtState, Occasion, Pace, Transfer, State, Paced, In, here, there, and_left, and_right, and_both}
use Rattle.theorems.proofs.Words.{each_in, by_test, eqb_self, either, inl, inr, false, or-false}
use Rattle.theorems.proofs.Dictionary.{DictionaryOk, from_test}
use Rattle.state.specs.Occasions.{is_synced, is_ticked}
use Rattle.rules_dictionary.specs.Table.{dictionary_length, each_way, pdos, receive_pdos, transmit_pdos, mode, mode_display}
use Rattle.rules_dictionary.specs.{TheNode.is_node_id, Values.read, Values.stored, Legal.mode_number, Legal.is_cyclic}
use Rattle.drive.specs.{SetPoints.with_stay, Window.inside, Window.counted, Window.staying}
use Rattle.rules_services.specs.Effects.{Effect, with_drive, with_nmt, with_voltage, with_heartbeat, with_held, with_paces, with_transfer}
use Rattle.rules_services.specs.PdoTraffic.{idle, pace_of, cyclic, acyclic, event_driven, works, type_of}
use Rattle.rules.specs.Outcome.{drive_at_end, pace_for, transmitters, same_by, same_move, same_plan, same_data}
use Rattle.rules.specs.Sound.{sound, dictionary_sound, status_as_made, mode_as_made, plans_fresh, ready_fresh, heartbeat_sound, waiting_sound, pairwise}
use Rattle.rules.specs.Sound.{drive_sound, store_in_place, taken_in_place, cause_in_place, pace_sound, count_sound, due_sound, held_sound, transfer_sound}
use Rattle.rules.specs.Sound.{stay_sound}
use Rattle.rules.proofs.AtEnd.{at-end}

-- what waits for SYNC: counts below their type, and held frames that are sound
pub record Waits (m : NmtState) (ks : List Pace) (fs : List PdoData) (d : List ℕ) : Type 0 where
  pub counts : (t : ℕ) → In t transmitters → works m d (each_way + t) ≡ true → is_cyclic (type_of d (each_way + t)) ≡ true →
      (get_or ks t idle).count < type_of d (each_way + t)
  pub held : pairwise (held_sound m d) receive_pdos fs ≡ true

-- THE OBLIGATION of a service: the state's own parts after it are sound with the dictionary as it has written it. (6041h, 6061h, plans,
-- ready frames and due marks are not its own: they are made at the call's end.)
pub record Lawful (s : State) (d : List ℕ) : Type 0 where
  pub id : is_node_id s.node.id ≡ true
  pub long : length d ≡ dictionary_length
  pub dictionary : DictionaryOk s.node.id d
  pub mode : read d mode ≡ mode_number s.axis.drive.mode
  pub drive : drive_sound s.axis.drive d ≡ true
  pub heartbeat : heartbeat_sound s.node.heartbeat d ≡ true
  pub waits : Waits s.node.nmt s.axis.paces s.axis.held d

pub drive_lawful : (s : State) (d : List ℕ) (v : Drive) → Lawful s d → v.mode ≡ s.axis.drive.mode → drive_sound v d ≡ true →
    Lawful (with_drive v s) d
drive_lawful s d v law m h =
    let named = law.mode ∙ ap mode_number (sym m) in
    record { id = law.id; long = law.long; dictionary = law.dictionary; mode = named; drive = h; heartbeat = law.heartbeat; waits = law.waits }

-- no part of it reads the transfer
pub transfer_lawful : {s : State} {d : List ℕ} (t : Transfer) → Lawful s d → Lawful (with_transfer t s) d
transfer_lawful t law =
    record {
      id = law.id;
      long = law.long;
      dictionary = law.dictionary;
      mode = law.mode;
      drive = law.drive;
      heartbeat = law.heartbeat;
      waits = law.waits;
    }

-- the node's part changed, and what waits
pub node_lawful : (s : State) (d : List ℕ) (m : NmtState) (b : Bool) (k : ℕ) (ks : List Pace) (fs : List PdoData) → Lawful s d →
    heartbeat_sound k d ≡ true → Waits m ks fs d → Lawful (with_nmt m (with_voltage b (with_heartbeat k (with_held fs (with_paces ks s))))) d
node_lawful s d m b k ks fs law h w =
    record { id = law.id; long = law.long; dictionary = law.dictionary; mode = law.mode; drive = law.drive; heartbeat = h; waits = w }

-- ---- what is kept is equal to itself

pub same_refl {ℓ} : {A : Type ℓ} (f : A → A → Bool) → ((x : A) → f x x ≡ true) → (xs : List A) → same_by f xs xs ≡ true
same_refl f h [] = refl
same_refl f h (x ∷ xs) = rw (h x) (same_refl f h xs)

pub plan_refl : (p : Plan) → same_plan p p ≡ true
plan_refl p = and_both _ _ (eqb_self p.count) (same_refl same_move (λ m. and_both _ _ (eqb_self m.place) (eqb_self m.size)) p.moves)

pub data_refl : (f : PdoData) → same_data f f ≡ true
data_refl f = and_both _ _ (eqb_self f.length) (same_refl eqb eqb_self f.bytes)

-- ---- a transmit PDO's pace keeps its count and its due mark sound

pub paced_sound : (s s' : State) (o : Occasion) (d : List ℕ) (ready : List PdoData) (t : ℕ) →
    (works s'.node.nmt d (each_way + t) ≡ true → is_cyclic (type_of d (each_way + t)) ≡ true →
    (get_or s'.axis.paces t idle).count < type_of d (each_way + t)) → pace_sound s'.node.nmt d (each_way + t) (pace_for s s' o d ready t).kept ≡ true
unfolding pace_sound count_sound due_sound pace_for pace_of cyclic acyclic event_driven
paced_sound s s' o d ready t below =
    let p = each_way + t in
    let n = type_of d p in
    let k = (get_or s'.axis.paces t idle).count in
    let P : Paced → Type 0 = λ k. pace_sound s'.node.nmt d p k.kept ≡ true in
    by_test P (works s'.node.nmt d p)
    (λ w. by_test P (is_cyclic n)
    (λ c. by_test P (is_synced o)
    (λ y. by_test P (eqb (suc k) n) (λ e. let l : 0 < n = omega (arith, below w c) in rw (w, c, lt-ltb 0 n l))
    (λ e. let l : suc k < n = omega (arith, below w c, eqb-false (suc k) n e) in rw (w, c, lt-ltb (suc k) n l)))
    (λ y. rw (w, c, lt-ltb k n (below w c))))
    (λ c. by_test P (eqb n 0) (λ z. rw (w, c, z, or-true)) (λ z. rw (w, c))))
    (λ w. rw w)

-- ---- lists tested pair by pair

pub pairwise_map {ℓ κ} : {A : Type ℓ} {B : Type κ} (f g : A → B → Bool) (xs : List A) (ys : List B) →
    ((x : A) → In x xs → (y : B) → f x y ≡ true → g x y ≡ true) → pairwise f xs ys ≡ true → pairwise g xs ys ≡ true
pairwise_map f g [] [] h k = refl
pairwise_map f g [] (y ∷ ys) h k = k
pairwise_map f g (x ∷ xs) [] h k = k
pairwise_map f g (x ∷ xs) (y ∷ ys) h k =
    rw (h x here y (and_left (f x y) (pairwise f xs ys) k)) (pairwise_map f g xs ys (λ z i. h z (there i)) (and_right (f x y) (pairwise f xs ys) k))

-- transmit PDO t is PDO 4 + t
pub transmitter_in : {t : ℕ} → In t transmitters → In (each_way + t) pdos
transmitter_in i =
    pdo_in _ (ltb-true _ 8 (all_in (λ t. ltb (each_way + t) 8) i refl))

-- the state that the call's end starts from, with the drive as it leaves it
abbrev pub finally : List ℕ → Effect → State
finally d e = with_drive (drive_at_end e.occasion (stored e.writes d) e.state.axis.drive) e.state

-- the call's end may change of the drive only the count, which is judged there
pub at_end_lawful : (s : State) (o : Occasion) (d : List ℕ) → Lawful s d → Lawful (with_drive (drive_at_end o d s.axis.drive) s) d
unfolding drive_sound store_in_place taken_in_place cause_in_place
at_end_lawful s o d law =
    let k = at-end o d s.axis.drive in
    drive_lawful s d (drive_at_end o d s.axis.drive) law k.mode (rw (k.state, k.mode, k.store, k.taken, k.limit, k.cause) law.drive)

-- the call's end makes the count sound, with whatever it was written
pub stay_at_end : (o : Occasion) (d : List ℕ) (v : Drive) → stay_sound (drive_at_end o d v) d ≡ true
unfolding drive_at_end staying counted stay_sound
stay_at_end o d v = elim (either (inside v.store d)) [ inl e ↦ rw (e, or-true) | inr e ↦ rw e ]

-- .. and it stays so with another dictionary in which the position is inside as before
pub stay_same : (d d' : List ℕ) (v : Drive) → inside v.store d' ≡ inside v.store d → stay_sound v d ≡ true → stay_sound v d' ≡ true
unfolding stay_sound
stay_same d d' v e h = rw e h

-- .. and where it is sound already, and no tick came, the call's end leaves the drive as it was
pub unticked : (o : Occasion) (d : List ℕ) (v : Drive) → is_ticked o ≡ false → stay_sound v d ≡ true → drive_at_end o d v ≡ v
unfolding drive_at_end staying counted stay_sound
unticked o d v q h =
    let same : counted (is_ticked o) v d ≡ v.stay =
    rw q (elim (either (inside v.store d)) [ inl e ↦ rw e | inr e ↦ rw e (sym (eqb-true v.stay 0 (rw (e, or-false) at h))) ]) in
    ap (λ (n : ℕ). with_stay n v) same

-- ---- and a sound start is lawful

pub pairwise_at {ℓ κ} : {A : Type ℓ} {B : Type κ} (f : A → B → Bool) (w : A) (z : B) (xs : List A) (ys : List B) → pairwise f xs ys ≡ true →
    (t : ℕ) → t < length xs → f (get_or xs t w) (get_or ys t z) ≡ true
pairwise_at f w z [] ys h t l = absurd (omega arith)
pairwise_at f w z (x ∷ xs) [] h t l = absurd (false≢true h)
pairwise_at f w z (x ∷ xs) (y ∷ ys) h zero l = and_left (f x y) (pairwise f xs ys) h
pairwise_at f w z (x ∷ xs) (y ∷ ys) h (suc t) l = pairwise_at f w z xs ys (and_right (f x y) (pairwise f xs ys) h) t (omega arith)

-- transmit PDO t stands at place t
pub transmitter_at : {t : ℕ} → In t transmitters → (t < 4) × (get_or transmit_pdos t 0 ≡ each_way + t)
transmitter_at i =
    each_in (λ t. (t < 4) × (get_or transmit_pdos t 0 ≡ each_way + t)) i
    ((omega arith, refl), ((omega arith, refl), ((omega arith, refl), ((omega arith, refl), tt))))

-- the clauses of a sound state, by name
pub record Clauses (s : State) (d : List ℕ) : Type 0 where
  pub id : is_node_id s.node.id ≡ true
  pub dictionary : dictionary_sound s.node.id d ≡ true
  pub status : status_as_made s d ≡ true
  pub mode : mode_as_made s d ≡ true
  pub plans : plans_fresh s d ≡ true
  pub ready : ready_fresh s d ≡ true
  pub drive : drive_sound s.axis.drive d ≡ true
  pub heartbeat : heartbeat_sound s.node.heartbeat d ≡ true
  pub waiting : waiting_sound s d ≡ true
  pub transfer : transfer_sound s.transfer ≡ true
  pub stay : stay_sound s.axis.drive d ≡ true

pub clauses : (s : State) (d : List ℕ) → sound s d ≡ true → Clauses s d
unfolding sound
clauses s d h =
    let k = simp and-eq-true_iff at h in
    let l = k.0.0.0.0.0.0 in
    record {
      id = and_both _ _ l.0.0.0.0.0 l.0.0.0.0.1;
      dictionary = l.0.0.0.1;
      status = l.0.0.1;
      mode = l.0.1;
      plans = l.1;
      ready = k.0.0.0.0.0.1;
      drive = k.0.0.0.0.1;
      heartbeat = k.0.0.0.1;
      waiting = k.0.0.1;
      transfer = k.0.1;
      stay = k.1;
    }

-- what is counted of a transmit PDO is sound
pub count_at : (s : State) (d : List ℕ) {t : ℕ} → sound s d ≡ true → In t transmitters →
    count_sound s.node.nmt d (each_way + t) (get_or s.axis.paces t idle).count ≡ true
unfolding waiting_sound pace_sound
count_at s d {t} h i =
    let m = s.node.nmt in
    let all = and_left (pairwise (pace_sound m d) transmit_pdos s.axis.paces) _ (clauses s d h).waiting in
    let at = transmitter_at i in
    and_left _ _ (rw at.1 at (pairwise_at (pace_sound m d) 0 idle transmit_pdos s.axis.paces all t at.0))

pub sound_lawful : (s : State) (d : List ℕ) → length d ≡ dictionary_length → sound s d ≡ true → Lawful s d
unfolding mode_as_made waiting_sound count_sound
sound_lawful s d l h =
    let c = clauses s d h in
    record {
      id = c.id;
      long = l;
      dictionary = from_test s.node.id d c.dictionary;
      mode = eqb-true _ _ (and_right (eqb (read d mode_display) (read d mode)) _ c.mode);
      drive = c.drive;
      heartbeat = c.heartbeat;
      waits = record {
        counts = λ t i w k. ltb-true _ _ (rw (w, k) at (count_at s d h i));
        held = and_right (pairwise (pace_sound s.node.nmt d) transmit_pdos s.axis.paces) _ c.waiting;
      };
    }
