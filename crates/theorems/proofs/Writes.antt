-- Writes keep a state lawful: each row one that may hold its value, and what is then acted on.
-- Assumes nothing.
pub use Rattle.rules_dictionary.proofs.Members.{in_cons, filtered, filter_in}
use Rattle.theorems.proofs.Words.{ℕ, ◌+◌, ◌^◌, ◌<◌, arith, ◌≡◌, refl, sym, ◌∙◌, ap, subst, ◌⊎◌, inl, inr, true, false, ◌||◌}
use Rattle.theorems.proofs.Words.{Bool·not-not, List, [], ◌∷◌, ◌++◌, append-nil, eqb-true, eqb, PdoData, Drive, NmtState, Pace, State, In}
use Rattle.theorems.proofs.Words.{false_not, here, there, and_both, none_in, apart, same_or_apart, read_apart, length_store, length_stored}
use Rattle.theorems.proofs.Words.{field_stored, all_of, in_left, is_operational, clash, either, or_either, by_test, any_false_in, same_self}
use Rattle.theorems.proofs.Dictionary.{DictionaryOk, well_chosen, MayHold, store_ok, is_pdo, held_alike, works_alike, type_alike}
use Rattle.theorems.proofs.Mapped.{received_row}
use Rattle.theorems.proofs.Settled.{drive_may, whole_range, mode_in, control_in, time_in, register_in}
use Rattle.theorems.proofs.Lawful.{Lawful, Waits, pairwise_map, transmitter_in}
use Rattle.theorems.proofs.DriveKept.{parts, control_sound, control_mode, mode_moded}
use Rattle.rules_dictionary.specs.Table.{Row, table, same, size_of, receive_pdos, transmit_pdos, each_way, control_word, mode, heartbeat_time}
use Rattle.rules_dictionary.specs.Table.{error_register, open_table}
use Rattle.rules_dictionary.specs.Values.{Write, write, read, store, stored, to_defaults}
use Rattle.rules_dictionary.specs.{Numbers.value, Legal.mode_number, Legal.is_mode, Legal.is_cyclic}
use Rattle.drive.specs.SetPoints.{mode_of, mode_written, control_written}
use Rattle.rules_services.specs.Written.{wrote, count_restarted, mode_acted, fault_reset, control_acted, applied}
use Rattle.rules_services.specs.{Effects.Effect, Effects.with_drive, Effects.with_heartbeat, PdoTraffic.works, PdoTraffic.is_held}
use Rattle.rules.specs.Sound.{drive_sound, store_in_place, taken_in_place, cause_in_place, heartbeat_sound, held_sound}

-- ---- a row that was not written stays

abbrev pub InTable : List Write → Type 0
InTable ws = (w : Write) → In w ws → In w.row table

pub spared : (x : Row) (ws : List Write) (d : List ℕ) → In x table → InTable ws → ((w : Write) → In w ws → w.row ≡ x → ⊥) →
    read (stored ws d) x ≡ read d x
unfolding read
spared x ws d i rows other =
    ap value (field_stored x ws d (all_of (λ w. apart w.row x) ws
    (λ w j. elim (same_or_apart (rows w j) i) [ inl e ↦ absurd (other w j e) | inr a ↦ a ])))

pub not_wrote : (x : Row) (ws : List Write) (d : List ℕ) → In x table → InTable ws → wrote x ws ≡ false → read (stored ws d) x ≡ read d x
not_wrote x ws d i rows h = spared x ws d i rows (λ w j e. clash (same x w.row) (rw e (same_self x)) (any_false_in (λ w. same x w.row) j h))

-- rows of no PDO leave the rows of the PDOs
abbrev pub NoPdo : List Write → Type 0
NoPdo ws = (w : Write) → In w ws → is_pdo w.row.role ≡ false

pub no_pdo_alike : (ws : List Write) (d : List ℕ) → InTable ws → NoPdo ws → (y : Row) → In y table → is_pdo y.role ≡ true →
    read (stored ws d) y ≡ read d y
no_pdo_alike ws d rows quiet y i h = spared y ws d i rows (λ w j e. clash (is_pdo w.row.role) (rw e h) (quiet w j))

pub one_row {ℓ} : {w : Write} (P : Write → Type ℓ) → P w → (v : Write) → In v (w ∷ []) → P v
one_row P h v here = h
one_row P h v (there i) = absurd (none_in i)

pub defaults_within : (n : ℕ) (xs : List Row) (w : Write) → In w (to_defaults n xs) → In w.row xs
defaults_within n [] w i = absurd (none_in i)
defaults_within n (x ∷ xs) w here = here
defaults_within n (x ∷ xs) w (there i) = there (defaults_within n xs w i)

-- ---- the PDOs' part of lawful: outside Operational, and where the PDOs' rows stay

pub idle : (m : NmtState) (d : List ℕ) (p : ℕ) → is_operational m ≡ false → works m d p ≡ false
unfolding works
idle m d p h = rw h

-- a frame that is held although its PDO does not work would not be sound
pub idle_held : (m m' : NmtState) (d d' : List ℕ) (p : ℕ) (f : PdoData) → works m d p ≡ false → held_sound m d p f ≡ true → held_sound m' d' p f ≡ true
unfolding held_sound
idle_held m m' d d' p f w h = elim (either (is_held f)) [ inl e ↦ clash false (rw (e, w) at h) refl | inr e ↦ rw e (rw e at h) ]

waits_idle : (m : NmtState) (ks : List Pace) (fs : List PdoData) (d d' : List ℕ) → Waits m ks fs d → is_operational m ≡ false → Waits m ks fs d'
waits_idle m ks fs d d' k h =
    record {
      counts = λ t i w c. clash (works m d' (each_way + t)) w (idle m d' (each_way + t) h);
      held = pairwise_map (held_sound m d) (held_sound m d') receive_pdos fs (λ p i f q. idle_held m m d d' p f (idle m d p h) q) k.held;
    }

waits_alike : {n : ℕ} (m : NmtState) (ks : List Pace) (fs : List PdoData) (d d' : List ℕ) → DictionaryOk n d → Waits m ks fs d →
    ((y : Row) → In y table → is_pdo y.role ≡ true → read d' y ≡ read d y) → Waits m ks fs d'
waits_alike m ks fs d d' ok k alike =
    record {
      counts = λ t i w c.
          let type = type_alike d d' alike (transmitter_in i) in
          rw type (k.counts t i (sym (works_alike d d' alike m (transmitter_in i)) ∙ w) (ap is_cyclic (sym type) ∙ c));
      held =
          pairwise_map (held_sound m d) (held_sound m d') receive_pdos fs
          (λ p i f q.
          held_alike d d' alike m (in_left transmit_pdos i) (λ x j. ((received_row ok i j).quiet.0, (received_row ok i j).free)) f ∙ q) k.held;
    }

-- ---- what is acted on

-- a legal mode is the mode's own number
mode_number_lem : (v : ℕ) → is_mode v ≡ true → mode_number (mode_of v) ≡ v
mode_number_lem v h =
    by_test (λ m. mode_number m ≡ v) (eqb v 1) (λ a. sym (eqb-true v 1 a))
    (λ a. by_test (λ m. mode_number m ≡ v) (eqb v 3) (λ b. sym (eqb-true v 3 b))
    (λ b. elim (or_either (eqb v 0) (eqb v 1 || (eqb v 3 || false)) h) [ inl e ↦ sym (eqb-true v 0 e) | inr e ↦ clash false (rw (a, b) at e) refl ]))

legal_mode : (n : ℕ) (d : List ℕ) → DictionaryOk n d → is_mode (read d mode) ≡ true
legal_mode n d ok = simp Bool·not-not at (false_not _ (well_chosen ok mode_in))

-- a row of no PDO, apart from what the drive and the heartbeat look at, written with what it may hold
pub store_lawful : (s : State) (d : List ℕ) (x : Row) (v : ℕ) → Lawful s d → In x table → is_pdo x.role ≡ false → MayHold s.node.id d x v →
    apart x mode ≡ true → apart x control_word ≡ true → apart x heartbeat_time ≡ true → Lawful s (store x v d)
unfolding stored drive_sound taken_in_place heartbeat_sound
store_lawful s d x v law i quiet may m c h =
    record {
      id = law.id;
      long = length_store x v d ∙ law.long;
      dictionary = store_ok s.node.id d x v i law.long law.dictionary may;
      mode = read_apart x mode v d m ∙ law.mode;
      drive = rw (read_apart x control_word v d c) law.drive;
      heartbeat = rw (read_apart x heartbeat_time v d h) law.heartbeat;
      waits = waits_alike s.node.nmt s.axis.paces s.axis.held d (store x v d) law.dictionary law.waits
          (no_pdo_alike (write x v ∷ []) d (one_row (λ w. In w.row table) i) (one_row (λ w. is_pdo w.row.role ≡ false) quiet));
    }

-- ---- writes that are stored and then acted on

pub stored_append : (ws vs : List Write) (d : List ℕ) → stored (ws ++ vs) d ≡ stored vs (stored ws d)
unfolding stored
stored_append [] vs d = refl
stored_append (w ∷ ws) vs d = stored_append ws vs (store w.row w.value d)

-- rows of the table, with values that fit them
abbrev pub Fitting : List Write → Type 0
Fitting ws = (w : Write) → In w ws → In w.row table × (w.value < 256 ^ size_of w.row)

-- writes that a service may apply: they fit, they leave the PDOs alone or come outside Operational, and the dictionary stays sound
pub record MayApply (s : State) (d : List ℕ) (ws : List Write) : Type 0 where
  pub fit : Fitting ws
  pub quiet : (is_operational s.node.nmt ≡ false) ⊎ NoPdo ws
  pub ok : DictionaryOk s.node.id (stored ws d)

module _ (s : State) (d : List ℕ) (ws : List Write) (law : Lawful s d) (may : MayApply s d ws) where
  rows : InTable ws
  rows w i = (may.fit w i).0

  abbrev d1 : List ℕ
  d1 = stored ws d

  abbrev v0 : Drive
  v0 = s.axis.drive

  waits : Waits s.node.nmt s.axis.paces s.axis.held d1
  waits =
      elim may.quiet [
        | inl h ↦ waits_idle s.node.nmt s.axis.paces s.axis.held d d1 law.waits h
        | inr h ↦ waits_alike s.node.nmt s.axis.paces s.axis.held d d1 law.dictionary law.waits (no_pdo_alike ws d rows h)
      ]

  -- the state once the heartbeat's count and the mode were acted on
  record Acted (t : State) : Type 0 where
    count : ℕ
    drive : Drive
    is : t ≡ with_drive drive (with_heartbeat count s)
    beat : heartbeat_sound count d1 ≡ true
    mode : read d1 mode ≡ mode_number drive.mode
    store : store_in_place drive ≡ true
    cause : cause_in_place drive ≡ true
    taken : wrote control_word ws ≡ false → taken_in_place drive d1 ≡ true

  acted : Acted (mode_acted ws (count_restarted ws s) d1)
  unfolding mode_acted count_restarted heartbeat_sound taken_in_place
  acted =
      let r : (k : ℕ) × (count_restarted ws s ≡ with_heartbeat k s) × (heartbeat_sound k d1 ≡ true) =
      by_test (λ (t : State). (k : ℕ) × (t ≡ with_heartbeat k s) × (heartbeat_sound k d1 ≡ true)) (wrote heartbeat_time ws) (λ e. (0, refl, refl))
      (λ e. (s.node.heartbeat, refl, rw (not_wrote heartbeat_time ws d time_in rows e) law.heartbeat)) in
      let k = parts v0 d law.drive in
      let m = mode_moded d1 v0 in
      let taken : wrote control_word ws ≡ false → taken_in_place v0 d1 ≡ true = λ h. rw (not_wrote control_word ws d control_in rows h) k.taken in
      by_test Acted (wrote mode ws)
      (λ e. record {
        count = r.0;
        drive = mode_written d1 v0;
        is = ap (λ (t : State). with_drive (mode_written d1 t.axis.drive) t) r.1;
        beat = r.2;
        mode = sym (mode_number_lem (read d1 mode) (legal_mode s.node.id d1 may.ok)) ∙ ap mode_number (sym m.mode);
        store = m.store;
        cause = m.cause k.cause;
        taken = λ h. m.taken d1 (taken h);
      })
      (λ e. record {
        count = r.0;
        drive = v0;
        is = r.1;
        beat = r.2;
        mode = not_wrote mode ws d mode_in rows e ∙ law.mode;
        store = k.store;
        cause = k.cause;
        taken = taken;
      })

  -- a state so acted on, with a drive that is sound with 6040h as it stands
  lawful_with : {t : State} (a : Acted t) (v : Drive) → v.mode ≡ a.drive.mode → drive_sound v d1 ≡ true →
      Lawful (with_drive v (with_heartbeat a.count s)) d1
  lawful_with a v m h =
      let long = length_stored ws d ∙ law.long in
      let named = a.mode ∙ ap mode_number (sym m) in
      record { id = law.id; long = long; dictionary = may.ok; mode = named; drive = h; heartbeat = a.beat; waits = waits }

  -- THE LAW
  pub applied_lawful : Lawful (applied ws s d).state (stored (applied ws s d).writes d)
  unfolding applied control_acted fault_reset stored drive_sound open_table
  applied_lawful =
      let a = acted in
      let v = a.drive in
      let old = read d control_word in
      let c = control_written d1 old v in
      let u = with_drive c.drive (with_heartbeat a.count s) in
      let controlled : Lawful u d1 = lawful_with a c.drive (control_mode d1 old v) (control_sound d1 old v a.cause) in
      let P : Effect → Type 0 = λ e. Lawful e.state (stored (ws ++ e.writes) d) in
      subst (λ (t : State). P (control_acted old ws t d1)) (sym a.is)
      (by_test P (wrote control_word ws)
      (λ w. by_test P c.reset
      (λ r. rw (stored_append ws (write error_register 0 ∷ []) d) (store_lawful u d1 error_register 0 controlled register_in refl
      (drive_may u.node.id d1 error_register 0 refl refl refl (omega arith) (whole_range error_register 0 refl refl (omega arith))) refl refl refl))
      (λ r. rw append-nil controlled))
      (λ w. rw append-nil (lawful_with a v refl (and_both _ _ (and_both _ _ a.store (a.taken w)) a.cause))))
