-- NMT commands, power-up and events leave a lawful state.
-- Assumes nothing.
use Rattle.theorems.proofs.Words.{ℕ, suc, ◌+◌, ◌^◌, ◌<◌, arith, ◌≡◌, refl, sym, ◌∙◌, ap₂, subst, ap, ◌⊎◌, inl, inr, Bool, true, false, not}
use Rattle.theorems.proofs.Words.{cond, ◌&&◌, ◌||◌, List, [], ◌∷◌, map, append-nil, eqb-true, leb-true, ltb-true, ltb, leb, length, get_or}
use Rattle.theorems.proofs.Words.{bit_or, or_lt, NmtState, PreOperational, Operational, State, DisableVoltage, DriveState, FaultReactionActive}
use Rattle.theorems.proofs.Words.{Plain, Event, Started, QuickStopDone, ReactionDone, SetPointReached, Tick, CauseGone, Feedback, Voltage, In}
use Rattle.theorems.proofs.Words.{here, there, and_left, each_in, all_in, all_below, on_nodes, none_in, and_both, words_read, identifier_in}
use Rattle.theorems.proofs.Words.{count_in_lem, entry_in, length_store, length_stored, read_same, read_apart, read_fits, within, same_or_apart}
use Rattle.theorems.proofs.Words.{apart, found_in, is_operational, either, clash, not-true, implied, on_states}
use Rattle.theorems.proofs.GoodValues.{in_range}
use Rattle.theorems.proofs.Dictionary.{DictionaryOk, minimum_in, maximum_in, map_same, is_pdo, is_limit}
use Rattle.theorems.proofs.Settled.{mode_in, control_in, drive_may, whole_range, status_in, display_in}
use Rattle.theorems.proofs.Lawful.{Lawful, Waits, drive_lawful, pairwise_map, count_at, sound_lawful, node_lawful}
use Rattle.theorems.proofs.DriveKept.{parts, enters_sound, next_cause, emptied_same, enters_store, emptied_taken}
use Rattle.theorems.proofs.Writes.{spared, in_cons, filtered, filter_in, defaults_within, idle as unworking, idle_held, store_lawful}
use Rattle.rules_dictionary.specs.Table.{Row, table, size_of, dictionary_length, is_constant, pdos, receive_pdos, each_way, mode, control_word, identifier}
use Rattle.rules_dictionary.specs.Table.{is_reset, status_word, mode_display, map_count, map_entry, map_slots, open_table, whole, error_code, error_register}
use Rattle.rules_dictionary.specs.Table.{position, velocity, heartbeat_time, minimum_position, maximum_position}
use Rattle.rules_dictionary.specs.Legal.{is_cyclic, in_order, entry_verdict, count_verdict, map_words, identifiers, bad_identifier, open_legal}
use Rattle.rules_dictionary.specs.{Numbers.all, Numbers.filter, Numbers.are_bytes, TheNode.last_node, TheNode.is_node_id, Values.Write, Values.read}
use Rattle.rules_dictionary.specs.{Values.store, Values.stored, Values.default_of, Values.to_defaults, Aborts.is_good, Aborts.open_aborts}
use Rattle.rules_dictionary.proofs.Defaults.{defaults_in_range}
use Rattle.drive.specs.DriveStates.{next, is_not_ready, is_quick_stop, is_faulty}
use Rattle.drive.specs.SetPoints.{enters, with_cause}
use Rattle.rules_services.specs.{Effects.Effect, Effects.with_nmt, Effects.with_heartbeat, Effects.with_drive, Effects.without_transfer}
use Rattle.rules_services.specs.{PdoTraffic.none_held, PdoTraffic.idle, PdoTraffic.all_idle, Nmt.left, Nmt.voltage_disabled, Nmt.power_up}
use Rattle.rules_services.specs.{Nmt.fresh_state, declared.Event.TheVariants.Fault, Events.faulted, Events.generic_error}
use Rattle.rules_services.specs.PdoTraffic.{works, type_of}
use Rattle.rules.specs.Sound.{sound, drive_sound, store_in_place, taken_in_place, cause_in_place, heartbeat_sound, count_sound, held_sound}

abbrev pub LawfulAfter : List ℕ → Effect → Type 0
LawfulAfter d e = Lawful e.state (stored e.writes d)

-- ---- leaving Operational, and entering it

cyclic_positive : (t : ℕ) → is_cyclic t ≡ true → 0 < t
cyclic_positive t h = leb-true 1 t (and_left (leb 1 t) (leb t 240) h)

-- nothing counted, and nothing held
none_waits : (m : NmtState) (d : List ℕ) → Waits m all_idle none_held d
unfolding held_sound
none_waits m d =
    record {
      counts = λ t i w c.
          let none : (get_or all_idle t idle).count ≡ 0 = each_in (λ t. (get_or all_idle t idle).count ≡ 0) i (refl, (refl, (refl, (refl, tt)))) in
          rw none (cyclic_positive (type_of d (each_way + t)) c);
      held = refl;
    }

pub left_lawful : (s : State) (d : List ℕ) (m : NmtState) → Lawful s d → Lawful (with_nmt m (left s)) d
unfolding left
left_lawful s d m law = node_lawful s d m s.node.voltage s.node.heartbeat all_idle none_held law law.heartbeat (none_waits m d)

pub start_lawful : (s : State) (d : List ℕ) → length d ≡ dictionary_length → sound s d ≡ true → is_operational s.node.nmt ≡ false →
    Lawful (with_nmt Operational s) d
unfolding count_sound
start_lawful s d l h off =
    let law = sound_lawful s d l h in
    let m = s.node.nmt in
    node_lawful s d Operational s.node.voltage s.node.heartbeat s.axis.paces s.axis.held law law.heartbeat
    (record {
      counts = λ t i w c.
          let none = eqb-true (get_or s.axis.paces t idle).count 0 (rw (unworking m d (each_way + t) off) at (count_at s d h i)) in
          rw none (cyclic_positive (type_of d (each_way + t)) c);
      held = pairwise_map (held_sound m d) (held_sound Operational d) receive_pdos s.axis.held
          (λ p i f k. idle_held m Operational d d p f (unworking m d p off) k) law.waits.held;
    })

-- ---- Disable voltage

pub disabled_lawful : (s : State) (d : List ℕ) → Lawful s d → Lawful (voltage_disabled s) d
unfolding voltage_disabled enters
disabled_lawful s d law =
    let v = s.axis.drive in
    let q = next v.cause v.state DisableVoltage in
    let k = parts v d law.drive in
    drive_lawful s d (enters q v) law (emptied_same _).mode (enters_sound q v d k.taken (next_cause v DisableVoltage k.cause))

-- ---- rows to their defaults

default_fits : ℕ → Row → Bool
default_fits n x = ltb (default_of n x) (256 ^ size_of x)

module _ (n : ℕ) (legal : is_node_id n ≡ true) {x : Row} (i : In x table) where
  default_now : (d : List ℕ) → length d ≡ dictionary_length → read (store x (default_of n x) d) x ≡ default_of n x
  unfolding default_fits open_table
  default_now d l =
      read_same x (default_of n x) d (omega (arith, within i))
      (ltb-true _ _ (all_in (default_fits n) i (on_nodes (λ n. all (default_fits n) table) refl n legal)))

  -- a default that is written, or stood there before
  default_read : (rs : List Row) (d : List ℕ) → ((r : Row) → In r rs → In r table) → length d ≡ dictionary_length →
      In x rs ⊎ (read d x ≡ default_of n x) → read (stored (to_defaults n rs) d) x ≡ default_of n x
  unfolding stored
  default_read [] d rows l (inl j) = absurd (none_in j)
  default_read [] d rows l (inr h) = h
  default_read (r ∷ rs) d rows l k =
      default_read rs (store r (default_of n r) d) (λ y j. rows y (there j)) (length_store r (default_of n r) d ∙ l)
      (elim (same_or_apart (rows r here) i) [
        | inl e ↦ inr (subst (λ (z : Row). read (store z (default_of n z) d) x ≡ default_of n x) (sym e) (default_now d l))
        | inr a ↦ elim k [
          | inl j ↦ elim (in_cons j) [
            | inl q ↦ inr (subst (λ (z : Row). read (store z (default_of n z) d) x ≡ default_of n x) q (default_now d l))
            | inr m ↦ inl m
          ]
          | inr h ↦ inr (read_apart r x (default_of n r) d a ∙ h)
        ]
      ])

-- the default identifiers are legal together, on every node
abbrev name_legal : ℕ → ℕ → Bool
name_legal n p = not (bad_identifier (map (λ q. default_of n (identifier q)) pdos) p (default_of n (identifier p)))

names-test : all_below (λ k. all (name_legal (suc k)) pdos) last_node ≡ true
unfolding open_table open_legal
names-test = refl

-- the rows of the PDOs are among those
abbrev PdoRows : List Row → Type 0
PdoRows rs = (p k : ℕ) → In p pdos → In k map_slots → In (identifier p) rs × In (map_count p) rs × In (map_entry p k) rs

-- of a row that is not among those: it stays, and was in order
abbrev Stays : ℕ → List Row → List ℕ → Row → Type 0
Stays n rs d x =
    (read (stored (to_defaults n rs) d) x ≡ read d x) × (is_constant x.access ≡ true → read d x ≡ default_of n x) × (in_range x (read d x) ≡ true)

-- rows of the table to their defaults, the PDOs' among them: a sound dictionary
module _ (n : ℕ) (rs : List Row) (d : List ℕ) (legal : is_node_id n ≡ true) (long : length d ≡ dictionary_length)
    (rows : (r : Row) → In r rs → In r table)
    (pdo : PdoRows rs) (pick : (x : Row) → In x table → In x rs ⊎ Stays n rs d x)
    (order : in_order (read (stored (to_defaults n rs) d) minimum_position) (read (stored (to_defaults n rs) d) maximum_position) ≡ true) where
  abbrev d1 : List ℕ
  d1 = stored (to_defaults n rs) d

  now : (x : Row) → In x table → In x rs → read d1 x ≡ default_of n x
  now x i j = default_read n legal i rs d rows long (inl j)

  maps_test : (all (λ p. all (λ k. is_good (entry_verdict p (default_of n (map_entry p k)))) map_slots) pdos ≡ true)
      × (all (λ p. is_good (count_verdict (map (λ k. default_of n (map_entry p k)) map_slots) (default_of n (map_count p)))) pdos ≡ true)
  unfolding open_table open_aborts open_legal
  maps_test = (refl, refl)

  by_case : {x : Row} → In x table → (P : ℕ → Type 0) → P (default_of n x) → (Stays n rs d x → P (read d x)) → P (read d1 x)
  by_case {x} i P f g = elim (pick x i) [ inl j ↦ subst P (sym (now x i j)) f | inr h ↦ subst P (sym h.0) (g h) ]

  pub defaults_ok : DictionaryOk n (stored (to_defaults n rs) d)
  unfolding in_range identifiers
  defaults_ok =
      let entries : (p : ℕ) → In p pdos → map_words d1 p ≡ map (λ k. default_of n (map_entry p k)) map_slots =
      λ p i. words_read d1 i
      ∙ map_same (λ k. read d1 (map_entry p k)) (λ k. default_of n (map_entry p k)) map_slots
      (λ k j. now (map_entry p k) (entry_in i j) (pdo p k i j).2) in
      let names = map_same (λ p. read d1 (identifier p)) (λ p. default_of n (identifier p)) pdos
      (λ p i. now (identifier p) (identifier_in i) (pdo p 1 i here).0) in
      record {
        listed = λ x i k. by_case i (λ v. v ≡ default_of n x) refl (λ h. h.1 k);
        ranged = λ x i. by_case i (λ v. in_range x v ≡ true) (defaults_in_range n x legal i) (λ h. h.2);
        words = λ p k i j. rw (now (map_entry p k) (entry_in i j) (pdo p k i j).2)
            (all_in (λ k. is_good (entry_verdict p (default_of n (map_entry p k)))) j
            (all_in (λ p. all (λ k. is_good (entry_verdict p (default_of n (map_entry p k)))) map_slots) i maps_test.0));
        counts = λ p i. ap₂ (λ (ws : List ℕ) (c : ℕ). is_good (count_verdict ws c)) (entries p i) (now (map_count p) (count_in_lem i) (pdo p 1 i here).1)
            ∙ all_in (λ p. is_good (count_verdict (map (λ k. default_of n (map_entry p k)) map_slots) (default_of n (map_count p)))) i maps_test.1;
        named = λ p i. ap₂ (λ (ws : List ℕ) (w : ℕ). bad_identifier ws p w) names (now (identifier p) (identifier_in i) (pdo p 1 i here).0)
            ∙ not-true _ (all_in (name_legal n) i (on_nodes (λ n. all (name_legal n) pdos) names-test n legal));
        ordered = order;
      }

-- ---- power-up: every row

pub fresh_lawful : (n : ℕ) (d : List ℕ) → is_node_id n ≡ true → length d ≡ dictionary_length → LawfulAfter d (power_up n)
unfolding power_up fresh_state drive_sound store_in_place taken_in_place cause_in_place heartbeat_sound works
fresh_lawful n d legal long =
    rw append-nil
    (record {
      id = legal;
      long = length_stored (to_defaults n table) d ∙ long;
      dictionary = defaults_ok n table d legal long (λ r i. i) (λ p k i j. (identifier_in i, count_in_lem i, entry_in i j)) (λ x i. inl i)
          (ap₂ in_order (default_read n legal minimum_in table d (λ r i. i) long (inl minimum_in))
          (default_read n legal maximum_in table d (λ r i. i) long (inl maximum_in)));
      mode = default_read n legal mode_in table d (λ r i. i) long (inl mode_in);
      drive = refl;
      heartbeat = refl;
      waits = none_waits PreOperational _;
    })

-- ---- 82h: the rows that it resets

abbrev reset_rows : List Row
reset_rows = filter is_reset table

reset_pdos : PdoRows reset_rows
unfolding is_reset
reset_pdos p k i j = (
  filter_in is_reset (identifier_in i) (all_in (λ p. is_reset (identifier p)) i refl),
  filter_in is_reset (count_in_lem i) (all_in (λ p. is_reset (map_count p)) i refl),
  filter_in is_reset (entry_in i j) (all_in (λ p. is_reset (map_entry p k)) i refl),
)

unreset_read : (n : ℕ) (d : List ℕ) (x : Row) → In x table → is_reset x ≡ false → read (stored (to_defaults n reset_rows) d) x ≡ read d x
unreset_read n d x i h =
    let row : (w : Write) → In w (to_defaults n reset_rows) → In w.row table × (is_reset w.row ≡ true) =
    λ w j. filtered is_reset table (defaults_within n reset_rows w j) in
    spared x (to_defaults n reset_rows) d i (λ w j. (row w j).0) (λ w j e. clash (is_reset w.row) (row w j).1 (rw e h))

pub reset_lawful : (s : State) (d : List ℕ) → Lawful s d →
    Lawful (without_transfer (with_nmt PreOperational (with_heartbeat 0 (left (voltage_disabled s))))) (stored (to_defaults s.node.id reset_rows) d)
unfolding voltage_disabled left drive_sound taken_in_place is_reset heartbeat_sound works
reset_lawful s d law =
    let n = s.node.id in
    let ok = law.dictionary in
    let disabled = disabled_lawful s d law in
    record {
      id = law.id;
      long = length_stored (to_defaults n reset_rows) d ∙ law.long;
      dictionary = defaults_ok n reset_rows d law.id law.long (λ r i. (filtered is_reset table i).0) reset_pdos
          (λ x i. elim
          (either (is_reset x)) [ inl h ↦ inl (filter_in is_reset i h) | inr h ↦ inr (unreset_read n d x i h, ok.listed x i, ok.ranged x i) ])
          (ap₂ in_order (unreset_read n d minimum_position minimum_in refl) (unreset_read n d maximum_position maximum_in refl) ∙ ok.ordered);
      mode = unreset_read n d mode mode_in refl ∙ disabled.mode;
      drive = rw (unreset_read n d control_word control_in refl) disabled.drive;
      heartbeat = refl;
      waits = none_waits PreOperational _;
    }

-- ---- a plain row of the drive, written

pub record PlainRow (x : Row) : Type 0 where
  pub inside : In x table
  pub quiet : is_pdo x.role ≡ false
  pub variable : is_constant x.access ≡ false
  pub unread : (apart x mode ≡ true) × (apart x control_word ≡ true) × (apart x heartbeat_time ≡ true)
  pub free : (x.range ≡ whole x.type) × (x.role ≡ Plain)

pub plain_lawful : (s : State) (d : List ℕ) (x : Row) (v : ℕ) → Lawful s d → PlainRow x → v < 256 ^ size_of x → Lawful s (store x v d)
plain_lawful s d x v law r f =
    store_lawful s d x v law r.inside r.quiet
    (drive_may s.node.id d x v r.quiet (ap is_limit r.free.1) r.variable f (whole_range x v r.free.0 r.free.1 f))
    r.unread.0 r.unread.1 r.unread.2

pub status_row : PlainRow status_word
unfolding open_table
status_row = record { inside = status_in; quiet = refl; variable = refl; unread = (refl, refl, refl); free = (refl, refl) }

pub display_row : PlainRow mode_display
unfolding open_table
display_row = record { inside = display_in; quiet = refl; variable = refl; unread = (refl, refl, refl); free = (refl, refl) }

pub code_row : PlainRow error_code
unfolding open_table
code_row = record { inside = found_in 0x603F 0 refl; quiet = refl; variable = refl; unread = (refl, refl, refl); free = (refl, refl) }

pub register_row : PlainRow error_register
unfolding open_table
register_row = record { inside = found_in 0x1001 0 refl; quiet = refl; variable = refl; unread = (refl, refl, refl); free = (refl, refl) }

pub position_row : PlainRow position
unfolding open_table
position_row = record { inside = found_in 0x6064 0 refl; quiet = refl; variable = refl; unread = (refl, refl, refl); free = (refl, refl) }

pub velocity_row : PlainRow velocity
unfolding open_table
velocity_row = record { inside = found_in 0x606C 0 refl; quiet = refl; variable = refl; unread = (refl, refl, refl); free = (refl, refl) }

-- ---- the events

abbrev pub ArgumentsFit : Event → Type 0
ArgumentsFit Started = Unit
ArgumentsFit QuickStopDone = Unit
ArgumentsFit ReactionDone = Unit
ArgumentsFit SetPointReached = Unit
ArgumentsFit Tick = Unit
ArgumentsFit CauseGone = Unit
ArgumentsFit (Fault code register) = (code < 256 ^ 2) × (register < 256 ^ 1)
ArgumentsFit (Feedback at speed) = (at < 256 ^ 4) × (speed < 256 ^ 4)
ArgumentsFit (Voltage b) = Unit

pub unfaulty : (s : DriveState) → (is_not_ready s || is_quick_stop s) ≡ true → is_faulty s ≡ false
unfaulty s h =
    not-true _ (implied (is_not_ready s || is_quick_stop s) _ (on_states (λ s. not (is_not_ready s || is_quick_stop s) || not (is_faulty s)) refl s) h)

module _ (s : State) (d : List ℕ) (law : Lawful s d) where
  -- to a fault state, or from a state that has no cause
  pub enters_lawful : (q : DriveState) → (is_faulty q ≡ true) ⊎ (is_faulty s.axis.drive.state ≡ false) →
      Lawful (with_drive (enters q s.axis.drive) s) d
  unfolding enters cause_in_place
  enters_lawful q h =
      let v = s.axis.drive in
      let k = parts v d law.drive in
      drive_lawful s d (enters q v) law (emptied_same _).mode
      (enters_sound q v d k.taken (λ c. elim h [ inl e ↦ e | inr e ↦ clash (is_faulty v.state) (implied v.cause _ k.cause c) e ]))

  pub gone_lawful : Lawful (with_drive (with_cause false s.axis.drive) s) d
  unfolding drive_sound store_in_place taken_in_place cause_in_place
  gone_lawful =
      let v = s.axis.drive in
      drive_lawful s d (with_cause false v) law refl (and_both _ _ (and_left (store_in_place v && taken_in_place v d) (cause_in_place v) law.drive) refl)

  caused_lawful : (q : DriveState) → is_faulty q ≡ true → Lawful (with_drive (with_cause true (enters q s.axis.drive)) s) d
  unfolding enters drive_sound store_in_place taken_in_place cause_in_place
  caused_lawful q h =
      let v = s.axis.drive in
      drive_lawful s d (with_cause true (enters q v)) law (emptied_same _).mode
      (and_both _ _ (and_both _ _ (enters_store q v) (emptied_taken _ d (parts v d law.drive).taken)) (ap is_faulty (emptied_same _).state ∙ h))

pub fault_lawful : (code register : ℕ) (s : State) (d : List ℕ) → Lawful s d → are_bytes d ≡ true → code < 256 ^ 2 → register < 256 ^ 1 →
    LawfulAfter d (faulted code register s d)
unfolding faulted stored
fault_lawful code register s d law bs c r =
    let q = s.axis.drive.state in
    let old : read d error_register < 2 ^ 8 = read_fits error_register d bs (omega (arith, within register_row.inside, law.long)) in
    let new = or_lt 8 (read d error_register) (bit_or register generic_error) old (or_lt 8 register generic_error r (omega arith)) in
    let law1 = plain_lawful s d error_code code law code_row c in
    let law2 =
    plain_lawful s (store error_code code d) error_register (bit_or (read d error_register) (bit_or register generic_error)) law1 register_row new in
    caused_lawful s _ law2 (cond (is_faulty q) q FaultReactionActive) (on_states (λ s. is_faulty (cond (is_faulty s) s FaultReactionActive)) refl q)
