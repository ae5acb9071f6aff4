-- The statements of specs/Promises.antt that follow from the invariant: nothing stale, refused means nothing, and what a call that only says
-- something leaves.
-- Assumes nothing.
use Rattle.theorems.proofs.Words.{ℕ, ◌+◌, ◌<◌, ◌≤◌, arith, ◌≡◌, refl, sym, ◌∙◌, ap, ◌⊎◌, inl, inr, true, false, not, ◌&&◌, ◌||◌, Bool·beq}
use Rattle.theorems.proofs.Words.{and-not_self, and-eq-true_iff, Bool·not-not, List, ◌∷◌, map, append_assoc, append-nil, eq-eqb, eqb-true}
use Rattle.theorems.proofs.Words.{ne_eqb, leb-true, lt-ltb, le-leb, eqb, leb, ltb, length, get_or, drop, take-append-drop, length-drop, sets}
use Rattle.theorems.proofs.Words.{sets-eq, length-take-le, drop-drop, NmtState, PreOperational, Operational, Stopped, State, Accepted, In}
use Rattle.theorems.proofs.Words.{here, there, and_both, each_in, none_in, within, in_map, in_left, words_read, bytes_value, part_bytes}
use Rattle.theorems.proofs.Words.{is_stopped, is_operational, either, by_match, false_not, clash, or_false_right, and_then_false, joined_same}
use Rattle.theorems.proofs.Words.{and_left, [], Transfer}
use Rattle.theorems.proofs.Dictionary.{DictionaryOk, map_same, Fits, fits, bad_alone}
use Rattle.theorems.proofs.Writes.{in_cons}
use Rattle.theorems.proofs.Settled.{status_in, display_in}
use Rattle.theorems.proofs.Lawful.{sound_lawful, transmitter_in, clauses, data_refl, unticked}
use Rattle.theorems.proofs.Runs.{Holds, run_holds, step_holds, passed, standing}
use Rattle.theorems.proofs.Mapped.{mapped_short}
use Rattle.theorems.proofs.Still.{idles, at_each}
use Rattle.theorems.proofs.Decisions.{Decided, decided_by}
use Rattle.rules_dictionary.specs.Table.{Row, dictionary_length, status_word, map_count, map_entry, map_slots, mapping_rows, identifier, each_way, pdos}
use Rattle.rules_dictionary.specs.Table.{receive_pdos, transmit_pdos, direction_of, place_of, size_of, mode_display, mode}
use Rattle.rules_dictionary.specs.Legal.{map_words, is_valid, frame_identifier, reserved_bits, transmits, transmit_bit, first_identifier}
use Rattle.rules_dictionary.specs.Legal.{last_identifier as last_pdo_identifier, identifiers, mode_number}
use Rattle.rules_dictionary.specs.Numbers.{value, bytes, are_bytes, bit, between}
use Rattle.rules_dictionary.specs.Values.{field, read, unpacked, store, stored}
use Rattle.rules_dictionary.specs.Plans.{mapped, ready_for, plans_of, ready_of, pdo_data}
use Rattle.state.specs.declared.Occasion.TheVariants.{Plain}
use Rattle.rules_services.proofs.Tempting.{short_frame_dropped}
use Rattle.rules_services.specs.Effects.{Frame, becomes, sends, with_transfer}
use Rattle.rules_services.specs.Sdo.{request_base}
use Rattle.rules_services.specs.PdoTraffic.{works, mapped_length, are_legal, received, listens, received_by, sync_base, no_data, idle}
use Rattle.rules_services.specs.Emergency.{emergency, pdo_too_short, pdo_too_long, value_refused}
use Rattle.rules_services.specs.Nmt.{nmt_identifier}
use Rattle.rules.specs.Outcome.{ended, most_data, transmitters, drive_at_end, settled, status_of, pace_for, transmissions, enters_operational, changes}
use Rattle.rules.specs.Sound.{sound, status_as_made, mode_as_made, waiting_sound, pace_sound, pairwise, transfer_sound, plans_fresh, ready_fresh}
use Rattle.rules.specs.Calls.{frame_call, Decision, refuses, does as performs, framed, decision, decided, refused, accepted, answered, answer}
use Rattle.rules.specs.Calls.{output_length, last_frame_identifier}
use Rattle.theorems.specs.Promises.{Stand, does, reached, NothingStale, ReadyFrameStays, RefusedMeansNothing, DroppedFrameChangesNothing}
use Rattle.theorems.specs.Promises.{ShortFrameChangesNothing, NoOldMapping, only_sends, alarm, drop_codes, running, SoundAt, Run}

-- ---- what is stored again

pub field_length : (x : Row) (d : List ℕ) → place_of x + size_of x ≤ length d → length (field d x) ≡ size_of x
field_length x d h = length-take-le (size_of x) (drop (place_of x) d) (rw length-drop (omega arith))

pub store_self : (x : Row) (d : List ℕ) → are_bytes d ≡ true → place_of x + size_of x ≤ length d → store x (read d x) d ≡ d
unfolding store read
store_self x d b h =
    let bs = field d x in
    let at = place_of x in
    let l : length bs ≡ size_of x = field_length x d h in
    let same : bytes (size_of x) (value bs) ≡ bs =
    ap (λ (k : ℕ). bytes k (value bs)) (sym l) ∙ bytes_value bs (part_bytes at (size_of x) d b) in
    ap (sets d at) same ∙ sets-eq bs d at (omega arith)
    ∙ rw (l, append_assoc, ← drop-drop (size_of x) at d, take-append-drop (size_of x) (drop at d)) (take-append-drop at d)

-- sound, and nothing stale: what is asked of the stand that a call finds
pub record Rests (a : Stand) : Type 0 where
  pub at : SoundAt a
  pub plans : a.state.axis.plans ≡ plans_of a.dictionary
  pub ready : a.state.axis.ready ≡ ready_of a.dictionary

pub rests : (a : Stand) → Holds a → Rests a
rests a h = record { at = h.at; plans = h.plans; ready = h.ready }

pub run_rests : (r : Run) → Rests (reached r)
run_rests r = rests (reached r) (run_holds r)

-- it is so with any sound transfer
pub running_rests : (a : Stand) (t : Transfer) → transfer_sound t ≡ true → Rests a → Rests (running t a)
unfolding sound status_as_made status_of mode_as_made plans_fresh ready_fresh waiting_sound
running_rests a t k h =
    let c = clauses a.state a.dictionary h.at.sound in
    record {
      at = record {
        sound = rw (c.id, c.dictionary, c.status, c.mode, c.plans, c.ready, c.drive, c.heartbeat, c.waiting, k, c.stay);
        long = h.at.long;
        bytes = h.at.bytes;
      };
      plans = h.plans;
      ready = h.ready;
    }

module _ (a : Stand) (h : Rests a) where
  pub status_made : read a.dictionary status_word ≡ status_of a.state a.dictionary
  unfolding status_as_made
  status_made = eqb-true _ _ (clauses a.state a.dictionary h.at.sound).status

  pub mode_made : (read a.dictionary mode_display ≡ read a.dictionary mode)
      × (read a.dictionary mode ≡ mode_number a.state.axis.drive.mode)
  unfolding mode_as_made
  mode_made =
      let m = simp and-eq-true_iff at (clauses a.state a.dictionary h.at.sound).mode in
      (eqb-true _ _ m.0, eqb-true _ _ m.1)

  -- 6041h and 6061h made again are those that stand there, whatever transfer then runs
  settled_self : (t : Transfer) → settled (with_transfer t a.state) a.dictionary ≡ a.dictionary
  unfolding settled status_of
  settled_self t =
      let d = a.dictionary in
      let shown : mode_number a.state.axis.drive.mode ≡ read d mode_display = sym (mode_made.0 ∙ mode_made.1) in
      let first : store status_word (status_of a.state d) d ≡ d =
      rw (← status_made) (store_self status_word d h.at.bytes (omega (arith, within status_in, h.at.long))) in
      rw (first, shown) (store_self mode_display d h.at.bytes (omega (arith, within display_in, h.at.long)))

  -- the call's end leaves the drive as it was, where no SYNC and no tick came and nothing was written
  drive_rests : drive_at_end Plain a.dictionary a.state.axis.drive ≡ a.state.axis.drive
  drive_rests = unticked Plain a.dictionary a.state.axis.drive refl (clauses a.state a.dictionary h.at.sound).stay

  -- no ready frame changed: nothing is sent, and what is kept of each transmit PDO stays
  pub paces_rest : (t : Transfer) →
      let d = a.dictionary in
      let paces = pace_for a.state (with_transfer t a.state) Plain d (ready_of d) in
      (transmissions d (ready_of d) paces transmitters ≡ []) × (map (λ t. (paces t).kept) transmitters ≡ a.state.axis.paces)
  unfolding pace_for enters_operational changes waiting_sound
  paces_rest t =
      let s = a.state in
      let d = a.dictionary in
      let m = s.node.nmt in
      at_each (pace_sound m d) s.axis.paces
      (and_left (pairwise (pace_sound m d) transmit_pdos s.axis.paces) _ (clauses s d h.at.sound).waiting) (pace_for s s Plain d (ready_of d))
      (λ t k. rw (and-not_self (is_operational m), h.ready, data_refl (get_or (ready_of d) t no_data))
      (idles m d (each_way + t) (get_or s.axis.paces t idle) Plain refl k))
      d (ready_of d)

-- THE LAW of a call that only says something: it leaves everything as it was, but for the transfer that then runs
pub said : (a : Stand) → Rests a → (fs : List Frame) (t : Transfer) →
    ended a.state a.dictionary (sends fs (becomes (with_transfer t a.state)))
    ≡ record { state = with_transfer t a.state; dictionary = a.dictionary; sent = fs }
unfolding ended stored
said a h fs t =
    let q = paces_rest a h t in
    rw (drive_rests a h, settled_self a h t, q.0, q.1, ← h.plans, ← h.ready, append-nil fs, append-nil fs)

-- ---- nothing stale

pub nothing_stale : NothingStale
nothing_stale r =
    let h = run_rests r in
    record { plans = h.plans; ready = h.ready; status = status_made (reached r) h; shown = (mode_made (reached r) h).0 }

pub no_old_mapping : NoOldMapping
unfolding plans_of ready_of
no_old_mapping r k o =
    let h = step_holds k (reached r) o (run_holds r) in
    (h.plans, h.ready)

-- ---- a ready frame stays with its mapping and its objects

ready_same : (d d' : List ℕ) {p : ℕ} → In p pdos → ((x : Row) → In x (mapping_rows p) → field d' x ≡ field d x) →
    ((x : Row) → In x (mapped d p) → field d' x ≡ field d x) → ready_for d' p ≡ ready_for d p
unfolding ready_for mapped mapping_rows read
ready_same d d' {p} i h k =
    let words : map_words d' p ≡ map_words d p =
    words_read d' i
    ∙ map_same (λ k. read d' (map_entry p k)) (λ k. read d (map_entry p k)) map_slots
    (λ k j. ap value (h (map_entry p k) (there (in_map (map_entry p) j))))
    ∙ sym (words_read d i) in
    rw (h (map_count p) here, words) (ap pdo_data (joined_same d d' (mapped d p) k))

pub ready_at : (d : List ℕ) {t : ℕ} → In t transmitters → get_or (ready_of d) t no_data ≡ ready_for d (each_way + t)
unfolding ready_of
ready_at d i = each_in (λ t. get_or (map (ready_for d) transmit_pdos) t no_data ≡ ready_for d (each_way + t)) i (refl, (refl, (refl, (refl, tt))))

pub ready_frame_stays : ReadyFrameStays
ready_frame_stays r k t o i h m =
    let a = reached r in
    let d = a.dictionary in
    let d' = (does k a).dictionary in
    rw ((step_holds k a o (run_holds r)).ready, (run_holds r).ready, ready_at d' i, ready_at d i) (ready_same d d' (transmitter_in i) h m)

-- ---- refused means nothing

pub refused_means_nothing : RefusedMeansNothing
unfolding answer answered refused accepted
refused_means_nothing k a h =
    elim (decided k.call a.state a.dictionary k.output) as
    (λ x. ((answered x a.state a.dictionary k.output).refusal ≡ Accepted → ⊥) →
    answered x a.state a.dictionary k.output ≡ refused (answered x a.state a.dictionary k.output).refusal a.state
    a.dictionary k.output)
    [ refuses r ↦ λ n. refl | performs e ↦ λ n. absurd (n refl) ] h

-- ---- calls that only say something

-- `t` is the transfer that then runs
abbrev pub Says : Transfer → State → Decision → Type 0
Says t s (refuses r) = Unit
Says t s (performs e) = (fs : List Frame) × (e ≡ sends fs (becomes (with_transfer t s)))

-- its whole answer, where it is accepted
pub says_answer : (a : Stand) (o : List ℕ) (x : Decision) (fs : List Frame) (t : Transfer) → Rests a →
    x ≡ performs (sends fs (becomes (with_transfer t a.state))) → answered x a.state a.dictionary o ≡ only_sends fs (running t a) o
unfolding answered accepted
says_answer a o x fs t h e = rw (e, said a h fs t)

pub said_keeps : (a : Stand) (o : List ℕ) (x : Decision) (t : Transfer) → Rests a → Says t a.state x →
    let b = standing (answered x a.state a.dictionary o) in (b ≡ a) ⊎ (b ≡ running t a)
unfolding answered refused
said_keeps a o (refuses r) t h n = inl refl
said_keeps a o (performs e) t h n = inr (ap standing (says_answer a o (performs e) n.0 t h (ap performs n.1)))

pub framed_says : {i : ℕ} {bs : List ℕ} {s : State} {d : List ℕ} {x : Decision} (fs : List Frame) (t : Transfer) → Decided s d (frame_call i bs) x →
    framed i bs s d ≡ sends fs (becomes (with_transfer t s)) → Says t s x
framed_says fs t (Decided.refusing r given why) e = tt
framed_says fs t (Decided.framing i bs l h) e = (fs, e)

-- ---- an accepted frame

pub frame_decided : (i : ℕ) (bs : List ℕ) (s : State) (d o : List ℕ) → length d ≡ dictionary_length → output_length ≤ length o → sound s d ≡ true →
    i ≤ last_frame_identifier → length bs ≤ most_data → decided (frame_call i bs) s d o ≡ performs (framed i bs s d)
unfolding decided decision
frame_decided i bs s d o l room h k m =
    passed (eqb (length d) dictionary_length) _ _ (eq-eqb _ _ l)
    ∙ passed (leb output_length (length o)) _ _ (le-leb _ _ room)
    ∙ passed (sound s d) _ _ h
    ∙ passed (leb i last_frame_identifier && leb (length bs) most_data) _ _ (and_both _ _ (le-leb _ _ k) (le-leb _ _ m))

-- ---- a receive PDO: its identifier is its own

pub record Hears (m : NmtState) (d : List ℕ) (p i : ℕ) : Type 0 where
  pub operational : is_operational m ≡ true
  pub valid : is_valid (read d (identifier p)) ≡ true
  pub on : frame_identifier (read d (identifier p)) ≡ i

pub hears : (m : NmtState) (d : List ℕ) (p i : ℕ) → listens i m d p ≡ true → Hears m d p i
unfolding listens works
hears m d p i h =
    let k = simp and-eq-true_iff at h in
    record { operational = k.0.0.0; valid = k.0.0.1; on = eqb-true _ _ k.1 }

module _ (n : ℕ) (d : List ℕ) (ok : DictionaryOk n d) (m : NmtState) where
  fit : {p : ℕ} → In p pdos → Fits (λ q. read d (identifier q)) p (read d (identifier p))
  unfolding identifiers
  fit {p} i = fits (λ q. read d (identifier q)) (read d (identifier p)) i (ok.named p i)

  -- two that listen on one identifier are one
  pub one_listener : (p q i : ℕ) → In p pdos → In q pdos → listens i m d p ≡ true → listens i m d q ≡ true → q ≡ p
  one_listener p q i j k h g =
      let a = hears m d p i h in
      let b = hears m d q i g in
      elim (either (eqb q p)) [
        | inl e ↦ eqb-true q p e
        | inr e ↦ clash (eqb (frame_identifier (read d (identifier p))) (frame_identifier (read d (identifier q)))) (eq-eqb _ _ (a.on ∙ sym b.on))
            ((fit j).unlike k e a.valid b.valid)
      ]

  pub identifier_range : (p i : ℕ) → In p pdos → listens i m d p ≡ true → (first_identifier ≤ i) × (i ≤ last_pdo_identifier)
  unfolding bad_alone
  identifier_range p i j h =
      let w = read d (identifier p) in
      let a = hears m d p i h in
      let far = or_false_right (not (Bool·beq (bit transmit_bit w) (transmits (direction_of p))) || not (eqb (reserved_bits w) 0)) _ (fit j).alone in
      let near =
      rw a.on at (false_not _ (and_then_false (is_valid w) (not (between first_identifier last_pdo_identifier (frame_identifier w))) far a.valid)) in
      let k = simp (Bool·not-not, and-eq-true_iff) at near in
      (leb-true _ _ k.0, leb-true _ _ k.1)

  receives : (i : ℕ) (bs : List ℕ) (s : State) (p : ℕ) (ps : List ℕ) → s.node.nmt ≡ m → In p pdos → ((q : ℕ) → In q ps → In q pdos) → In p ps →
      listens i m d p ≡ true → received_by ps i bs s d ≡ received p bs s d
  unfolding received_by
  receives i bs s p [] e j sub k h = absurd (none_in k)
  receives i bs s p (q ∷ ps) e j sub k h =
      by_match (λ f. f ≡ received p bs s d) (listens i s.node.nmt d q)
      (λ f. ap (λ (r : ℕ). received r bs s d) (one_listener p q i j (sub q here) h (rw e at f)))
      (λ f. elim (in_cons k) [
        | inl g ↦ clash (listens i m d p) h (rw (g, ← e) f)
        | inr l ↦ receives i bs s p ps e j (λ r x. sub r (there x)) l h
      ])

received_framed : (n : ℕ) (p i : ℕ) (bs : List ℕ) (s : State) (d : List ℕ) → DictionaryOk n d → In p receive_pdos →
    listens i s.node.nmt d p ≡ true → framed i bs s d ≡ received p bs s d
unfolding framed
received_framed n p i bs s d ok j h =
    let m = s.node.nmt in
    let range = identifier_range n d ok m p i (in_left transmit_pdos j) h in
    let e1 : eqb i nmt_identifier ≡ false = ne_eqb _ _ (λ (q : i ≡ nmt_identifier). omega (arith, range.0)) in
    let e2 : eqb i sync_base ≡ false = ne_eqb _ _ (λ (q : i ≡ sync_base). omega (arith, range.0)) in
    let e3 : eqb i (request_base + s.node.id) ≡ false = ne_eqb _ _ (λ (q : i ≡ request_base + s.node.id). omega (arith, range.1)) in
    rw (e1, e2, e3) (receives n d ok m i bs s p receive_pdos refl (in_left transmit_pdos j) (λ q k. in_left transmit_pdos k) j h)

-- ---- dropped frames

pub awake : (m : NmtState) → is_operational m ≡ true → is_stopped m ≡ false
awake PreOperational h = refl
awake Operational h = refl
awake Stopped h = clash false h refl

module _ (a : Stand) (on : is_operational a.state.node.nmt ≡ true) where
  alarmed : (code : ℕ) → emergency code a.state a.dictionary ≡ alarm a code ∷ []
  unfolding emergency
  alarmed code = rw (awake a.state.node.nmt on)

  dropped : (p : ℕ) (bs : List ℕ) →
      (length bs < mapped_length (mapped a.dictionary p)) ⊎ (are_legal a.dictionary (unpacked (mapped a.dictionary p) bs) ≡ false) →
      received p bs a.state a.dictionary
      ≡ sends (map (alarm a) (drop_codes (length bs) (mapped_length (mapped a.dictionary p)))) (becomes a.state)
  unfolding received
  dropped p bs (inl h) =
      short_frame_dropped p bs a.state a.dictionary h ∙ rw (lt-ltb (length bs) (mapped_length (mapped a.dictionary p)) h, alarmed pdo_too_short)
  dropped p bs (inr h) =
      let k = mapped_length (mapped a.dictionary p) in
      rw (h, alarmed pdo_too_short, alarmed pdo_too_long, alarmed value_refused)
      (elim (either (ltb (length bs) k)) [
        | inl e ↦ rw e
        | inr e ↦ elim (either (ltb k (length bs))) [ inl l ↦ rw (e, l) | inr l ↦ rw (e, l) ]
      ])

pub dropped_frame_changes_nothing : DroppedFrameChangesNothing
unfolding answer
dropped_frame_changes_nothing r p i bs o j h why =
    let a = reached r in
    let s = a.state in
    let d = a.dictionary in
    let at = (run_rests r).at in
    let law = sound_lawful s d at.long at.sound in
    let fs = map (alarm a) (drop_codes (length bs) (mapped_length (mapped d p))) in
    let range = identifier_range s.node.id d law.dictionary s.node.nmt p i (in_left transmit_pdos j) h in
    let e : framed i bs s d ≡ sends fs (becomes s) =
    received_framed s.node.id p i bs s d law.dictionary j h ∙ dropped a (hears s.node.nmt d p i h).operational p bs why in (
      elim (said_keeps a o (decided (frame_call i bs) s d o) s.transfer (run_rests r)
          (framed_says fs s.transfer (decided_by s d (frame_call i bs) o) e)) [ inl q ↦ q | inr q ↦ q ],
      λ room few. says_answer a o (decided (frame_call i bs) s d o) fs s.transfer (run_rests r)
          (frame_decided i bs s d o at.long room at.sound (omega (arith, range.1)) few ∙ ap performs e),
    )

pub short_frame_changes_nothing : ShortFrameChangesNothing
short_frame_changes_nothing r p i bs o j h short room =
    let a = reached r in
    let d = a.dictionary in
    let at = (run_rests r).at in
    let few = mapped_short (sound_lawful a.state d at.long at.sound).dictionary (in_left transmit_pdos j) in
    (dropped_frame_changes_nothing r p i bs o j h (inl short)).1 room (omega (arith, short, few))
    ∙ rw (lt-ltb (length bs) (mapped_length (mapped d p)) short)
