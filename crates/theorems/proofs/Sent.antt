-- What is sent: a reply, emergencies, a boot-up or heartbeat, never more than two of these, and then the transmit PDOs; all of bytes.
-- Assumes nothing.
use Rattle.theorems.proofs.Words.{ℕ, suc, ◌+◌, ◌<◌, ◌≤◌, zero, ◌*◌, ◌/◌, ◌%◌, ◌^◌, arith, ◌≡◌, refl, sym, ◌∙◌, ap, ap₂, subst, ◌⊎◌, inl, inr}
use Rattle.theorems.proofs.Words.{Bool, true, false, not, ◌||◌, ◌&&◌, and-eq-true_iff, List, [], ◌∷◌, ◌++◌, map, append-nil, append_assoc}
use Rattle.theorems.proofs.Words.{le-leb, eq-eqb, lt-ltb, leb-true, length, get_or, take, length-append, length-take, drop, leb, drop-drop}
use Rattle.theorems.proofs.Words.{PdoData, DriveState, Drive, Command, NmtState, PreOperational, Operational, Stopped, State, Paced, In, here}
use Rattle.theorems.proofs.Words.{there, and_both, and_left, and_right, all_drop, part_bytes, all_take, store_bytes, stored_bytes}
use Rattle.theorems.proofs.Words.{length_store, length_stored, bytes_are, read_fits, within, is_stopped, all_both, either, by_match, clash}
use Rattle.theorems.proofs.Words.{implied, not-true, by_test, whichever, on_ways, length-padded, eqb, all_in, none_in}
use Rattle.theorems.proofs.Services.{Serves, OneByOne, Replied, Before, longer}
use Rattle.theorems.proofs.Receipts.{IsObject}
use Rattle.theorems.proofs.Lawful.{finally}
use Rattle.theorems.proofs.DriveKept.{emptied_same, rule_same}
use Rattle.theorems.proofs.Runs.{run_holds, ended_bytes, Known, Decides, decides}
use Rattle.theorems.proofs.Demands.{ready_at}
use Rattle.theorems.proofs.Settled.{register_in}
use Rattle.rules_dictionary.specs.Numbers.{all, are_bytes, is_byte, padded, bytes, filter, value}
use Rattle.rules_dictionary.specs.Table.{Row, size_of, most_moves, dictionary_length, control_word, mode, heartbeat_time, error_register, each_way, place_of}
use Rattle.rules_dictionary.specs.Plans.{mapped, pdo_data, joined, ready_of, ready_for}
use Rattle.rules_dictionary.specs.Values.{Write, field, read, store, stored}
use Rattle.rules_dictionary.specs.DeviceName.{device_name}
use Rattle.rules_dictionary.proofs.Defaults.{length_bytes}
use Rattle.drive.specs.DriveStates.{is_fault, command, next, resets}
use Rattle.drive.specs.SetPoints.{enters, emptied, with_state, mode_written, control_written, with_mode, mode_of}
use Rattle.rules_services.specs.Effects.{Frame, frame, Effect, and_then, with_drive, with_held, with_transfer}
use Rattle.rules_services.specs.Written.{wrote, count_restarted, mode_acted, fault_reset, control_acted, applied}
use Rattle.rules_services.specs.Nmt.{commanded, power_up, fresh_state, left, voltage_disabled, state_byte, heartbeat_base}
use Rattle.rules_services.specs.Emergency.{emergency, fault_gone, value_refused, pdo_too_long, emergency_base}
use Rattle.rules_services.specs.Sdo.{data_size, reply, reply_base}
use Rattle.rules_services.specs.Segments.{segment, segment_byte, segment_of, segment_size, flag, toggle_bit, toggle_at, last_bit, is_last_of}
use Rattle.rules_services.specs.PdoTraffic.{no_data, transmitted}
use Rattle.rules_services.specs.Events.{faulted}
use Rattle.rules.specs.Outcome.{ended, settled, pace_for, transmissions, transmitters, most_data, encoded, sent_into, frame_size}
use Rattle.rules.specs.Calls.{Call, Decision, refuses, does as performs, refused, accepted, answered, answer}
use Rattle.rules.proofs.Encoded.{length_encoded}
use Rattle.theorems.specs.Promises.{reached, most_spoken, Spoken, laid, FramesOf, AtMostSixInOrder, OutputOfBytes, is_on, code_of, in_order_of_cause}
use Rattle.theorems.specs.Promises.{ElevenBytes}

-- ---- eleven bytes

pub eleven_bytes : ElevenBytes
eleven_bytes f = length_encoded f

pub laid_out : (fs : List Frame) (o : List ℕ) → sent_into o fs ≡ laid fs ++ drop (frame_size * length fs) o
unfolding sent_into laid
laid_out [] o = refl
laid_out (f ∷ fs) o =
    let k : frame_size * suc (length fs) ≡ frame_size + frame_size * length fs = omega arith in
    rw (laid_out fs (drop frame_size o), drop-drop, append_assoc, k)

-- ---- frames of bytes

abbrev pub of_bytes : Frame → Bool
of_bytes f = are_bytes f.content && leb (length f.content) most_data

pub all_append : {A : Type 0} (f : A → Bool) (xs ys : List A) → all f xs ≡ true → all f ys ≡ true → all f (xs ++ ys) ≡ true
all_append f xs ys h k = rw (all_both f xs ys, h, k)

pub padded_bytes : (k : ℕ) (xs : List ℕ) → are_bytes xs ≡ true → are_bytes (padded 0 k xs) ≡ true
padded_bytes zero xs h = refl
padded_bytes (suc k) [] h = padded_bytes k [] refl
padded_bytes (suc k) (x ∷ xs) h =
    and_both (is_byte x) _ (and_left (is_byte x) (are_bytes xs) h) (padded_bytes k xs (and_right (is_byte x) (are_bytes xs) h))

encoded_bytes : (f : Frame) → of_bytes f ≡ true → are_bytes (encoded f) ≡ true
unfolding encoded
encoded_bytes f h =
    let k = simp and-eq-true_iff at h in
    let l : length f.content ≤ most_data = leb-true _ _ k.1 in
    all_append is_byte (bytes 2 f.identifier) (length f.content ∷ padded 0 most_data f.content) (bytes_are 2 f.identifier)
    (rw (lt-ltb (length f.content) 256 (omega arith)) (padded_bytes most_data f.content k.0))

pub sent_bytes : (fs : List Frame) (o : List ℕ) → all of_bytes fs ≡ true → are_bytes o ≡ true → are_bytes (sent_into o fs) ≡ true
unfolding sent_into
sent_bytes [] o h b = b
sent_bytes (f ∷ fs) o h b =
    all_append is_byte (encoded f) (sent_into (drop frame_size o) fs) (encoded_bytes f (and_left (of_bytes f) (all of_bytes fs) h))
    (sent_bytes fs (drop frame_size o) (and_right (of_bytes f) (all of_bytes fs) h) (all_drop frame_size o b))

-- ---- the three kinds of frames that a service sends itself

-- spoken by node n, and each of bytes
pub record Says (n : ℕ) (fs : List Frame) : Type 0 where
  pub spoken : Spoken n fs
  pub octet : all of_bytes fs ≡ true

-- so many frames at the most, all on one identifier
record On (i most : ℕ) (fs : List Frame) : Type 0 where
  on : all (is_on i) fs ≡ true
  few : length fs ≤ most
  octet : all of_bytes fs ≡ true

none_on : (i most : ℕ) → On i most []
none_on i most = record { on = refl; few = omega arith; octet = refl }

one_on : (i : ℕ) (content : List ℕ) → are_bytes content ≡ true → length content ≤ most_data → On i 1 (frame i content ∷ [])
one_on i content b l = record { on = rw (eq-eqb i i refl); few = omega arith; octet = rw (b, le-leb (length content) most_data l) }

both_on : (i k m : ℕ) (fs gs : List Frame) → On i k fs → On i m gs → On i (k + m) (fs ++ gs)
both_on i k m fs gs a b =
    record {
      on = all_append (is_on i) fs gs a.on b.on;
      few = rw length-append (omega (arith, a.few, b.few));
      octet = all_append of_bytes fs gs a.octet b.octet;
    }

emergency_on : (code : ℕ) (s : State) (d : List ℕ) → are_bytes d ≡ true → length d ≡ dictionary_length →
    On (emergency_base + s.node.id) 1 (emergency code s d)
unfolding emergency bytes
emergency_on code s d b l =
    let register : read d error_register < 256 = read_fits error_register d b (omega (arith, within register_in)) in
    whichever (On (emergency_base + s.node.id) 1) (is_stopped s.node.nmt) (none_on (emergency_base + s.node.id) 1)
    (one_on (emergency_base + s.node.id) _
    (rw (lt-ltb (code % 256) 256 (omega arith), lt-ltb (code / 256 % 256) 256 (omega arith), lt-ltb (read d error_register) 256 register))
    (omega arith))

-- what the SDO server says is one frame of eight bytes, or nothing
echo_on : (c : ℕ) (o : List ℕ) (s : State) (v : ℕ) → c < 256 → IsObject o → On (reply_base + s.node.id) 1 (reply c o s (bytes data_size v))
unfolding reply
echo_on c o s v small h =
    one_on (reply_base + s.node.id) (c ∷ o ++ bytes data_size v)
    (all_append is_byte (c ∷ o) (bytes data_size v) (rw (lt-ltb c 256 small) h.octets) (bytes_are data_size v))
    (rw (length-append, h.long, length_bytes data_size v) (omega arith))

flag_small : (k : ℕ) (b : Bool) → flag k b ≤ 2 ^ k
flag_small k true = omega arith
flag_small k false = omega arith

segment_on : (k : ℕ) (s : State) → On (reply_base + s.node.id) 1 (segment k s)
unfolding segment
segment_on k s =
    let small : segment_byte k < 256 = omega (arith, flag_small toggle_bit (toggle_at k), flag_small last_bit (is_last_of k)) in
    one_on (reply_base + s.node.id) (segment_byte k ∷ padded 0 segment_size (segment_of k))
    (rw (lt-ltb (segment_byte k) 256 small)
    (padded_bytes segment_size (segment_of k) (part_bytes (k * segment_size) segment_size device_name refl)))
    (rw (length-padded 0 segment_size (segment_of k)) (omega arith))

reply_on : {K : Type 0} {s : State} {fs : List Frame} → K → Replied K s fs → On (reply_base + s.node.id) 1 fs
reply_on {s = s} k Replied.silent = none_on (reply_base + s.node.id) 1
reply_on {s = s} k (Replied.echoes c v o small object) = echo_on c o s v small (object k)
reply_on {s = s} k (Replied.carries j) = segment_on j s

-- ---- emergencies in the order of their causes

abbrev is_of : ℕ → Frame → Bool
is_of code f = eqb (code_of f) code

-- what may stand behind 8220h
abbrev goes_behind : Frame → Bool
goes_behind f = is_of value_refused f || is_of fault_gone f

one_caused : (fs : List Frame) → length fs ≤ 1 → in_order_of_cause (map code_of fs) ≡ true
one_caused [] h = refl
one_caused (f ∷ []) h = refl
one_caused (f ∷ g ∷ fs) h = absurd (omega arith)

two_caused : (fs gs : List Frame) → length fs ≤ 1 → length gs ≤ 1 → all (is_of pdo_too_long) fs ≡ true → all goes_behind gs ≡ true →
    in_order_of_cause (map code_of (fs ++ gs)) ≡ true
two_caused [] gs a b p q = one_caused gs b
two_caused (f ∷ []) [] a b p q = refl
two_caused (f ∷ []) (g ∷ []) a b p q =
    and_both (is_of pdo_too_long f) (goes_behind g) (and_left (is_of pdo_too_long f) true p) (and_left (goes_behind g) true q)
two_caused (f ∷ []) (g ∷ h ∷ gs) a b p q = absurd (omega arith)
two_caused (f ∷ e ∷ fs) gs a b p q = absurd (omega arith)

long_coded : (w : Bool) (s : State) (d : List ℕ) → all (is_of pdo_too_long) (longer w s d) ≡ true
unfolding emergency bytes value
long_coded w s d =
    let P : List Frame → Type 0 = λ fs. all (is_of pdo_too_long) fs ≡ true in
    whichever P w (whichever P (is_stopped s.node.nmt) refl refl) refl

refused_coded : (s : State) (d : List ℕ) → all goes_behind (emergency value_refused s d) ≡ true
unfolding emergency bytes value
refused_coded s d = whichever (λ fs. all goes_behind fs ≡ true) (is_stopped s.node.nmt) refl refl

reset_coded : (s : State) (d : List ℕ) → all goes_behind (emergency fault_gone s d) ≡ true
unfolding emergency bytes value
reset_coded s d = whichever (λ fs. all goes_behind fs ≡ true) (is_stopped s.node.nmt) refl refl

-- ---- what is spoken

says : (n a b c : ℕ) (rs es bs : List Frame) → On (reply_base + n) a rs → On (emergency_base + n) b es → On (heartbeat_base + n) c bs →
    in_order_of_cause (map code_of es) ≡ true → (a ≤ 1) × (c ≤ 1) × (a + (b + c) ≤ most_spoken) → Says n (rs ++ (es ++ bs))
says n a b c rs es bs r e h order most =
    record {
      spoken = record {
        replies = rs;
        emergencies = es;
        beats = bs;
        whole = refl;
        on_reply = r.on;
        on_emergency = e.on;
        on_beat = h.on;
        caused = order;
        one_reply = omega (arith, r.few, most.0);
        one_beat = omega (arith, h.few, most.1);
        few = omega (arith, r.few, e.few, h.few, most.2);
      };
      octet = all_append of_bytes rs (es ++ bs) r.octet (all_append of_bytes es bs e.octet h.octet);
    }

-- a reply, and an emergency behind it
replied_spoken : (n : ℕ) (rs fs : List Frame) → On (reply_base + n) 1 rs → On (emergency_base + n) 1 fs → Says n (rs ++ fs)
replied_spoken n rs fs r a =
    rw append-nil at (says n 1 1 0 rs fs [] r a (none_on (heartbeat_base + n) 0) (one_caused fs a.few) (omega arith))

alarmed_spoken : (n : ℕ) (fs : List Frame) → On (emergency_base + n) 2 fs → in_order_of_cause (map code_of fs) ≡ true → Says n fs
alarmed_spoken n fs a order =
    rw append-nil at (says n 0 2 0 [] fs [] (none_on (reply_base + n) 0) a (none_on (heartbeat_base + n) 0) order (omega arith))

-- an emergency at the most
alone : (n : ℕ) (fs : List Frame) → On (emergency_base + n) 1 fs → Says n fs
alone n fs a = replied_spoken n [] fs (none_on (reply_base + n) 1) a

silent : (n : ℕ) → Says n []
silent n = alone n [] (none_on (emergency_base + n) 1)

beat_spoken : (n c : ℕ) → c < 256 → Says n (frame (heartbeat_base + n) (c ∷ []) ∷ [])
beat_spoken n c h =
    says n 0 0 1 [] [] _ (none_on (reply_base + n) 0) (none_on (emergency_base + n) 0)
    (one_on (heartbeat_base + n) (c ∷ []) (rw (lt-ltb c 256 h)) (omega arith)) refl (omega arith)

-- ---- one fault reset at the most: after it, and outside Fault, there is none

not_fault_next : (cause : Bool) (s : DriveState) (c : Command) → is_fault s ≡ false → is_fault (next cause s c) ≡ false
unfolding next
not_fault_next cause s c h =
    not-true _ (implied (not (is_fault s)) _ (on_ways (λ b s c. not (not (is_fault s)) || not (is_fault (next b s c))) refl cause s c) (rw h))

-- a reset leaves Fault, and there is none outside
reset_leaves : (cause : Bool) (s : DriveState) (c : Command) → resets cause s c ≡ true → is_fault (next cause s c) ≡ false
unfolding resets next
reset_leaves cause s c h =
    not-true _ (implied (resets cause s c) _ (on_ways (λ b s c. not (resets b s c) || not (is_fault (next b s c))) refl cause s c) h)

pub control_state : (d : List ℕ) (old : ℕ) (v : Drive) →
    (control_written d old v).drive.state ≡ next v.cause v.state (command old (read d control_word))
unfolding control_written enters
control_state d old v =
    let word = read d control_word in
    let w = with_state (next v.cause v.state (command old word)) v in
    (rule_same d old word (emptied w)).state ∙ (emptied_same w).state

-- of frames sent from s on, and the state behind them: an emergency at the most, and then, or outside Fault, no more
record Calm (s : State) (fs : List Frame) (t : State) : Type 0 where
  alarms : On (emergency_base + s.node.id) 1 fs
  coded : all goes_behind fs ≡ true
  id : t.node.id ≡ s.node.id
  quiet : is_fault s.axis.drive.state ≡ false → (fs ≡ []) × (is_fault t.axis.drive.state ≡ false)
  once : (fs ≡ []) ⊎ (is_fault t.axis.drive.state ≡ false)

calm_silent : (s t : State) → t.node.id ≡ s.node.id → (is_fault s.axis.drive.state ≡ false → is_fault t.axis.drive.state ≡ false) →
    Calm s [] t
calm_silent s t i h =
    record { alarms = none_on (emergency_base + s.node.id) 1; coded = refl; id = i; quiet = λ q. (refl, h q); once = inl refl }

-- the state that the control word finds
pub found_by : (ws : List Write) (s : State) (d : List ℕ) →
    let t = mode_acted ws (count_restarted ws s) d in
    (t.node.id ≡ s.node.id) × (t.axis.drive.state ≡ s.axis.drive.state) × (t.axis.drive.cause ≡ s.axis.drive.cause)
    × (t.axis.held ≡ s.axis.held)
unfolding mode_acted count_restarted mode_written
found_by ws s d =
    let F : State → Type 0 = λ t.
    (t.node.id ≡ s.node.id) × (t.axis.drive.state ≡ s.axis.drive.state) × (t.axis.drive.cause ≡ s.axis.drive.cause)
    × (t.axis.held ≡ s.axis.held) in
    let t = count_restarted ws s in
    let beat : F t = whichever F (wrote heartbeat_time ws) (refl, refl, refl, refl) (refl, refl, refl, refl) in
    let k = emptied_same (with_mode (mode_of (read d mode)) t.axis.drive) in
    whichever F (wrote mode ws) (beat.0, k.state ∙ beat.1, k.cause ∙ beat.2, beat.3) beat

applied_calm : (ws : List Write) (s : State) (d : List ℕ) → are_bytes d ≡ true → length d ≡ dictionary_length →
    Calm s (applied ws s d).sent (applied ws s d).state
unfolding applied control_acted fault_reset control_written resets
applied_calm ws s d b l =
    let d1 = stored ws d in
    let t = mode_acted ws (count_restarted ws s) d1 in
    let f = found_by ws s d1 in
    let v = t.axis.drive in
    let k = command (read d control_word) (read d1 control_word) in
    let u = with_drive (control_written d1 (read d control_word) v).drive t in
    let moved = control_state d1 (read d control_word) v in
    by_test (λ (e : Effect). Calm s e.sent e.state) (wrote control_word ws)
    (λ w. by_test (λ (e : Effect). Calm s e.sent e.state) (resets v.cause v.state k)
    (λ e. record {
      alarms = subst (λ (i : ℕ). On (emergency_base + i) 1 (emergency fault_gone u (store error_register 0 d1) ++ [])) f.0
          (rw append-nil
          (emergency_on fault_gone u (store error_register 0 d1) (store_bytes error_register 0 d1 (stored_bytes ws d b))
          (length_store error_register 0 d1 ∙ length_stored ws d ∙ l)));
      coded = all_append goes_behind (emergency fault_gone u (store error_register 0 d1)) [] (reset_coded u (store error_register 0 d1)) refl;
      id = f.0;
      quiet = λ h. clash (resets v.cause v.state k) e (rw (ap is_fault f.1 ∙ h));
      once = inr (ap is_fault moved ∙ reset_leaves v.cause v.state k e);
    })
    (λ e. calm_silent s u f.0 (λ h. ap is_fault moved ∙ not_fault_next v.cause v.state k (ap is_fault f.1 ∙ h))))
    (λ w. calm_silent s t f.0 (λ h. ap is_fault f.1 ∙ h))

-- one after another: one emergency at the most
calm_then : (s t u : State) (fs gs : List Frame) → Calm s fs t → Calm t gs u → Calm s (fs ++ gs) u
calm_then s t u fs gs a b =
    record {
      alarms = elim a.once [
        | inl q ↦ rw q (subst (λ (i : ℕ). On (emergency_base + i) 1 gs) a.id b.alarms)
        | inr q ↦ rw ((b.quiet q).0, append-nil fs) a.alarms
      ];
      coded = all_append goes_behind fs gs a.coded b.coded;
      id = b.id ∙ a.id;
      quiet = λ h. (ap₂ ◌++◌ (a.quiet h).0 (b.quiet (a.quiet h).1).0, (b.quiet (a.quiet h).1).1);
      once = elim a.once [ inl q ↦ elim b.once [ inl r ↦ inl (ap₂ ◌++◌ q r) | inr r ↦ inr r ] | inr q ↦ inr (b.quiet q).1 ];
    }

one_by_one_calm : {K : Type 0} {s : State} {d : List ℕ} {e : Effect} → OneByOne K s d e → are_bytes d ≡ true → length d ≡ dictionary_length →
    Calm s e.sent e.state
unfolding and_then
one_by_one_calm {s = s} OneByOne.none b l = calm_silent s s refl (λ h. h)
one_by_one_calm (OneByOne.skips rest) b l = one_by_one_calm rest b l
one_by_one_calm {s = s} {d = d} (OneByOne.next h ws {e} may rest) b l =
    let a = applied ws (with_held h s) d in
    let c = applied_calm ws (with_held h s) d b l in
    calm_then s a.state e.state a.sent e.sent
    (record { alarms = c.alarms; coded = c.coded; id = c.id; quiet = c.quiet; once = c.once })
    (one_by_one_calm rest (stored_bytes a.writes d b) (length_stored a.writes d ∙ l))

-- ---- what each service says

-- as the node that it leaves
abbrev pub SpeaksAs : ℕ → Effect → Type 0
SpeaksAs n e = (e.state.node.id ≡ n) × Says n e.sent

byte_small : (m : NmtState) → state_byte m < 256
byte_small m = elim m as (λ (x : NmtState). state_byte x < 256) [ PreOperational ↦ omega arith | Operational ↦ omega arith | Stopped ↦ omega arith ]

module _ {K : Type 0} {s : State} {d : List ℕ} (k : K) (b : are_bytes d ≡ true) (l : length d ≡ dictionary_length) where
  -- what may stand behind 8220h, behind what goes before it
  behind : {fs : List Frame} → Before K s d fs → (gs : List Frame) → On (emergency_base + s.node.id) 1 gs → all goes_behind gs ≡ true →
      Says s.node.id (fs ++ gs)
  behind {fs} (Before.replied said) gs a c = replied_spoken s.node.id fs gs (reply_on k said) a
  behind (Before.warned w) gs a c =
      let i = emergency_base + s.node.id in
      let long : On i 1 (longer w s d) = whichever (On i 1) w (emergency_on _ s d b l) (none_on i 1) in
      alarmed_spoken s.node.id (longer w s d ++ gs) (both_on i 1 1 (longer w s d) gs long a)
      (two_caused (longer w s d) gs long.few a.few (long_coded w s d) c)

  pub speaks : {e : Effect} → Serves K s d e → SpeaksAs s.node.id e
  unfolding commanded power_up fresh_state voltage_disabled left faulted
  speaks Serves.nothing = (refl, silent s.node.id)
  speaks (Serves.replies {fs} t said) = (refl, replied_spoken s.node.id fs [] (reply_on k said) (none_on (emergency_base + s.node.id) 1))
  speaks (Serves.alarms true code) = (
    refl,
    behind (Before.warned true) (emergency value_refused s d ++ []) (rw append-nil (emergency_on value_refused s d b l))
        (rw append-nil (refused_coded s d)),
  )
  speaks (Serves.alarms false code) = (refl, alone s.node.id (emergency code s d ++ []) (rw append-nil (emergency_on code s d b l)))
  speaks (Serves.applies t ws before may) =
      let c = applied_calm ws (with_transfer t s) d b l in
      (c.id, behind before (applied ws (with_transfer t s) d).sent c.alarms c.coded)
  speaks (Serves.holds bs w i on synchronous long legal) = (refl, behind (Before.warned w) [] (none_on (emergency_base + s.node.id) 1) refl)
  speaks (Serves.releases {e} r) =
      let c = one_by_one_calm r b l in
      (c.id, alone s.node.id e.sent c.alarms)
  speaks (Serves.loads {e} r) =
      let c = one_by_one_calm r b l in
      (c.id, alone s.node.id e.sent c.alarms)
  speaks (Serves.starts h idle) = (refl, silent s.node.id)
  speaks Serves.leaves = (refl, silent s.node.id)
  speaks Serves.stops = (refl, silent s.node.id)
  speaks Serves.resets = (refl, beat_spoken s.node.id 0 (omega arith))
  speaks Serves.begins = (refl, beat_spoken s.node.id 0 (omega arith))
  speaks (Serves.moves q h) = (refl, silent s.node.id)
  speaks (Serves.reaches h) = (refl, silent s.node.id)
  speaks Serves.recovers = (refl, silent s.node.id)
  speaks (Serves.faults code register fits) =
      let alarm = emergency_on code _ (stored _ d) (stored_bytes _ d b) (length_stored _ d ∙ l) in
      (refl, alone s.node.id _ (rw append-nil alarm))
  speaks (Serves.feeds at speed fits) = (refl, silent s.node.id)
  speaks (Serves.powers v) = (refl, silent s.node.id)
  speaks Serves.rests = (refl, silent s.node.id)
  speaks (Serves.counts e) = (refl, silent s.node.id)
  speaks Serves.beats = (refl, beat_spoken s.node.id (state_byte s.node.nmt) (byte_small s.node.nmt))

-- ---- what a decision says

abbrev Said : Decision → Type 0
Said (refuses r) = Unit
Said (performs e) = Says e.state.node.id e.sent

said : {c : Call} {x : Decision} {s : State} {d : List ℕ} → Decides s d c x → Known c s → are_bytes d ≡ true → Said x
unfolding power_up fresh_state
said (Decides.refuses r q) o b = tt
said (Decides.begins n legal long) o b = beat_spoken n 0 (omega arith)
said (Decides.serves {e} law v) o b =
    let w = speaks o b law.long v in
    subst (λ (k : ℕ). Says k e.sent) (sym w.0) w.1

-- ---- the transmit PDOs behind it

module _ (d : List ℕ) (ready : List PdoData) (paces : ℕ → Paced) where
  abbrev pdo_frame : ℕ → Frame
  pdo_frame t = transmitted d (each_way + t) (get_or ready t no_data)

  rising : (ts : List ℕ) → transmissions d ready paces ts ≡ map pdo_frame (filter (λ t. (paces t).send) ts)
  unfolding transmissions
  rising [] = refl
  rising (t ∷ ts) =
      rw (rising ts) (elim (either (paces t).send) [ inl e ↦ rw e | inr e ↦ rw e ])

few_of : (f : ℕ → Bool) (g : ℕ → Frame) (ts : List ℕ) → length (map g (filter f ts)) ≤ length ts
few_of f g [] = omega arith
few_of f g (t ∷ ts) =
    by_match (λ us. length (map g us) ≤ suc (length ts)) (f t) (λ e. omega (arith, few_of f g ts)) (λ e. omega (arith, few_of f g ts))

-- ---- each of them of bytes, and no longer than a frame

joined_bytes : (d : List ℕ) (xs : List Row) → are_bytes d ≡ true → are_bytes (joined d xs) ≡ true
unfolding joined
joined_bytes d [] h = refl
joined_bytes d (x ∷ xs) h = all_append is_byte (field d x) (joined d xs) (part_bytes (place_of x) (size_of x) d h) (joined_bytes d xs h)

pdo_octet : (d : List ℕ) {t : ℕ} → are_bytes d ≡ true → In t transmitters → of_bytes (transmitted d (each_way + t) (get_or (ready_of d) t no_data)) ≡ true
unfolding transmitted ready_for pdo_data
pdo_octet d {t} h i =
    let l = joined d (mapped d (each_way + t)) in
    let content = take (length l) (padded 0 most_moves l) in
    let short : length content ≤ most_data = rw (length-take, length-padded 0 most_moves l) (omega arith) in
    rw (ready_at d i) (and_both (are_bytes content) _
    (all_take (length l) (padded 0 most_moves l) (padded_bytes most_moves l (joined_bytes d (mapped d (each_way + t)) h)))
    (le-leb (length content) most_data short))

pdo_octets : (d : List ℕ) (paces : ℕ → Paced) (ts : List ℕ) → are_bytes d ≡ true → ((t : ℕ) → In t ts → In t transmitters) →
    all of_bytes (transmissions d (ready_of d) paces ts) ≡ true
unfolding transmissions
pdo_octets d paces [] h sub = refl
pdo_octets d paces (t ∷ ts) h sub =
    let rest = pdo_octets d paces ts h (λ u i. sub u (there i)) in
    whichever (λ fs. all of_bytes (fs ++ transmissions d (ready_of d) paces ts) ≡ true) (paces t).send (rw (pdo_octet d h (sub t here)) rest) rest

ended_octets : (s : State) (d : List ℕ) (e : Effect) → Says e.state.node.id e.sent → are_bytes d ≡ true →
    all of_bytes (ended s d e).sent ≡ true
unfolding ended
ended_octets s d e w b =
    let d' = settled (finally d e) (stored e.writes d) in
    let paces = pace_for s (finally d e) e.occasion d' (ready_of d') in
    all_append of_bytes e.sent (transmissions d' (ready_of d') paces transmitters) w.octet
    (pdo_octets d' paces transmitters (ended_bytes s d e b) (λ t i. i))

-- ---- the frames of an answer

frames_of : (x : Decision) (s : State) (d o : List ℕ) → Said x → are_bytes d ≡ true → FramesOf (answered x s d o) o
unfolding answered refused accepted ended laid
frames_of (refuses r) s d o h b =
    record {
      sent = [];
      counted = refl;
      most = omega arith;
      short = λ f i. absurd (none_in i);
      in_order = record { own = []; spoken = (silent s.node.id).spoken; sending = λ t. false; whole = refl };
      output = refl;
    }
frames_of (performs e) s d o w b =
    let d' = settled (finally d e) (stored e.writes d) in
    let paces = pace_for s (finally d e) e.occasion d' (ready_of d') in
    let pdo = transmissions d' (ready_of d') paces transmitters in
    let risen = rising d' (ready_of d') paces transmitters in
    let four : length pdo ≤ 4 = rw risen (few_of (λ t. (paces t).send) (pdo_frame d' (ready_of d') paces) transmitters) in
    let two : length e.sent ≤ most_spoken = rw (w.spoken.whole, length-append, length-append) w.spoken.few in
    record {
      sent = e.sent ++ pdo;
      counted = refl;
      most = rw length-append (omega arith);
      short = λ f i. leb-true (length f.content) most_data (and_right (are_bytes f.content) _ (all_in of_bytes i (ended_octets s d e w b)));
      in_order = record { own = e.sent; spoken = w.spoken; sending = λ t. (paces t).send; whole = ap (λ l. e.sent ++ l) risen };
      output = laid_out (e.sent ++ pdo) o;
    }

pub at_most_six_in_order : AtMostSixInOrder
unfolding answer
at_most_six_in_order r k o =
    let a = reached r in
    let h = run_holds r in
    let says = said (decides a.state a.dictionary k.call k.output) (o, h.came) h.at.bytes in
    frames_of _ a.state a.dictionary k.output says h.at.bytes

-- ---- bytes out

answered_bytes : (x : Decision) (s : State) (d o : List ℕ) → Said x → are_bytes d ≡ true → are_bytes o ≡ true →
    are_bytes (answered x s d o).output ≡ true
unfolding answered refused accepted
answered_bytes (refuses r) s d o h b c = c
answered_bytes (performs e) s d o w b c = sent_bytes (ended s d e).sent o (ended_octets s d e w b) c

pub output_of_bytes : OutputOfBytes
unfolding answer
output_of_bytes r k o b =
    let a = reached r in
    let h = run_holds r in
    let says = said (decides a.state a.dictionary k.call k.output) (o, h.came) h.at.bytes in
    answered_bytes _ a.state a.dictionary k.output says h.at.bytes b
