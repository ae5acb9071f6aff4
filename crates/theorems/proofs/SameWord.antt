-- The status word in a sent frame, and read by SDO right after. A frame on the identifier of a working transmit PDO is that PDO's, since no other
-- frame goes by it, and it carries the bytes that the dictionary holds.
-- Assumes nothing.
use Rattle.theorems.proofs.Words.{ℕ, suc, ◌+◌, ◌<◌, ◌≤◌, ◌/◌, ◌^◌, zero, ◌*◌, arith, ◌≡◌, refl, sym, ◌∙◌, ap, subst, inl, inr, true, false}
use Rattle.theorems.proofs.Words.{cond, List, [], ◌∷◌, ◌++◌, append_assoc, eqb-true, eq-eqb, leb-true, leb, length, get_or, drop}
use Rattle.theorems.proofs.Words.{take-append-drop, length-append, drop-drop, take_at, drop_at, In, here, there, PdoData, Paced, NmtState}
use Rattle.theorems.proofs.Words.{Occasion, State, none_in, and_left, and_right, and_both, all_in, in_append, in_left, in_right, bytes_value}
use Rattle.theorems.proofs.Words.{part_bytes, read_fits, value_bytes, within, take_padded, clash, by_test, NoTransfer}
use Rattle.theorems.proofs.Writes.{in_cons}
use Rattle.theorems.proofs.Lawful.{sound_lawful, finally, transmitter_in}
use Rattle.theorems.proofs.Runs.{Holds, run_holds, step_holds, standing, Decides, decides}
use Rattle.theorems.proofs.Mapped.{mapped_short}
use Rattle.rules_dictionary.proofs.Plans.{mapped_in}
use Rattle.theorems.proofs.Dictionary.{DictionaryOk}
use Rattle.theorems.proofs.Demands.{ready_at, says_answer, hears, one_listener, identifier_range, awake, field_length, Rests, rests}
use Rattle.theorems.proofs.Aborted.{sdo_decided}
use Rattle.theorems.proofs.Sent.{speaks}
use Rattle.theorems.specs.Promises.{Spoken, Stand, does, left, octets, reached, only_sends, frame_at, requested, is_on, data_from, upload_status}
use Rattle.theorems.specs.Promises.{SameStatusWord, says, Heard, nothing_runs}
use Rattle.theorems.proofs.Settled.{status_in}
use Rattle.rules_dictionary.specs.Table.{pdos, Row, table, dictionary_length, status_word, identifier, each_way, place_of, size_of, open_table, found}
use Rattle.rules_dictionary.specs.Legal.{frame_identifier, first_identifier, last_identifier}
use Rattle.rules_dictionary.specs.Numbers.{value, bytes, are_bytes, part, padded}
use Rattle.rules_dictionary.specs.TheNode.{is_node_id, first_node, last_node}
use Rattle.rules_dictionary.specs.Values.{field, read, stored}
use Rattle.rules_dictionary.specs.Plans.{mapped, ready_for, ready_of, joined, pdo_data}
use Rattle.rules_dictionary.proofs.Defaults.{length_bytes}
use Rattle.rules_services.specs.Effects.{Frame, Effect, becomes, sends, without_transfer}
use Rattle.rules_services.specs.Emergency.{emergency_base}
use Rattle.rules_services.specs.Nmt.{heartbeat_base, power_up, fresh_state}
use Rattle.rules_services.specs.Sdo.{object_of, sought, data_size, reply, reply_base}
use Rattle.rules_services.specs.SdoServer.{command_of, uploads, asked, sdo}
use Rattle.rules_services.specs.PdoTraffic.{works, mapped_length, listens, transmitted, no_data}
use Rattle.rules.specs.Outcome.{ended, settled, pace_for, transmissions, transmitters, most_data, encoded, sent_into, frame_size}
use Rattle.rules.specs.Calls.{Call, Decision, does as performs, refused, accepted, answered, answer}
use Rattle.rules.proofs.Encoded.{length_encoded}

-- ---- the frame of a number in the output

frame_in_lem : (fs : List Frame) (o : List ℕ) (n : ℕ) → n < length fs → (f : Frame) × In f fs × (frame_at n (sent_into o fs) ≡ encoded f)
unfolding sent_into
frame_in_lem [] o n h = absurd (omega arith)
frame_in_lem (f ∷ fs) o zero h = (f, here, take_at (encoded f) (sent_into (drop frame_size o) fs) frame_size (length_encoded f))
frame_in_lem (f ∷ fs) o (suc n) h =
    let rest = frame_in_lem fs (drop frame_size o) n (omega arith) in
    let next = sent_into (drop frame_size o) fs in
    let k : frame_size * suc n ≡ frame_size + frame_size * n = omega arith in (
      rest.0,
      there rest.1,
      rw (k, ← drop-drop (frame_size * n) frame_size (encoded f ++ next), drop_at (encoded f) next frame_size (length_encoded f)) rest.2,
    )

-- ---- the frames of a call: its own, and those of transmit PDOs that work

module _ (d : List ℕ) (ready : List PdoData) (paces : ℕ → Paced) where
  abbrev pdo_frame : ℕ → Frame
  pdo_frame t = transmitted d (each_way + t) (get_or ready t no_data)

  -- the frame is that of one of those transmit PDOs, whose pace sends it
  record OfPdo (ts : List ℕ) (f : Frame) : Type 0 where
    which : ℕ
    among : In which ts
    sends : (paces which).send ≡ true
    is : f ≡ pdo_frame which

  pdo_sent : (ts : List ℕ) (f : Frame) → In f (transmissions d ready paces ts) → OfPdo ts f
  unfolding transmissions
  pdo_sent [] f i = absurd (none_in i)
  pdo_sent (t ∷ ts) f i =
      elim (in_append (cond (paces t).send (pdo_frame t ∷ []) []) i) [
        | inl j ↦ by_test (λ fs. In f fs → OfPdo (t ∷ ts) f) (paces t).send
            (λ e k. record {
              which = t;
              among = here;
              sends = e;
              is = elim (in_cons {y = pdo_frame t} {ys = []} k) [ inl q ↦ q | inr l ↦ absurd (none_in l) ];
            })
            (λ e k. absurd (none_in k)) j
        | inr j ↦
            let r = pdo_sent ts f j in
            record { which = r.which; among = there r.among; sends = r.sends; is = r.is }
      ]

sent_works : (s s' : State) (o : Occasion) (d : List ℕ) (ready : List PdoData) (t : ℕ) → (pace_for s s' o d ready t).send ≡ true →
    works s'.node.nmt d (each_way + t) ≡ true
unfolding pace_for
sent_works s s' o d ready t =
    by_test (λ (k : Paced). k.send ≡ true → works s'.node.nmt d (each_way + t) ≡ true) (works s'.node.nmt d (each_way + t)) (λ e h. e)
    (λ e h. clash false h refl)

-- ---- no other frame goes by the identifier of a working transmit PDO

identifier_of : (f : Frame) → part 0 2 (encoded f) ≡ bytes 2 f.identifier
unfolding encoded
identifier_of f = take_at (bytes 2 f.identifier) (length f.content ∷ padded 0 most_data f.content) 2 (length_bytes 2 f.identifier)

same_identifier : (i j : ℕ) → i < 256 ^ 2 → j < 256 ^ 2 → bytes 2 i ≡ bytes 2 j → i ≡ j
same_identifier i j h k e = sym (value_bytes 2 i h) ∙ ap value e ∙ value_bytes 2 j k

-- a node's own frames lie outside 181h..57Fh
spoken_apart : (n : ℕ) (fs : List Frame) (f : Frame) → is_node_id n ≡ true → Spoken n fs → In f fs →
    (f.identifier < 256 ^ 2) × (first_identifier ≤ f.identifier → f.identifier ≤ last_identifier → ⊥)
spoken_apart n fs f legal w i =
    let least : first_node ≤ n = leb-true first_node n (and_left (leb first_node n) (leb n last_node) legal) in
    let most : n ≤ last_node = leb-true n last_node (and_right (leb first_node n) (leb n last_node) legal) in
    elim (in_append w.replies (subst (In f) w.whole i)) [
      | inl j ↦
          let e : f.identifier ≡ reply_base + n = eqb-true _ _ (all_in (is_on (reply_base + n)) j w.on_reply) in
          (omega (arith, e), λ low high. omega (arith, e))
      | inr k ↦ elim (in_append w.emergencies k) [
        | inl j ↦
            let e : f.identifier ≡ emergency_base + n = eqb-true _ _ (all_in (is_on (emergency_base + n)) j w.on_emergency) in
            (omega (arith, e), λ low high. omega (arith, e))
        | inr j ↦
            let e : f.identifier ≡ heartbeat_base + n = eqb-true _ _ (all_in (is_on (heartbeat_base + n)) j w.on_beat) in
            (omega (arith, e), λ low high. omega (arith, e))
      ]
    ]

abbrev pdo_identifier : List ℕ → ℕ → ℕ
pdo_identifier d p = frame_identifier (read d (identifier p))

identifier_small : (w : ℕ) → frame_identifier w < 256 ^ 2
identifier_small w = omega arith

heard : (m : NmtState) (d : List ℕ) (p i : ℕ) → works m d p ≡ true → pdo_identifier d p ≡ i → listens i m d p ≡ true
unfolding listens
heard m d p i h e = and_both _ _ h (eq-eqb _ _ e)

-- THE LAW: such a frame is that PDO's, with the dictionary's bytes
carries : (s : State) (d o : List ℕ) (e : Effect) → Spoken e.state.node.id e.sent →
    let u = accepted (ended s d e) o in
    Holds (standing u) → (t n : ℕ) → In t transmitters → works u.state.node.nmt u.dictionary (each_way + t) ≡ true → n < u.frames →
    part 0 2 (frame_at n u.output) ≡ bytes 2 (pdo_identifier u.dictionary (each_way + t)) →
    frame_at n u.output ≡ encoded (transmitted u.dictionary (each_way + t) (ready_for u.dictionary (each_way + t)))
unfolding accepted ended transmitted
carries s d o e w h t n i working few on =
    let s' = finally d e in
    let d' = settled s' (stored e.writes d) in
    let m = s'.node.nmt in
    let id = s'.node.id in
    let paces = pace_for s s' e.occasion d' (ready_of d') in
    let law = sound_lawful (ended s d e).state d' h.at.long h.at.sound in
    let own = pdo_identifier d' (each_way + t) in
    let q = frame_in_lem (e.sent ++ transmissions d' (ready_of d') paces transmitters) o n few in
    let f = q.0 in
    let named : bytes 2 f.identifier ≡ bytes 2 own = sym (identifier_of f) ∙ ap (part 0 2) (sym q.2) ∙ on in
    let range = identifier_range id d' law.dictionary m (each_way + t) own (transmitter_in i) (heard m d' (each_way + t) own working refl) in
    elim (in_append e.sent q.1) [
      | inl j ↦
          let k = spoken_apart id e.sent f law.id w j in
          let same = same_identifier f.identifier own k.0 (identifier_small (read d' (identifier (each_way + t)))) named in
          absurd (k.1 (rw same range.0) (rw same range.1))
      | inr j ↦
          let k = pdo_sent d' (ready_of d') paces transmitters f j in
          let v = k.which in
          let is : f ≡ transmitted d' (each_way + v) (ready_for d' (each_way + v)) =
          k.is ∙ ap (transmitted d' (each_way + v)) (ready_at d' k.among) in
          let same : pdo_identifier d' (each_way + v) ≡ own =
          same_identifier (pdo_identifier d' (each_way + v)) own (identifier_small (read d' (identifier (each_way + v))))
          (identifier_small (read d' (identifier (each_way + t)))) (ap (λ (g : Frame). bytes 2 g.identifier) (sym is) ∙ named) in
          let one : each_way + v ≡ each_way + t =
          one_listener id d' law.dictionary m (each_way + t) (each_way + v) own (transmitter_in i) (transmitter_in k.among)
          (heard m d' (each_way + t) own working refl)
          (heard m d' (each_way + v) own (sent_works s s' e.occasion d' (ready_of d') v k.sends) same) in
          q.2 ∙ ap encoded is ∙ ap (λ (p : ℕ). encoded (transmitted d' p (ready_for d' p))) one
    ]

-- ---- its bytes

joined_both : (d : List ℕ) (xs ys : List Row) → joined d (xs ++ ys) ≡ joined d xs ++ joined d ys
unfolding joined
joined_both d [] ys = refl
joined_both d (x ∷ xs) ys = rw (joined_both d xs ys) (sym (append_assoc (field d x) (joined d xs) (joined d ys)))

length_joined : (d : List ℕ) (xs : List Row) → length d ≡ dictionary_length → ((x : Row) → In x xs → In x table) →
    length (joined d xs) ≡ mapped_length xs
unfolding joined mapped_length
length_joined d [] l h = refl
length_joined d (x ∷ xs) l h =
    rw (length-append, field_length x d (omega (arith, within (h x here))), length_joined d xs l (λ y i. h y (there i)))

-- a part of data that is filled up to a frame's eight bytes
padded_part : (xs ys zs : List ℕ) (place size : ℕ) → length xs ≡ place → length ys ≡ size → length (xs ++ (ys ++ zs)) ≤ most_data →
    part place size (padded 0 most_data (xs ++ (ys ++ zs))) ≡ ys
padded_part xs ys zs place size p k short =
    let l = xs ++ (ys ++ zs) in
    let spare = drop (length l) (padded 0 most_data l) in
    let filled : padded 0 most_data l ≡ xs ++ (ys ++ (zs ++ spare)) =
    sym (take-append-drop (length l) (padded 0 most_data l)) ∙ rw (take_padded 0 most_data l short) (simp append_assoc) in
    rw (filled, drop_at xs (ys ++ (zs ++ spare)) place p) (take_at ys (zs ++ spare) size k)

-- an object that a transmit PDO maps stands in its frame behind those mapped before it
mapped_at : (n : ℕ) (d : List ℕ) (p : ℕ) (xs ys : List Row) (x : Row) → DictionaryOk n d → length d ≡ dictionary_length → In p pdos →
    mapped d p ≡ xs ++ x ∷ ys → part (data_from + mapped_length xs) (size_of x) (encoded (transmitted d p (ready_for d p))) ≡ field d x
unfolding encoded transmitted ready_for pdo_data bytes joined
mapped_at n d p xs ys x ok l i maps =
    let listed : (y : Row) → In y (xs ++ x ∷ ys) → In y table = λ y j. mapped_in d p (subst (In y) (sym maps) j) in
    let first : length (joined d xs) ≡ mapped_length xs = length_joined d xs l (λ y j. listed y (in_left (x ∷ ys) j)) in
    let size : length (field d x) ≡ size_of x = field_length x d (omega (arith, within (listed x (in_right xs here)))) in
    let whole : joined d (mapped d p) ≡ joined d xs ++ (field d x ++ joined d ys) = ap (joined d) maps ∙ joined_both d xs (x ∷ ys) in
    let short : length (joined d (mapped d p)) ≤ most_data =
    rw (length_joined d (mapped d p) l (λ y j. mapped_in d p j)) (mapped_short ok i) in
    rw (← drop-drop (mapped_length xs) data_from, take_padded 0 most_data (joined d (mapped d p)) short, whole)
    (padded_part (joined d xs) (field d x) (joined d ys) (mapped_length xs) (size_of x) first size (rw (← whole) short))

-- ---- and read by SDO

-- 6041h is there
status_sought : sought (object_of upload_status) ≡ found status_word
unfolding value open_table
status_sought = refl

uploads_status : (s : State) (d : List ℕ) →
    sdo upload_status s d ≡ sends (reply 0x4B (object_of upload_status) s (bytes data_size (read d status_word))) (becomes (without_transfer s))
unfolding sdo asked command_of uploads reply
uploads_status s d = rw status_sought

four_bytes : (v : ℕ) → v < 256 ^ 2 → bytes 4 v ≡ bytes 2 v ++ (0 ∷ 0 ∷ [])
unfolding bytes
four_bytes v h =
    let z : v / 256 / 256 ≡ 0 = omega arith in
    rw z

status_bytes : (d : List ℕ) → are_bytes d ≡ true → length d ≡ dictionary_length → bytes 4 (read d status_word) ≡ field d status_word ++ (0 ∷ 0 ∷ [])
unfolding read
status_bytes d b l =
    let bs = field d status_word in
    let room : place_of status_word + 2 ≤ length d = omega (arith, within status_in) in
    let k : length bs ≡ 2 = field_length status_word d room in
    let same : bytes 2 (value bs) ≡ bs = ap (λ (j : ℕ). bytes j (value bs)) (sym k) ∙ bytes_value bs (part_bytes (place_of status_word) 2 d b) in
    four_bytes (value bs) (read_fits status_word d b room) ∙ ap (λ (l : List ℕ). l ++ (0 ∷ 0 ∷ [])) same

status_read : (a : Stand) (o : List ℕ) → Rests a → Heard upload_status o a →
    does (requested upload_status o a) a
    ≡ only_sends (says a (0x4B ∷ 0x41 ∷ 0x60 ∷ 0x00 ∷ field a.dictionary status_word ++ (0x00 ∷ 0x00 ∷ [])) ∷ []) (nothing_runs a) o
unfolding answer reply
status_read a o h heard =
    let d = a.dictionary in
    says_answer a o _ (reply 0x4B (object_of upload_status) a.state (bytes data_size (read d status_word))) NoTransfer h
    (sdo_decided a h upload_status o heard ∙ ap performs (uploads_status a.state d))
    ∙ ap (λ (l : List ℕ). only_sends (says a (0x4B ∷ 0x41 ∷ 0x60 ∷ 0x00 ∷ l) ∷ []) (nothing_runs a) o) (status_bytes d h.at.bytes h.at.long)

-- ---- the two are the same

-- what a call sent on the identifier of a working transmit PDO
sent_carries : (a : Stand) (o : List ℕ) {c : Call} {x : Decision} → Decides a.state a.dictionary c x → octets c ≡ true → Holds a →
    let u = answered x a.state a.dictionary o in
    Holds (standing u) → (t n : ℕ) → In t transmitters → works u.state.node.nmt u.dictionary (each_way + t) ≡ true → n < u.frames →
    part 0 2 (frame_at n u.output) ≡ bytes 2 (pdo_identifier u.dictionary (each_way + t)) →
    frame_at n u.output ≡ encoded (transmitted u.dictionary (each_way + t) (ready_for u.dictionary (each_way + t)))
unfolding answered refused accepted ended power_up fresh_state works
sent_carries a o (Decides.refuses r q) k h g t n i working few on = absurd (omega (arith, few))
sent_carries a o (Decides.begins m legal long) k h g t n i working few on = clash false working refl
sent_carries a o (Decides.serves {e} law v) k h g t n i working few on =
    let w = speaks (k, h.came) h.at.bytes law.long v in
    carries a.state a.dictionary o e (subst (λ (j : ℕ). Spoken j e.sent) (sym w.0) w.1.spoken) g t n i working few on

pub same_status_word : SameStatusWord
unfolding answer
same_status_word r k t n xs ys o given i room working maps few on =
    let a = left k (reached r) in
    let s = a.state in
    let d = a.dictionary in
    let h = step_holds k (reached r) given (run_holds r) in
    let law = sound_lawful s d h.at.long h.at.sound in
    let own = pdo_identifier d (each_way + t) in
    let on_now = (hears s.node.nmt d (each_way + t) own (heard s.node.nmt d (each_way + t) own working refl)).operational in
    let decided_on = decides (reached r).state (reached r).dictionary k.call k.output in
    let sent = sent_carries (reached r) k.output decided_on given (run_holds r) h t n i working few on in
    let word = ap (part (data_from + mapped_length xs) 2) sent
    ∙ mapped_at s.node.id d (each_way + t) xs ys status_word law.dictionary h.at.long (transmitter_in i) maps in
    status_read a o (rests a h) (record { whole = refl; served = awake s.node.nmt on_now; room = room })
    ∙ ap (λ (l : List ℕ). only_sends (says a (0x4B ∷ 0x41 ∷ 0x60 ∷ 0x00 ∷ l ++ (0x00 ∷ 0x00 ∷ [])) ∷ []) (nothing_runs a) o) (sym word)
