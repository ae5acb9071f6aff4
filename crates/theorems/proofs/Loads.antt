-- Ticket 6: a load beside the same downloads by SDO, one after another. The load makes 6041h and 6061h, plans, ready frames and paces once, at its
-- end, and the downloads at the end of each; nothing that an entry is judged by, or acts on, is among these.
-- Assumes nothing.
use Rattle.theorems.proofs.Words.{ℕ, zero, suc, ◌-◌, ◌<◌, ◌≤◌, arith, ◌≡◌, refl, sym, ◌∙◌, ap, subst, inl, inr, Bool, true, false, cond}
use Rattle.theorems.proofs.Words.{not, List, [], ◌∷◌, map, length, take, eqb-true, eqb-false, lt-ltb, ltb, eqb, either}
use Rattle.theorems.proofs.Words.{leb-true, false≢true, clash, whichever}
use Rattle.theorems.proofs.Words.{State, Drive, NmtState, PreOperational, Operational, Stopped, Pace}
use Rattle.theorems.proofs.Words.{In, here, there, found_in, same_or_apart, length_store, take_padded, length-padded, value_bytes}
use Rattle.theorems.proofs.Words.{bytes_are, is_stopped, is_operational, is_pre_operational, and_right, and_both, or_false_left}
use Rattle.theorems.proofs.Words.{Plan, PdoData, or_false_right, Download}
use lib.Seq.{take_all}
use Rattle.theorems.proofs.Sent.{padded_bytes, all_append}
use Rattle.theorems.proofs.Alike.{Alike, Unshown, rows_whole, settled_alike, store_alike, offer_alike, motion_alike}
use Rattle.theorems.proofs.Entries.{Entries, entry_write, entry_applied}
use Rattle.theorems.proofs.Writes.{stored_append, idle}
use Rattle.theorems.proofs.Segments.{wrong_size}
use Rattle.theorems.proofs.Settled.{status_same, mode_in, status_in, display_in}
use Rattle.theorems.proofs.Lawful.{unticked}
use Rattle.theorems.proofs.Runs.{Holds, standing, step_holds, OfBytes}
use Rattle.theorems.proofs.Demands.{Rests, rests, status_made, mode_made, paces_rest}
use Rattle.theorems.proofs.Aborted.{sdo_decided}
use Rattle.state.specs.declared.Axis.{Axis}
use Rattle.state.specs.declared.Node.{Node}
use Rattle.state.specs.declared.Occasion.TheVariants.{Plain}
use Rattle.state.specs.Occasions.{is_ticked}
use Rattle.rules_dictionary.specs.Numbers.{are_bytes, is_byte, bytes, padded, all, bit}
use Rattle.rules_dictionary.specs.Table.{Row, table, size_of, size, dictionary_length, status_word, mode, heartbeat_time, lookup, Found, found, the_name}
use Rattle.rules_dictionary.specs.Table.{no_object, no_subindex, ValueType, u8, u16, u32, i8, i32, open_table}
use Rattle.rules_dictionary.specs.Values.{Write, read, stored}
use Rattle.rules_dictionary.specs.Aborts.{good, is_good}
use Rattle.rules_dictionary.specs.Plans.{plans_of, ready_of}
use Rattle.files.specs.ConciseDcf.{Entry}
use Rattle.drive.specs.SetPoints.{positions, emptied, with_mode, mode_of, mode_written}
use Rattle.rules_services.specs.Effects.{Effect, sends, and_then, without_transfer, with_drive}
use Rattle.rules_services.specs.Written.{applied, wrote, count_restarted, mode_acted}
use Rattle.rules_services.specs.Sdo.{data_size, index_size, size_told_bit, unused_bytes, object_of, sought, expedited, told_size, asked_value, offer_verdict}
use Rattle.rules_services.specs.Sdo.{request_length, judged, download}
use Rattle.rules_services.specs.Sdo.{with_reply, downloads, reply, downloaded}
use Rattle.rules_services.specs.SdoServer.{sdo, asked, command_of}
use Rattle.rules_services.specs.PdoTraffic.{idle as idle_pace}
use Rattle.rules_services.specs.Load.{listed, names_control_word, is_for_control_word}
use Rattle.rules.specs.Outcome.{ended, status_of, drive_at_end, pace_for}
use Rattle.rules.specs.Sound.{stay_sound}
use Rattle.rules.specs.Calls.{Decision, does as performs, answered, answer, accepted, output_length}
use Rattle.theorems.specs.Promises.{Stand, left, requested, nothing_runs, after_requests, verdict_at, verdict_on, object_verdict, Heard, command_in}
use Rattle.theorems.specs.PromisesOfLoad.{command_for, request_for, AllTaken, is_few, is_requestable, entry_verdict}

-- ---- the request of an entry

-- one to four bytes
by_few : (P : ℕ → Type 0) → P 1 → P 2 → P 3 → P 4 → (n : ℕ) → is_few n ≡ true → P n
by_few P a b c d zero h = absurd (false≢true h)
by_few P a b c d (suc zero) h = a
by_few P a b c d (suc (suc zero)) h = b
by_few P a b c d (suc (suc (suc zero))) h = c
by_few P a b c d (suc (suc (suc (suc zero)))) h = d
by_few P a b c d (suc (suc (suc (suc (suc n))))) h =
    let few : suc (suc (suc (suc (suc n)))) ≤ data_size = leb-true _ _ (and_right (ltb 0 (suc (suc (suc (suc (suc n)))))) _ h) in
    absurd (omega arith)

command_is : (n : ℕ) → is_few n ≡ true → command_of (command_for n) ≡ Download
unfolding command_of
command_is = by_few (λ n. command_of (command_for n) ≡ Download) refl refl refl refl

size_told : (k n : ℕ) → is_few n ≡ true → cond (bit size_told_bit (command_for n)) (data_size - unused_bytes (command_for n)) k ≡ n
size_told k = by_few (λ n. cond (bit size_told_bit (command_for n)) (data_size - unused_bytes (command_for n)) k ≡ n) refl refl refl refl

command_small : (n : ℕ) → command_for n < 256
command_small n = omega arith

module _ (x : Entry) (few : is_requestable x ≡ true) (octets : OfBytes x) where
  abbrev rq : List ℕ
  rq = request_for x

  is_download : command_in rq ≡ Download
  is_download = command_is (length x.content) few

  is_object : sought (object_of rq) ≡ lookup x.index x.subindex
  unfolding bytes
  is_object = rw (value_bytes index_size x.index octets.index)

  content_taken : (r : Row) → length x.content ≡ size_of r → take (size_of r) (padded 0 data_size x.content) ≡ take (size_of r) x.content
  content_taken r same =
      let n = length x.content in
      let fits : n ≤ data_size = leb-true n data_size (and_right (ltb 0 n) _ few) in
      rw (← same) (take_padded 0 data_size x.content fits ∙ sym (take_all n x.content (omega arith)))

  told : (r : Row) → told_size rq r ≡ length x.content
  unfolding told_size
  told r = size_told (size_of r) (length x.content) few

  offers : (r : Row) → length x.content ≡ size_of r → expedited rq r ≡ listed x r
  unfolding asked_value bytes
  offers r same = rw (told r, content_taken r same)

  -- of another size than the object's they are refused for that alone
  offered_same : (r : Row) (m : NmtState) (d : List ℕ) → offer_verdict m d (expedited rq r) ≡ offer_verdict m d (listed x r)
  offered_same r m d =
      elim (either (eqb (length x.content) (size_of r))) [
        | inl e ↦ ap (offer_verdict m d) (offers r (eqb-true _ _ e))
        | inr e ↦
            let other = eqb-false (length x.content) (size_of r) e in
            wrong_size m d (expedited rq r) (λ same. other (sym (told r) ∙ same)) ∙ rw (told r) (sym (wrong_size m d (listed x r) other))
      ]

  -- the request's verdict is the entry's
  pub asked_same : (a : Stand) → verdict_at rq a ≡ entry_verdict x a.state.node.nmt a.dictionary
  unfolding verdict_on object_verdict
  asked_same a = rw (is_download, is_object) (go (lookup x.index x.subindex))
    where
      go : (y : Found) → object_verdict true (expedited rq) a.state.node.nmt a.dictionary y
          ≡ object_verdict true (listed x) a.state.node.nmt a.dictionary y
      go (found r) = offered_same r a.state.node.nmt a.dictionary
      go the_name = refl
      go no_object = refl
      go no_subindex = refl

  request_long : length rq ≡ request_length
  unfolding bytes
  request_long = rw (length-padded 0 data_size x.content)

  request_bytes : are_bytes rq ≡ true
  request_bytes =
      and_both (is_byte (command_for (length x.content))) _ (lt-ltb _ 256 (command_small (length x.content)))
      (all_append is_byte (bytes index_size x.index) _ (bytes_are index_size x.index)
      (and_both _ _ (lt-ltb x.subindex 256 octets.subindex) (padded_bytes data_size x.content octets.content)))

-- ---- what an entry leaves of a state: its node's part, its drive and its held frames

restarted : Bool → Node → Node
restarted b n = cond b (record { id = n.id; nmt = n.nmt; voltage = n.voltage; heartbeat = 0 }) n

moded : Bool → List ℕ → Drive → Drive
moded b d v = cond b (mode_written d v) v

record Leaves (ws : List Write) (s : State) (d : List ℕ) (e : Effect) : Type 0 where
  node : e.state.node ≡ restarted (wrote heartbeat_time ws) s.node
  drive : e.state.axis.drive ≡ moded (wrote mode ws) (stored ws d) s.axis.drive
  held : e.state.axis.held ≡ s.axis.held
  writes : e.writes ≡ ws
  plain : is_ticked e.occasion ≡ false

entry_leaves : (x : Entry) {r : Row} (s : State) (d : List ℕ) → lookup x.index x.subindex ≡ found r → is_for_control_word x ≡ false →
    Leaves (entry_write x r ∷ []) s d (applied (entry_write x r ∷ []) s d)
unfolding mode_acted count_restarted restarted moded
entry_leaves x {r} s d q h =
    let ws = entry_write x r ∷ [] in
    subst (Leaves ws s d) (sym (entry_applied x s d q h)) (go (wrote heartbeat_time ws) (wrote mode ws) refl refl)
  where
    go : (a b : Bool) → wrote heartbeat_time (entry_write x r ∷ []) ≡ a → wrote mode (entry_write x r ∷ []) ≡ b →
        let ws = entry_write x r ∷ [] in
        Leaves ws s d (record { state = mode_acted ws (count_restarted ws s) (stored ws d); writes = ws; sent = []; occasion = Plain })
    go true true e f = record { node = rw (e, f); drive = rw (e, f); held = rw (e, f); writes = refl; plain = refl }
    go true false e f = record { node = rw (e, f); drive = rw (e, f); held = rw (e, f); writes = refl; plain = refl }
    go false true e f = record { node = rw (e, f); drive = rw (e, f); held = rw (e, f); writes = refl; plain = refl }
    go false false e f = record { node = rw (e, f); drive = rw (e, f); held = rw (e, f); writes = refl; plain = refl }

restarted_nmt : (b : Bool) (n : Node) → (restarted b n).nmt ≡ n.nmt
unfolding restarted
restarted_nmt true n = refl
restarted_nmt false n = refl

-- no entry leaves the NMT state
pub entry_nmt : (x : Entry) {r : Row} (s : State) (d : List ℕ) → lookup x.index x.subindex ≡ found r → is_for_control_word x ≡ false →
    (applied (entry_write x r ∷ []) s d).state.node.nmt ≡ s.node.nmt
entry_nmt x {r} s d q h =
    ap (λ (n : Node). n.nmt) (entry_leaves x s d q h).node ∙ restarted_nmt (wrote heartbeat_time (entry_write x r ∷ [])) s.node

moded_stay : (b : Bool) (d : List ℕ) (v : Drive) → (moded b d v).stay ≡ v.stay
unfolding moded mode_written emptied
moded_stay true d v = whichever (λ (w : Drive). w.stay ≡ v.stay) (positions (with_mode (mode_of (read d mode)) v)) refl refl
moded_stay false d v = refl

mode_unshown : Unshown mode
unfolding open_table
mode_unshown = record { word = refl; display = refl }

-- the mode is read off 6060h, and nothing else of the dictionary
moded_alike : (b : Bool) (d d' : List ℕ) (v : Drive) → read d mode ≡ read d' mode → moded b d v ≡ moded b d' v
unfolding moded mode_written
moded_alike true d d' v e = rw e
moded_alike false d d' v e = refl

-- ---- a state and a dictionary, as a load has them before its end, beside a stand: where nothing but 6041h, 6061h, plans, ready frames, paces and
-- the transfer may differ

pub record Beside (s : State) (d : List ℕ) (a : Stand) : Type 0 where
  pub node : a.state.node ≡ s.node
  pub drive : a.state.axis.drive ≡ s.axis.drive
  pub held : a.state.axis.held ≡ s.axis.held
  pub alike : Alike a.dictionary d
  pub long : length d ≡ dictionary_length
  pub unstayed : s.axis.drive.stay ≡ 0
  pub served : is_pre_operational s.node.nmt ≡ true

-- what an effect ends in stands beside what it leaves before its end
pub record Before (s : State) (d : List ℕ) (t : State) (c : List ℕ) (e : Effect) : Type 0 where
  pub node : e.state.node ≡ s.node
  pub drive : e.state.axis.drive ≡ s.axis.drive
  pub held : e.state.axis.held ≡ s.axis.held
  pub alike : Alike (stored e.writes c) d
  pub plain : is_ticked e.occasion ≡ false
  pub long : length d ≡ dictionary_length
  pub unstayed : s.axis.drive.stay ≡ 0
  pub served : is_pre_operational s.node.nmt ≡ true

pub ended_beside : (s : State) (d : List ℕ) (t : State) (c : List ℕ) (e : Effect) → Before s d t c e →
    Beside s d (record { state = (ended t c e).state; dictionary = (ended t c e).dictionary })
unfolding ended stay_sound
ended_beside s d t c e b =
    let c1 = stored e.writes c in
    let v = e.state.axis.drive in
    let none : v.stay ≡ 0 = ap (λ (w : Drive). w.stay) b.drive ∙ b.unstayed in
    record {
      node = b.node;
      drive = unticked e.occasion c1 v b.plain (rw none) ∙ b.drive;
      held = b.held;
      alike = λ x i h. settled_alike (with_drive (drive_at_end e.occasion c1 v) e.state) c1 x i h ∙ b.alike x i h;
      long = b.long;
      unstayed = b.unstayed;
      served = b.served;
    }

-- ---- an entry, and its request

-- an entry that is taken has its object's size
own_size : (x : Entry) (r : Row) (m : NmtState) (d : List ℕ) → offer_verdict m d (listed x r) ≡ good → length x.content ≡ size_of r
own_size x r m d v =
    elim (either (eqb (length x.content) (size_of r))) [
      | inl e ↦ eqb-true _ _ e
      | inr e ↦ clash (is_good (offer_verdict m d (listed x r))) (ap is_good v) (ap is_good (wrong_size m d (listed x r) (eqb-false _ _ e)))
    ]

of_a_type : (t : ValueType) → is_few (size t) ≡ true
of_a_type t = elim t as (λ (x : ValueType). is_few (size x) ≡ true) [ u8 ↦ refl | u16 ↦ refl | u32 ↦ refl | i8 ↦ refl | i32 ↦ refl ]

own_few : (x : Entry) (r : Row) → length x.content ≡ size_of r → is_requestable x ≡ true
own_few x r same = rw same (of_a_type r.type)

-- entries that are taken have one to four bytes
pub requestable : {s : State} {d : List ℕ} {es : List Entry} {e : Effect} → Entries s d es e → all is_requestable es ≡ true
requestable Entries.none = refl
requestable {s = s} {d = d} (Entries.next x r q v rest) =
    and_both (is_requestable x) _ (own_few x r (own_size x r s.node.nmt d v)) (requestable rest)

module _ (out : List ℕ) (room : output_length ≤ length out) where
  unstopped : (m : NmtState) → is_pre_operational m ≡ true → is_stopped m ≡ false
  unstopped PreOperational h = refl
  unstopped Operational h = refl
  unstopped Stopped h = sym h

  record Steps (rq : List ℕ) (s : State) (d : List ℕ) (a : Stand) : Type 0 where
    taken : verdict_at rq a ≡ good
    beside : Beside s d (left (requested rq out a) a)
    holds : Holds (left (requested rq out a) a)

  step : (x : Entry) (r : Row) (s : State) (d : List ℕ) (a : Stand) → Holds a → Beside s d a → lookup x.index x.subindex ≡ found r →
      offer_verdict s.node.nmt d (listed x r) ≡ good → is_for_control_word x ≡ false → OfBytes x →
      let e = applied (entry_write x r ∷ []) s d in Steps (request_for x) e.state (stored e.writes d) a
  unfolding answer answered accepted stored verdict_on object_verdict sdo asked downloads download with_reply judged
  step x r s d a holds b q v h octets =
      let t = a.state in
      let c = a.dictionary in
      let rq = request_for x in
      let ws = entry_write x r ∷ [] in
      let i = found_in _ _ q in
      let same = own_size x r s.node.nmt d v in
      let few = own_few x r same in
      let fine : offer_verdict t.node.nmt c (listed x r) ≡ good =
      rw b.node (offer_alike c d b.alike s.node.nmt (listed x r) i ∙ v) in
      let awake = unstopped s.node.nmt b.served in
      let heard : Heard rq out a = record { whole = request_long x few octets; served = rw b.node awake; room = room } in
      let served : sdo rq t c ≡ sends (reply downloaded (object_of rq) t (bytes data_size 0)) (applied ws (without_transfer t) c) =
      rw (is_download x few octets, is_object x few octets, q, offers x few octets r same, fine) in
      let one = entry_leaves x s d q h in
      let other = entry_leaves x (without_transfer t) c q h in
      let stay = store_alike c d r (listed x r).value i holds.at.long b.long b.alike in
      let before : Before (applied ws s d).state (stored (applied ws s d).writes d) t c
      (sends (reply downloaded (object_of rq) t (bytes data_size 0)) (applied ws (without_transfer t) c)) = record {
        node = other.node ∙ ap (restarted (wrote heartbeat_time ws)) b.node ∙ sym one.node;
        drive = other.drive ∙ ap (moded (wrote mode ws) (stored ws c)) b.drive
            ∙ moded_alike (wrote mode ws) (stored ws c) (stored ws d) s.axis.drive (stay mode mode_in mode_unshown)
            ∙ sym one.drive;
        held = other.held ∙ b.held ∙ sym one.held;
        alike = rw (other.writes, one.writes) stay;
        plain = other.plain;
        long = rw one.writes (length_store r (listed x r).value d ∙ b.long);
        unstayed = ap (λ (w : Drive). w.stay) one.drive ∙ moded_stay (wrote mode ws) (stored ws d) s.axis.drive ∙ b.unstayed;
        served = ap is_pre_operational (entry_nmt x s d q h) ∙ b.served;
      } in
      record {
        taken = rw (is_download x few octets, is_object x few octets, q, offers x few octets r same) fine;
        beside = subst (λ (y : Decision). Beside (applied ws s d).state (stored (applied ws s d).writes d) (standing (answered y t c out)))
            (sym (sdo_decided a (rests a holds) rq out heard ∙ ap performs served)) (ended_beside _ _ t c _ before);
        holds = step_holds (requested rq out a) a (request_bytes x few octets) holds;
      }

  -- ---- all of them

  pub record Walks (rqs : List (List ℕ)) (s : State) (d : List ℕ) (a : Stand) : Type 0 where
    pub taken : AllTaken rqs out a
    pub beside : Beside s d (after_requests rqs out a)
    pub holds : Holds (after_requests rqs out a)

  pub walk : {s : State} {d : List ℕ} {es : List Entry} {e : Effect} (a : Stand) → Entries s d es e → names_control_word es ≡ false →
      ((x : Entry) → In x es → OfBytes x) → Holds a → Beside s d a → Walks (map request_for es) e.state (stored e.writes d) a
  unfolding AllTaken after_requests and_then stored
  walk a Entries.none h octets holds b = record { taken = tt; beside = b; holds = holds }
  walk {s = s} {d = d} a (Entries.next x r {es} {e} q v rest) h octets holds b =
      let f = applied (entry_write x r ∷ []) s d in
      let k = step x r s d a holds b q v (or_false_left (is_for_control_word x) _ h) (octets x here) in
      let w = walk (left (requested (request_for x) out a) a) rest (or_false_right (is_for_control_word x) _ h) (λ y i. octets y (there i)) k.holds
      k.beside in
      record { taken = (k.taken, w.taken); beside = rw (stored_append f.writes e.writes d) w.beside; holds = w.holds }

-- ---- two stands beside one state and dictionary are the same, but for the transfer

axis_same : (x y : Axis) → x.drive ≡ y.drive → x.plans ≡ y.plans → x.ready ≡ y.ready → x.held ≡ y.held → x.paces ≡ y.paces → x ≡ y
axis_same x y v p r h k =
    let with : Drive → List Plan → List PdoData → List PdoData → List Pace → Axis =
    λ v p r h k. record { drive = v; plans = p; ready = r; held = h; paces = k } in
    ap (λ (w : Drive). with w x.plans x.ready x.held x.paces) v
    ∙ ap (λ (w : List Plan). with y.drive w x.ready x.held x.paces) p
    ∙ ap (λ (w : List PdoData). with y.drive y.plans w x.held x.paces) r
    ∙ ap (λ (w : List PdoData). with y.drive y.plans y.ready w x.paces) h
    ∙ ap (with y.drive y.plans y.ready y.held) k

pub unoperational : (m : NmtState) → is_pre_operational m ≡ true → is_operational m ≡ false
unoperational PreOperational h = refl
unoperational Operational h = sym h
unoperational Stopped h = refl

-- nothing is kept of the transmit PDOs
paces_idle : (a : Stand) → Rests a → is_operational a.state.node.nmt ≡ false →
    a.state.axis.paces ≡ idle_pace ∷ idle_pace ∷ idle_pace ∷ idle_pace ∷ []
unfolding pace_for
paces_idle a h off =
    let m = a.state.node.nmt in
    let d = a.dictionary in
    sym (paces_rest a h a.state.transfer).1 ∙ rw (idle m d 4 off, idle m d 5 off, idle m d 6 off, idle m d 7 off)

module _ (s : State) (d : List ℕ) (a b : Stand) (h : Rests a) (k : Rests b) (p : Beside s d a) (q : Beside s d b) where
  same_node : a.state.node ≡ b.state.node
  same_node = p.node ∙ sym q.node

  same_drive : a.state.axis.drive ≡ b.state.axis.drive
  same_drive = p.drive ∙ sym q.drive

  same_others : Alike a.dictionary b.dictionary
  same_others x i u = p.alike x i u ∙ sym (q.alike x i u)

  same_word : read a.dictionary status_word ≡ read b.dictionary status_word
  unfolding status_of
  same_word =
      let powered = a.state.node.voltage in
      let remote = not (is_stopped a.state.node.nmt) in
      status_made a h
      ∙ status_same b.dictionary a.dictionary a.state.axis.drive (motion_alike a.dictionary b.dictionary same_others) remote powered
      ∙ rw (same_node, same_drive) (sym (status_made b k))

  same_rows : (x : Row) → In x table → read a.dictionary x ≡ read b.dictionary x
  same_rows x i =
      elim (same_or_apart status_in i) [
        | inl e ↦ subst (λ (y : Row). read a.dictionary y ≡ read b.dictionary y) e same_word
        | inr u ↦ elim (same_or_apart display_in i) [
          | inl e ↦ subst (λ (y : Row). read a.dictionary y ≡ read b.dictionary y) e
              ((mode_made a h).0 ∙ same_others mode mode_in mode_unshown ∙ sym (mode_made b k).0)
          | inr w ↦ same_others x i (record { word = u; display = w })
        ]
      ]

  same_dictionary : a.dictionary ≡ b.dictionary
  same_dictionary = rows_whole a.dictionary b.dictionary h.at.long k.at.long h.at.bytes k.at.bytes same_rows

  same_axis : a.state.axis ≡ b.state.axis
  same_axis =
      let off : is_operational a.state.node.nmt ≡ false = rw p.node (unoperational s.node.nmt p.served) in
      let off' : is_operational b.state.node.nmt ≡ false = rw q.node (unoperational s.node.nmt q.served) in
      axis_same a.state.axis b.state.axis same_drive
      (h.plans ∙ ap plans_of same_dictionary ∙ sym k.plans)
      (h.ready ∙ ap ready_of same_dictionary ∙ sym k.ready)
      (p.held ∙ sym q.held)
      (paces_idle a h off ∙ sym (paces_idle b k off'))

  pub same_stand_lem : nothing_runs a ≡ nothing_runs b
  same_stand_lem = rw (same_node, same_axis, same_dictionary)
