-- What a call writes is what document 01 lists for it, one by one: a walk over the rules' services beside the list of specs/Promises.antt. The same
-- walk shows what the values that a frame brings make of the drive.
-- Assumes nothing.
use Rattle.theorems.proofs.Words.{ℕ, inl, inr, suc, ◌+◌, ◌||◌, ◌≡◌, refl, sym, ◌∙◌, ap, ap₂, subst, Bool, true, false, cond, not, ◌&&◌}
use Rattle.theorems.proofs.Words.{Bool·beq, List, [], ◌∷◌, ◌++◌, map, eqb, eqb_self, ltb, length, get_or, take, set, take-take, get_or-set_other}
use Rattle.theorems.proofs.Words.{arith, PdoData, Synced, NmtState, PreOperational, Operational, Stopped, State, In, here, there, Event}
use Rattle.theorems.proofs.Words.{Started, QuickStopDone, ReactionDone, SetPointReached, Tick, CauseGone, Feedback, Voltage, SdoCommand}
use Rattle.theorems.proofs.Words.{Download, Upload, ClientAbort, Unknown, is_stopped, is_operational, is_pre_operational, all_in, and_left}
use Rattle.theorems.proofs.Words.{and_right, found_in, in_left, either, by_test, by_match, both_by_test, both_by_match, whichever, clash}
use Rattle.theorems.proofs.Words.{not-true, Transfer, NoTransfer, Uploading, Downloading, DownloadBySegments, DownloadSegment, UploadSegment}
use Rattle.theorems.proofs.Words.{or_false_left, or_false_right}
use Rattle.theorems.proofs.Dictionary.{DictionaryOk, is_pdo, mapped_alike}
use Rattle.theorems.proofs.Writes.{InTable, one_row, no_pdo_alike}
use Rattle.theorems.proofs.Mapped.{QuietRow, received_row}
use Rattle.theorems.proofs.PdoKept.{unpacked_rows, unpacked_same}
use Rattle.theorems.proofs.{Settled.register_in, Lawful.Lawful, Lawful.sound_lawful, Services.applied_all, Demands.one_listener}
use Rattle.theorems.proofs.Applied.{Brings, brings_none, applied_held, applied_brings, applied_then}
use Rattle.theorems.proofs.Decisions.{Decided, is_given}
use Rattle.theorems.proofs.Entries.{Entries, entry_applied}
use Rattle.files.specs.ConciseDcf.{Entry}
use Rattle.rules_services.specs.Load.{is_for_control_word, names_control_word}
use Rattle.rules_dictionary.specs.Table.{Row, table, receive_pdos, transmit_pdos, pdos, heartbeat_time, is_reset, Found, found, no_object, no_subindex}
use Rattle.rules_dictionary.specs.Table.{the_name}
use Rattle.rules_dictionary.specs.Values.{Write, write, read, stored, unpacked, to_defaults}
use Rattle.rules_dictionary.specs.{Numbers.all, Numbers.filter, Plans.mapped, Legal.is_synchronous}
use Rattle.rules_dictionary.specs.Aborts.{Verdict, good, bad, is_good, wrong_toggle}
use Rattle.rules_services.specs.Effects.{Frame, Effect, becomes, sends, on, and_then, with_held, without_transfer}
use Rattle.rules_services.specs.Emergency.{emergency, bad_sync_length}
use Rattle.rules_services.specs.Written.{applied}
use Rattle.rules_services.specs.PdoTraffic.{type_of, mapped_length, are_legal, held_or_applied, received, listens, received_by, no_data, is_held, release}
use Rattle.rules_services.specs.PdoTraffic.{release_all, sync, sync_base}
use Rattle.rules_services.specs.Nmt.{power_up, commanded, nmt, nmt_identifier, nmt_length, every_node, tick as ticked, command_of as nmt_command_of}
use Rattle.rules_services.specs.Nmt.{NmtCommand, start, stop, enter_pre_operational, reset_node, reset_communication, unknown as unknown_nmt}
use Rattle.rules_services.specs.{declared.Event.TheVariants.Fault, Events.happens, Events.faulted}
use Rattle.rules_services.specs.Sdo.{object_of, sought, Offer, expedited, offer_verdict, abort, judged, download, with_reply, downloads, request_base}
use Rattle.rules_services.specs.Sdo.{request_length}
use Rattle.rules_services.specs.Segments.{toggle_of, toggle_at, is_last, carried, unfit, name_asked, segment_asked, download_begun, gathered, joined}
use Rattle.rules_services.specs.Segments.{acknowledged, concluded, continued, segment_sent, object_in}
use Rattle.rules_services.specs.SdoServer.{uploads, asked, sdo}
use Rattle.rules.specs.Calls.{Call, Decision, refuses, does as performs, framed}
use Rattle.theorems.specs.Promises.{rows_of, and_settled, to_found, by_sdo, applies_at_once, by_pdo, held_for, by_sync, applies, by_command, by_nmt}
use Rattle.theorems.specs.Promises.{by_frame, by_event, by_told, may_change, by_segment, command_in, by_entries}

-- ---- lists of PDOs

none_pass {ℓ} : {A : Type ℓ} (f : A → Bool) (xs : List A) → ((x : A) → In x xs → f x ≡ false) → filter f xs ≡ []
none_pass f [] h = refl
none_pass f (x ∷ xs) h = by_match (λ ys. ys ≡ []) (f x) (λ e. clash (f x) e (h x here)) (λ e. none_pass f xs (λ y i. h y (there i)))

-- no two of them are the same
differ : List ℕ → Bool
differ [] = true
differ (p ∷ ps) = all (λ q. not (eqb q p)) ps && differ ps

apart : (p q : ℕ) (ps : List ℕ) → differ (p ∷ ps) ≡ true → In q ps → eqb q p ≡ false
unfolding differ
apart p q ps h i = not-true _ (all_in (λ q. not (eqb q p)) i (and_left (all (λ q. not (eqb q p)) ps) _ h))

-- ---- SYNC

-- the frames released leave the mappings, so that what each writes is what was mapped at the start, in d₀; h₀ are the frames held then
module _ {n : ℕ} (d₀ : List ℕ) (ok : DictionaryOk n d₀) (h₀ : ℕ → PdoData) where
  abbrev brought : ℕ → List Write
  brought p = unpacked (mapped d₀ p) (h₀ p).bytes

  brought_quiet : {p : ℕ} → In p receive_pdos → (w : Write) → In w (brought p) → QuietRow w.row
  brought_quiet {p} i w j = (received_row ok i (unpacked_rows (mapped d₀ p) (h₀ p).bytes j)).quiet

  releases_bring : (ps : List ℕ) (s : State) (d : List ℕ) → ((p : ℕ) → In p ps → In p receive_pdos) → differ ps ≡ true →
      ((p : ℕ) → In p ps → held_for s p ≡ h₀ p) → ((y : Row) → In y table → is_pdo y.role ≡ true → read d y ≡ read d₀ y) →
      Brings s d (release_all ps s d) (map brought (filter (λ p. is_held (h₀ p)) ps))
  unfolding release_all release and_then stored differ
  releases_bring [] s d sub unlike held alike = brings_none
  releases_bring (p ∷ ps) s d sub unlike held alike =
      let i : In p receive_pdos = sub p here in
      let t = with_held (set s.axis.held p no_data) s in
      let ws = brought p in
      let later = filter (λ p. is_held (h₀ p)) ps in
      let a = applied ws t d in
      let rows : InTable ws = λ w j. (brought_quiet i w j).0 in
      let quiet = applied_all (λ w. QuietRow w.row) ws t d (brought_quiet i) (λ e. (register_in, refl)) in
      let rest = releases_bring ps a.state (stored a.writes d) (λ q j. sub q (there j)) (and_right (all (λ q. not (eqb q p)) ps) _ unlike)
      (λ q j. ap (λ (h : List PdoData). get_or h q no_data) (applied_held ws t d rows)
      ∙ get_or-set_other s.axis.held p q no_data no_data (λ e. clash (eqb q p) (rw e (eqb_self p)) (apart p q ps unlike j)) ∙ held q (there j))
      (λ y j k. no_pdo_alike a.writes d (λ w l. (quiet w l).0) (λ w l. (quiet w l).1) y j k ∙ alike y j k) in
      let first : release p s d ≡ elim (is_held (h₀ p)) [ true ↦ a | false ↦ becomes s ] =
      ap₂ (λ (f : PdoData) (xs : List Row). elim (is_held f) [ true ↦ applied (unpacked xs f.bytes) t d | false ↦ becomes s ]) (held p here)
      (mapped_alike d₀ d alike (in_left transmit_pdos i)) in
      let P : Effect → List ℕ → Type 0 = λ e qs. Brings s d (and_then d e (release_all ps)) (map brought qs) in
      subst (λ (e : Effect). P e (elim (is_held (h₀ p)) [ true ↦ p ∷ later | false ↦ later ])) (sym first)
      (both_by_match P (is_held (h₀ p)) (λ e. applied_then ws t d rows (map brought later) (release_all ps) rest)
      (λ e. releases_bring ps s d (λ q j. sub q (there j)) (and_right (all (λ q. not (eqb q p)) ps) _ unlike) (λ q j. held q (there j)) alike))

module _ (s : State) (d : List ℕ) (law : Lawful s d) where
  -- "Stopped it is not served; in Pre-operational one of length 0 does nothing."
  sync_cases : (m : NmtState) (b : Bool) (e : Effect) (alarm : List Frame) (fs : List (List Write)) → Brings s d e fs →
      Brings s d (cond (is_stopped m) (becomes s) (cond (not b) (sends alarm (becomes s)) (cond (is_operational m) (on Synced e) (becomes s))))
      (cond (is_operational m && b) fs [])
  sync_cases PreOperational true e alarm fs h = brings_none
  sync_cases PreOperational false e alarm fs h = brings_none
  sync_cases Operational true e alarm fs h = h
  sync_cases Operational false e alarm fs h = brings_none
  sync_cases Stopped b e alarm fs h = brings_none

  sync_brings : (bs : List ℕ) → Brings s d (sync bs s d) (cond (is_operational s.node.nmt && eqb (length bs) 0) (by_sync s d) [])
  unfolding sync by_sync differ
  sync_brings bs =
      sync_cases s.node.nmt (eqb (length bs) 0) (release_all receive_pdos s d) (emergency bad_sync_length s d) _
      (releases_bring d law.dictionary (held_for s) receive_pdos s d (λ p i. i) refl (λ p i. refl) (λ y i k. refl))

  -- ---- SDO
  module _ (fs : List Frame) (o : List ℕ) (offer : Row → Offer) (own : (x : Row) → (offer x).row ≡ x) where
    judged_brings : (x : Row) → In x table → (v : Verdict) →
        Brings s d (with_reply fs o (without_transfer s) (judged v (offer x) (without_transfer s) d))
        (cond (is_good v) ((write x (offer x).value ∷ []) ∷ []) [])
    unfolding judged with_reply abort
    judged_brings x i good =
        rw (own x) (applied_brings (write x (offer x).value ∷ []) (without_transfer s) d (one_row (λ w. In w.row table) i))
    judged_brings x i (bad a) = brings_none

    downloads_bring : (f : Found) → sought o ≡ f → Brings s d (downloads fs o offer f (without_transfer s) d) (to_found offer s d f)
    unfolding downloads download with_reply abort
    downloads_bring (found x) e = judged_brings x (found_in _ _ e) (offer_verdict s.node.nmt d (offer x))
    downloads_bring the_name e = brings_none
    downloads_bring no_object e = brings_none
    downloads_bring no_subindex e = brings_none

  module _ (rq : List ℕ) where
    sent_brings : (t : Transfer) → Brings s d (segment_sent t rq s d) (by_segment t rq s d)
    unfolding segment_sent unfit abort concluded continued
    sent_brings NoTransfer = brings_none
    sent_brings (Uploading k) = brings_none
    sent_brings (Downloading g) = go (Bool·beq (toggle_of rq) g.toggle) (is_last rq)
      where
        go : (a b : Bool) → Brings s d (cond a (cond b (concluded g (carried rq) s d) (continued g (carried rq) s)) (unfit wrong_toggle s))
            (cond (a && b) (to_found (joined (gathered g (carried rq))) s d (sought (object_in g))) [])
        go true true = downloads_bring (acknowledged g s) (object_in g) (joined (gathered g (carried rq))) (λ x. refl) (sought (object_in g)) refl
        go true false = brings_none
        go false b = brings_none

    answered_brings : (t : Transfer) → Brings s d (segment_asked t rq s) []
    unfolding segment_asked unfit abort
    answered_brings NoTransfer = brings_none
    answered_brings (Uploading k) = whichever (λ e. Brings s d e []) (Bool·beq (toggle_of rq) (toggle_at k)) brings_none brings_none
    answered_brings (Downloading g) = brings_none

    uploads_bring : (f : Found) → Brings s d (uploads (object_of rq) f (without_transfer s) d) []
    unfolding uploads name_asked abort
    uploads_bring (found x) = brings_none
    uploads_bring the_name = brings_none
    uploads_bring no_object = brings_none
    uploads_bring no_subindex = brings_none

    asked_brings : (c : SdoCommand) → Brings s d (asked c rq s d) (by_sdo c rq s d)
    unfolding asked download_begun abort
    asked_brings Download = downloads_bring _ (object_of rq) (expedited rq) (λ x. refl) (sought (object_of rq)) refl
    asked_brings DownloadBySegments = brings_none
    asked_brings DownloadSegment = sent_brings s.transfer
    asked_brings Upload = uploads_bring (sought (object_of rq))
    asked_brings UploadSegment = answered_brings s.transfer
    asked_brings ClientAbort = brings_none
    asked_brings Unknown = brings_none

  -- ---- a receive PDO
  module _ (i : ℕ) (bs : List ℕ) where
    abbrev values : ℕ → List Write
    values p = unpacked (mapped d p) bs

    abbrev only : ℕ → Bool → List (List Write)
    only p b = map values (elim b [ true ↦ p ∷ [] | false ↦ [] ])

    -- by the one that listens
    received_brings : (p : ℕ) → In p receive_pdos → listens i s.node.nmt d p ≡ true →
        Brings s d (received p bs s d) (only p (applies_at_once i bs s d p))
    unfolding received held_or_applied
    received_brings p j listening =
        let k = mapped_length (mapped d p) in
        let P : Effect → Type 0 = λ e. Brings s d e (only p (applies_at_once i bs s d p)) in
        let none : applies_at_once i bs s d p ≡ false → P (becomes s) = λ q.
        subst (λ (b : Bool). Brings s d (becomes s) (only p b)) (sym q) brings_none in
        by_test P (ltb (length bs) k) (λ short. none (rw (listening, short)))
        (λ enough. by_test P (are_legal d (values p))
        (λ legal. by_test P (is_synchronous (type_of d p)) (λ later. none (rw (listening, enough, legal, later)))
        (λ now.
        let q : applies_at_once i bs s d p ≡ true = rw (listening, enough, legal, now) in
        let same : unpacked (mapped d p) (take k bs) ≡ values p = unpacked_same (mapped d p) (take k bs) bs (take-take k k bs (omega arith)) in
        let rows : InTable (values p) = λ w l. (received_row law.dictionary j (unpacked_rows (mapped d p) bs l)).quiet.0 in
        subst (λ (b : Bool). Brings s d (applied (unpacked (mapped d p) (take k bs)) s d) (only p b)) (sym q)
        (subst (λ (ws : List Write). Brings s d (applied ws s d) (values p ∷ [])) (sym same) (applied_brings (values p) s d rows))))
        (λ refused. none (rw (listening, enough, refused))))

    unheard : (p : ℕ) → listens i s.node.nmt d p ≡ false → applies_at_once i bs s d p ≡ false
    unheard p deaf = rw deaf

    received_by_brings : (ps : List ℕ) → ((p : ℕ) → In p ps → In p receive_pdos) → differ ps ≡ true →
        Brings s d (received_by ps i bs s d) (map values (filter (applies_at_once i bs s d) ps))
    unfolding received_by differ
    received_by_brings [] sub unlike = brings_none
    received_by_brings (p ∷ ps) sub unlike =
        let m = s.node.nmt in
        let pdo : (q : ℕ) → In q (p ∷ ps) → In q pdos = λ q j. in_left transmit_pdos (sub q j) in
        let later = filter (applies_at_once i bs s d) ps in
        let F : Bool → List ℕ → List (List Write) = λ b qs. map values (elim b [ true ↦ p ∷ qs | false ↦ qs ]) in
        by_match (λ e. Brings s d e (F (applies_at_once i bs s d p) later)) (listens i m d p)
        (λ listening.
        let deaf : (q : ℕ) → In q ps → listens i m d q ≡ false = λ q j. elim (either (listens i m d q)) [
          | inl hears ↦
              let same = one_listener s.node.id d law.dictionary m p q i (pdo p here) (pdo q (there j)) listening hears in
              clash (eqb q p) (rw same (eqb_self p)) (apart p q ps unlike j)
          | inr e ↦ e
        ] in
        subst (λ (qs : List ℕ). Brings s d (received p bs s d) (F (applies_at_once i bs s d p) qs))
        (sym (none_pass (applies_at_once i bs s d) ps (λ q j. unheard q (deaf q j)))) (received_brings p (sub p here) listening))
        (λ deaf. subst (λ (b : Bool). Brings s d (received_by ps i bs s d) (F b later)) (sym (unheard p deaf))
        (received_by_brings ps (λ q j. sub q (there j)) (and_right (all (λ q. not (eqb q p)) ps) _ unlike)))

    -- ---- every frame but NMT
    applies_brings : Brings s d
        (cond (eqb i sync_base) (sync bs s d)
        (cond (eqb i (request_base + s.node.id))
        (cond (eqb (length bs) request_length && not (is_stopped s.node.nmt)) (sdo bs s d) (becomes s)) (received_by receive_pdos i bs s d)))
        (applies i bs s d)
    unfolding applies sdo by_pdo differ
    applies_brings =
        let P : Effect → List (List Write) → Type 0 = Brings s d in
        both_by_test P (eqb i sync_base) (λ e. sync_brings bs)
        (λ e. both_by_test P (eqb i (request_base + s.node.id))
        (λ e. both_by_test P (eqb (length bs) request_length && not (is_stopped s.node.nmt)) (λ e. asked_brings bs (command_in bs))
        (λ e. brings_none))
        (λ e. received_by_brings receive_pdos (λ p j. j) refl))

-- ---- NMT

defaults_rows : (n : ℕ) (xs : List Row) → rows_of (to_defaults n xs ++ []) ≡ xs
defaults_rows n [] = refl
defaults_rows n (x ∷ xs) = ap (λ (ys : List Row). x ∷ ys) (defaults_rows n xs)

-- the effect writes those rows
abbrev RowsAre : Effect → List Row → Type 0
RowsAre e xs = rows_of e.writes ≡ xs

command_rows : (c : NmtCommand) (s : State) → RowsAre (commanded c s) (by_command c)
unfolding commanded power_up
command_rows start s = whichever (λ e. RowsAre e []) (is_operational s.node.nmt) refl refl
command_rows stop s = refl
command_rows enter_pre_operational s = whichever (λ e. RowsAre e []) (is_pre_operational s.node.nmt) refl refl
command_rows reset_node s = defaults_rows s.node.id table
command_rows reset_communication s = defaults_rows s.node.id (filter is_reset table)
command_rows unknown_nmt s = refl

nmt_rows : (bs : List ℕ) (s : State) → RowsAre (nmt bs s) (by_nmt bs s)
unfolding nmt by_nmt
nmt_rows bs s =
    both_by_test RowsAre (eqb (length bs) nmt_length && (eqb (get_or bs 1 0) every_node || eqb (get_or bs 1 0) s.node.id))
    (λ e. command_rows (nmt_command_of (get_or bs 0 0)) s) (λ e. refl)

-- ---- every frame, and every event

pub framed_brings : (i : ℕ) (bs : List ℕ) (s : State) (d : List ℕ) → Lawful s d → eqb i nmt_identifier ≡ false →
    Brings s d (framed i bs s d) (applies i bs s d)
unfolding framed
framed_brings i bs s d law other = rw other (applies_brings s d law i bs)

framed_rows : (i : ℕ) (bs : List ℕ) (s : State) (d : List ℕ) → Lawful s d → RowsAre (framed i bs s d) (by_frame i bs s d)
unfolding framed by_frame
framed_rows i bs s d law =
    both_by_test RowsAre (eqb i nmt_identifier) (λ e. nmt_rows bs s) (λ e. ap rows_of (applies_brings s d law i bs).writes)

event_rows : (e : Event) (s : State) (d : List ℕ) → RowsAre (happens e s d) (by_event e)
unfolding happens ticked faulted
event_rows Started s d = refl
event_rows QuickStopDone s d = refl
event_rows ReactionDone s d = refl
event_rows SetPointReached s d = refl
event_rows Tick s d =
    let P : Effect → Type 0 = λ e. RowsAre e [] in
    whichever P (eqb (read d heartbeat_time) 0) refl (whichever P (ltb (suc s.node.heartbeat) (read d heartbeat_time)) refl refl)
event_rows CauseGone s d = refl
event_rows (Fault code register) s d = refl
event_rows (Feedback at speed) s d = refl
event_rows (Voltage b) s d = refl

-- a load: its entries' rows
entries_rows : {s : State} {d : List ℕ} {es : List Entry} {e : Effect} → Entries s d es e → names_control_word es ≡ false → RowsAre e (by_entries es)
unfolding and_then
entries_rows Entries.none h = refl
entries_rows {s = s} {d = d} (Entries.next x r {es} {e} q v rest) h =
    rw (q, ap (λ (a : Effect). a.writes) (entry_applied x s d q (or_false_left (is_for_control_word x) _ h)))
    (ap (λ (ys : List Row). r ∷ ys) (entries_rows rest (or_false_right (is_for_control_word x) _ h)))

-- ---- the calls

-- a refusal, or an effect whose rows are those of the list
abbrev pub Lists : Call → State → List ℕ → Decision → Type 0
Lists c s d (refuses r) = is_given r ≡ true
Lists c s d (performs e) = may_change c s d ≡ and_settled (rows_of e.writes)

-- THE LAW
pub lists : {s : State} {d : List ℕ} {c : Call} {x : Decision} → Decided s d c x → Lists c s d x
unfolding may_change power_up
lists (Decided.refusing r given why) = given
lists (Decided.powering n legal l) = rw legal (ap and_settled (sym (defaults_rows n table)))
lists {s} {d} (Decided.framing i bs l h) = ap and_settled (sym (framed_rows i bs s d (sound_lawful s d l h)))
lists {s} {d} (Decided.happening k xs e q placed l h) = ap by_told q ∙ ap and_settled (sym (event_rows e s d))
lists (Decided.loading f e served none taken l h) = ap and_settled (sym (entries_rows taken none))
