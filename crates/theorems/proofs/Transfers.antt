-- The transfer after a call, by the call alone: a walk over the rules' services beside the list of specs/Promises.antt. And it may run again.
-- Assumes nothing.
use Rattle.theorems.proofs.Words.{ℕ, suc, ◌+◌, arith, ◌≡◌, refl, ◌∙◌, ap, Bool, true, false, cond, not, ◌&&◌, ◌||◌, Bool·beq, List, [], ◌∷◌}
use Rattle.theorems.proofs.Words.{eqb, ltb, eqb-true, ne_eqb, length, get_or, Transfer, NoTransfer, Uploading, Downloading, State, Accepted}
use Rattle.theorems.proofs.Words.{SdoCommand, Download, DownloadBySegments, DownloadSegment, Upload, UploadSegment, ClientAbort, Unknown}
use Rattle.theorems.proofs.Words.{Event, Started, QuickStopDone, ReactionDone, SetPointReached, Tick, CauseGone, Feedback, Voltage, is_stopped}
use Rattle.theorems.proofs.Words.{is_operational, is_pre_operational, and_left, by_test, by_match, both_by_test, whichever, clash, and_right}
use Rattle.theorems.proofs.Words.{and_false_if, true≢false}
use Rattle.theorems.proofs.Receipts.{MayRun, next_runs, begun_runs, carried_runs, turned_runs, request_object, nothing_runs_lem, name_runs}
use Rattle.theorems.proofs.Decisions.{Decided, decided_by, is_given}
use Rattle.theorems.proofs.Entries.{Entries, entry_write}
use Rattle.files.specs.ConciseDcf.{Entry}
use Rattle.rules_dictionary.specs.Table.{Row, Found, found, the_name, no_object, no_subindex, control_word, mode, heartbeat_time, receive_pdos}
use Rattle.rules_dictionary.specs.Values.{Write, read, stored, unpacked}
use Rattle.rules_dictionary.specs.Aborts.{Verdict, good, bad, wrong_toggle}
use Rattle.rules_dictionary.specs.{Numbers.are_bytes, Legal.is_synchronous, Plans.mapped}
use Rattle.drive.specs.SetPoints.{control_written}
use Rattle.rules_services.specs.Effects.{Frame, Effect, becomes, and_then, with_held, without_transfer}
use Rattle.rules_services.specs.Written.{applied, wrote, count_restarted, mode_acted, fault_reset, control_acted}
use Rattle.rules_services.specs.Sdo.{object_of, sought, Offer, expedited, offer_verdict, abort, judged, download, with_reply, downloads, request_base}
use Rattle.rules_services.specs.Sdo.{request_length}
use Rattle.rules_services.specs.Segments.{unfit, name_asked, segment_asked, toggle_of, toggle_at, is_last, carried, download_begun, concluded, gathered}
use Rattle.rules_services.specs.Segments.{turned, joined, acknowledged, continued, segment_sent, object_in}
use Rattle.rules_services.specs.SdoServer.{uploads, asked, sdo}
use Rattle.rules_services.specs.PdoTraffic.{mapped_length, are_legal, type_of, held_or_applied, received, listens, received_by, no_data, is_held, release}
use Rattle.rules_services.specs.PdoTraffic.{release_all, sync, sync_base}
use Rattle.rules_services.specs.Nmt.{power_up, fresh_state, left, voltage_disabled, commanded, nmt, nmt_identifier, nmt_length, every_node, tick as ticked}
use Rattle.rules_services.specs.Nmt.{command_of as nmt_command_of, NmtCommand, start, stop, enter_pre_operational, reset_node, reset_communication}
use Rattle.rules_services.specs.Nmt.{unknown as unknown_nmt}
use Rattle.rules_services.specs.{declared.Event.TheVariants.Fault, Events.happens, Events.faulted}
use Rattle.rules.specs.{Outcome.ended}
use Rattle.rules.specs.Calls.{Call, power_up_call, frame_call, event_call, load_call, Decision, refuses, does as performs, framed, answer, answered}
use Rattle.rules.specs.Calls.{accepted}
use Rattle.rules.specs.Calls.{refused}
use Rattle.theorems.specs.Promises.{octets, command_in, after_sent, after_asked, after_upload, after_request, after_command, after_frame, after_call}
use Rattle.theorems.specs.Promises.{EndsTransfers}

-- ---- values stored and acted on leave it

abbrev pub Leaves : Effect → Transfer → Type 0
Leaves e t = e.state.transfer ≡ t

pub applied_leaves : (ws : List Write) (s : State) (d : List ℕ) → Leaves (applied ws s d) s.transfer
unfolding applied control_acted fault_reset mode_acted count_restarted
applied_leaves ws s d =
    let P : State → Type 0 = λ u. u.transfer ≡ s.transfer in
    let Q : Effect → Type 0 = λ e. Leaves e s.transfer in
    let t = mode_acted ws (count_restarted ws s) (stored ws d) in
    let moded : P t = whichever P (wrote mode ws) (whichever P (wrote heartbeat_time ws) refl refl) (whichever P (wrote heartbeat_time ws) refl refl) in
    whichever Q (wrote control_word ws) (whichever Q (control_written (stored ws d) (read d control_word) t.axis.drive).reset moded moded) moded

module _ (s : State) (d : List ℕ) where
  abbrev Same : Effect → Type 0
  Same e = Leaves e s.transfer

  received_leaves : (p : ℕ) (bs : List ℕ) → Same (received p bs s d)
  unfolding received held_or_applied
  received_leaves p bs =
      whichever Same (ltb (length bs) (mapped_length (mapped d p))) refl
      (whichever Same (are_legal d (unpacked (mapped d p) bs)) (whichever Same (is_synchronous (type_of d p)) refl (applied_leaves _ s d)) refl)

  received_by_leaves : (ps : List ℕ) (i : ℕ) (bs : List ℕ) → Same (received_by ps i bs s d)
  unfolding received_by
  received_by_leaves [] i bs = refl
  received_by_leaves (p ∷ ps) i bs =
      by_match Same (listens i s.node.nmt d p) (λ e. received_leaves p bs) (λ e. received_by_leaves ps i bs)

  release_leaves : (p : ℕ) → Same (release p s d)
  unfolding release
  release_leaves p = by_match Same (is_held (get_or s.axis.held p no_data)) (λ e. applied_leaves _ (with_held _ s) d) (λ e. refl)

releases_leave : (ps : List ℕ) (s : State) (d : List ℕ) → Leaves (release_all ps s d) s.transfer
unfolding release_all and_then
releases_leave [] s d = refl
releases_leave (p ∷ ps) s d = releases_leave ps (release p s d).state (stored (release p s d).writes d) ∙ release_leaves s d p

module _ (s : State) (d : List ℕ) where
  sync_leaves : (bs : List ℕ) → Same s d (sync bs s d)
  unfolding sync
  sync_leaves bs =
      let P : Effect → Type 0 = Same s d in
      whichever P (is_stopped s.node.nmt) refl
      (whichever P (not (eqb (length bs) 0)) refl (whichever P (is_operational s.node.nmt) (releases_leave receive_pdos s d) refl))

  event_leaves : (e : Event) → Same s d (happens e s d)
  unfolding happens faulted ticked
  event_leaves Started = refl
  event_leaves QuickStopDone = refl
  event_leaves ReactionDone = refl
  event_leaves SetPointReached = refl
  event_leaves Tick =
      let P : Effect → Type 0 = Same s d in
      whichever P (eqb (read d heartbeat_time) 0) refl (whichever P (ltb (suc s.node.heartbeat) (read d heartbeat_time)) refl refl)
  event_leaves CauseGone = refl
  event_leaves (Fault code register) = refl
  event_leaves (Feedback at speed) = refl
  event_leaves (Voltage b) = refl

  -- ---- SDO

  downloads_end : (fs : List Frame) (o : List ℕ) (offer : Row → Offer) (f : Found) → Leaves (downloads fs o offer f (without_transfer s) d) NoTransfer
  unfolding downloads download with_reply judged abort
  downloads_end fs o offer (found x) = judged_ends (offer_verdict s.node.nmt d (offer x))
    where
      judged_ends : (v : Verdict) → Leaves (with_reply fs o (without_transfer s) (judged v (offer x) (without_transfer s) d)) NoTransfer
      judged_ends good = applied_leaves _ (without_transfer s) d
      judged_ends (bad a) = refl
  downloads_end fs o offer the_name = refl
  downloads_end fs o offer no_object = refl
  downloads_end fs o offer no_subindex = refl

  sent_leaves : (t : Transfer) (rq : List ℕ) → Leaves (segment_sent t rq s d) (after_sent t rq)
  unfolding segment_sent unfit abort concluded continued
  sent_leaves NoTransfer rq = refl
  sent_leaves (Uploading k) rq = refl
  sent_leaves (Downloading g) rq = go (Bool·beq (toggle_of rq) g.toggle) (is_last rq)
    where
      go : (a b : Bool) → Leaves (cond a (cond b (concluded g (carried rq) s d) (continued g (carried rq) s)) (unfit wrong_toggle s))
          (cond (a && not b) (Downloading (turned (gathered g (carried rq)))) NoTransfer)
      go true true = downloads_end (acknowledged g s) (object_in g) (joined (gathered g (carried rq))) (sought (object_in g))
      go true false = refl
      go false b = refl

  answered_leaves : (t : Transfer) (rq : List ℕ) → Leaves (segment_asked t rq s) (after_asked t rq)
  unfolding segment_asked unfit abort
  answered_leaves NoTransfer rq = refl
  answered_leaves (Uploading k) rq = both_by_test Leaves (Bool·beq (toggle_of rq) (toggle_at k)) (λ e. refl) (λ e. refl)
  answered_leaves (Downloading g) rq = refl

  uploads_leave : (o : List ℕ) (f : Found) → Leaves (uploads o f (without_transfer s) d) (after_upload f)
  unfolding uploads name_asked abort
  uploads_leave o (found x) = refl
  uploads_leave o the_name = refl
  uploads_leave o no_object = refl
  uploads_leave o no_subindex = refl

  pub asked_leaves : (c : SdoCommand) (rq : List ℕ) → Leaves (asked c rq s d) (after_request c rq s.transfer)
  unfolding asked download_begun abort
  asked_leaves Download rq = downloads_end _ (object_of rq) (expedited rq) (sought (object_of rq))
  asked_leaves DownloadBySegments rq = refl
  asked_leaves DownloadSegment rq = sent_leaves s.transfer rq
  asked_leaves Upload rq = uploads_leave (object_of rq) (sought (object_of rq))
  asked_leaves UploadSegment rq = answered_leaves s.transfer rq
  asked_leaves ClientAbort rq = refl
  asked_leaves Unknown rq = refl

  -- ---- NMT

  command_leaves : (c : NmtCommand) → Leaves (commanded c s) (after_command c s.transfer)
  unfolding commanded power_up fresh_state left voltage_disabled
  command_leaves start = whichever (Same s d) (is_operational s.node.nmt) refl refl
  command_leaves stop = refl
  command_leaves enter_pre_operational = whichever (Same s d) (is_pre_operational s.node.nmt) refl refl
  command_leaves reset_node = refl
  command_leaves reset_communication = refl
  command_leaves unknown_nmt = refl

  -- ---- every frame

  framed_leaves : (i : ℕ) (bs : List ℕ) → Leaves (framed i bs s d) (after_frame i bs s)
  unfolding framed nmt sdo after_frame
  framed_leaves i bs =
      let n = request_base + s.node.id in
      both_by_test Leaves (eqb i nmt_identifier)
      (λ e. both_by_test Leaves (eqb (length bs) nmt_length && (eqb (get_or bs 1 0) every_node || eqb (get_or bs 1 0) s.node.id))
      (λ e. command_leaves (nmt_command_of (get_or bs 0 0))) (λ e. refl))
      (λ e. go (eqb i sync_base) (eqb i n) (eqb (length bs) request_length) (not (is_stopped s.node.nmt))
      (and_false_if (eqb i sync_base) (eqb i n) (λ e. ne_eqb i n (λ (q : i ≡ n). omega (arith, eqb-true i sync_base e)))))
    where
      go : (sync? asks long served : Bool) → (sync? && asks) ≡ false →
          Leaves (cond sync? (sync bs s d) (cond asks (cond (long && served) (sdo bs s d) (becomes s)) (received_by receive_pdos i bs s d)))
          (cond (asks && long && served) (after_request (command_in bs) bs s.transfer) s.transfer)
      go true true long served h = absurd (true≢false h)
      go true false long served h = sync_leaves bs
      go false true true true h = asked_leaves (command_in bs) bs
      go false true true false h = refl
      go false true false served h = refl
      go false false long served h = received_by_leaves s d receive_pdos i bs

-- a load
entries_leave : {s : State} {d : List ℕ} {es : List Entry} {e : Effect} → Entries s d es e → Leaves e s.transfer
unfolding and_then
entries_leave Entries.none = refl
entries_leave {s = s} {d = d} (Entries.next x r q v rest) = entries_leave rest ∙ applied_leaves (entry_write x r ∷ []) s d

-- ---- every call

-- a refusal, or an effect that leaves the transfer of the list
abbrev pub Turns : Call → State → Decision → Type 0
Turns c s (refuses r) = Unit
Turns c s (performs e) = Leaves e (after_call c s)

-- THE LAW
pub turns : {s : State} {d : List ℕ} {c : Call} {x : Decision} → Decided s d c x → Turns c s x
unfolding power_up fresh_state
turns (Decided.refusing r given why) = tt
turns (Decided.powering n legal l) = refl
turns {s} {d} (Decided.framing i bs l h) = framed_leaves s d i bs
turns {s} {d} (Decided.happening k xs e q placed l h) = event_leaves s d e
turns (Decided.loading f e served none taken l h) = entries_leave taken

turned_by : {s : State} {d : List ℕ} {c : Call} {x : Decision} (o : List ℕ) → Decided s d c x → Turns c s x → (answered x s d o).refusal ≡ Accepted →
    (answered x s d o).state.transfer ≡ after_call c s
unfolding answered refused accepted ended
turned_by o (Decided.refusing r given why) t ok = clash (is_given r) given (ap is_given ok)
turned_by o (Decided.powering n legal l) t ok = t
turned_by o (Decided.framing i bs l h) t ok = t
turned_by o (Decided.happening k xs e q placed l h) t ok = t
turned_by o (Decided.loading f e served none taken l h) t ok = t

pub ends_transfers : EndsTransfers
unfolding answer
ends_transfers k a =
    let x = decided_by a.state a.dictionary k.call k.output in
    turned_by k.output x (turns x)

-- ---- and it may run

module _ (bs : List ℕ) (octet : are_bytes bs ≡ true) where
  sent_runs : (t : Transfer) → MayRun t → MayRun (after_sent t bs)
  sent_runs NoTransfer r = nothing_runs_lem
  sent_runs (Uploading k) r = nothing_runs_lem
  sent_runs (Downloading g) r =
      whichever MayRun (Bool·beq (toggle_of bs) g.toggle && not (is_last bs))
      (turned_runs (gathered g (carried bs)) (carried_runs g bs octet r)) nothing_runs_lem

  answered_runs : (t : Transfer) → MayRun (after_asked t bs)
  answered_runs NoTransfer = nothing_runs_lem
  answered_runs (Uploading k) = whichever MayRun (Bool·beq (toggle_of bs) (toggle_at k)) (next_runs k) nothing_runs_lem
  answered_runs (Downloading g) = nothing_runs_lem

  upload_runs : (f : Found) → MayRun (after_upload f)
  upload_runs (found x) = nothing_runs_lem
  upload_runs the_name = name_runs
  upload_runs no_object = nothing_runs_lem
  upload_runs no_subindex = nothing_runs_lem

  request_runs : (c : SdoCommand) (t : Transfer) → length bs ≡ request_length → MayRun t → MayRun (after_request c bs t)
  request_runs Download t l r = nothing_runs_lem
  request_runs DownloadBySegments t l r = begun_runs (object_of bs) (request_object bs l octet)
  request_runs DownloadSegment t l r = sent_runs t r
  request_runs Upload t l r = upload_runs (sought (object_of bs))
  request_runs UploadSegment t l r = answered_runs t
  request_runs ClientAbort t l r = nothing_runs_lem
  request_runs Unknown t l r = nothing_runs_lem

command_runs : (c : NmtCommand) (t : Transfer) → MayRun t → MayRun (after_command c t)
command_runs start t r = r
command_runs stop t r = nothing_runs_lem
command_runs enter_pre_operational t r = r
command_runs reset_node t r = nothing_runs_lem
command_runs reset_communication t r = nothing_runs_lem
command_runs unknown_nmt t r = r

pub call_runs : (c : Call) (s : State) → octets c ≡ true → MayRun s.transfer → MayRun (after_call c s)
unfolding after_frame
call_runs (power_up_call n) s o r = nothing_runs_lem
call_runs (frame_call i bs) s o r =
    let asks = eqb i (request_base + s.node.id) in
    whichever MayRun (eqb i nmt_identifier)
    (whichever MayRun (eqb (length bs) nmt_length && (eqb (get_or bs 1 0) every_node || eqb (get_or bs 1 0) s.node.id))
    (command_runs (nmt_command_of (get_or bs 0 0)) s.transfer r) r)
    (by_test MayRun (asks && eqb (length bs) request_length && not (is_stopped s.node.nmt))
    (λ e. request_runs bs o (command_in bs) s.transfer
    (eqb-true _ _ (and_right asks _ (and_left (asks && eqb (length bs) request_length) _ e))) r)
    (λ e. r))
call_runs (event_call k xs) s o r = r
call_runs (load_call f) s o r = r
