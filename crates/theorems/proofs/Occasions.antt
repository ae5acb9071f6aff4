-- Of all calls an event 7 alone is a tick to its own end: a walk over the rules' services.
-- Assumes nothing.
use Rattle.theorems.proofs.Words.{ℕ, ◌+◌, ◌≡◌, refl, ap, true, false, not, ◌&&◌, ◌||◌, Bool·beq, List, [], ◌∷◌, eqb, ltb, length, get_or}
use Rattle.theorems.proofs.Words.{Transfer, NoTransfer, Uploading, Downloading, State, SdoCommand, Download, DownloadBySegments}
use Rattle.theorems.proofs.Words.{DownloadSegment, Upload, UploadSegment, ClientAbort, Unknown, Event, Started, QuickStopDone, ReactionDone}
use Rattle.theorems.proofs.Words.{SetPointReached, Tick, CauseGone, Feedback, Voltage, is_stopped, is_operational, is_pre_operational, by_match}
use Rattle.theorems.proofs.Words.{whichever, clash, Some, ◌∙◌}
use Rattle.theorems.proofs.Decisions.{Decided}
use Rattle.theorems.proofs.Entries.{Entries, entry_write}
use Rattle.rules_services.specs.Effects.{and_then}
use Rattle.files.specs.ConciseDcf.{Entry}
use Rattle.rules_dictionary.specs.Table.{Row, Found, found, the_name, no_object, no_subindex, control_word, receive_pdos}
use Rattle.rules_dictionary.specs.Values.{Write, read, stored, unpacked}
use Rattle.rules_dictionary.specs.Aborts.{Verdict, good, bad}
use Rattle.rules_dictionary.specs.{Legal.is_synchronous, Plans.mapped}
use Rattle.drive.specs.SetPoints.{control_written}
use Rattle.state.specs.Occasions.{is_ticked}
use Rattle.rules_services.specs.Effects.{Frame, Effect, without_transfer}
use Rattle.rules_services.specs.Written.{applied, wrote, count_restarted, mode_acted, fault_reset, control_acted}
use Rattle.rules_services.specs.Sdo.{object_of, sought, Offer, expedited, offer_verdict, abort, judged, download, with_reply, downloads, request_base}
use Rattle.rules_services.specs.Sdo.{request_length}
use Rattle.rules_services.specs.Segments.{unfit, name_asked, segment_asked, toggle_of, toggle_at, is_last, download_begun, concluded, continued}
use Rattle.rules_services.specs.Segments.{segment_sent, gathered, carried, joined, acknowledged, object_in}
use Rattle.rules_services.specs.SdoServer.{uploads, asked, sdo}
use Rattle.rules_services.specs.PdoTraffic.{mapped_length, are_legal, type_of, held_or_applied, received, listens, received_by, sync, sync_base}
use Rattle.rules_services.specs.Nmt.{power_up, commanded, nmt, nmt_identifier, nmt_length, every_node, command_of as nmt_command_of, NmtCommand, start, stop}
use Rattle.rules_services.specs.Nmt.{enter_pre_operational, reset_node, reset_communication, unknown as unknown_nmt}
use Rattle.rules_services.specs.{declared.Event.TheVariants.Fault, Events.happens, Events.faulted}
use Rattle.rules.specs.Calls.{Call, Decision, refuses, does as performs, framed}
use Rattle.theorems.specs.Promises.{command_in}
use Rattle.theorems.specs.PromisesOfWindow.{is_tick, tells_tick}

abbrev NoTick : Effect → Type 0
NoTick e = is_ticked e.occasion ≡ false

applied_no_tick : (ws : List Write) (s : State) (d : List ℕ) → NoTick (applied ws s d)
unfolding applied control_acted fault_reset
applied_no_tick ws s d =
    let t = mode_acted ws (count_restarted ws s) (stored ws d) in
    whichever NoTick (wrote control_word ws)
    (whichever NoTick (control_written (stored ws d) (read d control_word) t.axis.drive).reset refl refl) refl

-- ---- frames

module _ (s : State) (d : List ℕ) where
  received_no_tick : (p : ℕ) (bs : List ℕ) → NoTick (received p bs s d)
  unfolding received held_or_applied
  received_no_tick p bs =
      whichever NoTick (ltb (length bs) (mapped_length (mapped d p))) refl
      (whichever NoTick (are_legal d (unpacked (mapped d p) bs)) (whichever NoTick (is_synchronous (type_of d p)) refl (applied_no_tick _ s d)) refl)

  received_by_no_tick : (ps : List ℕ) (i : ℕ) (bs : List ℕ) → NoTick (received_by ps i bs s d)
  unfolding received_by
  received_by_no_tick [] i bs = refl
  received_by_no_tick (p ∷ ps) i bs =
      by_match NoTick (listens i s.node.nmt d p) (λ e. received_no_tick p bs) (λ e. received_by_no_tick ps i bs)

  sync_no_tick : (bs : List ℕ) → NoTick (sync bs s d)
  unfolding sync
  sync_no_tick bs =
      whichever NoTick (is_stopped s.node.nmt) refl
      (whichever NoTick (not (eqb (length bs) 0)) refl (whichever NoTick (is_operational s.node.nmt) refl refl))

  judged_no_tick : (v : Verdict) (fs : List Frame) (o : List ℕ) (w : Offer) →
      NoTick (with_reply fs o (without_transfer s) (judged v w (without_transfer s) d))
  unfolding judged with_reply abort
  judged_no_tick good fs o w = applied_no_tick _ (without_transfer s) d
  judged_no_tick (bad a) fs o w = refl

  downloads_no_tick : (fs : List Frame) (o : List ℕ) (offer : Row → Offer) (f : Found) → NoTick (downloads fs o offer f (without_transfer s) d)
  unfolding downloads download with_reply abort
  downloads_no_tick fs o offer (found x) = judged_no_tick (offer_verdict s.node.nmt d (offer x)) fs o (offer x)
  downloads_no_tick fs o offer the_name = refl
  downloads_no_tick fs o offer no_object = refl
  downloads_no_tick fs o offer no_subindex = refl

  sent_no_tick : (t : Transfer) (rq : List ℕ) → NoTick (segment_sent t rq s d)
  unfolding segment_sent unfit abort concluded continued
  sent_no_tick NoTransfer rq = refl
  sent_no_tick (Uploading k) rq = refl
  sent_no_tick (Downloading g) rq =
      whichever NoTick (Bool·beq (toggle_of rq) g.toggle)
      (whichever NoTick (is_last rq)
      (downloads_no_tick (acknowledged g s) (object_in g) (joined (gathered g (carried rq))) (sought (object_in g))) refl) refl

  answered_no_tick : (t : Transfer) (rq : List ℕ) → NoTick (segment_asked t rq s)
  unfolding segment_asked unfit abort
  answered_no_tick NoTransfer rq = refl
  answered_no_tick (Uploading k) rq = whichever NoTick (Bool·beq (toggle_of rq) (toggle_at k)) refl refl
  answered_no_tick (Downloading g) rq = refl

  uploads_no_tick : (o : List ℕ) (f : Found) → NoTick (uploads o f (without_transfer s) d)
  unfolding uploads name_asked abort
  uploads_no_tick o (found x) = refl
  uploads_no_tick o the_name = refl
  uploads_no_tick o no_object = refl
  uploads_no_tick o no_subindex = refl

  asked_no_tick : (c : SdoCommand) (rq : List ℕ) → NoTick (asked c rq s d)
  unfolding asked download_begun abort
  asked_no_tick Download rq = downloads_no_tick _ (object_of rq) (expedited rq) (sought (object_of rq))
  asked_no_tick DownloadBySegments rq = refl
  asked_no_tick DownloadSegment rq = sent_no_tick s.transfer rq
  asked_no_tick Upload rq = uploads_no_tick (object_of rq) (sought (object_of rq))
  asked_no_tick UploadSegment rq = answered_no_tick s.transfer rq
  asked_no_tick ClientAbort rq = refl
  asked_no_tick Unknown rq = refl

  command_no_tick : (c : NmtCommand) → NoTick (commanded c s)
  unfolding commanded power_up
  command_no_tick start = whichever NoTick (is_operational s.node.nmt) refl refl
  command_no_tick stop = refl
  command_no_tick enter_pre_operational = whichever NoTick (is_pre_operational s.node.nmt) refl refl
  command_no_tick reset_node = refl
  command_no_tick reset_communication = refl
  command_no_tick unknown_nmt = refl

  framed_no_tick : (i : ℕ) (bs : List ℕ) → NoTick (framed i bs s d)
  unfolding framed nmt sdo
  framed_no_tick i bs =
      whichever NoTick (eqb i nmt_identifier)
      (whichever NoTick (eqb (length bs) nmt_length && (eqb (get_or bs 1 0) every_node || eqb (get_or bs 1 0) s.node.id))
      (command_no_tick (nmt_command_of (get_or bs 0 0))) refl)
      (whichever NoTick (eqb i sync_base) (sync_no_tick bs)
      (whichever NoTick (eqb i (request_base + s.node.id))
      (whichever NoTick (eqb (length bs) request_length && not (is_stopped s.node.nmt)) (asked_no_tick (command_in bs) bs) refl)
      (received_by_no_tick receive_pdos i bs)))

  -- ---- events

  event_ticks : (e : Event) → is_ticked (happens e s d).occasion ≡ true → is_tick (Some e) ≡ true
  unfolding happens faulted
  event_ticks Started h = h
  event_ticks QuickStopDone h = h
  event_ticks ReactionDone h = h
  event_ticks SetPointReached h = h
  event_ticks Tick h = refl
  event_ticks CauseGone h = h
  event_ticks (Fault code register) h = h
  event_ticks (Feedback at speed) h = h
  event_ticks (Voltage b) h = h

pub entries_no_tick : {s : State} {d : List ℕ} {es : List Entry} {e : Effect} → Entries s d es e → NoTick e
unfolding and_then
entries_no_tick Entries.none = refl
entries_no_tick {s = s} {d = d} (Entries.next x r q v rest) = applied_no_tick (entry_write x r ∷ []) s d

-- THE LAW
abbrev pub TicksOnly : Call → Decision → Type 0
TicksOnly c (refuses r) = Unit
TicksOnly c (performs e) = is_ticked e.occasion ≡ true → tells_tick c ≡ true

pub ticks_only : {s : State} {d : List ℕ} {c : Call} {x : Decision} → Decided s d c x → TicksOnly c x
unfolding power_up
ticks_only (Decided.refusing r given why) = tt
ticks_only (Decided.powering n legal l) = λ h. h
ticks_only {s} {d} (Decided.framing i bs l h) = λ k. clash (is_ticked (framed i bs s d).occasion) k (framed_no_tick s d i bs)
ticks_only {s} {d} (Decided.happening k xs e q placed l h) = λ t. ap is_tick q ∙ event_ticks s d e t
ticks_only (Decided.loading f e served none taken l h) = λ t. clash (is_ticked e.occasion) t (entries_no_tick taken)
