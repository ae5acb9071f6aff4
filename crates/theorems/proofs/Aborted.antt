-- SDO: a request meets its verdict. What document 01 has a fault of is aborted with the code of that fault and changes nothing; what it has
-- none of is served.
-- Assumes nothing.
use Rattle.theorems.proofs.Words.{ℕ, ◌+◌, arith, ◌≡◌, refl, ◌∙◌, ap, inl, inr, Bool, true, false, cond, not, ◌&&◌, List, [], ◌∷◌, ne_eqb}
use Rattle.theorems.proofs.Words.{eq-eqb, leb, leb-true, eqb, length, take_at, State, and_right, is_stopped, either, ◌≤◌, Transfer, NoTransfer}
use Rattle.theorems.proofs.Words.{Uploading, Downloading, Bool·beq, Accepted, subst, both_by_test, sym, clash, SdoCommand, Download}
use Rattle.theorems.proofs.Words.{DownloadBySegments, DownloadSegment, Upload, UploadSegment, ClientAbort, Unknown, ◌++◌, Receipt}
use Rattle.theorems.proofs.Lawful.{sound_lawful}
use Rattle.theorems.proofs.Demands.{said_keeps, framed_says, says_answer, frame_decided, Rests, run_rests}
use Rattle.theorems.proofs.Decisions.{decided_by}
use Rattle.theorems.proofs.Transfers.{applied_leaves}
use Rattle.rules_dictionary.specs.Table.{Row, Found, found, no_object, no_subindex, the_name}
use Rattle.rules_dictionary.specs.Aborts.{Verdict, good, bad, test, first_firing, wrong_toggle, Abort, abort_code, unknown_command, no_object as absent}
use Rattle.rules_dictionary.specs.Aborts.{no_subindex as absent_sub, no_writing, too_long, too_short, wrong_time, below_range, above_range, bad_value}
use Rattle.rules_dictionary.specs.Aborts.{limits_swapped, not_mappable, over_length}
use Rattle.rules_dictionary.specs.Values.{write, Write}
use Rattle.rules_dictionary.specs.TheNode.{first_node, last_node}
use Rattle.rules_dictionary.specs.Numbers.{bytes, any}
use Rattle.rules_services.specs.Effects.{Effect, becomes, sends, Frame, with_transfer, without_transfer}
use Rattle.rules_services.specs.PdoTraffic.{sync_base}
use Rattle.rules_services.specs.Nmt.{nmt_identifier}
use Rattle.rules_services.specs.Written.{applied}
use Rattle.rules_services.specs.Sdo.{object_of, sought, Offer, expedited, offer_verdict, abort, judged, download, with_reply, downloads, reply}
use Rattle.rules_services.specs.Sdo.{request_base, request_length}
use Rattle.rules_services.specs.Sdo.{data_size}
use Rattle.rules_services.specs.Segments.{object_run, toggle_of, toggle_at, is_last, carried, unfit, name_asked, segment, next_of, segment_asked, gathered}
use Rattle.rules_services.specs.Segments.{joined, concluded, continued, segment_sent, turned, nothing_yet, download_begun, acknowledged, object_in}
use Rattle.rules_services.specs.SdoServer.{uploads, asked, sdo}
use Rattle.rules.specs.Outcome.{ended, sent_into, frame_size, encoded}
use Rattle.rules.specs.Calls.{frame_call, does as performs, framed, decided, answered, accepted, answer, Outcome}
use Rattle.rules.proofs.Encoded.{length_encoded}
use Rattle.theorems.specs.Promises.{Stand, left, reached, only_sends, running, nothing_runs, frame_at, object_verdict, segment_verdict, asked_verdict}
use Rattle.theorems.specs.Promises.{sent_verdict, Heard, requested, Uploaded, SegmentAnswered, SegmentTaken, command_in, verdict_on, verdict_at}
use Rattle.theorems.specs.Promises.{object_on, says, codes, four_zeros, taking, Served, RefusedWriteChangesNothing, AbortSaysWhy, FourteenCodes}
use Rattle.theorems.specs.Promises.{GoodIsServed, does}

-- ---- the request's identifier is no other's

sdo_framed : (rq : List ℕ) (s : State) (d : List ℕ) →
    framed (request_base + s.node.id) rq s d ≡ cond (eqb (length rq) request_length && not (is_stopped s.node.nmt)) (sdo rq s d) (becomes s)
unfolding framed
sdo_framed rq s d =
    let n = s.node.id in
    let e1 : eqb (request_base + n) nmt_identifier ≡ false = ne_eqb _ _ (λ (q : request_base + n ≡ nmt_identifier). omega arith) in
    let e2 : eqb (request_base + n) sync_base ≡ false = ne_eqb _ _ (λ (q : request_base + n ≡ sync_base). omega arith) in
    let e3 : eqb (request_base + n) (request_base + n) ≡ true = eq-eqb (request_base + n) (request_base + n) refl in
    rw (e1, e2, e3)

-- where it is served
pub sdo_decided : (a : Stand) → Rests a → (rq o : List ℕ) → Heard rq o a →
    decided (frame_call (request_base + a.state.node.id) rq) a.state a.dictionary o ≡ performs (sdo rq a.state a.dictionary)
sdo_decided a h rq o heard =
    let s = a.state in
    let d = a.dictionary in
    let n = s.node.id in
    let law = sound_lawful s d h.at.long h.at.sound in
    let small : n ≤ last_node = leb-true n last_node (and_right (leb first_node n) (leb n last_node) law.id) in
    let served : (eqb (length rq) request_length && not (is_stopped s.node.nmt)) ≡ true = rw (heard.whole, heard.served) in
    frame_decided (request_base + n) rq s d o h.at.long heard.room h.at.sound (omega arith) (omega (arith, heard.whole))
    ∙ ap performs (sdo_framed rq s d ∙ ap (λ (b : Bool). cond b (sdo rq s d) (becomes s)) served)

-- a request that is only answered leaves all but the transfer, where it is not served as well
pub only_answered : (a : Stand) → Rests a → (rq o : List ℕ) (fs : List Frame) (t : Transfer) →
    sdo rq a.state a.dictionary ≡ sends fs (becomes (with_transfer t a.state)) → nothing_runs (left (requested rq o a) a) ≡ nothing_runs a
unfolding answer
only_answered a h rq o fs t e =
    let s = a.state in
    let d = a.dictionary in
    let x = decided_by s d (frame_call (request_base + s.node.id) rq) o in
    let still : (gs : List Frame) (u : Transfer) → framed (request_base + s.node.id) rq s d ≡ sends gs (becomes (with_transfer u s)) →
    nothing_runs (left (requested rq o a) a) ≡ nothing_runs a = λ gs u q.
    elim (said_keeps a o (decided (frame_call (request_base + s.node.id) rq) s d o) u h (framed_says gs u x q))
    [ inl r ↦ ap nothing_runs r | inr r ↦ ap nothing_runs r ] in
    elim (either (eqb (length rq) request_length && not (is_stopped s.node.nmt))) [
      | inl q ↦ still fs t (sdo_framed rq s d ∙ rw q e)
      | inr q ↦ still [] s.transfer (sdo_framed rq s d ∙ rw q)
    ]

-- ---- a request meets its verdict: aborted, or answered as one that has no fault

module _ (a : Stand) (h : Rests a) (rq o : List ℕ) where
  abbrev s : State
  s = a.state

  abbrev d : List ℕ
  d = a.dictionary

  abbrev answers : Effect → Outcome
  answers e = answered (performs e) s d o

  -- the object that an abort names is that one
  abbrev Meets : List ℕ → (Outcome → Type 0) → Verdict → Effect → Type 0
  Meets object P (bad c) e = e ≡ abort c object (without_transfer s)
  Meets object P good e = P (answers e)

  only_says_lem : (fs : List Frame) (t : Transfer) → answers (sends fs (becomes (with_transfer t s))) ≡ only_sends fs (running t a) o
  only_says_lem fs t = says_answer a o _ fs t h refl

  -- the reply goes before all else, and the call's end leaves the transfer
  reply_first : (f : Frame) (e : Effect) →
      let u = answers (sends (f ∷ []) e) in
      (u.refusal ≡ Accepted) × (frame_at 0 u.output ≡ encoded f) × (u.state.transfer ≡ e.state.transfer)
  unfolding answered accepted ended sent_into
  reply_first f e = (refl, take_at _ _ frame_size (length_encoded f), refl)

  -- a download of whatever is offered
  downloads_meet : (fs : List Frame) (object : List ℕ) (offer : Row → Offer) (P : Outcome → Type 0) →
      ((ws : List Write) → P (answers (sends fs (applied ws (without_transfer s) d)))) → (f : Found) →
      Meets object P (object_verdict true offer s.node.nmt d f) (downloads fs object offer f (without_transfer s) d)
  unfolding object_verdict downloads download with_reply judged
  downloads_meet fs object offer P taken (found x) = judged_meets (offer_verdict s.node.nmt d (offer x))
    where
      judged_meets : (v : Verdict) → Meets object P v (with_reply fs object (without_transfer s) (judged v (offer x) (without_transfer s) d))
      judged_meets good = taken (write (offer x).row (offer x).value ∷ [])
      judged_meets (bad c) = refl
  downloads_meet fs object offer P taken the_name = refl
  downloads_meet fs object offer P taken no_object = refl
  downloads_meet fs object offer P taken no_subindex = refl

  uploads_meet : (f : Found) → Meets (object_of rq) (Uploaded f rq a o) (object_verdict false (expedited rq) s.node.nmt d f)
      (uploads (object_of rq) f (without_transfer s) d)
  unfolding object_verdict uploads name_asked reply
  uploads_meet (found x) = only_says_lem _ NoTransfer
  uploads_meet the_name = only_says_lem _ (Uploading 0)
  uploads_meet no_object = refl
  uploads_meet no_subindex = refl

  -- a segment, by the toggle that is due
  in_turn_lem : (P : Outcome → Type 0) (due : Bool) (v : Verdict) (e : Effect) → Meets (object_run s.transfer) P v e →
      Meets (object_run s.transfer) P (segment_verdict due rq v) (cond (Bool·beq (toggle_of rq) due) e (unfit wrong_toggle s))
  unfolding segment_verdict first_firing unfit
  in_turn_lem P due v e m = go (Bool·beq (toggle_of rq) due)
    where
      go : (x : Bool) → Meets (object_run s.transfer) P (first_firing (test (not x) wrong_toggle ∷ []) v) (cond x e (unfit wrong_toggle s))
      go true = m
      go false = refl

  asked_meets : (t : Transfer) → Meets (object_run s.transfer) (SegmentAnswered t a o) (asked_verdict t rq) (segment_asked t rq s)
  unfolding asked_verdict segment_asked unfit
  asked_meets NoTransfer = refl
  asked_meets (Uploading k) =
      in_turn_lem (SegmentAnswered (Uploading k) a o) (toggle_at k) good (sends (segment k s) (becomes (with_transfer (next_of k) s)))
      (only_says_lem (segment k s) (next_of k))
  asked_meets (Downloading g) = refl

  -- the last segment of a download, and one before it
  last_meets : (g : Receipt) → is_last rq ≡ true →
      Meets (object_in g) (SegmentTaken (Downloading g) rq a o)
      (object_verdict true (joined (gathered g (carried rq))) s.node.nmt d (sought (object_in g))) (concluded g (carried rq) s d)
  unfolding concluded acknowledged reply bytes
  last_meets g last =
      downloads_meet (taking g.toggle a ∷ []) (object_in g) (joined (gathered g (carried rq))) (SegmentTaken (Downloading g) rq a o)
      (λ ws.
      let (accepted, first, runs) = reply_first (taking g.toggle a) (applied ws (without_transfer s) d) in
      (accepted, first, λ more. clash (is_last rq) last more))
      (sought (object_in g))

  more_taken : (g : Receipt) → SegmentTaken (Downloading g) rq a o (answers (continued g (carried rq) s))
  unfolding continued acknowledged reply bytes
  more_taken g =
      let next = Downloading (turned (gathered g (carried rq))) in
      let (accepted, first, runs) = reply_first (taking g.toggle a) (becomes (with_transfer next s)) in
      (accepted, first, λ more. only_says_lem (taking g.toggle a ∷ []) next)

  sent_meets : (t : Transfer) → s.transfer ≡ t →
      Meets (object_run s.transfer) (SegmentTaken t rq a o) (sent_verdict t rq s.node.nmt d) (segment_sent t rq s d)
  unfolding sent_verdict segment_sent unfit
  sent_meets NoTransfer q = refl
  sent_meets (Uploading k) q = refl
  sent_meets (Downloading g) q =
      let P = SegmentTaken (Downloading g) rq a o in
      let v = object_verdict true (joined (gathered g (carried rq))) s.node.nmt d (sought (object_in g)) in
      let e = concluded g (carried rq) s d in
      in_turn_lem P g.toggle (cond (is_last rq) v good) (cond (is_last rq) e (continued g (carried rq) s))
      (both_by_test (Meets (object_run s.transfer) P) (is_last rq)
      (λ last. subst (λ (object : List ℕ). Meets object P v e) (sym (ap object_run q)) (last_meets g last)) (λ more. more_taken g))

  -- THE LAW
  pub request_meets : (k : SdoCommand) → Meets (object_on k rq s.transfer) (Served k rq a o) (verdict_on k rq s d) (asked k rq s d)
  unfolding verdict_on asked download_begun reply bytes
  request_meets Download =
      let f = says a (0x60 ∷ object_of rq ++ four_zeros) in
      downloads_meet (f ∷ []) (object_of rq) (expedited rq) (Served Download rq a o)
      (λ ws.
      let (accepted, first, runs) = reply_first f (applied ws (without_transfer s) d) in
      (accepted, first, runs ∙ applied_leaves ws (without_transfer s) d))
      (sought (object_of rq))
  request_meets DownloadBySegments = only_says_lem _ (Downloading (nothing_yet (object_of rq)))
  request_meets DownloadSegment = sent_meets s.transfer refl
  request_meets Upload = uploads_meet (sought (object_of rq))
  request_meets UploadSegment = asked_meets s.transfer
  request_meets ClientAbort = only_says_lem [] NoTransfer
  request_meets Unknown = refl

  abbrev why : Abort → List Frame
  why c = says a (0x80 ∷ object_on (command_in rq) rq s.transfer ++ bytes data_size (abort_code c)) ∷ []

  pub aborts_it : (c : Abort) → verdict_at rq a ≡ bad c → sdo rq s d ≡ sends (why c) (becomes (without_transfer s))
  unfolding sdo abort reply
  aborts_it c e =
      let k = command_in rq in
      subst (λ (v : Verdict). Meets (object_on k rq s.transfer) (Served k rq a o) v (asked k rq s d)) e (request_meets k)

-- ---- aborted

pub refused_write_changes_nothing : RefusedWriteChangesNothing
refused_write_changes_nothing r rq o c verdict =
    let a = reached r in
    let h = run_rests r in
    only_answered a h rq o (why a h rq o c) NoTransfer (aborts_it a h rq o c verdict)

pub abort_says_why : AbortSaysWhy
unfolding answer
abort_says_why r rq o c heard verdict =
    let a = reached r in
    let h = run_rests r in
    says_answer a o _ (why a h rq o c) NoTransfer h (sdo_decided a h rq o heard ∙ ap performs (aborts_it a h rq o c verdict))

pub fourteen_codes : FourteenCodes
fourteen_codes = (refl, among)
  where
    among : (c : Abort) → any (eqb (abort_code c)) codes ≡ true
    among unknown_command = refl
    among wrong_toggle = refl
    among absent = refl
    among absent_sub = refl
    among no_writing = refl
    among too_long = refl
    among too_short = refl
    among wrong_time = refl
    among below_range = refl
    among above_range = refl
    among bad_value = refl
    among limits_swapped = refl
    among not_mappable = refl
    among over_length = refl

-- ---- served

pub serves_well : (a : Stand) → Rests a → (rq o : List ℕ) → Heard rq o a → (k : SdoCommand) → command_in rq ≡ k →
    verdict_on k rq a.state a.dictionary ≡ good → Served k rq a o (does (requested rq o a) a)
unfolding answer sdo
serves_well a h rq o heard k is verdict =
    rw (sdo_decided a h rq o heard, is)
    (subst (λ (v : Verdict). Meets a h rq o (object_on k rq a.state.transfer) (Served k rq a o) v (asked k rq a.state a.dictionary))
    verdict (request_meets a h rq o k))

pub good_is_served : GoodIsServed
good_is_served r rq o heard verdict = serves_well (reached r) (run_rests r) rq o heard (command_in rq) refl verdict
