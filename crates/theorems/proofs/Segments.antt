-- Downloads by segments, and the device name read by segments.
-- Assumes nothing.
use borrow.Author.Tests.{not-false}
use mathlib.Core.List.{flat_map}
use Rattle.theorems.proofs.Words.{ℕ, ◌<◌, arith, ◌≡◌, refl, sym, ◌∙◌, ◌⊎◌, inl, inr, true, false, cond, not, Bool·beq, false≢true, true≢false}
use Rattle.theorems.proofs.Words.{List, [], ◌∷◌, ltb, lt-ltb, ltb-false, drop_at, NmtState, Transfer, NoTransfer, Uploading, Downloading}
use Rattle.theorems.proofs.Words.{State, SdoCommand, Download, DownloadBySegments, DownloadSegment, Upload, UploadSegment, ClientAbort}
use Rattle.theorems.proofs.Words.{Unknown, not-true, either, whichever, ap, Bool, eqb, eqb-true, eqb-false, Receipt, suc, ◌&&◌, ne_eqb, eq-eqb}
use Rattle.theorems.proofs.Words.{same_test, clash, ◌/◌, ◌%◌, ◌≤◌, ◌++◌, zero, length, set, set_out, length-append, length-padded, append-nil}
use Rattle.theorems.proofs.Words.{append_assoc, by_test, ltb-true, le-ltb, ap₂, subst, is_stopped, or_false_left, or_false_right, ◌+◌, ◌*◌, ◌-◌}
use Rattle.theorems.proofs.Words.{take, drop, length-take, take_padded, take_at, leb-true, leb-false, drop_of_length-le, drop-drop}
use Rattle.theorems.proofs.Words.{take-append-drop}
use Rattle.theorems.proofs.Demands.{run_rests, Rests, running_rests}
use Rattle.theorems.proofs.Aborted.{only_answered, sdo_decided, serves_well}
use Rattle.theorems.proofs.GoodValues.{good_passes}
use Rattle.theorems.proofs.Transfers.{asked_leaves}
use Rattle.theorems.proofs.Receipts.{bytes_added, object_kept_lem, object_long, gathered_sound}
use Rattle.theorems.proofs.Runs.{standing}
use Rattle.rules_dictionary.specs.Table.{Row, size_of, is_writable, Found, found, the_name, no_object, no_subindex, open_table}
use Rattle.rules_dictionary.specs.Values.{write}
use Rattle.rules_dictionary.specs.Numbers.{bytes, value, padded, any, part}
use Rattle.rules_dictionary.specs.Aborts.{Abort, abort_code, Verdict, good, bad, first_firing, unknown_command, wrong_toggle, no_writing, too_long, too_short}
use Rattle.rules_dictionary.specs.Aborts.{is_good}
use Rattle.rules_dictionary.specs.DeviceName.{device_name}
use Rattle.rules_services.specs.Effects.{Frame, Effect, becomes, sends, with_transfer, without_transfer, frame}
use Rattle.rules_services.specs.Written.{applied}
use Rattle.rules_services.specs.Sdo.{object_of, data_size, Offer, reply, downloaded, aborted, offer_verdict, abort, judged, download, with_reply}
use Rattle.rules_services.specs.Sdo.{downloads, told_size}
use Rattle.rules_services.specs.Sdo.{asked_value, expedited, sought, request_length, reply_base}
use Rattle.rules_services.specs.Segments.{toggle_of, is_last, carried, object_run, unfit, nothing_yet, download_begun, gathered, turned, acknowledged}
use Rattle.rules_services.specs.Segments.{continued, segment_sent, object_in, joined, concluded, toggle_at, is_last_of, added, too_many, bytes_in, flag}
use Rattle.rules_services.specs.Segments.{toggle_bit, last_bit, unused_in, segment_size, segment_byte, segment_of, segment, next_of, name_object}
use Rattle.rules_services.specs.SdoServer.{asked, sdo}
use Rattle.rules.specs.Outcome.{ended, encoded, sent_into, frame_size, most_data}
use Rattle.rules.specs.Calls.{Outcome, does as performs, accepted, answered, answer, output_length}
use Rattle.rules.specs.Sound.{receipt_sound, transfer_sound}
use Rattle.rules.proofs.Encoded.{length_encoded}
use Rattle.theorems.specs.Promises.{Stand, reached, command_in, object_verdict, is_before_last, NothingBeforeTheLast, SameBehindReply, verdict_on}
use Rattle.theorems.specs.Promises.{SameWrite, SegmentsWriteAsExpedited, segment_verdict, asked_verdict, sent_verdict, after_sent, after_asked}
use Rattle.theorems.specs.Promises.{after_request, Heard, requested, left, after, is_segment, TogglesAlternate, running, InTurn, after_requests}
use Rattle.theorems.specs.Promises.{Gathers, SegmentsJoin, data_from, frame_at, does, only_sends, replies_to, name_segments, NameBySegments}
use Rattle.theorems.specs.Promises.{Uploaded}

-- ---- before the last segment

module _ (rq : List ℕ) (s : State) (d : List ℕ) where
  -- what is only answered
  abbrev Answers : Effect → Type 0
  Answers e = (fs : List Frame) × (t : Transfer) × (e ≡ sends fs (becomes (with_transfer t s)))

  unfit_answers : (a : Abort) → Answers (unfit a s)
  unfolding unfit abort
  unfit_answers a = (reply aborted (object_run s.transfer) (without_transfer s) (bytes data_size (abort_code a)), NoTransfer, refl)

  sent_answers : (t : Transfer) → is_last rq ≡ false → Answers (segment_sent t rq s d)
  unfolding segment_sent continued
  sent_answers NoTransfer more = unfit_answers unknown_command
  sent_answers (Uploading k) more = unfit_answers unknown_command
  sent_answers (Downloading g) more =
      whichever Answers (Bool·beq (toggle_of rq) g.toggle)
      (acknowledged g s, Downloading (turned (gathered g (carried rq))), rw more) (unfit_answers wrong_toggle)

  before_answers : (c : SdoCommand) → is_before_last c rq ≡ true → Answers (asked c rq s d)
  unfolding asked download_begun
  before_answers Download h = absurd (false≢true h)
  before_answers DownloadBySegments h =
      (reply downloaded (object_of rq) s (bytes data_size 0), Downloading (nothing_yet (object_of rq)), refl)
  before_answers DownloadSegment h = sent_answers s.transfer (not-true (is_last rq) h)
  before_answers Upload h = absurd (false≢true h)
  before_answers UploadSegment h = absurd (false≢true h)
  before_answers ClientAbort h = absurd (false≢true h)
  before_answers Unknown h = absurd (false≢true h)

pub nothing_before_the_last : NothingBeforeTheLast
unfolding sdo
nothing_before_the_last r rq o before =
    let (fs, t, is) = before_answers rq (reached r).state (reached r).dictionary (command_in rq) before in
    only_answered (reached r) (run_rests r) rq o fs t is

-- ---- as an expedited write

-- an offer of another size than the row's is refused, whatever its value
abbrev refusal_of : Row → ℕ → Abort
refusal_of x n = cond (not (is_writable x.access)) no_writing (cond (ltb (size_of x) n) too_long too_short)

pub wrong_size : (nmt : NmtState) (d : List ℕ) (t : Offer) → (t.size ≡ size_of t.row → ⊥) →
    offer_verdict nmt d t ≡ bad (refusal_of t.row t.size)
unfolding offer_verdict first_firing
wrong_size nmt d t other =
    elim (either (not (is_writable t.row.access))) [
      | inl e ↦ rw e
      | inr e ↦ elim (either (ltb (size_of t.row) t.size)) [
        | inl long ↦ rw (e, long)
        | inr few ↦
            let short : t.size < size_of t.row = omega (arith, ltb-false (size_of t.row) t.size few, other) in
            rw (e, few, lt-ltb t.size (size_of t.row) short)
      ]
    ]

module _ (a : Stand) (o : List ℕ) where
  abbrev answers : Effect → Outcome
  answers e = answered (performs e) a.state a.dictionary o

  -- behind replies that differ
  same_behind : (f g : Frame) (e : Effect) → SameBehindReply good (answers (sends (f ∷ []) e)) (answers (sends (g ∷ []) e))
  unfolding answered accepted ended sent_into
  same_behind f g e =
      record {
        refusal = refl;
        state = refl;
        dictionary = refl;
        frames = refl;
        behind = drop_at (encoded f) _ frame_size (length_encoded f) ∙ sym (drop_at (encoded g) _ frame_size (length_encoded g));
        refused = λ h. absurd (true≢false h);
      }

  same_answer : (v : Verdict) (u : Outcome) → SameBehindReply v u u
  same_answer v u = record { refusal = refl; state = refl; dictionary = refl; frames = refl; behind = refl; refused = λ h. refl }

  module _ (f g : Frame) (object : List ℕ) (one other : Row → Offer) where
    abbrev s : State
    s = without_transfer a.state

    abbrev d : List ℕ
    d = a.dictionary

    -- both offers are one, or both are refused alike
    abbrev Alike : Row → Type 0
    Alike x =
        (one x ≡ other x)
        ⊎ ((c : Abort) × (offer_verdict s.node.nmt d (one x) ≡ bad c) × (offer_verdict s.node.nmt d (other x) ≡ bad c))

    downloads_alike : (x : Found) → ((y : Row) → Alike y) →
        SameBehindReply (object_verdict true other s.node.nmt d x) (answers (downloads (f ∷ []) object one x s d))
        (answers (downloads (g ∷ []) object other x s d))
    unfolding downloads download with_reply object_verdict judged
    downloads_alike (found x) alike =
        elim (alike x) [
          | inl e ↦ rw e (judged_alike (offer_verdict s.node.nmt d (other x)))
          | inr e ↦ rw (e.1, e.2) (same_answer (bad e.0) (answers (abort e.0 object s)))
        ]
      where
        judged_alike : (v : Verdict) →
            SameBehindReply v (answers (with_reply (f ∷ []) object s (judged v (other x) s d)))
            (answers (with_reply (g ∷ []) object s (judged v (other x) s d)))
        judged_alike good = same_behind f g (applied (write (other x).row (other x).value ∷ []) s d)
        judged_alike (bad c) = same_answer (bad c) (answers (abort c object s))
    downloads_alike the_name alike = same_answer _ _
    downloads_alike no_object alike = same_answer _ _
    downloads_alike no_subindex alike = same_answer _ _

beq_self : (b : Bool) → Bool·beq b b ≡ true
beq_self true = refl
beq_self false = refl

-- the last segment, and an expedited write of the same bytes to the same object
module _ (g : Receipt) (last rq : List ℕ) (same : SameWrite g last rq) where
  abbrev all : Receipt
  all = gathered g (carried last)

  abbrev offered : Row → ℕ → Offer
  offered x v = record { row = x; size = all.count; value = v }

  told_size_lem : (x : Row) → expedited rq x ≡ offered x (asked_value rq x)
  unfolding told_size
  told_size_lem x = rw (same.told, same.same_size)

  offers_alike : (nmt : NmtState) (d : List ℕ) (x : Row) →
      (joined all x ≡ expedited rq x)
      ⊎ ((c : Abort) × (offer_verdict nmt d (joined all x) ≡ bad c) × (offer_verdict nmt d (expedited rq x) ≡ bad c))
  unfolding asked_value
  offers_alike nmt d x =
      elim (either (eqb all.count (size_of x))) [
        | inl e ↦
            let size = eqb-true all.count (size_of x) e in
            inl (ap (offered x) (ap value (sym (rw size at same.same_bytes))) ∙ sym (told_size_lem x))
        | inr e ↦
            let other = eqb-false all.count (size_of x) e in
            inr (
              refusal_of x all.count,
              wrong_size nmt d (joined all x) other,
              ap (offer_verdict nmt d) (told_size_lem x) ∙ wrong_size nmt d (offered x (asked_value rq x)) other,
            )
      ]

  concludes : (s : State) (d : List ℕ) → s.transfer ≡ Downloading g → sdo last s d ≡ concluded g (carried last) s d
  unfolding sdo asked segment_sent
  concludes s d runs = rw (same.is_last_segment, runs, same.in_turn, beq_self g.toggle, same.ends)

  writes_at_once : (s : State) (d : List ℕ) →
      sdo rq s d
      ≡ downloads (reply downloaded (object_in g) s (bytes data_size 0)) (object_in g) (expedited rq) (sought (object_in g)) (without_transfer s) d
  unfolding sdo asked
  writes_at_once s d = rw (same.is_expedited, same.same_object)

pub segments_write_as_expedited : SegmentsWriteAsExpedited
unfolding answer concluded acknowledged reply verdict_on
segments_write_as_expedited r g last rq o runs heard heard' same =
    let a = reached r in
    let s = a.state in
    let d = a.dictionary in
    rw (
      sdo_decided a (run_rests r) last o heard,
      sdo_decided a (run_rests r) rq o heard',
      concludes g last rq same s d runs,
      same.is_expedited,
      same.same_object,
      writes_at_once g last rq same s d,
    )
    (downloads_alike a o _ _ (object_in g) (joined (gathered g (carried last))) (expedited rq) (sought (object_in g))
    (offers_alike g last rq same s.node.nmt d))

-- ---- toggles alternate

-- a transfer runs, and the toggle that is due
abbrev is_running : Transfer → Bool
is_running NoTransfer = false
is_running (Uploading k) = true
is_running (Downloading g) = true

abbrev due : Transfer → Bool
due NoTransfer = false
due (Uploading k) = toggle_at k
due (Downloading g) = g.toggle

toggle_next : (k : ℕ) → toggle_at (suc k) ≡ not (toggle_at k)
toggle_next k =
    elim (either (toggle_at k)) [
      | inl odd ↦ rw odd (ne_eqb (suc k / 1 % 2) 1 (λ q. omega (arith, q, eqb-true (k / 1 % 2) 1 odd)))
      | inr even ↦ rw even (eq-eqb (suc k / 1 % 2) 1 (omega (arith, eqb-false (k / 1 % 2) 1 even)))
    ]

gathered_toggle : (g : Receipt) (bs : List ℕ) → (gathered g bs).toggle ≡ g.toggle
unfolding gathered
gathered_toggle g [] = refl
gathered_toggle g (b ∷ bs) = gathered_toggle (added g b) bs

in_turn_lem : (b : Bool) (rq : List ℕ) (v : Verdict) → segment_verdict b rq v ≡ good → toggle_of rq ≡ b
unfolding segment_verdict
in_turn_lem b rq v h = same_test (toggle_of rq) b (not-false (Bool·beq (toggle_of rq) b) (good_passes _ _ _ h).0)

-- a segment that has no fault has the toggle that is due
sent_due : (t : Transfer) (rq : List ℕ) (nmt : NmtState) (d : List ℕ) → sent_verdict t rq nmt d ≡ good → (is_running t ≡ true) × (toggle_of rq ≡ due t)
unfolding sent_verdict
sent_due NoTransfer rq nmt d h = clash (is_good (bad unknown_command)) (ap is_good h) refl
sent_due (Uploading k) rq nmt d h = clash (is_good (bad unknown_command)) (ap is_good h) refl
sent_due (Downloading g) rq nmt d h = (refl, in_turn_lem g.toggle rq _ h)

asked_due : (t : Transfer) (rq : List ℕ) → asked_verdict t rq ≡ good → (is_running t ≡ true) × (toggle_of rq ≡ due t)
unfolding asked_verdict
asked_due NoTransfer rq h = clash (is_good (bad unknown_command)) (ap is_good h) refl
asked_due (Uploading k) rq h = (refl, in_turn_lem (toggle_at k) rq good h)
asked_due (Downloading g) rq h = clash (is_good (bad unknown_command)) (ap is_good h) refl

-- and behind it the other one is due, where a transfer still runs
Turned : Transfer → Transfer → Type 0
Turned t u = is_running u ≡ true → due u ≡ not (due t)

sent_turns : (t : Transfer) (rq : List ℕ) → Turned t (after_sent t rq)
unfolding Turned
sent_turns NoTransfer rq = λ h. absurd (false≢true h)
sent_turns (Uploading k) rq = λ h. absurd (false≢true h)
sent_turns (Downloading g) rq =
    whichever (Turned (Downloading g)) (Bool·beq (toggle_of rq) g.toggle && not (is_last rq)) (λ h. ap not (gathered_toggle g (carried rq)))
    (λ h. absurd (false≢true h))

asked_turns : (t : Transfer) (rq : List ℕ) → Turned t (after_asked t rq)
unfolding Turned
asked_turns NoTransfer rq = λ h. absurd (false≢true h)
asked_turns (Uploading k) rq =
    let P : Transfer → Type 0 = Turned (Uploading k) in
    whichever P (Bool·beq (toggle_of rq) (toggle_at k))
    (whichever P (is_last_of k) (λ h. absurd (false≢true h)) (λ h. toggle_next k)) (λ h. absurd (false≢true h))
asked_turns (Downloading g) rq = λ h. absurd (false≢true h)

never : (b : Bool) → b ≡ not b → ⊥
never true h = true≢false h
never false h = false≢true h

-- what runs after a request that is served
pub runs_after : (a : Stand) → Rests a → (rq o : List ℕ) → Heard rq o a →
    (left (requested rq o a) a).state.transfer ≡ after_request (command_in rq) rq a.state.transfer
unfolding answer answered accepted ended sdo
runs_after a h rq o heard = rw (sdo_decided a h rq o heard) (asked_leaves a.state a.dictionary (command_in rq) rq)

no_two : (c : SdoCommand) (rq rq' : List ℕ) (s s' : State) (d d' : List ℕ) → is_segment c ≡ true → toggle_of rq' ≡ toggle_of rq →
    verdict_on c rq s d ≡ good → s'.transfer ≡ after_request c rq s.transfer → verdict_on c rq' s' d' ≡ good → ⊥
unfolding verdict_on Turned
no_two Download rq rq' s s' d d' segment toggles first runs again = false≢true segment
no_two DownloadBySegments rq rq' s s' d d' segment toggles first runs again = false≢true segment
no_two DownloadSegment rq rq' s s' d d' segment toggles first runs again =
    let before = (sent_due s.transfer rq s.node.nmt d first).1 in
    let now = sent_due (after_sent s.transfer rq) rq' s'.node.nmt d' (rw runs at again) in
    never (due s.transfer) (sym before ∙ sym toggles ∙ now.1 ∙ sent_turns s.transfer rq now.0)
no_two Upload rq rq' s s' d d' segment toggles first runs again = false≢true segment
no_two UploadSegment rq rq' s s' d d' segment toggles first runs again =
    let before = (asked_due s.transfer rq first).1 in
    let now = asked_due (after_asked s.transfer rq) rq' (rw runs at again) in
    never (due s.transfer) (sym before ∙ sym toggles ∙ now.1 ∙ asked_turns s.transfer rq now.0)
no_two ClientAbort rq rq' s s' d d' segment toggles first runs again = false≢true segment
no_two Unknown rq rq' s s' d d' segment toggles first runs again = false≢true segment

pub toggles_alternate : TogglesAlternate
toggles_alternate r rq rq' o ks heard segment same toggles first still again =
    let a = reached r in
    let b = left (requested rq o a) a in
    no_two (command_in rq) rq rq' a.state (after ks b).state a.dictionary (after ks b).dictionary segment toggles first
    (still ∙ runs_after a (run_rests r) rq o heard) (rw same at again)

-- ---- the bytes of all segments

set_padded : (n : ℕ) (cs : List ℕ) (b : ℕ) → set (padded 0 n cs) (length cs) b ≡ padded 0 n (cs ++ b ∷ [])
set_padded zero cs b = refl
set_padded (suc n) [] b = refl
set_padded (suc n) (c ∷ cs) b = ap (λ (l : List ℕ). c ∷ l) (set_padded n cs b)

padded_full : (n : ℕ) (cs : List ℕ) (b : ℕ) → n ≤ length cs → padded 0 n (cs ++ b ∷ []) ≡ padded 0 n cs
padded_full zero cs b h = refl
padded_full (suc n) [] b h = absurd (omega arith)
padded_full (suc n) (c ∷ cs) b h = ap (λ (l : List ℕ). c ∷ l) (padded_full n cs b (omega arith))

-- how many are counted
abbrev counted : ℕ → ℕ
counted n = cond (ltb n too_many) n too_many

next_counted : (n : ℕ) → cond (ltb (counted n) too_many) (suc (counted n)) (counted n) ≡ counted (suc n)
next_counted n =
    elim (either (ltb n too_many)) [
      | inl few ↦ rw (few, few) (by_test (λ (m : ℕ). suc n ≡ m) (ltb (suc n) too_many) (λ e. refl)
          (λ e. omega (arith, ltb-true n too_many few, ltb-false (suc n) too_many e)))
      | inr many ↦ rw (many, le-ltb (suc n) too_many (omega (arith, ltb-false n too_many many)))
    ]

-- the receipt is of that object, and those bytes came
record Came (named cs : List ℕ) (g : Receipt) : Type 0 where
  object : object_in g ≡ named
  count : g.count ≡ counted (length cs)
  bytes : bytes_in g ≡ padded 0 data_size cs

one_came : {named : List ℕ} (cs : List ℕ) (g : Receipt) (b : ℕ) → Came named cs g → Came named (cs ++ b ∷ []) (added g b)
one_came cs g b k =
    let n = length cs in
    let long : length (cs ++ b ∷ []) ≡ suc n = rw length-append (omega arith) in
    let placed : set (padded 0 data_size cs) (counted n) b ≡ padded 0 data_size (cs ++ b ∷ []) =
    by_test (λ (c : ℕ). set (padded 0 data_size cs) c b ≡ padded 0 data_size (cs ++ b ∷ [])) (ltb n too_many) (λ few. set_padded data_size cs b)
    (λ many. set_out (padded 0 data_size cs) too_many b (rw (length-padded 0 data_size cs) (omega arith))
    ∙ sym (padded_full data_size cs b (omega (arith, ltb-false n too_many many)))) in
    record {
      object = k.object;
      count = ap (λ (c : ℕ). cond (ltb c too_many) (suc c) c) k.count ∙ next_counted n ∙ ap counted (sym long);
      bytes = bytes_added g b ∙ ap₂ (λ (l : List ℕ) (c : ℕ). set l c b) k.bytes k.count ∙ placed;
    }

all_came : {named : List ℕ} (bs cs : List ℕ) (g : Receipt) → Came named cs g → Came named (cs ++ bs) (gathered g bs)
unfolding gathered
all_came [] cs g k = rw append-nil k
all_came {named} (b ∷ bs) cs g k =
    subst (λ (l : List ℕ). Came named l (gathered (added g b) bs)) (append_assoc cs (b ∷ []) bs)
    (all_came bs (cs ++ b ∷ []) (added g b) (one_came cs g b k))

-- requests in a row, from a stand on which the node serves them
module _ (a : Stand) (h : Rests a) (o : List ℕ) (served : is_stopped a.state.node.nmt ≡ false) (room : output_length ≤ length o) where
  heard : (t : Transfer) (rq : List ℕ) → length rq ≡ request_length → Heard rq o (running t a)
  heard t rq whole = record { whole = whole; served = served; room = room }

  -- a segment in turn that is not the last
  taken_next : (g : Receipt) (rq : List ℕ) → receipt_sound g ≡ true → length rq ≡ request_length → command_in rq ≡ DownloadSegment →
      toggle_of rq ≡ g.toggle → is_last rq ≡ false →
      let b = running (Downloading g) a in left (requested rq o b) b ≡ running (Downloading (turned (gathered g (carried rq)))) a
  unfolding verdict_on sent_verdict segment_verdict first_firing transfer_sound
  taken_next g rq sound whole command toggle more =
      let b = running (Downloading g) a in
      ap standing ((serves_well b (running_rests a (Downloading g) sound h) rq o (heard (Downloading g) rq whole) DownloadSegment command
      (rw (toggle, beq_self g.toggle, more))).2 more)

  joins : {named : List ℕ} (rqs : List (List ℕ)) (cs : List ℕ) (g : Receipt) → InTurn DownloadSegment g.toggle rqs → any is_last rqs ≡ false →
      receipt_sound g ≡ true → Came named cs g →
      Gathers named (cs ++ flat_map carried rqs) (after_requests rqs o (running (Downloading g) a)).state.transfer
  unfolding InTurn after_requests flat_map receipt_sound
  joins [] cs g turn none sound k =
      rw append-nil (record { receipt = g; is = refl; object_kept = k.object; counted = k.count; kept = k.bytes })
  joins {named} (rq ∷ rqs) cs g (whole, command, toggle, turn) none sound k =
      let next = turned (gathered g (carried rq)) in
      let c = all_came (carried rq) cs g k in
      let turn' = subst (λ (b : Bool). InTurn DownloadSegment (not b) rqs) (sym (gathered_toggle g (carried rq))) turn in
      let rest = joins rqs (cs ++ carried rq) next turn' (or_false_right (is_last rq) (any is_last rqs) none) (gathered_sound g (carried rq) sound)
      (record { object = c.object; count = c.count; bytes = c.bytes }) in
      subst (λ (b : Stand). Gathers named (cs ++ (carried rq ++ flat_map carried rqs)) (after_requests rqs o b).state.transfer)
      (sym (taken_next g rq sound whole command toggle (or_false_left (is_last rq) (any is_last rqs) none)))
      (rw (← append_assoc cs (carried rq) (flat_map carried rqs)) rest)

pub segments_join : SegmentsJoin
unfolding verdict_on after_requests receipt_sound
segments_join r first o rqs hears command turn none =
    let a = reached r in
    let object = object_of first in
    subst (λ (b : Stand). Gathers object (flat_map carried rqs) (after_requests rqs o b).state.transfer)
    (sym (ap standing (serves_well a (run_rests r) first o hears DownloadBySegments command refl)))
    (joins a (run_rests r) o hears.served hears.room rqs [] (nothing_yet object) turn none refl
    (record { object = object_kept_lem object (object_long first hears.whole); count = refl; bytes = refl }))

-- ---- the device name

-- 1008h:0 is the name
name_sought : sought name_object ≡ the_name
unfolding bytes value open_table
name_sought = refl

-- what a segment of the name carries
unused_told : (b e : Bool) (n : ℕ) → n ≤ segment_size → unused_in (flag toggle_bit b + 2 * n + flag last_bit e) ≡ n
unused_told true true n h = omega arith
unused_told true false n h = omega arith
unused_told false true n h = omega arith
unused_told false false n h = omega arith

abbrev named : ℕ → List ℕ
named k = segment_byte k ∷ padded 0 segment_size (segment_of k)

name_carried : (k : ℕ) → carried (named k) ≡ segment_of k
name_carried k =
    let l = segment_of k in
    let short : length l ≤ segment_size = rw length-take (omega arith) in
    let size : segment_size - unused_in (segment_byte k) ≡ length l =
    ap (λ (n : ℕ). segment_size - n) (unused_told (toggle_at k) (is_last_of k) (segment_size - length l) (omega arith)) ∙ omega (arith, short) in
    ap (λ (n : ℕ). take n (padded 0 segment_size l)) size ∙ take_padded 0 segment_size l short

-- the eight bytes of a frame
eight_bytes : (i : ℕ) (content o : List ℕ) (fs : List Frame) → length content ≡ most_data →
    part data_from most_data (frame_at 0 (sent_into o (frame i content ∷ fs))) ≡ content
unfolding sent_into encoded bytes
eight_bytes i content o fs long =
    let f = frame i content in
    ap (part data_from most_data) (take_at (encoded f) (sent_into (drop frame_size o) fs) frame_size (length_encoded f))
    ∙ ap (λ (n : ℕ). take n (padded 0 most_data content)) (sym long) ∙ take_padded 0 most_data content (omega (arith, long))

-- what runs when so many were asked for
abbrev asked_so_far : ℕ → Transfer
asked_so_far k = cond (ltb (k * segment_size) (length device_name)) (Uploading k) NoTransfer

next_asked : (k : ℕ) → next_of k ≡ asked_so_far (suc k)
next_asked k =
    by_test (λ (t : Transfer). t ≡ asked_so_far (suc k)) (is_last_of k)
    (λ last. rw (le-ltb (suc k * segment_size) (length device_name) (leb-true (length device_name) (suc k * segment_size) last)))
    (λ more. rw (lt-ltb (suc k * segment_size) (length device_name) (leb-false (length device_name) (suc k * segment_size) more)))

module _ (a : Stand) (h : Rests a) (o : List ℕ) (served : is_stopped a.state.node.nmt ≡ false) (room : output_length ≤ length o) where
  -- a segment in turn
  name_next : (k : ℕ) (rq : List ℕ) → ltb (k * segment_size) (length device_name) ≡ true → length rq ≡ request_length → command_in rq ≡ UploadSegment →
      toggle_of rq ≡ toggle_at k →
      let b = running (Uploading k) a in does (requested rq o b) b ≡ only_sends (segment k a.state) (running (asked_so_far (suc k)) a) o
  unfolding verdict_on asked_verdict segment_verdict first_firing transfer_sound segment
  name_next k rq inside whole command toggle =
      let b = running (Uploading k) a in
      serves_well b (running_rests a (Uploading k) inside h) rq o (heard a h o served room (Uploading k) rq whole) UploadSegment command
      (rw (toggle, beq_self (toggle_at k)))
      ∙ ap (λ (t : Transfer). only_sends (segment k a.state) (running t a) o) (next_asked k)

  name_read : (rqs : List (List ℕ)) (k : ℕ) → InTurn UploadSegment (toggle_at k) rqs → k + length rqs ≡ name_segments →
      let b = running (asked_so_far k) a in
      (flat_map carried (replies_to rqs o b) ≡ drop (k * segment_size) device_name) × ((after_requests rqs o b).state.transfer ≡ NoTransfer)
  unfolding InTurn after_requests replies_to flat_map name_segments segment
  name_read [] k turn all =
      let past : length device_name ≤ k * segment_size = omega (arith, all) in
      (sym (drop_of_length-le device_name past), rw (le-ltb (k * segment_size) (length device_name) past))
  name_read (rq ∷ rqs) k (whole, command, toggle, turn) all =
      let inside = lt-ltb (k * segment_size) (length device_name) (omega (arith, all)) in
      let rest = name_read rqs (suc k) (rw (toggle_next k) turn) (omega (arith, all)) in
      let next : suc k * segment_size ≡ k * segment_size + segment_size = omega arith in
      let P : Outcome → Type 0 = λ u.
      (carried (part data_from most_data (frame_at 0 u.output)) ++ flat_map carried (replies_to rqs o (standing u)) ≡ drop (k * segment_size) device_name)
      × ((after_requests rqs o (standing u)).state.transfer ≡ NoTransfer) in
      let one = ap carried (eight_bytes (reply_base + a.state.node.id) (named k) o [] (ap suc (length-padded 0 segment_size (segment_of k)))) in
      let behind = rest.0 ∙ ap (λ (n : ℕ). drop n device_name) next ∙ sym (drop-drop segment_size (k * segment_size) device_name) in
      let whole_name = take-append-drop segment_size (drop (k * segment_size) device_name) in
      subst (λ (t : Transfer). P (does (requested rq o (running t a)) (running t a)))
      (ap (λ (b : Bool). cond b (Uploading k) NoTransfer) (sym inside))
      (subst P (sym (name_next k rq inside whole command toggle)) (ap₂ ◌++◌ (one ∙ name_carried k) behind ∙ whole_name, rest.1))

pub name_by_segments : NameBySegments
unfolding verdict_on object_verdict name_segments
name_by_segments r first o rqs hears command object turn whole =
    let a = reached r in
    let is : sought (object_of first) ≡ the_name = ap sought object ∙ name_sought in
    let begun = serves_well a (run_rests r) first o hears Upload command (rw is) in
    subst (λ (b : Stand). (flat_map carried (replies_to rqs o b) ≡ device_name) × ((after_requests rqs o b).state.transfer ≡ NoTransfer))
    (sym (ap standing (subst (λ (f : Found). Uploaded f first a o (does (requested first o a) a)) is begun)))
    (name_read a (run_rests r) o hears.served hears.room rqs 0 turn (omega (arith, whole)))
