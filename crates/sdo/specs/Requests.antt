-- Document 01, 'SDO', and ticket 1, as the code has them: what is said, what a download brings, the tests of an offer over an entry of the table,
-- and each kind of request on the object or the transfer that it is about.
-- Assumes nothing.
use Rattle.std.specs.Prelude.{ℕ, ◌+◌, ◌-◌, List, [], ◌∷◌, ◌++◌, Bool, true, false, cond, not, eqb, ltb, take, None, Some}
use Rattle.std.specs.Bool.{beq}
use Rattle.std.specs.Option.{unwrap_or}
use Rattle.state.specs.declared.State.{State}
use Rattle.state.specs.declared.NmtState.{NmtState}
use Rattle.state.specs.declared.Receipt.{Receipt}
use Rattle.state.specs.declared.Transfer.{Transfer}
use Rattle.state.specs.declared.Transfer.TheVariants.{NoTransfer, Uploading, Downloading}
use Rattle.rules_dictionary.specs.Numbers.{value, bit, bytes, part, padded}
use Rattle.rules_dictionary.specs.Table.{Row, size_of, u8, u16, u32, size, is_writable, Found, found, the_name, no_object, no_subindex}
use Rattle.rules_dictionary.specs.Aborts.{Verdict, Abort, abort_code, is_good, test, first_firing}
use Rattle.rules_dictionary.specs.Aborts.{no_writing, too_long, too_short, wrong_time, wrong_toggle}
use Rattle.rules_services.specs.Effects.{Effect, Frame, frame, becomes, sends, with_transfer, without_transfer}
use Rattle.rules_services.specs.declared.SdoCommand.{SdoCommand}
use Rattle.rules_services.specs.declared.SdoCommand.TheVariants.{Download, DownloadBySegments, DownloadSegment, Upload, UploadSegment}
use Rattle.rules_services.specs.declared.SdoCommand.TheVariants.{ClientAbort, Unknown}
use Rattle.rules_services.specs.Sdo as sdo
use Rattle.rules_services.specs.Segments as segments
use Rattle.rules_services.specs.SdoServer as server
use Rattle.dictionary.specs.declared.Entry.{Entry}
use Rattle.sdo.specs.declared.Brought.{Brought}
use Rattle.sdo.specs.declared.Offer.{Offer}
use Rattle.sdo.specs.Verdicts.{value_verdict_of}

-- ---- what is said: eight bytes on 580h+N

-- of the node of that node-ID
abbrev pub saying : List ℕ → ℕ → List Frame
saying content n = frame (sdo.reply_base + n) content ∷ []

-- .. and nothing else, but that this transfer runs from then on
abbrev pub said : List ℕ → Transfer → State → Effect
said content t s = sends (saying content s.node.id) (becomes (with_transfer t s))

-- a reply: the command, the object and a value
abbrev pub reply_bytes : ℕ → List ℕ → ℕ → List ℕ
reply_bytes c o v = c ∷ o ++ bytes sdo.data_size v

-- "4Fh, 4Bh, 43h for 1, 2, 4 bytes"
abbrev pub uploaded_by : ℕ → ℕ
uploaded_by n = cond (eqb n (size u8)) (sdo.uploaded u8) (cond (eqb n (size u16)) (sdo.uploaded u16) (sdo.uploaded u32))

-- segment k of the device name
abbrev pub segment_bytes : ℕ → List ℕ
segment_bytes k = segments.segment_byte k ∷ padded 0 segments.segment_size (segments.segment_of k)

-- an abort, which ends a running transfer
abbrev pub refused : Abort → List ℕ → State → Effect
refused a o s = said (reply_bytes sdo.aborted o (abort_code a)) NoTransfer s

-- ---- what a download brings, and offers

-- an expedited one: "with bit 0 set the size is 4 minus bits 3-2, else the object's"
abbrev pub brought_by : List ℕ → Brought
brought_by rq =
    let c = sdo.command_byte rq in
    record { count = cond (bit sdo.size_told_bit c) (Some (sdo.data_size - sdo.unused_bytes c)) None; bytes = part sdo.data_place sdo.data_size rq }

-- all segments of one
abbrev pub brought_in : Receipt → Brought
brought_in g = record { count = Some g.count; bytes = segments.bytes_in g }

-- what it offers a row
abbrev pub offering : Brought → Row → sdo.Offer
offering b x = record { row = x; size = unwrap_or b.count (size_of x); value = value (take (size_of x) b.bytes) }

-- .. and an entry of that size
abbrev pub offered_by : Brought → ℕ → Offer
offered_by b n = record { size = unwrap_or b.count n; value = value (take n b.bytes) }

-- what an offer to an entry gives: `offer_verdict`, of the entry's row
unfoldable pub offer_verdict_of : NmtState → List ℕ → Entry → Offer → Verdict
offer_verdict_of nmt d e t =
    first_firing
    (test (not (is_writable e.access)) no_writing
    ∷ test (ltb e.size t.size) too_long
    ∷ test (ltb t.size e.size) too_short
    ∷ test (sdo.is_wrong_time nmt d e.role) wrong_time
    ∷ [])
    (value_verdict_of d e t.value)

-- ---- what is asked, of an object and of the transfer that runs

-- to write what is brought, with that reply where it is taken
abbrev pub download_of : List ℕ → List ℕ → Brought → State → List ℕ → Effect
download_of content o b s d = sdo.downloads (saying content s.node.id) o (offering b) (sdo.sought o) (without_transfer s) d

-- to read
abbrev pub upload_of : List ℕ → State → List ℕ → Effect
upload_of o s d = server.uploads o (sdo.sought o) (without_transfer s) d

-- a segment of the name, where segment k is due
abbrev pub due_segment : ℕ → List ℕ → State → Effect
due_segment k rq s =
    cond (beq (segments.toggle_of rq) (segments.toggle_at k))
    (said (segment_bytes k) (segments.next_of k) s)
    (refused wrong_toggle segments.name_object s)

-- .. and whatever runs
abbrev pub segment_asked_in : List ℕ → State → Effect
segment_asked_in rq s = segments.segment_asked s.transfer rq s

-- a segment of the download that has brought this so far
abbrev pub received_segment : Receipt → List ℕ → State → List ℕ → Effect
received_segment g rq s d =
    cond (beq (segments.toggle_of rq) g.toggle)
    (cond (segments.is_last rq) (segments.concluded g (segments.carried rq) s d) (segments.continued g (segments.carried rq) s))
    (refused wrong_toggle (segments.object_in g) s)

-- .. and whatever runs
abbrev pub segment_sent_in : List ℕ → State → List ℕ → Effect
segment_sent_in rq s d = segments.segment_sent s.transfer rq s d

-- ---- where nothing is left to do at the call's end: everywhere but where an object is written

-- the object is there, and no test of what is offered fires
unfoldable pub is_written : (Row → sdo.Offer) → Found → State → List ℕ → Bool
is_written offer (found x) s d = is_good (sdo.offer_verdict s.node.nmt d (offer x))
is_written offer the_name s d = false
is_written offer no_object s d = false
is_written offer no_subindex s d = false

abbrev pub download_rests : List ℕ → (Row → sdo.Offer) → State → List ℕ → Bool
download_rests o offer s d = not (is_written offer (sdo.sought o) s d)

-- of a segment: only the last one writes
abbrev pub last_rests : Receipt → List ℕ → State → List ℕ → Bool
last_rests g rq s d =
    cond (beq (segments.toggle_of rq) g.toggle)
    (cond (segments.is_last rq) (download_rests (segments.object_in g) (segments.joined (segments.gathered g (segments.carried rq))) s d) true)
    true

abbrev pub segment_rests : Transfer → List ℕ → State → List ℕ → Bool
segment_rests NoTransfer rq s d = true
segment_rests (Uploading k) rq s d = true
segment_rests (Downloading g) rq s d = last_rests g rq s d

abbrev pub segment_rests_in : List ℕ → State → List ℕ → Bool
segment_rests_in rq s d = segment_rests s.transfer rq s d

abbrev pub command_rests : SdoCommand → List ℕ → State → List ℕ → Bool
command_rests Download rq s d = download_rests (sdo.object_of rq) (sdo.expedited rq) s d
command_rests DownloadBySegments rq s d = true
command_rests DownloadSegment rq s d = segment_rests_in rq s d
command_rests Upload rq s d = true
command_rests UploadSegment rq s d = true
command_rests ClientAbort rq s d = true
command_rests Unknown rq s d = true

-- of a request
abbrev pub sdo_rests : List ℕ → State → List ℕ → Bool
sdo_rests rq s d = command_rests (server.command_of (sdo.command_byte rq)) rq s d
