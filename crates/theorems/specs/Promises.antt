-- What holds after any calls: the statements that are made to the customer, in the order of his demands, with the few definitions that they
-- need. They speak of the rules of document 01 alone; their proofs stand in proofs/.
-- Assumes nothing.
use Rattle.std.specs.Prelude.{ℕ, ◌+◌, ◌-◌, ◌*◌, ◌/◌, ◌<◌, ◌≤◌, ◌≡◌, ◌⊎◌, Bool, true, false, cond, not, ◌&&◌, ◌||◌, eqb, leb, ltb, length, get_or, take, drop}
use Rattle.std.specs.Prelude.{Option, Some as event, None as bad_event}
use Rattle.std.specs.Bool.{beq}
use mathlib.Core.List.{List, [], ◌∷◌, ◌++◌, map, flat_map}
use Rattle.drive.specs.declared.SetPoint.{SetPoint}
use Rattle.drive.specs.declared.Store.{Store}
use Rattle.drive.specs.declared.Store.TheVariants.{Empty, Rested, Moving, Queued}
use Rattle.state.specs.declared.Receipt.{Receipt}
use Rattle.state.specs.declared.Transfer.{Transfer}
use Rattle.state.specs.declared.Transfer.TheVariants.{NoTransfer, Uploading, Downloading}
use Rattle.state.specs.declared.State.{State}
use Rattle.state.specs.declared.Refusal.TheVariants.{Accepted, NotSound}
use Rattle.rules_dictionary.specs.Numbers.{all, any, are_bytes, filter, bit, value, part, bytes, padded}
use Rattle.rules_dictionary.specs.TheNode.{is_node_id}
use Rattle.rules_dictionary.specs.Table.{Row, table, size_of, same, dictionary_length, place_of, is_reset, Found, found, the_name, no_object, no_subindex}
use Rattle.rules_dictionary.specs.DeviceName.{device_name}
use Rattle.rules_dictionary.specs.Table.{status_word, mode, mode_display, control_word, error_code, error_register, position, velocity, identifier}
use Rattle.rules_dictionary.specs.Table.{mapping_rows, each_way, pdos, receive_pdos, transmit_pdos, lookup}
use Rattle.files.specs.ConciseDcf.{Entry, entries_in}
use Rattle.rules_dictionary.specs.Values.{Write, write, read, field, stored, unpacked}
use Rattle.rules_dictionary.specs.Aborts.{Abort, bad, is_good, abort_code, Verdict, good, test, first_firing, unknown_command, wrong_toggle}
use Rattle.rules_dictionary.specs.Aborts.{no_object as absent}
use Rattle.rules_dictionary.specs.Aborts.{no_subindex as absent_sub, no_writing, too_long, too_short, wrong_time, below_range, above_range, bad_value}
use Rattle.rules_dictionary.specs.Aborts.{limits_swapped, not_mappable, over_length}
use Rattle.rules_dictionary.specs.Legal.{is_synchronous, frame_identifier}
use Rattle.rules_dictionary.specs.Plans.{mapped, plan_for, ready_for, plans_of, ready_of}
use Rattle.rules_dictionary.specs.Members.{In}
use Rattle.rules_dictionary.specs.declared.PdoData.{PdoData}
use Rattle.drive.specs.DriveStates.{is_fault, fault_reset_bit}
use Rattle.drive.specs.SetPoints.{new_set_point_bit}
use Rattle.drive.specs.declared.Drive.{Drive}
use Rattle.rules_services.specs.Effects.{Frame, frame, with_transfer}
use Rattle.state.specs.NmtStates.{is_stopped, is_operational}
use Rattle.rules_services.specs.Emergency.{emergency_base, pdo_too_short, fault_gone, value_refused, pdo_too_long}
use Rattle.rules_services.specs.declared.SdoCommand.{SdoCommand as Command}
use Rattle.rules_services.specs.declared.SdoCommand.TheVariants.{Download as download, DownloadBySegments as download_by_segments}
use Rattle.rules_services.specs.declared.SdoCommand.TheVariants.{DownloadSegment as download_segment, Upload as upload}
use Rattle.rules_services.specs.declared.SdoCommand.TheVariants.{UploadSegment as upload_segment}
use Rattle.rules_services.specs.declared.SdoCommand.TheVariants.{ClientAbort as client_abort, Unknown as unknown}
use Rattle.rules_services.specs.Sdo.{command_byte, object_of, sought, request_base, request_length, reply_base, uploaded, data_size, data_place}
use Rattle.rules_services.specs.Sdo.{Offer, expedited, offer_verdict, size_told_bit, unused_bytes}
use Rattle.rules_services.specs.Segments.{toggle_of, is_last, carried, flag, toggle_bit, object_run, name_object, segment, toggle_at, next_of}
use Rattle.rules_services.specs.Segments.{object_in, bytes_in, nothing_yet, gathered, turned, joined, too_many, segment_size}
use Rattle.rules_services.specs.SdoServer.{command_of}
use Rattle.rules_services.specs.PdoTraffic.{listens, type_of, mapped_length, are_legal, transmitted, no_data, is_held, sync_base, works}
use Rattle.rules_services.specs.Nmt.{nmt_identifier, nmt_length, every_node, heartbeat_base, command_of as nmt_command_of, NmtCommand, start, stop}
use Rattle.rules_services.specs.Nmt.{enter_pre_operational, reset_node, reset_communication, unknown as unknown_nmt}
use Rattle.state.specs.declared.NmtState.{NmtState}
use Rattle.rules_services.specs.Events.{event_of}
use Rattle.rules_services.specs.declared.Event.{Event}
use Rattle.rules_services.specs.declared.Event.TheVariants.{Started as started, QuickStopDone as quick_stop_done, ReactionDone as reaction_done}
use Rattle.rules_services.specs.declared.Event.TheVariants.{SetPointReached as set_point_reached, Tick as tick, CauseGone as cause_gone, Fault as fault}
use Rattle.rules_services.specs.declared.Event.TheVariants.{Feedback as feedback, Voltage as voltage}
use Rattle.rules.specs.Outcome.{status_of, encoded, sent_into, most_data, most_frames, frame_size, transmitters}
use Rattle.rules.specs.Sound.{sound}
use Rattle.rules.specs.Calls.{Call, power_up_call, frame_call, event_call, load_call, Decision, refuses, does as performs, decided, Outcome, answer}
use Rattle.rules.specs.Calls.{output_length}
use Rattle.rules.specs.Calls.{refusal_number}
use Rattle.rules.specs.Scripts.{Answers, given_by}
use Rattle.rules.specs.Examples.{request, examples}

-- ---- a run: an accepted power-up, and then calls in any number, refused ones included, each handed the state and the dictionary that the
-- one before handed back, with output of any length

-- what a call is given beside the state and the dictionary
pub record Step : Type 0 where
  pub call : Call
  pub output : List ℕ

-- where a run stands
pub record Stand : Type 0 where
  pub state : State
  pub dictionary : List ℕ

abbrev pub does : Step → Stand → Outcome
does k a = answer k.call a.state a.dictionary k.output

abbrev pub left : Step → Stand → Stand
left k a = record { state = (does k a).state; dictionary = (does k a).dictionary }

unfoldable pub after : List Step → Stand → Stand
after [] a = a
after (k ∷ ks) a = after ks (left k a)

-- data and arguments are bytes, as a caller's buffers hold them
abbrev pub octets : Call → Bool
octets (power_up_call n) = true
octets (frame_call i bs) = are_bytes bs
octets (event_call k xs) = are_bytes xs
octets (load_call f) = are_bytes f

unfoldable pub AllOctets : List Step → Type 0
AllOctets [] = Unit
AllOctets (k ∷ ks) = (octets k.call ≡ true) × AllOctets ks

pub record Run : Type 0 where
  pub node : ℕ
  pub legal : is_node_id node ≡ true
  pub found : Stand
  pub long : length found.dictionary ≡ dictionary_length
  pub bytes : are_bytes found.dictionary ≡ true
  pub output : List ℕ
  pub room : output_length ≤ length output
  pub steps : List Step
  pub given : AllOctets steps

-- where it stands after its power-up, and after all its calls
abbrev pub begun : Run → Stand
begun r = left (record { call = power_up_call r.node; output = r.output }) r.found

abbrev pub reached : Run → Stand
reached r = after r.steps (begun r)

-- the whole answer of an accepted call that changes nothing and sends those frames
abbrev pub only_sends : List Frame → Stand → List ℕ → Outcome
only_sends fs a o = record { refusal = Accepted; frames = length fs; state = a.state; dictionary = a.dictionary; output = sent_into o fs }

-- the same with another transfer in progress, or with none
abbrev pub running : Transfer → Stand → Stand
running t a = record { state = with_transfer t a.state; dictionary = a.dictionary }

abbrev pub nothing_runs : Stand → Stand
nothing_runs a = running NoTransfer a

-- the eleven bytes of an output's frame of that number, from 0 on
abbrev pub frame_at : ℕ → List ℕ → List ℕ
frame_at n o = part (frame_size * n) frame_size o

-- ---- demand 1, "A refused call sends nothing and changes nothing.": of every state, dictionary and output, sound or not

abbrev pub RefusedMeansNothing : Type 0
RefusedMeansNothing = (k : Step) (a : Stand) → ((does k a).refusal ≡ Accepted → ⊥) →
    does k a ≡ record { refusal = (does k a).refusal; frames = 0; state = a.state; dictionary = a.dictionary; output = k.output }

-- ---- demand 1, "A refused SDO write gives the abort code that document 01 names": what it names for a request, in its order

-- "Then, in order: no object 06020000h; no subindex 06090011h; download to c or o ..": what follows is a download's. 1008h is a constant
unfoldable pub object_verdict : Bool → (Row → Offer) → NmtState → List ℕ → Found → Verdict
object_verdict writing offer nmt d no_object = bad absent
object_verdict writing offer nmt d no_subindex = bad absent_sub
object_verdict writing offer nmt d the_name = cond writing (bad no_writing) good
object_verdict writing offer nmt d (found x) = cond writing (offer_verdict nmt d (offer x)) good

-- ticket 1: "a segment with no transfer of its direction running, 05040001h", looked at before "wrong toggle 05030000h"
unfoldable pub segment_verdict : Bool → List ℕ → Verdict → Verdict
segment_verdict due rq v = first_firing (test (not (beq (toggle_of rq) due)) wrong_toggle ∷ []) v

unfoldable pub asked_verdict : Transfer → List ℕ → Verdict
asked_verdict NoTransfer rq = bad unknown_command
asked_verdict (Uploading k) rq = segment_verdict (toggle_at k) rq good
asked_verdict (Downloading g) rq = bad unknown_command

-- "A download is checked as an expedited one is, in 01's order, at its last segment"
unfoldable pub sent_verdict : Transfer → List ℕ → NmtState → List ℕ → Verdict
sent_verdict NoTransfer rq nmt d = bad unknown_command
sent_verdict (Uploading k) rq nmt d = bad unknown_command
sent_verdict (Downloading g) rq nmt d =
    segment_verdict g.toggle rq (cond (is_last rq) (object_verdict true (joined (gathered g (carried rq))) nmt d (sought (object_in g))) good)

-- "Command bits 7-5: 1 download, 2 upload, 4 client abort (no reply), else abort 05040001h"
unfoldable pub verdict_on : Command → List ℕ → State → List ℕ → Verdict
verdict_on download rq s d = object_verdict true (expedited rq) s.node.nmt d (sought (object_of rq))
verdict_on download_by_segments rq s d = good
verdict_on download_segment rq s d = sent_verdict s.transfer rq s.node.nmt d
verdict_on upload rq s d = object_verdict false (expedited rq) s.node.nmt d (sought (object_of rq))
verdict_on upload_segment rq s d = asked_verdict s.transfer rq
verdict_on client_abort rq s d = good
verdict_on unknown rq s d = bad unknown_command

abbrev pub command_in : List ℕ → Command
command_in rq = command_of (command_byte rq)

abbrev pub request_verdict : List ℕ → State → List ℕ → Verdict
request_verdict rq s d = verdict_on (command_in rq) rq s d

abbrev pub verdict_at : List ℕ → Stand → Verdict
verdict_at rq a = request_verdict rq a.state a.dictionary

-- "Index and subindex are echoed"; "a segment's abort names its object, zeros if none ran"
abbrev pub object_on : Command → List ℕ → Transfer → List ℕ
object_on download rq t = object_of rq
object_on download_by_segments rq t = object_of rq
object_on download_segment rq t = object_run t
object_on upload rq t = object_of rq
object_on upload_segment rq t = object_run t
object_on client_abort rq t = object_of rq
object_on unknown rq t = object_of rq

-- a request to the node that stands there
abbrev pub requested : List ℕ → List ℕ → Stand → Step
requested rq o a = record { call = frame_call (request_base + a.state.node.id) rq; output = o }

-- it is served: "in Pre-operational and Operational, 600h+N, length 8", with room for what is sent
pub record Heard (rq o : List ℕ) (a : Stand) : Type 0 where
  pub whole : length rq ≡ request_length
  pub served : is_stopped a.state.node.nmt ≡ false
  pub room : output_length ≤ length o

-- a frame on 580h+N
abbrev pub says : Stand → List ℕ → Frame
says a content = frame (reply_base + a.state.node.id) content

-- "80h and code": whatever is aborted gives the code of its verdict, "any abort .. ends a running transfer", and this is the whole answer
abbrev pub AbortSaysWhy : Type 0
AbortSaysWhy = (r : Run) (rq o : List ℕ) (c : Abort) → Heard rq o (reached r) → verdict_at rq (reached r) ≡ bad c →
    does (requested rq o (reached r)) (reached r)
    ≡ only_sends (says (reached r) (0x80 ∷ object_on (command_in rq) rq (reached r).state.transfer ++ bytes data_size (abort_code c)) ∷ [])
    (nothing_runs (reached r)) o

-- the codes as the paper and the tickets print them
abbrev pub codes : List ℕ
codes =
    0x05040001 ∷ 0x05030000 ∷ 0x06020000 ∷ 0x06090011 ∷ 0x06010002 ∷ 0x06070012 ∷ 0x06070013 ∷ 0x08000022 ∷ 0x06090032 ∷ 0x06090031 ∷ 0x06090030
    ∷ 0x06040043 ∷ 0x06040041 ∷ 0x06040042 ∷ []

-- each has its name, and no abort has another code
abbrev pub FourteenCodes : Type 0
FourteenCodes =
    (map abort_code
    (unknown_command ∷ wrong_toggle ∷ absent ∷ absent_sub ∷ no_writing ∷ too_long ∷ too_short ∷ wrong_time ∷ below_range ∷ above_range ∷ bad_value
    ∷ limits_swapped ∷ not_mappable ∷ over_length ∷ [])
    ≡ codes)
    × ((c : Abort) → any (eqb (abort_code c)) codes ≡ true)

-- and a request with no fault is not aborted. To an upload the reply is the object's value, of 1008h its length, and this is the whole answer
abbrev pub Uploaded : Found → List ℕ → Stand → List ℕ → Outcome → Type 0
Uploaded (found x) rq a o u =
    u ≡ only_sends (says a (uploaded x.type ∷ object_of rq ++ bytes data_size (read a.dictionary x)) ∷ []) (nothing_runs a) o
Uploaded the_name rq a o u = u ≡ only_sends (says a (0x41 ∷ object_of rq ++ bytes data_size (length device_name)) ∷ []) (running (Uploading 0) a) o
Uploaded no_object rq a o u = ⊥
Uploaded no_subindex rq a o u = ⊥

-- to a segment of 1008h it is that segment, the whole answer too
abbrev pub SegmentAnswered : Transfer → Stand → List ℕ → Outcome → Type 0
SegmentAnswered NoTransfer a o u = ⊥
SegmentAnswered (Uploading k) a o u = u ≡ only_sends (segment k a.state) (running (next_of k) a) o
SegmentAnswered (Downloading g) a o u = ⊥

abbrev pub four_zeros : List ℕ
four_zeros = 0x00 ∷ 0x00 ∷ 0x00 ∷ 0x00 ∷ []

-- 20h or 30h, and seven zeros
abbrev pub taking : Bool → Stand → Frame
taking b a = says a ((0x20 + flag toggle_bit b) ∷ 0x00 ∷ 0x00 ∷ 0x00 ∷ four_zeros)

-- to a download's segment it is this, before all else that is sent; before the last one it is the whole answer
abbrev pub SegmentTaken : Transfer → List ℕ → Stand → List ℕ → Outcome → Type 0
SegmentTaken NoTransfer rq a o u = ⊥
SegmentTaken (Uploading k) rq a o u = ⊥
SegmentTaken (Downloading g) rq a o u =
    (u.refusal ≡ Accepted) × (frame_at 0 u.output ≡ encoded (taking g.toggle a))
    × (is_last rq ≡ false → u ≡ only_sends (taking g.toggle a ∷ []) (running (Downloading (turned (gathered g (carried rq)))) a) o)

-- and to a download 60h: an expedited one is stored and acted on behind it, one by segments begins
abbrev pub Served : Command → List ℕ → Stand → List ℕ → Outcome → Type 0
Served download rq a o u =
    (u.refusal ≡ Accepted) × (frame_at 0 u.output ≡ encoded (says a (0x60 ∷ object_of rq ++ four_zeros))) × (u.state.transfer ≡ NoTransfer)
Served download_by_segments rq a o u =
    u ≡ only_sends (says a (0x60 ∷ object_of rq ++ four_zeros) ∷ []) (running (Downloading (nothing_yet (object_of rq))) a) o
Served download_segment rq a o u = SegmentTaken a.state.transfer rq a o u
Served upload rq a o u = Uploaded (sought (object_of rq)) rq a o u
Served upload_segment rq a o u = SegmentAnswered a.state.transfer a o u
Served client_abort rq a o u = u ≡ only_sends [] (nothing_runs a) o
Served unknown rq a o u = ⊥

abbrev pub GoodIsServed : Type 0
GoodIsServed = (r : Run) (rq o : List ℕ) → Heard rq o (reached r) → verdict_at rq (reached r) ≡ good →
    Served (command_in rq) rq (reached r) o (does (requested rq o (reached r)) (reached r))

-- "and a refused write .. changes no object": whatever is aborted leaves the dictionary, and the state but for the transfer, as they were, where
-- it is not served as well
abbrev pub RefusedWriteChangesNothing : Type 0
RefusedWriteChangesNothing = (r : Run) (rq o : List ℕ) (c : Abort) → verdict_at rq (reached r) ≡ bad c →
    nothing_runs (left (requested rq o (reached r)) (reached r)) ≡ nothing_runs (reached r)

-- ---- "or a dropped process frame changes no object"

-- "EMCY on 80h+N: code, 1001h just after its cause, five zeros", where the cause changes nothing
abbrev pub alarm : Stand → ℕ → Frame
alarm a code =
    frame (emergency_base + a.state.node.id) (bytes 2 code ++ read a.dictionary error_register ∷ 0x00 ∷ 0x00 ∷ 0x00 ∷ 0x00 ∷ 0x00 ∷ [])

-- "too short, dropped with emergency 8210h; too long, 8220h ..; then any value SDO would refuse drops the whole frame with 8200h, after 8220h
-- if both": the codes of a dropped frame of n bytes, by the length that its mapping asks for
abbrev pub drop_codes : ℕ → ℕ → List ℕ
drop_codes n asked = cond (ltb n asked) (pdo_too_short ∷ []) (cond (ltb asked n) (pdo_too_long ∷ value_refused ∷ []) (value_refused ∷ []))

-- a frame that is too short, or that holds a value SDO would refuse, leaves the dictionary and the state as they were. Where there is room it is
-- answered by its emergencies, and this is the whole answer
abbrev pub DroppedFrameChangesNothing : Type 0
DroppedFrameChangesNothing = (r : Run) (p i : ℕ) (bs o : List ℕ) → In p receive_pdos →
    listens i (reached r).state.node.nmt (reached r).dictionary p ≡ true →
    (length bs < mapped_length (mapped (reached r).dictionary p))
    ⊎ (are_legal (reached r).dictionary (unpacked (mapped (reached r).dictionary p) bs) ≡ false) →
    (left (record { call = frame_call i bs; output = o }) (reached r) ≡ reached r)
    × (output_length ≤ length o → length bs ≤ most_data →
    does (record { call = frame_call i bs; output = o }) (reached r)
    ≡ only_sends (map (alarm (reached r)) (drop_codes (length bs) (mapped_length (mapped (reached r).dictionary p)))) (reached r) o)

-- ---- demand 1 and 2, the frames: "eleven bytes a frame, one after another", "At most 6 frames. Order: SDO reply; emergencies in order of
-- cause; boot-up or heartbeat; TPDOs rising", "Bytes past the frames reported stay"

abbrev pub is_on : ℕ → Frame → Bool
is_on i f = eqb f.identifier i

-- the code of an emergency
abbrev pub code_of : Frame → ℕ
code_of f = value (part 0 2 f.content)

-- "emergencies in order of cause": there are two only where a process frame is too long, and its value is refused or it resets a fault
abbrev pub in_order_of_cause : List ℕ → Bool
in_order_of_cause [] = true
in_order_of_cause (a ∷ []) = true
in_order_of_cause (a ∷ b ∷ []) = eqb a pdo_too_long && (eqb b value_refused || eqb b fault_gone)
in_order_of_cause (a ∷ b ∷ c ∷ cs) = false

-- the most that a service sends itself: a reply and an emergency, or two emergencies
abbrev pub most_spoken : ℕ
most_spoken = 2

-- what a service of node n sends itself
pub record Spoken (n : ℕ) (sent : List Frame) : Type 0 where
  pub replies : List Frame
  pub emergencies : List Frame
  pub beats : List Frame
  pub whole : sent ≡ replies ++ (emergencies ++ beats)
  pub on_reply : all (is_on (reply_base + n)) replies ≡ true
  pub on_emergency : all (is_on (emergency_base + n)) emergencies ≡ true
  pub on_beat : all (is_on (heartbeat_base + n)) beats ≡ true
  pub caused : in_order_of_cause (map code_of emergencies) ≡ true
  pub one_reply : length replies ≤ 1
  pub one_beat : length beats ≤ 1
  pub few : length replies + (length emergencies + length beats) ≤ most_spoken

-- a list of frames in the paper's order: the transmit PDOs behind what is spoken; `sending` says which of them are sent
pub record Ordered (a : Stand) (sent : List Frame) : Type 0 where
  pub own : List Frame
  pub spoken : Spoken a.state.node.id own
  pub sending : ℕ → Bool
  pub whole : sent ≡ own
      ++ map (λ t. transmitted a.dictionary (each_way + t) (get_or a.state.axis.ready t no_data)) (filter sending transmitters)

unfoldable pub laid : List Frame → List ℕ
laid [] = []
laid (f ∷ fs) = encoded f ++ laid fs

-- the frames of an answer, whose output was o before
pub record FramesOf (u : Outcome) (o : List ℕ) : Type 0 where
  pub sent : List Frame
  pub counted : u.frames ≡ length sent
  pub most : length sent ≤ most_frames
  pub short : (f : Frame) → In f sent → length f.content ≤ most_data
  pub in_order : Ordered (record { state = u.state; dictionary = u.dictionary }) sent
  pub output : u.output ≡ laid sent ++ drop (frame_size * length sent) o

abbrev pub AtMostSixInOrder : Type 0
AtMostSixInOrder = (r : Run) (k : Step) → octets k.call ≡ true → FramesOf (does k (reached r)) k.output

abbrev pub ElevenBytes : Type 0
ElevenBytes = (f : Frame) → length (encoded f) ≡ frame_size

-- ---- "Shut out by demand 2: a node that refuses everything, one with a constant reply, one that does nothing, one that reports six frames
-- always. One idle after power-up falls to 2 and 3.": the ten examples hold of the rules, and of no node that is of one of these kinds, whatever
-- else it does

abbrev pub keeps_examples : Answers → Bool
keeps_examples node = all (given_by node) examples

-- for whatever reason
abbrev pub RefusesEverything : Answers → Type 0
RefusesEverything node = (c : Call) (s : State) (d o : List ℕ) → refusal_number (node c s d o).refusal ≡ 0 → ⊥

-- the same frames to every request to node 5, of which the examples speak, whatever these frames are
abbrev pub RepliesAlike : Answers → List Frame → Type 0
RepliesAlike node fs = (bs : List ℕ) (s : State) (d o : List ℕ) → (node (request bs) s d o).output ≡ sent_into o fs

-- so many frames to every call
abbrev pub SendsAlways : Answers → ℕ → Type 0
SendsAlways node n = (c : Call) (s : State) (d o : List ℕ) → (node c s d o).frames ≡ n

-- a frame or an event; what a node makes of a load does not matter
abbrev pub is_later : Call → Bool
is_later (power_up_call n) = false
is_later (frame_call i bs) = true
is_later (event_call k xs) = true
is_later (load_call f) = false

-- idle after power-up: it sends nothing, ..
abbrev pub SendsNothingLater : Answers → Type 0
SendsNothingLater node = (c : Call) (s : State) (d o : List ℕ) → is_later c ≡ true → (node c s d o).frames ≡ 0

-- .. or it changes nothing
abbrev pub ChangesNothingLater : Answers → Type 0
ChangesNothingLater node = (c : Call) (s : State) (d o : List ℕ) → is_later c ≡ true → (node c s d o).dictionary ≡ d

abbrev pub ShutsOut : Type 0
ShutsOut =
    (keeps_examples answer ≡ true)
    × ((node : Answers) → RefusesEverything node → keeps_examples node ≡ false)
    × ((node : Answers) (fs : List Frame) → RepliesAlike node fs → keeps_examples node ≡ false)
    × ((node : Answers) → SendsAlways node 0 → keeps_examples node ≡ false)
    × ((node : Answers) → SendsAlways node most_frames → keeps_examples node ≡ false)
    × ((node : Answers) → SendsNothingLater node → keeps_examples node ≡ false)
    × ((node : Answers) → ChangesNothingLater node → keeps_examples node ≡ false)

-- ---- demand 3, "After each call the dictionary is the one demand 2's rules give": sound in every clause of document 01

pub record SoundAt (a : Stand) : Type 0 where
  pub sound : sound a.state a.dictionary ≡ true
  pub long : length a.dictionary ≡ dictionary_length
  pub bytes : are_bytes a.dictionary ≡ true

abbrev pub SoundAlways : Type 0
SoundAlways = (r : Run) → SoundAt (reached r)

-- every byte of the output is a byte, where those lent were
abbrev pub OutputOfBytes : Type 0
OutputOfBytes = (r : Run) (k : Step) → octets k.call ≡ true → are_bytes k.output ≡ true → are_bytes (does k (reached r)).output ≡ true

-- so that refusal 4 never comes
abbrev pub NeverUnsound : Type 0
NeverUnsound = (r : Run) (k : Step) → (does k (reached r)).refusal ≡ NotSound → ⊥

-- ---- demand 3, "every kept transfer plan and ready transmit frame is equal to the one worked out afresh from that dictionary"; and 6041h and
-- 6061h are those that the rules make

pub record FreshAt (a : Stand) : Type 0 where
  pub plans : a.state.axis.plans ≡ plans_of a.dictionary
  pub ready : a.state.axis.ready ≡ ready_of a.dictionary
  pub status : read a.dictionary status_word ≡ status_of a.state a.dictionary
  pub shown : read a.dictionary mode_display ≡ read a.dictionary mode

abbrev pub NothingStale : Type 0
NothingStale = (r : Run) → FreshAt (reached r)

-- ---- demand 3, "A call changes no objects but those it writes and those document 01 lists as following from them"

-- the byte of that number is one of the row's
abbrev pub covers : ℕ → Row → Bool
covers i x = leb (place_of x) i && ltb i (place_of x + size_of x)

abbrev pub decided_at : Step → Stand → Decision
decided_at k a = decided k.call a.state a.dictionary k.output

-- the writes of a call
abbrev pub writes_of : Decision → List Write
writes_of (refuses x) = []
writes_of (performs e) = e.writes

abbrev pub rows_of : List Write → List Row
rows_of ws = map (λ w. w.row) ws

-- "6041h and 6061h from any call"
abbrev pub and_settled : List Row → List Row
and_settled xs = status_word ∷ mode_display ∷ xs

-- byte for byte, of every state and dictionary: a byte of no row that the call writes, and not of 6041h or 6061h, stays
abbrev pub ChangesOnlyItsWrites : Type 0
ChangesOnlyItsWrites = (k : Step) (a : Stand) (i : ℕ) →
    any (covers i) (and_settled (rows_of (writes_of (decided_at k a)))) ≡ false →
    get_or (does k a).dictionary i 0 ≡ get_or a.dictionary i 0

-- which rows these are, as document 01 lists them. "What a call writes: an SDO or PDO write its objects; event 5 6064h and 606Ch; 82h the
-- objects it resets; 81h and power-up all, mappings included. What follows from it: 6041h and 6061h from any call; 603Fh and 1001h from event
-- 3; 1001h from a fault reset."

-- the frames that a call applies, each as the values that it brings

-- an SDO write: a download of an object that is there, which no abort answers; by segments, at the last of them
abbrev pub to_found : (Row → Offer) → State → List ℕ → Found → List (List Write)
to_found offer s d (found x) = cond (is_good (offer_verdict s.node.nmt d (offer x))) ((write x (offer x).value ∷ []) ∷ []) []
to_found offer s d the_name = []
to_found offer s d no_object = []
to_found offer s d no_subindex = []

abbrev pub by_segment : Transfer → List ℕ → State → List ℕ → List (List Write)
by_segment NoTransfer rq s d = []
by_segment (Uploading k) rq s d = []
by_segment (Downloading g) rq s d =
    cond (beq (toggle_of rq) g.toggle && is_last rq) (to_found (joined (gathered g (carried rq))) s d (sought (object_in g))) []

abbrev pub by_sdo : Command → List ℕ → State → List ℕ → List (List Write)
by_sdo download rq s d = to_found (expedited rq) s d (sought (object_of rq))
by_sdo download_by_segments rq s d = []
by_sdo download_segment rq s d = by_segment s.transfer rq s d
by_sdo upload rq s d = []
by_sdo upload_segment rq s d = []
by_sdo client_abort rq s d = []
by_sdo unknown rq s d = []

-- a PDO write: by a receive PDO that works on the identifier, of a frame that is not too short and has no value that SDO would refuse; "Types
-- 254, 255 apply at once"
abbrev pub applies_at_once : ℕ → List ℕ → State → List ℕ → ℕ → Bool
applies_at_once i bs s d p =
    listens i s.node.nmt d p
    && not (ltb (length bs) (mapped_length (mapped d p)))
    && are_legal d (unpacked (mapped d p) bs)
    && not (is_synchronous (type_of d p))

unfoldable pub by_pdo : ℕ → List ℕ → State → List ℕ → List (List Write)
by_pdo i bs s d = map (λ p. unpacked (mapped d p) bs) (filter (applies_at_once i bs s d) receive_pdos)

-- SYNC: "It applies held frames 1 to 4"
abbrev pub held_for : State → ℕ → PdoData
held_for s p = get_or s.axis.held p no_data

unfoldable pub by_sync : State → List ℕ → List (List Write)
by_sync s d = map (λ p. unpacked (mapped d p) (held_for s p).bytes) (filter (λ p. is_held (held_for s p)) receive_pdos)

-- SYNC of length 0 in Operational; SDO "in Pre-operational and Operational, 600h+N, length 8"
unfoldable pub applies : ℕ → List ℕ → State → List ℕ → List (List Write)
applies i bs s d =
    cond (eqb i sync_base) (cond (is_operational s.node.nmt && eqb (length bs) 0) (by_sync s d) [])
    (cond (eqb i (request_base + s.node.id))
    (cond (eqb (length bs) request_length && not (is_stopped s.node.nmt)) (by_sdo (command_in bs) bs s d) [])
    (by_pdo i bs s d))

-- a fault that a fault reset clears: "Fault: Fault reset without cause to disabled, 1001h to 0"
abbrev pub is_clearable : Drive → Bool
is_clearable v = is_fault v.state && not v.cause

-- "Bit 7 set: Fault reset if it was 0 before": the one dictionary before the write, the other after it
abbrev pub asks_reset : List ℕ → List ℕ → Bool
asks_reset d d' = bit fault_reset_bit (read d' control_word) && not (bit fault_reset_bit (read d control_word))

-- what frames write, applied one after another from d: each its values, and where it resets the fault, 1001h. Of 6040h mapped twice in one
-- frame the last value counts. The flag says whether there is a fault to clear
unfoldable pub written : Bool → List ℕ → List (List Write) → List Write
written clearable d [] = []
written clearable d (ws ∷ fs) =
    let reset = clearable && asks_reset d (stored ws d) in
    let vs = ws ++ cond reset (write error_register 0 ∷ []) [] in
    vs ++ written (clearable && not reset) (stored vs d) fs

-- "82h the objects it resets; 81h .. all"
abbrev pub by_command : NmtCommand → List Row
by_command start = []
by_command stop = []
by_command enter_pre_operational = []
by_command reset_node = table
by_command reset_communication = filter is_reset table
by_command unknown_nmt = []

-- NMT: "length 2, node 0 or N"
unfoldable pub by_nmt : List ℕ → State → List Row
by_nmt bs s =
    cond (eqb (length bs) nmt_length && (eqb (get_or bs 1 0) every_node || eqb (get_or bs 1 0) s.node.id)) (by_command (nmt_command_of (get_or bs 0 0))) []

unfoldable pub by_frame : ℕ → List ℕ → State → List ℕ → List Row
by_frame i bs s d = cond (eqb i nmt_identifier) (by_nmt bs s) (rows_of (written (is_clearable s.axis.drive) d (applies i bs s d)))

-- "event 5 6064h and 606Ch"; "603Fh and 1001h from event 3"
abbrev pub by_event : Event → List Row
by_event started = []
by_event quick_stop_done = []
by_event reaction_done = []
by_event set_point_reached = []
by_event tick = []
by_event cause_gone = []
by_event (fault code register) = error_code ∷ error_register ∷ []
by_event (feedback at speed) = position ∷ velocity ∷ []
by_event (voltage b) = []

abbrev pub by_told : Option Event → List Row
by_told (event e) = and_settled (by_event e)
by_told bad_event = []

-- ticket 6: a load "writes its entries' objects"
abbrev pub row_found : Found → List Row
row_found (found x) = x ∷ []
row_found the_name = []
row_found no_object = []
row_found no_subindex = []

abbrev pub by_entries : List Entry → List Row
by_entries [] = []
by_entries (e ∷ es) = row_found (lookup e.index e.subindex) ++ by_entries es

-- the rows that a call may change
unfoldable pub may_change : Call → State → List ℕ → List Row
may_change (power_up_call n) s d = cond (is_node_id n) (and_settled table) []
may_change (frame_call i bs) s d = and_settled (by_frame i bs s d)
may_change (event_call k xs) s d = by_told (event_of k xs)
may_change (load_call f) s d = and_settled (by_entries (entries_in f))

-- byte for byte, of every state and dictionary: a byte of no such row stays
abbrev pub ChangesNoOther : Type 0
ChangesNoOther = (k : Step) (a : Stand) (i : ℕ) → any (covers i) (may_change k.call a.state a.dictionary) ≡ false →
    get_or (does k a).dictionary i 0 ≡ get_or a.dictionary i 0

-- and the list says no more than that: of an accepted call its rows are those of the writes, one by one and in their order
abbrev pub ListsWhatIsWritten : Type 0
ListsWhatIsWritten = (k : Step) (a : Stand) → (does k a).refusal ≡ Accepted →
    may_change k.call a.state a.dictionary
    ≡ and_settled (rows_of (writes_of (decided_at k a)))

-- "and no ready frame but of a transmit PDO that maps a changed object or had its mapping written"
abbrev pub ReadyFrameStays : Type 0
ReadyFrameStays = (r : Run) (k : Step) (t : ℕ) → octets k.call ≡ true → In t transmitters →
    ((x : Row) → In x (mapping_rows (each_way + t)) → field (does k (reached r)).dictionary x ≡ field (reached r).dictionary x) →
    ((x : Row) → In x (mapped (reached r).dictionary (each_way + t)) → field (does k (reached r)).dictionary x ≡ field (reached r).dictionary x) →
    get_or (does k (reached r)).state.axis.ready t no_data ≡ get_or (reached r).state.axis.ready t no_data

-- ---- his complaints

-- "A receive path that was never tested on a short frame read missing bytes as zero": a process frame shorter than its mapping changes
-- nothing and sends 8210h alone; this is the whole answer
abbrev pub ShortFrameChangesNothing : Type 0
ShortFrameChangesNothing = (r : Run) (p i : ℕ) (bs o : List ℕ) → In p receive_pdos →
    listens i (reached r).state.node.nmt (reached r).dictionary p ≡ true →
    length bs < mapped_length (mapped (reached r).dictionary p) → output_length ≤ length o →
    does (record { call = frame_call i bs; output = o }) (reached r) ≡ only_sends (alarm (reached r) pdo_too_short ∷ []) (reached r) o

-- "mappings edited while a packed copy of the old one was still in use": after any call, so after any accepted mapping write, the plan and
-- the ready frame of each PDO are those of the mapping that the dictionary now holds
abbrev pub NoOldMapping : Type 0
NoOldMapping = (r : Run) (k : Step) → octets k.call ≡ true →
    ((does k (reached r)).state.axis.plans ≡ map (λ p. plan_for (mapped (does k (reached r)).dictionary p)) pdos)
    × ((does k (reached r)).state.axis.ready ≡ map (λ p. ready_for (does k (reached r)).dictionary p) transmit_pdos)

-- "a status word in a sent frame that differs from the one read by SDO a moment later": of any call, take a frame on the identifier of a
-- working transmit PDO that maps 6041h. An upload of 6041h right after the call answers with the very two bytes that stand in that frame, and
-- changes nothing but that no transfer runs

-- the place of a frame's data in its eleven bytes: behind the identifier (2) and the length
abbrev pub data_from : ℕ
data_from = 3

abbrev pub upload_status : List ℕ
upload_status = 0x40 ∷ 0x41 ∷ 0x60 ∷ 0x00 ∷ 0x00 ∷ 0x00 ∷ 0x00 ∷ 0x00 ∷ []

abbrev pub SameStatusWord : Type 0
SameStatusWord = (r : Run) (k : Step) (t n : ℕ) (xs ys : List Row) (o : List ℕ) → octets k.call ≡ true → In t transmitters →
    output_length ≤ length o →
    let u = does k (reached r) in
    let a = left k (reached r) in
    works a.state.node.nmt a.dictionary (each_way + t) ≡ true → mapped a.dictionary (each_way + t) ≡ xs ++ status_word ∷ ys →
    n < u.frames → part 0 2 (frame_at n u.output) ≡ bytes 2 (frame_identifier (read a.dictionary (identifier (each_way + t)))) →
    does (requested upload_status o a) a
    ≡ only_sends (says a
    (0x4B ∷ 0x41 ∷ 0x60 ∷ 0x00 ∷ part (data_from + mapped_length xs) 2 (frame_at n u.output) ++ (0x00 ∷ 0x00 ∷ [])) ∷ []) (nothing_runs a) o

-- "set-points taken twice because somebody looked at the level of a bit and missed its edge": by counting, so that one which is taken again
-- with the same numbers counts too

abbrev pub points : Store → List SetPoint
points Empty = []
points (Rested t) = []
points (Moving a) = a ∷ []
points (Queued a b) = a ∷ b ∷ []

-- the set-points that are held where a run stands
abbrev pub held_at : Stand → List SetPoint
held_at a = points a.state.axis.drive.store

-- 6040h after a write, where that word stood before it
abbrev pub word_after : ℕ → Write → ℕ
word_after word w = cond (same control_word w.row) w.value word

-- 1 where bit 4 rose
abbrev pub rise : ℕ → ℕ → ℕ
rise old word = cond (not (bit new_set_point_bit old) && bit new_set_point_bit word) 1 0

-- how often bit 4 of 6040h rises along those writes, in order, where that word stood before them
unfoldable pub edges : ℕ → List Write → ℕ
edges word [] = 0
edges word (w ∷ ws) = rise word (word_after word w) + edges (word_after word w) ws

-- .. and along the writes of those calls: 6040h written twice by one call counts along both
unfoldable pub edges_in : List Step → Stand → ℕ
edges_in [] a = 0
edges_in (k ∷ ks) a = edges (read a.dictionary control_word) (writes_of (decided_at k a)) + edges_in ks (left k a)

-- event 6
abbrev pub is_reached : Option Event → Bool
is_reached bad_event = false
is_reached (event started) = false
is_reached (event quick_stop_done) = false
is_reached (event reaction_done) = false
is_reached (event set_point_reached) = true
is_reached (event tick) = false
is_reached (event cause_gone) = false
is_reached (event (fault code register)) = false
is_reached (event (feedback at speed)) = false
is_reached (event (voltage b)) = false

abbrev pub tells_reached : Call → Bool
tells_reached (power_up_call n) = false
tells_reached (frame_call i bs) = false
tells_reached (event_call k xs) = is_reached (event_of k xs)
tells_reached (load_call f) = false

abbrev pub is_accepted : Decision → Bool
is_accepted (refuses x) = false
is_accepted (performs e) = true

-- how many of those calls are an accepted event 6
unfoldable pub reached_in : List Step → Stand → ℕ
reached_in [] a = 0
reached_in (k ∷ ks) a = cond (is_accepted (decided_at k a) && tells_reached k.call) 1 0 + reached_in ks (left k a)

-- from the set-points held before to those held now: some were taken behind them, one at the most for each edge, and of all these the first
-- ones are gone, one at the least for each that was reached
pub record Passed (edges reached : ℕ) (before now : List SetPoint) : Type 0 where
  pub taken : List SetPoint
  pub gone : ℕ
  pub rest : now ≡ drop gone (before ++ taken)
  pub few : length taken ≤ edges
  pub counted : reached ≤ gone
  pub inside : gone ≤ length (before ++ taken)

abbrev pub OneEdgeTakesOne : Type 0
OneEdgeTakesOne = (r : Run) (ks : List Step) → AllOctets ks →
    Passed (edges_in ks (reached r)) (reached_in ks (reached r)) (held_at (reached r)) (held_at (after ks (reached r)))

-- so that since power-up the set-points reached and those held are never more than the edges
abbrev pub NeverMoreThanEdges : Type 0
NeverMoreThanEdges = (r : Run) → reached_in r.steps (begun r) + length (held_at (reached r)) ≤ edges_in r.steps (begun r)

-- the call writes no 6040h with bit 4 zero
abbrev pub keeps_bit_four : Step → Stand → Bool
keeps_bit_four k a = all (λ w. not (same control_word w.row) || bit new_set_point_bit w.value) (writes_of (decided_at k a))

-- bit 4 of 6040h is 1 before each of these calls, and none of them writes it zero
unfoldable pub HoldsBitFour : List Step → Stand → Type 0
HoldsBitFour [] a = Unit
HoldsBitFour (k ∷ ks) a = (bit new_set_point_bit (read a.dictionary control_word) ≡ true) × (keeps_bit_four k a ≡ true) × HoldsBitFour ks (left k a)

-- while bit 4 stays 1, over any calls, no set-point is taken, not even with the same numbers: those held are the last ones of those before, and
-- every one that was reached is gone
abbrev pub HeldBitTakesNothing : Type 0
HeldBitTakesNothing = (r : Run) (ks : List Step) → AllOctets ks → HoldsBitFour ks (reached r) →
    (n : ℕ) × (held_at (after ks (reached r)) ≡ drop n (held_at (reached r))) × (reached_in ks (reached r) ≤ n) × (n ≤ length (held_at (reached r)))

-- ---- ticket 1, segments: "Demand 2 reads the transfer in progress as part of the state."

-- "A new initiate, any abort, 82h or leaving the NMT states that serve SDO ends a running transfer": what is in progress after a call, of every
-- state. A request makes of it ..
abbrev pub after_sent : Transfer → List ℕ → Transfer
after_sent NoTransfer rq = NoTransfer
after_sent (Uploading k) rq = NoTransfer
after_sent (Downloading g) rq =
    cond (beq (toggle_of rq) g.toggle && not (is_last rq)) (Downloading (turned (gathered g (carried rq)))) NoTransfer

abbrev pub after_asked : Transfer → List ℕ → Transfer
after_asked NoTransfer rq = NoTransfer
after_asked (Uploading k) rq = cond (beq (toggle_of rq) (toggle_at k)) (next_of k) NoTransfer
after_asked (Downloading g) rq = NoTransfer

abbrev pub after_upload : Found → Transfer
after_upload (found x) = NoTransfer
after_upload the_name = Uploading 0
after_upload no_object = NoTransfer
after_upload no_subindex = NoTransfer

abbrev pub after_request : Command → List ℕ → Transfer → Transfer
after_request download rq t = NoTransfer
after_request download_by_segments rq t = Downloading (nothing_yet (object_of rq))
after_request download_segment rq t = after_sent t rq
after_request upload rq t = after_upload (sought (object_of rq))
after_request upload_segment rq t = after_asked t rq
after_request client_abort rq t = NoTransfer
after_request unknown rq t = NoTransfer

-- .. an NMT command to this node ..
abbrev pub after_command : NmtCommand → Transfer → Transfer
after_command start t = t
after_command stop t = NoTransfer
after_command enter_pre_operational t = t
after_command reset_node t = NoTransfer
after_command reset_communication t = NoTransfer
after_command unknown_nmt t = t

-- .. and nothing else touches it: no other frame, no request of another length or while Stopped, no event, no load
unfoldable pub after_frame : ℕ → List ℕ → State → Transfer
after_frame i bs s =
    cond (eqb i nmt_identifier)
    (cond (eqb (length bs) nmt_length && (eqb (get_or bs 1 0) every_node || eqb (get_or bs 1 0) s.node.id))
    (after_command (nmt_command_of (get_or bs 0 0)) s.transfer) s.transfer)
    (cond (eqb i (request_base + s.node.id) && eqb (length bs) request_length && not (is_stopped s.node.nmt))
    (after_request (command_in bs) bs s.transfer) s.transfer)

abbrev pub after_call : Call → State → Transfer
after_call (power_up_call n) s = NoTransfer
after_call (frame_call i bs) s = after_frame i bs s
after_call (event_call k xs) s = s.transfer
after_call (load_call f) s = s.transfer

abbrev pub EndsTransfers : Type 0
EndsTransfers = (k : Step) (a : Stand) → (does k a).refusal ≡ Accepted → (does k a).state.transfer ≡ after_call k.call a.state

-- "before anything is stored": an initiate, and a segment that is not the last, leave the dictionary, and the state but for the transfer, as they
-- were
abbrev pub is_before_last : Command → List ℕ → Bool
is_before_last download rq = false
is_before_last download_by_segments rq = true
is_before_last download_segment rq = not (is_last rq)
is_before_last upload rq = false
is_before_last upload_segment rq = false
is_before_last client_abort rq = false
is_before_last unknown rq = false

abbrev pub NothingBeforeTheLast : Type 0
NothingBeforeTheLast = (r : Run) (rq o : List ℕ) → is_before_last (command_in rq) rq ≡ true →
    nothing_runs (left (requested rq o (reached r)) (reached r)) ≡ nothing_runs (reached r)

-- "A download is checked as an expedited one is, in 01's order, at its last segment": the last segment in turn, and an expedited write of all the
-- bytes to the same object from where the run stands, its size told, ..
pub record SameWrite (g : Receipt) (last rq : List ℕ) : Type 0 where
  pub is_last_segment : command_in last ≡ download_segment
  pub in_turn : toggle_of last ≡ g.toggle
  pub ends : is_last last ≡ true
  pub is_expedited : command_in rq ≡ download
  pub told : bit size_told_bit (command_byte rq) ≡ true
  pub same_object : object_of rq ≡ object_in g
  pub same_size : data_size - unused_bytes (command_byte rq) ≡ (gathered g (carried last)).count
  pub same_bytes : part data_place (gathered g (carried last)).count rq ≡ take (gathered g (carried last)).count (bytes_in (gathered g (carried last)))

-- .. leave the same dictionary and state, with nothing running, and the same frames behind the reply; refused they are one and the same answer
pub record SameBehindReply (v : Verdict) (u w : Outcome) : Type 0 where
  pub refusal : u.refusal ≡ w.refusal
  pub state : u.state ≡ w.state
  pub dictionary : u.dictionary ≡ w.dictionary
  pub frames : u.frames ≡ w.frames
  pub behind : drop frame_size u.output ≡ drop frame_size w.output
  pub refused : is_good v ≡ false → u ≡ w

abbrev pub SegmentsWriteAsExpedited : Type 0
SegmentsWriteAsExpedited = (r : Run) (g : Receipt) (last rq o : List ℕ) → (reached r).state.transfer ≡ Downloading g →
    Heard last o (reached r) → Heard rq o (reached r) → SameWrite g last rq →
    SameBehindReply (verdict_at rq (reached r)) (does (requested last o (reached r)) (reached r)) (does (requested rq o (reached r)) (reached r))

-- the bytes of all segments: after an initiate and any segments in turn, from 0 on, what is kept is their bytes joined, of which four are kept and
-- more than four are counted as five

-- requests in a row, each to the node as the one before left it
unfoldable pub after_requests : List (List ℕ) → List ℕ → Stand → Stand
after_requests [] o a = a
after_requests (rq ∷ rqs) o a = after_requests rqs o (left (requested rq o a) a)

-- those of one command, of eight bytes, whose toggles alternate from that one on
unfoldable pub InTurn : Command → Bool → List (List ℕ) → Type 0
InTurn c b [] = Unit
InTurn c b (rq ∷ rqs) = (length rq ≡ request_length) × (command_in rq ≡ c) × (toggle_of rq ≡ b) × InTurn c (not b) rqs

pub record Gathers (object bs : List ℕ) (t : Transfer) : Type 0 where
  pub receipt : Receipt
  pub is : t ≡ Downloading receipt
  pub object_kept : object_in receipt ≡ object
  pub counted : receipt.count ≡ cond (ltb (length bs) too_many) (length bs) too_many
  pub kept : bytes_in receipt ≡ padded 0 data_size bs

abbrev pub SegmentsJoin : Type 0
SegmentsJoin = (r : Run) (first o : List ℕ) (rqs : List (List ℕ)) → Heard first o (reached r) → command_in first ≡ download_by_segments →
    InTurn download_segment false rqs → any is_last rqs ≡ false →
    Gathers (object_of first) (flat_map carried rqs) (after_requests (first ∷ rqs) o (reached r)).state.transfer

-- "Toggle bits must alternate": of two segments of one direction and one toggle the second is not taken, whatever calls that leave the transfer come
-- between them
abbrev pub is_segment : Command → Bool
is_segment download = false
is_segment download_by_segments = false
is_segment download_segment = true
is_segment upload = false
is_segment upload_segment = true
is_segment client_abort = false
is_segment unknown = false

abbrev pub TogglesAlternate : Type 0
TogglesAlternate = (r : Run) (rq rq' o : List ℕ) (ks : List Step) → Heard rq o (reached r) → is_segment (command_in rq) ≡ true →
    command_in rq' ≡ command_in rq → toggle_of rq' ≡ toggle_of rq → verdict_at rq (reached r) ≡ good →
    let a = left (requested rq o (reached r)) (reached r) in
    (after ks a).state.transfer ≡ a.state.transfer → verdict_at rq' (after ks a) ≡ good → ⊥

-- the segments answered for 1008h, joined, are the name, and then nothing runs

-- the eight bytes of the reply to each of those requests
unfoldable pub replies_to : List (List ℕ) → List ℕ → Stand → List (List ℕ)
replies_to [] o a = []
replies_to (rq ∷ rqs) o a = part data_from most_data (frame_at 0 (does (requested rq o a) a).output) ∷ replies_to rqs o (left (requested rq o a) a)

-- how many segments the name has
unfoldable pub name_segments : ℕ
name_segments = (length device_name + (segment_size - 1)) / segment_size

abbrev pub NameBySegments : Type 0
NameBySegments = (r : Run) (first o : List ℕ) (rqs : List (List ℕ)) → Heard first o (reached r) → command_in first ≡ upload →
    object_of first ≡ name_object → InTurn upload_segment false rqs → length rqs ≡ name_segments →
    let a = left (requested first o (reached r)) (reached r) in
    (flat_map carried (replies_to rqs o a) ≡ device_name) × ((after_requests rqs o a).state.transfer ≡ NoTransfer)

-- opens every definition of this module, where a proof computes
unfoldable pub open_promises : Unit {0}
unfolding after AllOctets object_verdict segment_verdict asked_verdict sent_verdict verdict_on by_pdo by_sync applies written by_nmt by_frame may_change laid
    edges edges_in reached_in HoldsBitFour
    after_frame after_requests InTurn replies_to name_segments
open_promises = tt
