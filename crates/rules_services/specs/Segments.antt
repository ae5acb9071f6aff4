-- Ticket 1, 'Reading the device name': segmented upload and download. "Demand 2 reads the transfer in progress as part of the state."
-- Assumes nothing.
use Rattle.std.specs.Prelude.{ℕ, suc, ◌+◌, ◌-◌, ◌*◌, ◌^◌, List, [], ◌∷◌, ◌++◌, Bool, false, cond, not, eqb, ltb, leb, length, get_or, take}
use Rattle.std.specs.Bool.{beq}
use Rattle.state.specs.declared.Receipt.{Receipt}
use Rattle.state.specs.declared.Transfer.{Transfer}
use Rattle.state.specs.declared.Transfer.TheVariants.{NoTransfer, Uploading, Downloading}
use Rattle.state.specs.declared.State.{State}
use Rattle.rules_dictionary.specs.Numbers.{bit, bits, bytes, value, part, padded}
use Rattle.rules_dictionary.specs.DeviceName.{name_index, name_subindex, device_name}
use Rattle.rules_dictionary.specs.Table.{Row, size_of}
use Rattle.rules_dictionary.specs.Aborts.{Abort, unknown_command, wrong_toggle}
use Rattle.rules_services.specs.Effects.{Effect, Frame, frame, becomes, sends, with_transfer, without_transfer}
use Rattle.rules_services.specs.Sdo.{command_byte, index_place, index_size, subindex_in, sought, data_size, Offer, reply, reply_base, downloaded}
use Rattle.rules_services.specs.Sdo.{abort, downloads}

-- ---- a segment, either way: toggle in bit 4, 7 minus the bytes carried in bits 3-1, bit 0 at the last, then seven bytes

abbrev pub toggle_bit : ℕ
toggle_bit = 4

abbrev pub last_bit : ℕ
last_bit = 0

abbrev pub segment_place : ℕ
segment_place = 1

abbrev pub segment_size : ℕ
segment_size = 7

-- from this bit up to the toggle, bits 3-1: how many of the seven bytes hold nothing
abbrev pub unused_bit : ℕ
unused_bit = 1

abbrev pub unused_in : ℕ → ℕ
unused_in c = bits unused_bit toggle_bit c

abbrev pub toggle_of : List ℕ → Bool
toggle_of rq = bit toggle_bit (command_byte rq)

abbrev pub is_last : List ℕ → Bool
is_last rq = bit last_bit (command_byte rq)

-- the bytes that it carries
abbrev pub carried : List ℕ → List ℕ
carried rq = part segment_place (segment_size - unused_in (command_byte rq)) rq

-- a bit of a command byte, where it is set
abbrev pub flag : ℕ → Bool → ℕ
flag k b = cond b (2 ^ k) 0

-- ---- "any abort .. ends a running transfer; a segment's abort names its object, zeros if none ran"

abbrev pub nowhere : List ℕ
nowhere = 0x00 ∷ 0x00 ∷ 0x00 ∷ []

abbrev pub name_object : List ℕ
name_object = bytes index_size name_index ++ name_subindex ∷ []

-- the object of a download, and the bytes that came
abbrev pub object_in : Receipt → List ℕ
object_in g = g.low ∷ g.high ∷ g.subindex ∷ []

abbrev pub bytes_in : Receipt → List ℕ
bytes_in g = g.first ∷ g.second ∷ g.third ∷ g.fourth ∷ []

abbrev pub object_run : Transfer → List ℕ
object_run NoTransfer = nowhere
object_run (Uploading k) = name_object
object_run (Downloading g) = object_in g

unfoldable pub unfit : Abort → State → Effect
unfit a s = abort a (object_run s.transfer) (without_transfer s)

-- ---- the upload of 1008h, "read by segments only"

-- 41h, and the length as u32
abbrev pub upload_begun : ℕ
upload_begun = 0x41

unfoldable pub name_asked : List ℕ → State → Effect
name_asked o s = sends (reply upload_begun o s (bytes data_size (length device_name))) (becomes (with_transfer (Uploading 0) s))

-- segment k of the name, from 0 on
abbrev pub segment_of : ℕ → List ℕ
segment_of k = part (k * segment_size) segment_size device_name

abbrev pub is_last_of : ℕ → Bool
is_last_of k = leb (length device_name) (suc k * segment_size)

-- "Toggle bits must alternate": that of segment 0 is 0
abbrev pub toggle_at : ℕ → Bool
toggle_at k = bit 0 k

abbrev pub segment_byte : ℕ → ℕ
segment_byte k = flag toggle_bit (toggle_at k) + 2 ^ unused_bit * (segment_size - length (segment_of k)) + flag last_bit (is_last_of k)

unfoldable pub segment : ℕ → State → List Frame
segment k s = frame (reply_base + s.node.id) (segment_byte k ∷ padded 0 segment_size (segment_of k)) ∷ []

abbrev pub next_of : ℕ → Transfer
next_of k = cond (is_last_of k) NoTransfer (Uploading (suc k))

-- "wrong toggle 05030000h; a segment with no transfer of its direction running, 05040001h", which is looked at first
unfoldable pub segment_asked : Transfer → List ℕ → State → Effect
segment_asked NoTransfer rq s = unfit unknown_command s
segment_asked (Uploading k) rq s =
    cond (beq (toggle_of rq) (toggle_at k)) (sends (segment k s) (becomes (with_transfer (next_of k) s))) (unfit wrong_toggle s)
segment_asked (Downloading g) rq s = unfit unknown_command s

-- ---- "segmented download to any writable object": "a size told in the initiate is ignored"

abbrev pub nothing_yet : List ℕ → Receipt
nothing_yet o =
    record {
      low = get_or o index_place 0;
      high = get_or o (suc index_place) 0;
      subindex = subindex_in o;
      toggle = false;
      count = 0;
      first = 0;
      second = 0;
      third = 0;
      fourth = 0;
    }

unfoldable pub download_begun : List ℕ → State → Effect
download_begun o s = sends (reply downloaded o s (bytes data_size 0)) (becomes (with_transfer (Downloading (nothing_yet o)) s))

-- the bytes of an object are four at the most: more are told apart by the count
abbrev pub too_many : ℕ
too_many = suc data_size

-- one byte more: behind those so far, where there is room
abbrev pub added : Receipt → ℕ → Receipt
added g b =
    record {
      low = g.low;
      high = g.high;
      subindex = g.subindex;
      toggle = g.toggle;
      count = cond (ltb g.count too_many) (suc g.count) g.count;
      first = cond (eqb g.count 0) b g.first;
      second = cond (eqb g.count 1) b g.second;
      third = cond (eqb g.count 2) b g.third;
      fourth = cond (eqb g.count 3) b g.fourth;
    }

unfoldable pub gathered : Receipt → List ℕ → Receipt
gathered g [] = g
gathered g (b ∷ bs) = gathered (added g b) bs

-- the next segment has the other toggle
abbrev pub turned : Receipt → Receipt
turned g =
    record {
      low = g.low;
      high = g.high;
      subindex = g.subindex;
      toggle = not g.toggle;
      count = g.count;
      first = g.first;
      second = g.second;
      third = g.third;
      fourth = g.fourth;
    }

-- 20h or 30h and seven zeros
abbrev pub segment_taken : ℕ
segment_taken = 0x20

unfoldable pub acknowledged : Receipt → State → List Frame
acknowledged g s = reply (segment_taken + flag toggle_bit g.toggle) nowhere s (bytes data_size 0)

-- what all segments offer an object
abbrev pub joined : Receipt → Row → Offer
joined g x = record { row = x; size = g.count; value = value (take (size_of x) (bytes_in g)) }

-- "A download is checked as an expedited one is, in 01's order, at its last segment, before anything is stored": it is the same download
unfoldable pub concluded : Receipt → List ℕ → State → List ℕ → Effect
concluded g bs s d =
    downloads (acknowledged g s) (object_in g) (joined (gathered g bs)) (sought (object_in g)) (without_transfer s) d

-- a segment before it changes nothing but the transfer
unfoldable pub continued : Receipt → List ℕ → State → Effect
continued g bs s = sends (acknowledged g s) (becomes (with_transfer (Downloading (turned (gathered g bs))) s))

unfoldable pub segment_sent : Transfer → List ℕ → State → List ℕ → Effect
segment_sent NoTransfer rq s d = unfit unknown_command s
segment_sent (Uploading k) rq s d = unfit unknown_command s
segment_sent (Downloading g) rq s d =
    cond (beq (toggle_of rq) g.toggle)
    (cond (is_last rq) (concluded g (carried rq) s d) (continued g (carried rq) s))
    (unfit wrong_toggle s)

-- opens every definition of this module, where a proof computes
unfoldable pub open_segments : Unit {0}
unfolding unfit name_asked segment segment_asked download_begun gathered acknowledged concluded continued segment_sent
open_segments = tt
