-- Document 01, 'SDO': a request and its replies, what a download offers an object and what it does. Ticket 1 downloads by segments, and what
-- these bring is offered and done here as well.
-- Assumes nothing.
use Rattle.std.specs.Prelude.{ℕ, ◌+◌, ◌-◌, List, [], ◌∷◌, ◌++◌, Bool, false, cond, not, ◌||◌, eqb, ltb, get_or}
use Rattle.state.specs.declared.NmtState.{NmtState}
use Rattle.state.specs.declared.State.{State}
use Rattle.rules_dictionary.specs.Numbers.{bit, bits, bytes, value, part}
use Rattle.rules_dictionary.specs.declared.Role.{Role}
use Rattle.rules_dictionary.specs.declared.Role.TheVariants.{Plain, ModeOfOperation, MinimumLimit, MaximumLimit, PdoIdentifier, PdoType}
use Rattle.rules_dictionary.specs.declared.Role.TheVariants.{MappingCount, MappingEntry}
use Rattle.rules_dictionary.specs.Table.{Row, ValueType, u8, u16, u32, i8, i32, is_writable, size_of, identifier, map_count, Found, found, the_name}
use Rattle.rules_dictionary.specs.Table.{no_object as missing, no_subindex as missing_subindex, lookup}
use Rattle.rules_dictionary.specs.Values.{read, write}
use Rattle.rules_dictionary.specs.Aborts.{Abort, abort_code, Verdict, good, bad, test, first_firing, no_object, no_subindex, no_writing}
use Rattle.rules_dictionary.specs.Aborts.{too_long, too_short, wrong_time}
use Rattle.rules_dictionary.specs.Legal.{value_verdict, is_valid}
use Rattle.state.specs.NmtStates.{is_pre_operational}
use Rattle.rules_services.specs.Effects.{Effect, Frame, frame, becomes, sends}
use Rattle.rules_services.specs.Written.{applied}

abbrev pub request_base : ℕ
request_base = 0x600

abbrev pub reply_base : ℕ
reply_base = 0x580

abbrev pub request_length : ℕ
request_length = 8

-- ---- the request: command byte, index, subindex, four data bytes

abbrev pub command_byte : List ℕ → ℕ
command_byte rq = get_or rq 0 0

abbrev pub object_place : ℕ
object_place = 1

abbrev pub object_size : ℕ
object_size = 3

-- the object that it names: index and subindex, three bytes
abbrev pub object_of : List ℕ → List ℕ
object_of rq = part object_place object_size rq

abbrev pub index_place : ℕ
index_place = 0

abbrev pub index_size : ℕ
index_size = 2

abbrev pub subindex_place : ℕ
subindex_place = 2

abbrev pub index_in : List ℕ → ℕ
index_in o = value (part index_place index_size o)

abbrev pub subindex_in : List ℕ → ℕ
subindex_in o = get_or o subindex_place 0

-- what stands there
abbrev pub sought : List ℕ → Found
sought o = lookup (index_in o) (subindex_in o)

abbrev pub data_place : ℕ
data_place = 4

abbrev pub data_size : ℕ
data_size = 4

-- ---- what a download offers an object: how many bytes, and the value of as many as the object has

pub record Offer : Type 0 where
  pub row : Row
  pub size : ℕ
  pub value : ℕ

-- ---- an expedited download

-- the size is told
abbrev pub size_told_bit : ℕ
size_told_bit = 0

-- bits 3-2: how many of the four data bytes hold nothing
abbrev pub unused_bytes : ℕ → ℕ
unused_bytes c = bits 2 4 c

-- "with bit 0 set the size is 4 minus bits 3-2, else the object's"
unfoldable pub told_size : List ℕ → Row → ℕ
told_size rq x = cond (bit size_told_bit (command_byte rq)) (data_size - unused_bytes (command_byte rq)) (size_of x)

-- the value: the object's size, first bytes
unfoldable pub asked_value : List ℕ → Row → ℕ
asked_value rq x = value (part data_place (size_of x) rq)

abbrev pub expedited : List ℕ → Row → Offer
expedited rq x = record { row = x; size = told_size rq x; value = asked_value rq x }

-- ---- replies on 580h+N: "Index and subindex are echoed, unused bytes zero."

unfoldable pub reply : ℕ → List ℕ → State → List ℕ → List Frame
reply c o s content = frame (reply_base + s.node.id) (c ∷ o ++ content) ∷ []

abbrev pub downloaded : ℕ
downloaded = 0x60

abbrev pub aborted : ℕ
aborted = 0x80

-- "4Fh, 4Bh, 43h for 1, 2, 4 bytes"
abbrev pub uploaded : ValueType → ℕ
uploaded u8 = 0x4F
uploaded u16 = 0x4B
uploaded u32 = 0x43
uploaded i8 = 0x4F
uploaded i32 = 0x43

-- ---- "Wrong time: 14xx, 18xx and mappings outside Pre-operational; mappings while that PDO is valid; entries while :0 is not 0."

unfoldable pub is_wrong_time : NmtState → List ℕ → Role → Bool
is_wrong_time nmt d Plain = false
is_wrong_time nmt d ModeOfOperation = false
is_wrong_time nmt d MinimumLimit = false
is_wrong_time nmt d MaximumLimit = false
is_wrong_time nmt d (PdoIdentifier p) = not (is_pre_operational nmt)
is_wrong_time nmt d (PdoType p) = not (is_pre_operational nmt)
is_wrong_time nmt d (MappingCount p) = not (is_pre_operational nmt) || is_valid (read d (identifier p))
is_wrong_time nmt d (MappingEntry p) = not (is_pre_operational nmt) || is_valid (read d (identifier p)) || not (eqb (read d (map_count p)) 0)

-- "download to c or o 06010002h; longer 06070012h, shorter 06070013h; wrong time 08000022h;" and then the value's own tests
unfoldable pub offer_verdict : NmtState → List ℕ → Offer → Verdict
offer_verdict nmt d t =
    let x = t.row in
    first_firing
    (test (not (is_writable x.access)) no_writing
    ∷ test (ltb (size_of x) t.size) too_long
    ∷ test (ltb t.size (size_of x)) too_short
    ∷ test (is_wrong_time nmt d x.role) wrong_time
    ∷ [])
    (value_verdict d x t.value)

-- ---- the services, on the object of those three bytes

unfoldable pub abort : Abort → List ℕ → State → Effect
abort a o s = sends (reply aborted o s (bytes data_size (abort_code a))) (becomes s)

-- ---- a download, by whatever it comes: it is taken, and this is its effect, or aborted

pub data Judgement : Type 0 where
  takes : Effect → Judgement
  aborts : Abort → Judgement

-- what is offered is stored and acted on
unfoldable pub judged : Verdict → Offer → State → List ℕ → Judgement
judged good t s d = takes (applied (write t.row t.value ∷ []) s d)
judged (bad a) t s d = aborts a

-- "no object 06020000h; no subindex 06090011h; download to c .. 06010002h": by what it offers a row
unfoldable pub download : (Row → Offer) → Found → State → List ℕ → Judgement
download offer (found x) s d = judged (offer_verdict s.node.nmt d (offer x)) (offer x) s d
download offer the_name s d = aborts no_writing
download offer missing s d = aborts no_object
download offer missing_subindex s d = aborts no_subindex

-- ---- a download by SDO, with its reply before all else where it is taken

unfoldable pub with_reply : List Frame → List ℕ → State → Judgement → Effect
with_reply said o s (takes e) = sends said e
with_reply said o s (aborts a) = abort a o s

unfoldable pub downloads : List Frame → List ℕ → (Row → Offer) → Found → State → List ℕ → Effect
downloads said o offer f s d = with_reply said o s (download offer f s d)

-- opens every definition of this module, where a proof computes
unfoldable pub open_sdo : Unit {0}
unfolding told_size asked_value reply is_wrong_time offer_verdict abort judged download with_reply downloads
open_sdo = tt
