-- The state as bytes of one length: each number as wide as its type and low byte first, each enum by its number, each flag as 0 or 1.
-- In this order: the node, the transfer, the drive, the ready and the held frames, what is kept of the transmit PDOs, and the plans.
-- Assumes nothing.
use Rattle.std.specs.Prelude.{ℕ, zero, suc, ◌+◌, ◌*◌, ◌/◌, ◌%◌, ◌^◌, ◌≡◌, Bool, true, false, cond, List, [], ◌∷◌, ◌++◌, eqb, get_or, drop}
use Rattle.rules_dictionary.specs.declared.Move.{Move}
use Rattle.rules_dictionary.specs.declared.Plan.{Plan}
use Rattle.rules_dictionary.specs.declared.PdoData.{PdoData}
use Rattle.drive.specs.declared.DriveState.{DriveState}
use Rattle.drive.specs.declared.DriveState.TheVariants.{NotReady, SwitchOnDisabled, ReadyToSwitchOn, SwitchedOn, OperationEnabled}
use Rattle.drive.specs.declared.DriveState.TheVariants.{QuickStopActive, FaultReactionActive, Fault}
use Rattle.drive.specs.declared.SetPoint.{SetPoint}
use Rattle.drive.specs.declared.Store.{Store}
use Rattle.drive.specs.declared.Store.TheVariants.{Empty, Rested, Moving, Queued}
use Rattle.drive.specs.declared.Drive.{Drive}
use Rattle.state.specs.declared.NmtState.{NmtState}
use Rattle.state.specs.declared.NmtState.TheVariants.{PreOperational, Operational, Stopped}
use Rattle.state.specs.declared.Node.{Node}
use Rattle.state.specs.declared.Pace.{Pace}
use Rattle.state.specs.declared.Receipt.{Receipt}
use Rattle.state.specs.declared.Transfer.{Transfer}
use Rattle.state.specs.declared.Transfer.TheVariants.{NoTransfer, Uploading, Downloading}
use Rattle.state.specs.declared.State.{State}
use Rattle.rules_dictionary.specs.Numbers.{value, bytes, part}
use Rattle.rules_dictionary.specs.Table.{each_way, most_moves}
use Rattle.rules_dictionary.specs.Legal.{mode_number}
use Rattle.drive.specs.SetPoints.{mode_of}
use Rattle.rules_services.specs.Sdo.{data_size}
use Rattle.rules_services.specs.Segments.{object_in, bytes_in}
use Rattle.rules.specs.Outcome.{same_by, most_data}

-- ---- enums and flags by number; what is no number of theirs reads as the last one, or as false

abbrev pub flag_number : Bool → ℕ
flag_number true = 1
flag_number false = 0

abbrev pub flag_of : ℕ → Bool
flag_of b = eqb b 1

abbrev pub nmt_number : NmtState → ℕ
nmt_number PreOperational = 0
nmt_number Operational = 1
nmt_number Stopped = 2

abbrev pub nmt_of : ℕ → NmtState
nmt_of b = cond (eqb b 0) PreOperational (cond (eqb b 1) Operational Stopped)

abbrev pub state_number : DriveState → ℕ
state_number NotReady = 0
state_number SwitchOnDisabled = 1
state_number ReadyToSwitchOn = 2
state_number SwitchedOn = 3
state_number OperationEnabled = 4
state_number QuickStopActive = 5
state_number FaultReactionActive = 6
state_number Fault = 7

abbrev pub drive_state_of : ℕ → DriveState
drive_state_of b =
    cond (eqb b 0) NotReady
    (cond (eqb b 1) SwitchOnDisabled
    (cond (eqb b 2) ReadyToSwitchOn
    (cond (eqb b 3) SwitchedOn
    (cond (eqb b 4) OperationEnabled
    (cond (eqb b 5) QuickStopActive
    (cond (eqb b 6) FaultReactionActive Fault))))))

-- ---- rows of things in bytes

-- what is read at each of so many places, one width apart
abbrev pub each {ℓ} : {A : Type ℓ} → ℕ → ℕ → ℕ → (ℕ → A) → List A
each zero place width f = []
each (suc n) place width f = f place ∷ each n (place + width) width f

-- the forms of all, one after another
abbrev pub joined {ℓ} : {A : Type ℓ} → (A → List ℕ) → List A → List ℕ
joined f [] = []
joined f (x ∷ xs) = f x ++ joined f xs

-- ---- words

-- the bytes of a word
abbrev pub word_length : ℕ
word_length = 4

-- the word at a place
abbrev pub word_at : ℕ → List ℕ → ℕ
word_at place bs = value (part place word_length bs)

-- ---- the node: node-ID, NMT state, voltage flag, heartbeat count

-- where its parts stand, counted from its first byte
abbrev pub nmt_offset : ℕ
nmt_offset = 1

abbrev pub voltage_offset : ℕ
voltage_offset = nmt_offset + 1

abbrev pub heartbeat_offset : ℕ
heartbeat_offset = voltage_offset + 1

abbrev pub node_length : ℕ
node_length = heartbeat_offset + 2

unfoldable pub node_form : Node → List ℕ
node_form n = n.id ∷ nmt_number n.nmt ∷ flag_number n.voltage ∷ bytes 2 n.heartbeat

unfoldable pub node_at : ℕ → List ℕ → Node
node_at place bs =
    record {
      id = get_or bs place 0;
      nmt = nmt_of (get_or bs (place + nmt_offset) 0);
      voltage = flag_of (get_or bs (place + voltage_offset) 0);
      heartbeat = value (part (place + heartbeat_offset) 2 bs);
    }

-- ---- the transfer: its kind and the bytes of a receipt: count, object, toggle, and the first bytes that came

-- where a receipt's parts stand, counted from its count
abbrev pub object_offset : ℕ
object_offset = 1

abbrev pub subindex_offset : ℕ
subindex_offset = object_offset + 2

abbrev pub toggle_offset : ℕ
toggle_offset = subindex_offset + 1

abbrev pub received_offset : ℕ
received_offset = toggle_offset + 1

-- the words behind its count, and its bytes
abbrev pub receipt_words : ℕ
receipt_words = 2

abbrev pub receipt_length : ℕ
receipt_length = received_offset + data_size

unfoldable pub receipt_form : Receipt → List ℕ
receipt_form g = g.count ∷ object_in g ++ flag_number g.toggle ∷ bytes_in g

unfoldable pub receipt_at : ℕ → List ℕ → Receipt
receipt_at place bs =
    record {
      low = get_or bs (place + object_offset) 0;
      high = get_or bs (place + object_offset + 1) 0;
      subindex = get_or bs (place + subindex_offset) 0;
      toggle = flag_of (get_or bs (place + toggle_offset) 0);
      count = get_or bs place 0;
      first = get_or bs (place + received_offset) 0;
      second = get_or bs (place + received_offset + 1) 0;
      third = get_or bs (place + received_offset + 2) 0;
      fourth = get_or bs (place + received_offset + 3) 0;
    }

abbrev pub transfer_kind : Transfer → ℕ
transfer_kind NoTransfer = 0
transfer_kind (Uploading k) = 1
transfer_kind (Downloading g) = 2

-- what stands in the receipt's bytes: of an upload the segment that is due, as the count; bytes that a kind of transfer does not use are zero
abbrev pub stepping : ℕ → Receipt
stepping k =
    record { low = 0; high = 0; subindex = 0; toggle = false; count = k; first = 0; second = 0; third = 0; fourth = 0 }

abbrev pub receipt_of : Transfer → Receipt
receipt_of NoTransfer = stepping 0
receipt_of (Uploading k) = stepping k
receipt_of (Downloading g) = g

-- where the receipt stands, counted from the transfer's first byte
abbrev pub step_offset : ℕ
step_offset = 1

abbrev pub transfer_length : ℕ
transfer_length = step_offset + receipt_length

unfoldable pub transfer_form : Transfer → List ℕ
transfer_form t = transfer_kind t ∷ receipt_form (receipt_of t)

unfoldable pub transfer_at : ℕ → List ℕ → Transfer
transfer_at place bs =
    cond (eqb (get_or bs place 0) 0) NoTransfer
    (cond (eqb (get_or bs place 0) 1) (Uploading (get_or bs (place + step_offset) 0)) (Downloading (receipt_at (place + step_offset) bs)))

-- ---- the drive: state, mode, taken, limit and cause marks, the ticks inside the window, and the store: its kind and the bytes of two set-points

-- where a set-point's numbers stand behind its target, counted from there
abbrev pub velocity_offset : ℕ
velocity_offset = word_length

abbrev pub acceleration_offset : ℕ
acceleration_offset = velocity_offset + word_length

abbrev pub deceleration_offset : ℕ
deceleration_offset = acceleration_offset + word_length

-- its words, those behind the target among them, and its bytes
abbrev pub numbers_behind : ℕ
numbers_behind = 3

abbrev pub set_point_words : ℕ
set_point_words = 1 + numbers_behind

abbrev pub set_point_length : ℕ
set_point_length = set_point_words * word_length

unfoldable pub set_point_form : SetPoint → List ℕ
set_point_form p =
    bytes word_length p.target
    ++ (bytes word_length p.velocity ++ (bytes word_length p.acceleration ++ bytes word_length p.deceleration))

unfoldable pub set_point_at : ℕ → List ℕ → SetPoint
set_point_at place bs =
    record {
      target = word_at place bs;
      velocity = word_at (place + velocity_offset) bs;
      acceleration = word_at (place + acceleration_offset) bs;
      deceleration = word_at (place + deceleration_offset) bs;
    }

abbrev pub store_length : ℕ
store_length = 1 + 2 * set_point_length

abbrev pub store_kind : Store → ℕ
store_kind Empty = 0
store_kind (Rested t) = 1
store_kind (Moving a) = 2
store_kind (Queued a b) = 3

-- what stands in the two set-points' bytes; bytes that a kind of store does not use are zero
abbrev pub resting : ℕ → SetPoint
resting t = record { target = t; velocity = 0; acceleration = 0; deceleration = 0 }

abbrev pub first_set_point : Store → SetPoint
first_set_point Empty = resting 0
first_set_point (Rested t) = resting t
first_set_point (Moving a) = a
first_set_point (Queued a b) = a

abbrev pub second_of : Store → SetPoint
second_of Empty = resting 0
second_of (Rested t) = resting 0
second_of (Moving a) = resting 0
second_of (Queued a b) = b

unfoldable pub store_form : Store → List ℕ
store_form s = store_kind s ∷ set_point_form (first_set_point s) ++ set_point_form (second_of s)

unfoldable pub store_at : ℕ → List ℕ → Store
store_at place bs =
    cond (eqb (get_or bs place 0) 0) Empty
    (cond (eqb (get_or bs place 0) 1) (Rested (word_at (place + 1) bs))
    (cond (eqb (get_or bs place 0) 2) (Moving (set_point_at (place + 1) bs))
    (Queued (set_point_at (place + 1) bs) (set_point_at (place + 1 + set_point_length) bs))))

-- where the drive's parts stand, counted from its first byte
abbrev pub mode_offset : ℕ
mode_offset = 1

abbrev pub taken_offset : ℕ
taken_offset = mode_offset + 1

abbrev pub limit_offset : ℕ
limit_offset = taken_offset + 1

abbrev pub cause_offset : ℕ
cause_offset = limit_offset + 1

-- how many marks there are, one behind another
abbrev pub drive_marks : ℕ
drive_marks = 3

abbrev pub stay_offset : ℕ
stay_offset = taken_offset + drive_marks

abbrev pub store_offset : ℕ
store_offset = stay_offset + 2

abbrev pub drive_length : ℕ
drive_length = store_offset + store_length

unfoldable pub drive_form : Drive → List ℕ
drive_form v =
    state_number v.state ∷ mode_number v.mode ∷ flag_number v.taken ∷ flag_number v.limit ∷ flag_number v.cause
    ∷ bytes 2 v.stay ++ store_form v.store

unfoldable pub drive_at : ℕ → List ℕ → Drive
drive_at place bs =
    record {
      state = drive_state_of (get_or bs place 0);
      mode = mode_of (get_or bs (place + mode_offset) 0);
      store = store_at (place + store_offset) bs;
      taken = flag_of (get_or bs (place + taken_offset) 0);
      limit = flag_of (get_or bs (place + limit_offset) 0);
      cause = flag_of (get_or bs (place + cause_offset) 0);
      stay = value (part (place + stay_offset) 2 bs);
    }

-- ---- the data of a PDO: its length and eight bytes

abbrev pub data_length : ℕ
data_length = 1 + most_data

unfoldable pub data_form : PdoData → List ℕ
data_form r = r.length ∷ r.bytes

abbrev pub data_at : ℕ → List ℕ → PdoData
data_at place bs = record { length = get_or bs place 0; bytes = each most_data (place + 1) 1 (λ i. get_or bs i 0) }

-- ---- what is kept of a transmit PDO: its SYNC count and its due mark

-- where the mark stands, counted from the count
abbrev pub due_offset : ℕ
due_offset = 1

abbrev pub pace_length : ℕ
pace_length = due_offset + 1

unfoldable pub pace_form : Pace → List ℕ
pace_form p = p.count ∷ flag_number p.due ∷ []

abbrev pub pace_at : ℕ → List ℕ → Pace
pace_at place bs = record { count = get_or bs place 0; due = flag_of (get_or bs (place + due_offset) 0) }

-- ---- a plan: its count and eight moves, each a word: the place in its low half, then the size, and a zero byte

abbrev pub move_length : ℕ
move_length = word_length

abbrev pub half : ℕ
half = 2 ^ 16

unfoldable pub move_form : Move → List ℕ
move_form m = bytes word_length (m.place + half * m.size)

abbrev pub move_of : ℕ → Move
move_of word = record { place = word % half; size = word / half % 256 }

unfoldable pub move_at : ℕ → List ℕ → Move
move_at place bs = move_of (word_at place bs)

abbrev pub plan_length : ℕ
plan_length = 1 + most_moves * move_length

unfoldable pub plan_form : Plan → List ℕ
plan_form p = p.count ∷ joined move_form p.moves

unfoldable pub plan_at : ℕ → List ℕ → Plan
plan_at place bs = record { count = get_or bs place 0; moves = each most_moves (place + 1) move_length (λ i. move_at i bs) }

-- ---- the whole

-- where the parts stand
abbrev pub node_place : ℕ
node_place = 0

abbrev pub transfer_place : ℕ
transfer_place = node_place + node_length

abbrev pub drive_place : ℕ
drive_place = transfer_place + transfer_length

abbrev pub store_place : ℕ
store_place = drive_place + store_offset

abbrev pub ready_place : ℕ
ready_place = drive_place + drive_length

abbrev pub held_place : ℕ
held_place = ready_place + each_way * data_length

abbrev pub paces_place : ℕ
paces_place = held_place + each_way * data_length

abbrev pub plans_place : ℕ
plans_place = paces_place + each_way * pace_length

abbrev pub plan_place : ℕ → ℕ
plan_place p = plans_place + plan_length * p

abbrev pub state_length : ℕ
state_length = plans_place + 2 * each_way * plan_length

-- all but the plans
unfoldable pub head_form : State → List ℕ
head_form s =
    node_form s.node ++ (transfer_form s.transfer ++ (drive_form s.axis.drive
    ++ (joined data_form s.axis.ready ++ (joined data_form s.axis.held ++ joined pace_form s.axis.paces))))

-- the byte form of a state
unfoldable pub form : State → List ℕ
form s = head_form s ++ joined plan_form s.axis.plans

-- the state of these plans and parts
abbrev pub with_plans : List Plan → Node → Transfer → Drive → List PdoData → List PdoData → List Pace → State
with_plans plans node transfer drive ready held paces =
    record { node = node; transfer = transfer; axis = record { drive = drive; plans = plans; ready = ready; held = held; paces = paces } }

-- bytes with all but the plans of a state in them: the plans' bytes stay, and the state's plans do not matter
unfoldable pub form_over : List ℕ → State → List ℕ
form_over bs s = head_form s ++ drop plans_place bs

-- the plans' bytes are those of these plans
abbrev pub HoldsPlans : List ℕ → List Plan → Type 0
HoldsPlans bs plans = drop plans_place bs ≡ joined plan_form plans

-- the state that bytes hold, where they hold one
unfoldable pub state_of : List ℕ → State
state_of bs =
    record {
      node = node_at node_place bs;
      transfer = transfer_at transfer_place bs;
      axis = record {
        drive = drive_at drive_place bs;
        plans = each (2 * each_way) plans_place plan_length (λ i. plan_at i bs);
        ready = each each_way ready_place data_length (λ i. data_at i bs);
        held = each each_way held_place data_length (λ i. data_at i bs);
        paces = each each_way paces_place pace_length (λ i. pace_at i bs);
      };
    }

-- the plan that they hold for a PDO
abbrev pub plan_in : List ℕ → ℕ → Plan
plan_in bs p = get_or (state_of bs).axis.plans p (record { count = 0; moves = [] })

-- the ready frame that they hold for a transmit PDO
abbrev pub ready_in : List ℕ → ℕ → PdoData
ready_in bs t = get_or (state_of bs).axis.ready t (record { length = 0; bytes = [] })

-- the held frame that they hold for a receive PDO
abbrev pub held_in : List ℕ → ℕ → PdoData
held_in bs p = get_or (state_of bs).axis.held p (record { length = 0; bytes = [] })

-- are the bytes the form of the state that they hold
unfoldable pub is_form : List ℕ → Bool
is_form bs = same_by eqb (form (state_of bs)) bs
