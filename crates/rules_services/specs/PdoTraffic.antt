-- Document 01, 'PDO traffic': received frames, SYNC, and when a transmit PDO is sent.
-- Assumes nothing.
use Rattle.std.specs.Prelude.{ℕ, suc, List, [], ◌∷◌, map, Bool, true, false, cond, not, ◌&&◌, ◌||◌, eqb, ltb, get_or, length, take, set}
use Rattle.state.specs.declared.NmtState.{NmtState}
use Rattle.state.specs.declared.Occasion.{Occasion}
use Rattle.state.specs.declared.Occasion.TheVariants.{Synced}
use Rattle.state.specs.declared.Pace.{Pace}
use Rattle.state.specs.NmtStates.{is_operational, is_stopped}
use Rattle.state.specs.Occasions.{is_synced}
use Rattle.rules_services.specs.declared.Paced.{Paced}
use Rattle.rules_dictionary.specs.declared.PdoData.{PdoData}
use Rattle.state.specs.declared.State.{State}
use Rattle.rules_dictionary.specs.Numbers.{all, sum}
use Rattle.rules_dictionary.specs.Table.{Row, size_of, identifier, transmission_type, map_count, receive_pdos}
use Rattle.rules_dictionary.specs.Values.{Write, read, unpacked}
use Rattle.rules_dictionary.specs.Legal.{is_valid, frame_identifier, is_synchronous, is_cyclic, may_hold}
use Rattle.rules_dictionary.specs.Plans.{mapped, pdo_data}
use Rattle.rules_services.specs.Effects.{Effect, Frame, frame, becomes, sends, on, and_then, with_held}
use Rattle.rules_services.specs.Emergency.{emergency, pdo_too_short, pdo_too_long, value_refused, bad_sync_length}
use Rattle.rules_services.specs.Written.{applied}

-- "A PDO works only in Operational, valid, with something mapped."
unfoldable pub works : NmtState → List ℕ → ℕ → Bool
works nmt d p = is_operational nmt && is_valid (read d (identifier p)) && ltb 0 (read d (map_count p))

-- the type of a PDO
abbrev pub type_of : List ℕ → ℕ → ℕ
type_of d p = read d (transmission_type p)

-- ---- receive

-- the length that a PDO's mapping asks for
unfoldable pub mapped_length : List Row → ℕ
mapped_length xs = sum (map size_of xs)

-- each row may hold its value in this dictionary: none that SDO would refuse
unfoldable pub are_legal : List ℕ → List Write → Bool
are_legal d ws = all (λ w. may_hold d w.row w.value) ws

-- "Types 254, 255 apply at once; others are held, the latest kept, until SYNC."
unfoldable pub held_or_applied : ℕ → List ℕ → State → List ℕ → Effect
held_or_applied p bs s d =
    cond (is_synchronous (type_of d p)) (becomes (with_held (set s.axis.held p (pdo_data bs)) s))
    (applied (unpacked (mapped d p) bs) s d)

-- "too short, dropped with emergency 8210h; too long, 8220h and the leading bytes are used; then any value SDO would refuse
-- drops the whole frame with 8200h, after 8220h if both"
unfoldable pub received : ℕ → List ℕ → State → List ℕ → Effect
received p bs s d =
    let xs = mapped d p in
    let n = mapped_length xs in
    let too_long = cond (ltb n (length bs)) (emergency pdo_too_long s d) [] in
    cond (ltb (length bs) n) (sends (emergency pdo_too_short s d) (becomes s))
    (sends too_long
    (cond (are_legal d (unpacked xs bs)) (held_or_applied p (take n bs) s d) (sends (emergency value_refused s d) (becomes s))))

-- the receive PDO that works on an identifier
unfoldable pub listens : ℕ → NmtState → List ℕ → ℕ → Bool
listens i nmt d p = works nmt d p && eqb (frame_identifier (read d (identifier p))) i

unfoldable pub received_by : List ℕ → ℕ → List ℕ → State → List ℕ → Effect
received_by [] i bs s d = becomes s
received_by (p ∷ ps) i bs s d =
    elim (listens i s.node.nmt d p) [ true ↦ received p bs s d | false ↦ received_by ps i bs s d ]

-- ---- SYNC: "80h, length 0; another length gives 8240h only. Stopped it is not served; in Pre-operational one of length 0 does nothing."

abbrev pub sync_base : ℕ
sync_base = 0x80

abbrev pub no_data : PdoData
no_data = record { length = 0; bytes = 0 ∷ 0 ∷ 0 ∷ 0 ∷ 0 ∷ 0 ∷ 0 ∷ 0 ∷ [] }

abbrev pub none_held : List PdoData
none_held = no_data ∷ no_data ∷ no_data ∷ no_data ∷ []

abbrev pub is_held : PdoData → Bool
is_held f = ltb 0 f.length

-- the held frame of a receive PDO is applied, and is then held no more
unfoldable pub release : ℕ → State → List ℕ → Effect
release p s d =
    let f = get_or s.axis.held p no_data in
    elim (is_held f)
    [ true ↦ applied (unpacked (mapped d p) f.bytes) (with_held (set s.axis.held p no_data) s) d | false ↦ becomes s ]

-- "It applies held frames 1 to 4"
unfoldable pub release_all : List ℕ → State → List ℕ → Effect
release_all [] s d = becomes s
release_all (p ∷ ps) s d = and_then d (release p s d) (release_all ps)

unfoldable pub sync : List ℕ → State → List ℕ → Effect
sync bs s d =
    cond (is_stopped s.node.nmt) (becomes s)
    (cond (not (eqb (length bs) 0)) (sends (emergency bad_sync_length s d) (becomes s))
    (cond (is_operational s.node.nmt) (on Synced (release_all receive_pdos s d)) (becomes s)))

-- ---- transmit

-- whether a transmit PDO is sent at a call's end, and what is kept of it
abbrev pub paced : Bool → ℕ → Bool → Paced
paced send count due = record { send = send; kept = record { count = count; due = due } }

-- nothing counted, and not due
abbrev pub idle : Pace
idle = record { count = 0; due = false }

abbrev pub all_idle : List Pace
all_idle = idle ∷ idle ∷ idle ∷ idle ∷ []

-- "Type 1..240: each n-th SYNC since entering Operational."
unfoldable pub cyclic : ℕ → Bool → ℕ → Paced
cyclic n synced count =
    cond synced (cond (eqb (suc count) n) (paced true 0 false) (paced false (suc count) false)) (paced false count false)

-- "Type 0: if any call, this one included, changed its ready frame since last sent, or none was sent since entering."
unfoldable pub acyclic : Bool → Bool → Paced
acyclic synced due = paced (synced && due) 0 (not synced && due)

-- "254, 255: whenever a call that ends Operational changed its ready frame or entered Operational."
unfoldable pub event_driven : Bool → Paced
event_driven changed = paced changed 0 false

-- by type; `changed` is: this call changed the ready frame or entered Operational
unfoldable pub pace_of : ℕ → Occasion → Bool → Pace → Paced
pace_of type occasion changed k =
    cond (is_cyclic type) (cyclic type (is_synced occasion) k.count)
    (cond (eqb type 0) (acyclic (is_synced occasion) (k.due || changed)) (event_driven changed))

-- the frame of a transmit PDO
unfoldable pub transmitted : List ℕ → ℕ → PdoData → Frame
transmitted d p f = frame (frame_identifier (read d (identifier p))) (take f.length f.bytes)

-- opens every definition of this module, where a proof computes
unfoldable pub open_pdo_traffic : Unit {0}
unfolding works mapped_length are_legal held_or_applied received listens received_by release
    release_all sync cyclic acyclic event_driven pace_of transmitted
open_pdo_traffic = tt
