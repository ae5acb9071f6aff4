-- Ticket 1, "A new initiate, any abort, 82h or leaving the NMT states that serve SDO ends a running transfer": of node 5, with an upload and with a
-- download running, each thing that ends it and each that leaves it as it is.
-- Assumes nothing.
use Prim.Native.Nat.{ℕ}
use mathlib.Core.Path.{◌≡◌, refl}
use mathlib.Core.Bool.{true, false}
use mathlib.Core.List.{List, [], ◌∷◌, map}
use lib.ListN.{replicate}
use Rattle.state.specs.declared.NmtState.{NmtState}
use Rattle.state.specs.declared.NmtState.TheVariants.{PreOperational, Operational, Stopped}
use Rattle.state.specs.declared.Transfer.{Transfer}
use Rattle.state.specs.declared.Transfer.TheVariants.{NoTransfer, Uploading}
use Rattle.state.specs.declared.Occasion.TheVariants.{Plain}
use Rattle.rules_dictionary.specs.declared.Mode.TheVariants.{NoMode}
use Rattle.drive.specs.declared.DriveState.TheVariants.{SwitchOnDisabled, ReadyToSwitchOn}
use Rattle.rules_dictionary.specs.Table.{heartbeat_time, transmission_type}
use Rattle.rules_dictionary.specs.Values.{write, store}
use Rattle.rules_services.specs.Effects.{Effect, becomes}
use Rattle.rules_services.specs.SdoServer.{sdo}
use Rattle.rules_services.specs.PdoTraffic.{received, sync}
use Rattle.rules_services.specs.Nmt.{nmt, power_up}
use Rattle.rules_services.specs.declared.Event.TheVariants.{Started, QuickStopDone, Fault, ReactionDone, Feedback, SetPointReached, Tick}
use Rattle.rules_services.specs.declared.Event.TheVariants.{CauseGone, Voltage}
use Rattle.rules_services.specs.Events.{happens}
use Rattle.rules_services.proofs.Node5.{fresh, eight, sent8, open_edges}
use Rattle.rules_services.proofs.Transfers5.{node5, at, driving, receipt, first, tells}

-- the name from its second segment on; 6040h, of which the first byte came
abbrev running : List Transfer
running = Uploading 1 ∷ receipt 0x40 0x60 0x00 true 1 0x0F 0x00 0x00 0x00 ∷ []

-- what a request does with the one and with the other
abbrev of_each : NmtState → List ℕ → List Effect
of_each m rq = map (λ t. sdo rq (at m t) fresh) running

-- ---- what ends it

-- "every initiate, expedited ones ..": an upload of 6061h, a download of 1017h, which restarts the count
ended_by_expedited : (of_each Operational (eight 0x40 0x61 0x60 0x00 0x00 0x00 0x00 0x00)
    ≡ replicate 2 (tells (at Operational NoTransfer) (sent8 0x585 0x4F 0x61 0x60 0x00 0x00 0x00 0x00 0x00)))
    × (of_each PreOperational (eight 0x2B 0x17 0x10 0x00 0x07 0x00 0x00 0x00)
    ≡ replicate 2 (record {
      state = node5 PreOperational (driving SwitchOnDisabled NoMode) 0 NoTransfer;
      writes = write heartbeat_time 7 ∷ [];
      sent = sent8 0x585 0x60 0x17 0x10 0x00 0x00 0x00 0x00 0x00;
      occasion = Plain;
    }))
unfolding open_edges
ended_by_expedited = (refl, refl)

-- ".. and refused ones too": no object, no subindex, a constant, the name, too long, wrong time, bad value; uploads of no object and no subindex
ended_by_refused : map (of_each Operational)
    (eight 0x2F 0x02 0x10 0x00 0x00 0x00 0x00 0x00 ∷ eight 0x2F 0x18 0x10 0x02 0x00 0x00 0x00 0x00 ∷ eight 0x23 0x00 0x10 0x00 0x00 0x00 0x00 0x00
    ∷ eight 0x23 0x08 0x10 0x00 0x00 0x00 0x00 0x00 ∷ eight 0x23 0x40 0x60 0x00 0x06 0x00 0x00 0x00 ∷ eight 0x2F 0x00 0x14 0x02 0x01 0x00 0x00 0x00
    ∷ eight 0x2F 0x60 0x60 0x00 0x02 0x00 0x00 0x00 ∷ eight 0x40 0x02 0x10 0x00 0x00 0x00 0x00 0x00
    ∷ eight 0x40 0x08 0x10 0x01 0x00 0x00 0x00 0x00 ∷ [])
    ≡ map (λ fs. replicate 2 (tells (at Operational NoTransfer) fs))
    (sent8 0x585 0x80 0x02 0x10 0x00 0x00 0x00 0x02 0x06 ∷ sent8 0x585 0x80 0x18 0x10 0x02 0x11 0x00 0x09 0x06
    ∷ sent8 0x585 0x80 0x00 0x10 0x00 0x02 0x00 0x01 0x06 ∷ sent8 0x585 0x80 0x08 0x10 0x00 0x02 0x00 0x01 0x06
    ∷ sent8 0x585 0x80 0x40 0x60 0x00 0x12 0x00 0x07 0x06 ∷ sent8 0x585 0x80 0x00 0x14 0x02 0x22 0x00 0x00 0x08
    ∷ sent8 0x585 0x80 0x60 0x60 0x00 0x30 0x00 0x09 0x06 ∷ sent8 0x585 0x80 0x02 0x10 0x00 0x00 0x00 0x02 0x06
    ∷ sent8 0x585 0x80 0x08 0x10 0x01 0x11 0x00 0x09 0x06 ∷ [])
unfolding open_edges
ended_by_refused = refl

-- an initiate by segments makes way for its own: the name from its start, the object from no byte on, the same one too
begun_anew : (of_each Operational (eight 0x40 0x08 0x10 0x00 0x00 0x00 0x00 0x00)
    ≡ replicate 2 (tells (at Operational (Uploading 0)) (sent8 0x585 0x41 0x08 0x10 0x00 0x13 0x00 0x00 0x00)))
    × (of_each PreOperational (eight 0x21 0x40 0x60 0x00 0x02 0x00 0x00 0x00)
    ≡ replicate 2 (tells (at PreOperational (first 0x40 0x60 0x00)) (sent8 0x585 0x60 0x40 0x60 0x00 0x00 0x00 0x00 0x00)))
unfolding open_edges
begun_anew = (refl, refl)

-- "the client's (whatever object it names)": no reply. "commands 5, 6 and 7 .. with the request's index and subindex"
ended_by_aborts : (map (of_each Operational)
    (eight 0x80 0x40 0x60 0x00 0x00 0x00 0x04 0x05 ∷ eight 0x80 0x08 0x10 0x00 0x00 0x00 0x03 0x05
    ∷ eight 0x9F 0xFF 0xFF 0xFF 0x00 0x00 0x00 0x00 ∷ [])
    ≡ replicate 3 (replicate 2 (tells (at Operational NoTransfer) [])))
    × (map (of_each PreOperational)
    (eight 0xA0 0x34 0x12 0x56 0x00 0x00 0x00 0x00 ∷ eight 0xC1 0x00 0x00 0x00 0x00 0x00 0x00 0x00
    ∷ eight 0xFF 0x08 0x10 0x00 0x00 0x00 0x00 0x00 ∷ [])
    ≡ map (λ fs. replicate 2 (tells (at PreOperational NoTransfer) fs))
    (sent8 0x585 0x80 0x34 0x12 0x56 0x01 0x00 0x04 0x05 ∷ sent8 0x585 0x80 0x00 0x00 0x00 0x01 0x00 0x04 0x05
    ∷ sent8 0x585 0x80 0x08 0x10 0x00 0x01 0x00 0x04 0x05 ∷ []))
unfolding open_edges
ended_by_aborts = (refl, refl)

-- an NMT command to this node, from that state with each transfer
abbrev commanded : ℕ → NmtState → List Effect
commanded c m = map (λ t. nmt (c ∷ 0x05 ∷ []) (at m t)) running

-- "02h" from each NMT state
ended_by_stop : map (commanded 0x02) (PreOperational ∷ Operational ∷ Stopped ∷ []) ≡ replicate 3 (replicate 2 (becomes (at Stopped NoTransfer)))
unfolding open_edges
ended_by_stop = refl

-- "81h, 82h, power-up": 82h keeps the drive, restarts the count, and sends its boot-up alone
ended_by_resets : (map (λ m. map (λ e. e.state) (commanded 0x82 m)) (PreOperational ∷ Operational ∷ Stopped ∷ [])
    ≡ replicate 3 (replicate 2 (node5 PreOperational (driving SwitchOnDisabled NoMode) 0 NoTransfer)))
    × (map (λ m. map (λ e. e.state.transfer) (commanded 0x81 m)) (PreOperational ∷ Operational ∷ Stopped ∷ [])
    ≡ replicate 3 (replicate 2 NoTransfer))
    × ((power_up 5).state.transfer ≡ NoTransfer)
unfolding open_edges
ended_by_resets = (refl, refl, refl)

-- ---- what does not

-- "01h and 80h between Pre-operational and Operational do not", nor to the present state; from Stopped there is none in any run, and one would stay
kept_by_nmt : (map (commanded 0x01) (PreOperational ∷ Operational ∷ Stopped ∷ [])
    ≡ replicate 3 (map (λ t. becomes (at Operational t)) running))
    × (map (commanded 0x80) (PreOperational ∷ Operational ∷ Stopped ∷ []) ≡ replicate 3 (map (λ t. becomes (at PreOperational t)) running))
unfolding open_edges
kept_by_nmt = (refl, refl)

-- other commands, 02h and 82h to another node, of another length
kept_by_no_command : map (λ bs. map (λ t. nmt bs (at Operational t)) running)
    ((0x03 ∷ 0x05 ∷ []) ∷ (0x00 ∷ 0x00 ∷ []) ∷ (0x83 ∷ 0x05 ∷ []) ∷ (0x02 ∷ 0x06 ∷ []) ∷ (0x82 ∷ 0x04 ∷ [])
    ∷ (0x02 ∷ []) ∷ (0x02 ∷ 0x05 ∷ 0x00 ∷ []) ∷ [])
    ≡ replicate 7 (map (λ t. becomes (at Operational t)) running)
unfolding open_edges
kept_by_no_command = refl

-- a PDO applied, of 6040h too; one held until SYNC, and that SYNC; one too short; a SYNC of another length
kept_by_pdos : (map (λ t. (received 0 (0x06 ∷ 0x00 ∷ []) (at Operational t) fresh).state) running
    ≡ map (λ t. node5 Operational (driving ReadyToSwitchOn NoMode) 3 t) running)
    × (map (λ t. (received 0 (0x06 ∷ 0x00 ∷ []) (at Operational t) (store (transmission_type 0) 0 fresh)).state.transfer) running ≡ running)
    × (map (λ t. let d = store (transmission_type 0) 0 fresh in
    (sync [] (received 0 (0x06 ∷ 0x00 ∷ []) (at Operational t) d).state d).state) running
    ≡ map (λ t. node5 Operational (driving ReadyToSwitchOn NoMode) 3 t) running)
    × (map (λ t. (received 2 (0x06 ∷ 0x00 ∷ []) (at Operational t) fresh).state) running ≡ map (at Operational) running)
    × (map (λ t. (sync (0x01 ∷ []) (at Operational t) fresh).state) running ≡ map (at Operational) running)
unfolding open_edges
kept_by_pdos = (refl, refl, refl, refl, refl)

-- a tick with its heartbeat, one before it, and one without; in each NMT state
kept_by_ticks : map (λ period. map (λ m. map (λ t. (happens Tick (at m t) (store heartbeat_time period fresh)).state) running)
    (PreOperational ∷ Operational ∷ Stopped ∷ [])) (4 ∷ 5 ∷ 0 ∷ [])
    ≡ map (λ k. map (λ m. map (λ t. node5 m (driving SwitchOnDisabled NoMode) k t) running) (PreOperational ∷ Operational ∷ Stopped ∷ []))
    (0 ∷ 4 ∷ 3 ∷ [])
unfolding open_edges
kept_by_ticks = refl

-- every other event; a fault too, whose emergency is no abort
kept_by_events : map (λ e. map (λ t. (happens e (at Operational t) fresh).state.transfer) running)
    (Started ∷ QuickStopDone ∷ Fault 0x2310 0x02 ∷ ReactionDone ∷ Feedback 7 9 ∷ SetPointReached ∷ CauseGone ∷ Voltage false ∷ [])
    ≡ replicate 8 running
unfolding open_edges
kept_by_events = refl
