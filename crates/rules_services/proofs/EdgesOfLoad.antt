-- Ticket 6, 'Load the customer's configuration', entries of files for node 5 written out: where a load is served, each abort of an entry, the number
-- of the entry that it names, and what entries leave.
-- Assumes nothing.
use Prim.Native.Nat.{ℕ}
use mathlib.Core.Path.{◌≡◌, refl}
use mathlib.Core.Bool.{true, false}
use mathlib.Core.List.{List, [], ◌∷◌, map}
use lib.ListN.{replicate}
use Rattle.state.specs.declared.NmtState.TheVariants.{PreOperational, Operational, Stopped}
use Rattle.state.specs.declared.Occasion.TheVariants.{Plain}
use Rattle.state.specs.declared.Transfer.TheVariants.{Uploading}
use Rattle.rules_dictionary.specs.declared.Mode.TheVariants.{ProfilePosition, ProfileVelocity}
use Rattle.drive.specs.declared.DriveState.TheVariants.{NotReady, SwitchOnDisabled, ReadyToSwitchOn, SwitchedOn, OperationEnabled, QuickStopActive}
use Rattle.drive.specs.declared.DriveState.TheVariants.{FaultReactionActive, Fault}
use Rattle.drive.specs.SetPoints.{with_mode}
use Rattle.rules_dictionary.specs.Table.{heartbeat_time, mode}
use Rattle.rules_dictionary.specs.Values.{write}
use Rattle.files.specs.ConciseDcf.{Entry}
use Rattle.rules_services.specs.Effects.{with_heartbeat, with_transfer, with_drive}
use Rattle.rules_services.specs.Load.{may_load, names_control_word, loads, load_all, Named, named_by}
use Rattle.rules_services.proofs.Node5.{fresh, node, pre_operational, open_edges}

-- ---- "Loading is served in Pre-operational, with the drive Not ready or Switch on disabled."

served_where : (map (λ q. may_load (node PreOperational q)) (NotReady ∷ SwitchOnDisabled ∷ ReadyToSwitchOn ∷ SwitchedOn ∷ OperationEnabled
    ∷ QuickStopActive ∷ FaultReactionActive ∷ Fault ∷ []) ≡ true ∷ true ∷ replicate 6 false)
    × (map (λ q. may_load (node Operational q)) (NotReady ∷ SwitchOnDisabled ∷ []) ≡ false ∷ false ∷ [])
    × (map (λ q. may_load (node Stopped q)) (NotReady ∷ SwitchOnDisabled ∷ []) ≡ false ∷ false ∷ [])
unfolding open_edges
served_where = (refl, refl, refl)

-- ---- entries

abbrev entry : ℕ → ℕ → List ℕ → Entry
entry i j bs = record { index = i; subindex = j; content = bs }

-- "an entry for 6040h": with any subindex, at any place
for_the_control_word : map names_control_word
    ((entry 0x6040 0 (0x06 ∷ 0x00 ∷ []) ∷ []) ∷ (entry 0x6060 0 (0x01 ∷ []) ∷ entry 0x6040 7 [] ∷ []) ∷ (entry 0x6041 0 [] ∷ entry 0x4060 0 [] ∷ [])
    ∷ [] ∷ [])
    ≡ true ∷ true ∷ false ∷ false ∷ []
for_the_control_word = refl

-- entry and code of what stops a load, zeros where nothing does
abbrev named : ℕ → ℕ → Named
named n c = record { entry = n; code = c }

stopped : List Entry → Named
stopped es = named_by (load_all es pre_operational fresh)

-- "the entry's SDO abort", in document 01's order. 1008h is a constant
aborts_of_objects : map (λ e. stopped (e ∷ []))
    (entry 0x1002 0 (0x00 ∷ []) ∷ entry 0x1018 2 (0x00 ∷ []) ∷ entry 0x1008 0 (0x41 ∷ []) ∷ entry 0x1008 1 (0x41 ∷ []) ∷ entry 0x1000 0 []
    ∷ entry 0x6041 0 (0x00 ∷ 0x00 ∷ []) ∷ [])
    ≡ named 1 0x06020000 ∷ named 1 0x06090011 ∷ named 1 0x06010002 ∷ named 1 0x06090011 ∷ named 1 0x06010002 ∷ named 1 0x06010002 ∷ []
unfolding stopped open_edges
aborts_of_objects = refl

-- "0, 3 or over 4 bytes meet 06070013h or 06070012h": of 1017h (2), 6060h (1) and 6081h (4), each size on both sides of the object's; no size is cut
-- to a byte
aborts_of_sizes : (map (λ n. stopped (entry 0x1017 0 (replicate n 0x01) ∷ [])) (0 ∷ 1 ∷ 2 ∷ 3 ∷ 4 ∷ 5 ∷ [])
    ≡ named 1 0x06070013 ∷ named 1 0x06070013 ∷ named 0 0 ∷ named 1 0x06070012 ∷ named 1 0x06070012 ∷ named 1 0x06070012 ∷ [])
    × (map (λ n. stopped (entry 0x6060 0 (replicate n 0x01) ∷ [])) (0 ∷ 1 ∷ 2 ∷ 256 ∷ 257 ∷ [])
    ≡ named 1 0x06070013 ∷ named 0 0 ∷ named 1 0x06070012 ∷ named 1 0x06070012 ∷ named 1 0x06070012 ∷ [])
    × (map (λ n. stopped (entry 0x6081 0 (replicate n 0x01) ∷ [])) (3 ∷ 4 ∷ 5 ∷ 260 ∷ [])
    ≡ named 1 0x06070013 ∷ named 0 0 ∷ named 1 0x06070012 ∷ named 1 0x06070012 ∷ [])
unfolding stopped open_edges
aborts_of_sizes = (refl, refl, refl)

-- values, and the time of a mapping: 08000022h, 06090030h, 06090031h, 06040043h, 06040041h, 06040042h
aborts_of_values : map stopped
    ((entry 0x1600 0 (0x00 ∷ []) ∷ []) ∷ (entry 0x6060 0 (0x02 ∷ []) ∷ []) ∷ (entry 0x6067 0 (0x00 ∷ 0x00 ∷ 0x00 ∷ 0x80 ∷ []) ∷ [])
    ∷ (entry 0x607D 2 (0xFF ∷ 0xFF ∷ 0xFF ∷ 0xFF ∷ []) ∷ entry 0x607D 1 (0x00 ∷ 0x00 ∷ 0x00 ∷ 0x00 ∷ []) ∷ [])
    ∷ (entry 0x1400 1 (0x05 ∷ 0x02 ∷ 0x00 ∷ 0x80 ∷ []) ∷ entry 0x1600 0 (0x00 ∷ []) ∷ entry 0x1600 1 (0x10 ∷ 0x00 ∷ 0x41 ∷ 0x60 ∷ []) ∷ [])
    ∷ [])
    ≡ named 1 0x08000022 ∷ named 1 0x06090030 ∷ named 1 0x06090031 ∷ named 2 0x06040043 ∷ named 3 0x06040041 ∷ []
unfolding stopped open_edges
aborts_of_values = refl

-- ---- what entries leave

-- "Entries see what earlier ones wrote": limits that pass in one order do not in the other, and equal ones do
in_order : map stopped
    ((entry 0x607D 1 (0x05 ∷ 0x00 ∷ 0x00 ∷ 0x00 ∷ []) ∷ entry 0x607D 2 (0x04 ∷ 0x00 ∷ 0x00 ∷ 0x00 ∷ []) ∷ [])
    ∷ (entry 0x607D 2 (0x05 ∷ 0x00 ∷ 0x00 ∷ 0x00 ∷ []) ∷ entry 0x607D 1 (0x05 ∷ 0x00 ∷ 0x00 ∷ 0x00 ∷ []) ∷ entry 0x1002 0 [] ∷ [])
    ∷ [])
    ≡ named 2 0x06040043 ∷ named 3 0x06020000 ∷ []
unfolding stopped open_edges
in_order = refl

-- a file of no entries changes nothing
nothing_listed : load_all [] pre_operational fresh ≡ loads (record { state = pre_operational; writes = []; sent = []; occasion = Plain })
unfolding open_edges
nothing_listed = refl

-- "1017h restarts the heartbeat's count", "A running transfer stays", 6060h is acted on, the later value of two counts; nothing is sent
entries_act : load_all
    (entry 0x6060 0 (0x01 ∷ []) ∷ entry 0x1017 0 (0xE8 ∷ 0x03 ∷ []) ∷ entry 0x6060 0 (0x03 ∷ []) ∷ [])
    (with_transfer (Uploading 1) (with_heartbeat 7 pre_operational)) fresh
    ≡ loads (record {
      state = with_drive (with_mode ProfileVelocity pre_operational.axis.drive) (with_transfer (Uploading 1) pre_operational);
      writes = write mode 0x01 ∷ write heartbeat_time 0x03E8 ∷ write mode 0x03 ∷ [];
      sent = [];
      occasion = Plain;
    })
unfolding open_edges
entries_act = refl

-- another entry leaves the count
count_runs_on : load_all (entry 0x6060 0 (0x01 ∷ []) ∷ []) (with_heartbeat 7 pre_operational) fresh
    ≡ loads (record {
      state = with_drive (with_mode ProfilePosition pre_operational.axis.drive) (with_heartbeat 7 pre_operational);
      writes = write mode 0x01 ∷ [];
      sent = [];
      occasion = Plain;
    })
unfolding open_edges
count_runs_on = refl
