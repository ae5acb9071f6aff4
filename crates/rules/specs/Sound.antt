-- Document 01, 'Calls and refusals', the paragraph that begins "Sound:", and what tickets 1, 2 and 5 add, clause by clause.
-- Assumes nothing.
use Rattle.std.specs.Prelude.{ℕ, ◌*◌, List, [], ◌∷◌, Bool, true, false, cond, not, ◌&&◌, ◌||◌, eqb, leb, ltb, length, take}
use Rattle.state.specs.declared.NmtState.{NmtState}
use Rattle.state.specs.declared.Pace.{Pace}
use Rattle.drive.specs.declared.Drive.{Drive}
use Rattle.rules_dictionary.specs.declared.PdoData.{PdoData}
use Rattle.state.specs.declared.Receipt.{Receipt}
use Rattle.state.specs.declared.Transfer.{Transfer}
use Rattle.state.specs.declared.Transfer.TheVariants.{NoTransfer, Uploading, Downloading}
use Rattle.state.specs.declared.State.{State}
use Rattle.rules_dictionary.specs.Numbers.{all, bit, padded}
use Rattle.rules_dictionary.specs.TheNode.{is_node_id}
use Rattle.rules_dictionary.specs.DeviceName.{device_name}
use Rattle.rules_dictionary.specs.Table.{table, is_constant, receive_pdos, transmit_pdos, status_word, mode, mode_display}
use Rattle.rules_dictionary.specs.Table.{control_word, heartbeat_time}
use Rattle.rules_dictionary.specs.Values.{read, default_of, unpacked}
use Rattle.rules_dictionary.specs.Legal.{mode_number, is_synchronous, is_cyclic}
use Rattle.rules_dictionary.specs.Plans.{plans_of, ready_of, mapped, pdo_data}
use Rattle.drive.specs.DriveStates.{is_faulty}
use Rattle.drive.specs.SetPoints.{positions, is_empty, new_set_point_bit}
use Rattle.drive.specs.Window.{inside}
use Rattle.rules_services.specs.Sdo.{data_size}
use Rattle.rules_services.specs.Segments.{bytes_in, too_many, segment_size}
use Rattle.rules_services.specs.PdoTraffic.{works, type_of, is_held, no_data, mapped_length, are_legal}
use Rattle.rules.specs.Outcome.{same_by, same_plan, same_data, status_of}

-- a test of two lists of one length, element by element
abbrev pub pairwise {ℓ κ} : {A : Type ℓ} {B : Type κ} → (A → B → Bool) → List A → List B → Bool
pairwise f [] [] = true
pairwise f [] (y ∷ ys) = false
pairwise f (x ∷ xs) [] = false
pairwise f (x ∷ xs) (y ∷ ys) = f x y && pairwise f xs ys

-- "constants as listed"
unfoldable pub constants_as_listed : ℕ → List ℕ → Bool
constants_as_listed n d = all (λ w. not (is_constant w.row.access) || eqb w.value (default_of n w.row)) (unpacked table d)

-- "values in range, mappings and PDO identifiers legal"; ticket 5, "Soundness gains the pair's order": each row holds what it may hold in this
-- dictionary, beside all others
unfoldable pub values_legal : List ℕ → Bool
values_legal d = are_legal d (unpacked table d)

-- "6041h, 6061h as the rules make them"
unfoldable pub status_as_made : State → List ℕ → Bool
status_as_made s d = eqb (read d status_word) (status_of s d)

unfoldable pub mode_as_made : State → List ℕ → Bool
mode_as_made s d = eqb (read d mode_display) (read d mode) && eqb (read d mode) (mode_number s.axis.drive.mode)

-- "plans and ready frames as worked afresh"
unfoldable pub plans_fresh : State → List ℕ → Bool
plans_fresh s d = same_by same_plan s.axis.plans (plans_of d)

unfoldable pub ready_fresh : State → List ℕ → Bool
ready_fresh s d = same_by same_data s.axis.ready (ready_of d)

-- "set-point store other than Empty, taken mark and limit mark only in Operation enabled with mode 1"
unfoldable pub store_in_place : Drive → Bool
store_in_place v = positions v || (is_empty v.store && not v.taken && not v.limit)

-- "taken mark only while bit 4 of 6040h is 1"
unfoldable pub taken_in_place : Drive → List ℕ → Bool
taken_in_place v d = not v.taken || bit new_set_point_bit (read d control_word)

-- "cause present only in the two fault states"
unfoldable pub cause_in_place : Drive → Bool
cause_in_place v = not v.cause || is_faulty v.state

-- "SYNC counts below their type and zero where unused"
unfoldable pub count_sound : NmtState → List ℕ → ℕ → ℕ → Bool
count_sound nmt d p count = cond (works nmt d p && is_cyclic (type_of d p)) (ltb count (type_of d p)) (eqb count 0)

-- "heartbeat count zero or below 1017h"
unfoldable pub heartbeat_sound : ℕ → List ℕ → Bool
heartbeat_sound count d = eqb count 0 || ltb count (read d heartbeat_time)

-- "due marks .. only in Operational, due for working type 0 TPDOs"
unfoldable pub due_sound : NmtState → List ℕ → ℕ → Bool → Bool
due_sound nmt d p due = not due || (works nmt d p && eqb (type_of d p) 0)

-- what is kept of a transmit PDO
unfoldable pub pace_sound : NmtState → List ℕ → ℕ → Pace → Bool
pace_sound nmt d p k = count_sound nmt d p k.count && due_sound nmt d p k.due

-- "held frames only in Operational, .. held for working synchronous RPDOs, with full length and legal values"; spare bytes zero
unfoldable pub held_sound : NmtState → List ℕ → ℕ → PdoData → Bool
held_sound nmt d p f =
    let xs = mapped d p in
    cond (is_held f)
    (works nmt d p && is_synchronous (type_of d p) && same_data f (pdo_data (take (mapped_length xs) f.bytes)) && are_legal d (unpacked xs f.bytes))
    (same_data f no_data)

-- ---- the transfer in progress, by ticket 1

-- "an upload stands at a segment that the name has; a download has any index and subindex, either toggle, a count up to five, and bytes
-- behind the count zero. Nothing is asked of the NMT state."
unfoldable pub receipt_sound : Receipt → Bool
receipt_sound g =
    leb g.count too_many && same_by eqb (bytes_in g) (padded 0 data_size (take g.count (bytes_in g)))

unfoldable pub transfer_sound : Transfer → Bool
transfer_sound NoTransfer = true
transfer_sound (Uploading k) = ltb (k * segment_size) (length device_name)
transfer_sound (Downloading g) = receipt_sound g

-- ---- the ticks inside the window, by ticket 2

-- "the count is 0 unless the store is not Empty and the position is inside"
unfoldable pub stay_sound : Drive → List ℕ → Bool
stay_sound v d = eqb v.stay 0 || inside v.store d

-- ---- the whole

-- of the dictionary alone
unfoldable pub dictionary_sound : ℕ → List ℕ → Bool
dictionary_sound n d = constants_as_listed n d && values_legal d

-- of the drive
unfoldable pub drive_sound : Drive → List ℕ → Bool
drive_sound v d = store_in_place v && taken_in_place v d && cause_in_place v

-- of what waits for SYNC
unfoldable pub waiting_sound : State → List ℕ → Bool
waiting_sound s d =
    let m = s.node.nmt in
    pairwise (pace_sound m d) transmit_pdos s.axis.paces && pairwise (held_sound m d) receive_pdos s.axis.held

-- the clauses in the paper's order, "N legal" first, and behind them the tickets'
unfoldable pub sound : State → List ℕ → Bool
sound s d =
    is_node_id s.node.id
    && dictionary_sound s.node.id d
    && status_as_made s d
    && mode_as_made s d
    && plans_fresh s d
    && ready_fresh s d
    && drive_sound s.axis.drive d
    && heartbeat_sound s.node.heartbeat d
    && waiting_sound s d
    && transfer_sound s.transfer
    && stay_sound s.axis.drive d

-- opens every definition of this module, where a proof computes
unfoldable pub open_sound : Unit {0}
unfolding constants_as_listed values_legal status_as_made mode_as_made plans_fresh ready_fresh
    store_in_place taken_in_place cause_in_place count_sound heartbeat_sound receipt_sound transfer_sound stay_sound due_sound pace_sound held_sound
    dictionary_sound drive_sound waiting_sound sound
open_sound = tt
