-- Received frames and SYNC, as the code goes about them: whether a PDO listens, a frame of the mapped length, and SYNC by its length.
-- Assumes nothing.
use Rattle.std.specs.Prelude.{ℕ, List, [], ◌∷◌, Bool, true, cond, not, ◌&&◌, ◌||◌, eqb, ltb, length, take, get_or}
use Rattle.state.specs.declared.State.{State}
use Rattle.state.specs.declared.Occasion.TheVariants.{Synced}
use Rattle.state.specs.NmtStates.{is_stopped, is_operational}
use Rattle.rules_dictionary.specs.Table.{identifier, receive_pdos}
use Rattle.rules_dictionary.specs.Values.{read, unpacked}
use Rattle.rules_dictionary.specs.Plans.{mapped}
use Rattle.rules_dictionary.specs.Legal.{frame_identifier, is_synchronous}
use Rattle.rules_services.specs.Effects.{Effect, becomes, sends, on}
use Rattle.rules_services.specs.Emergency.{emergency, value_refused, bad_sync_length}
use Rattle.rules_services.specs.PdoTraffic.{are_legal, held_or_applied, release_all, type_of, mapped_length, listens, is_held, no_data}
use Rattle.mapping.specs.Working.{is_open}

-- the PDO is valid, maps something, and has that identifier: in Operational it listens
unfoldable pub hears : ℕ → List ℕ → ℕ → Bool
hears i d p = is_open d p && eqb (frame_identifier (read d (identifier p))) i

-- an emergency, and no more
abbrev pub says : ℕ → State → List ℕ → Effect
says code s d = sends (emergency code s d) (becomes s)

-- as many bytes as the PDO maps
unfoldable pub judged : ℕ → List ℕ → State → List ℕ → Effect
judged p bs s d = cond (are_legal d (unpacked (mapped d p) bs)) (held_or_applied p bs s d) (says value_refused s d)

-- a SYNC of that length
unfoldable pub sync_of : ℕ → State → List ℕ → Effect
sync_of n s d =
    cond (is_stopped s.node.nmt) (becomes s)
    (cond (not (eqb n 0)) (says bad_sync_length s d)
    (cond (is_operational s.node.nmt) (on Synced (release_all receive_pdos s d)) (becomes s)))

-- ---- where nothing is left to do at the call's end

-- as many bytes as the PDO maps: nothing, unless its values are taken at once
abbrev pub judged_rests : ℕ → List ℕ → State → List ℕ → Bool
judged_rests p bs s d = not (are_legal d (unpacked (mapped d p) bs) && not (is_synchronous (type_of d p)))

-- too short, or by its leading bytes
abbrev pub received_rests : ℕ → List ℕ → State → List ℕ → Bool
received_rests p bs s d = let n = mapped_length (mapped d p) in ltb (length bs) n || judged_rests p (take n bs) s d

-- by the first PDO that listens
unfoldable pub received_by_rests : List ℕ → ℕ → List ℕ → State → List ℕ → Bool
received_by_rests [] i bs s d = true
received_by_rests (p ∷ ps) i bs s d = cond (listens i s.node.nmt d p) (received_rests p bs s d) (received_by_rests ps i bs s d)

-- no frame is held
abbrev pub release_rests : ℕ → State → List ℕ → Bool
release_rests p s d = not (is_held (get_or s.axis.held p no_data))

-- a SYNC that is not served, or of another length
abbrev pub sync_rests : ℕ → State → List ℕ → Bool
sync_rests n s d = not (is_operational s.node.nmt && eqb n 0)
