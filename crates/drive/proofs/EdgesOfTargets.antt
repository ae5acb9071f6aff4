-- 'Set-points' in literal numbers, by computation: what each store says, the edge of bit 4, targets at and past the limits of 607Dh and
-- of i32, and what leaving Operation enabled or mode 1 clears.
-- Assumes nothing.
use Rattle.std.proofs.Common.{ℕ, ◌≡◌, refl, Bool, true, false, List, [], ◌∷◌, map, replicate}
use Rattle.rules_dictionary.specs.declared.Mode.{Mode}
use Rattle.rules_dictionary.specs.declared.Mode.TheVariants.{NoMode, ProfilePosition, ProfileVelocity}
use Rattle.drive.specs.declared.DriveState.{DriveState}
use Rattle.drive.specs.declared.DriveState.TheVariants.{ReadyToSwitchOn, SwitchedOn, OperationEnabled, QuickStopActive}
use Rattle.drive.specs.declared.Store.{Store}
use Rattle.drive.specs.declared.Store.TheVariants.{Empty, Rested, Moving, Queued}
use Rattle.drive.specs.declared.Drive.{Drive}
use Rattle.rules_dictionary.specs.Table.{control_word, mode, target_position, minimum_position, maximum_position}
use Rattle.rules_dictionary.specs.Values.{Write, write}
use Rattle.drive.specs.SetPoints.{is_position, is_empty, is_queued, is_moving, last_target, behind, reached, offered, set_point_rule, mode_of}
use Rattle.drive.specs.SetPoints.{mode_written, control_written}
use Rattle.drive.proofs.Edges.{bench, point, other, drive, open_edges}

-- ---- "The store is Empty, Rested, Moving or Queued; the last three hold the target at rest, one set-point, or two."

stores : List Store
stores = Empty ∷ Rested 11 ∷ Moving (other 22) ∷ Queued (other 33) (other 44) ∷ []

-- Empty; two; "only Moving, Queued"; "the last taken target (Empty: 6064h)"
tests_of_stores : (map is_empty stores ≡ true ∷ false ∷ false ∷ false ∷ []) × (map is_queued stores ≡ false ∷ false ∷ false ∷ true ∷ [])
    × (map is_moving stores ≡ false ∷ false ∷ true ∷ true ∷ []) × (map (last_target 99) stores ≡ 99 ∷ 11 ∷ 22 ∷ 44 ∷ [])
unfolding stores open_edges
tests_of_stores = (refl, refl, refl, refl)

-- "else Moving, or Queued behind one"; "Event 6 moves on, or to Rested."
stores_move_on : (map (λ st. behind st (point 55)) stores
    ≡ Moving (point 55) ∷ Moving (point 55) ∷ Queued (other 22) (point 55) ∷ Queued (other 33) (other 44) ∷ [])
    × (map reached stores ≡ Empty ∷ Rested 11 ∷ Rested 22 ∷ Moving (other 44) ∷ [])
unfolding stores open_edges
stores_move_on = (refl, refl)

-- ---- targets

-- the store and the marks after an edge with that word, from that store
after : List Write → ℕ → Store → Drive
after ws word st = offered (bench ws) word (drive st false false)

-- "bit 5 replaces all", from each store; without it Moving, or Queued behind one
replaced_or_behind : (map (after [] 0x3F) stores ≡ replicate 4 (drive (Moving (point 200)) true false))
    × (map (after [] 0x1F) stores
    ≡ drive (Moving (point 200)) true false ∷ drive (Moving (point 200)) true false ∷ drive (Queued (other 22) (point 200)) true false
    ∷ drive (Queued (other 33) (other 44)) false false ∷ [])
unfolding after stores open_edges
replaced_or_behind = (refl, refl)

-- "with bit 6 the last taken target (Empty: 6064h) plus 607Ah", also with bit 5: 50, 11, 22 and 44 plus 200
relative_to_the_last : map (after [] 0x7F) stores
    ≡ map (λ t. drive (Moving (point t)) true false) (250 ∷ 211 ∷ 222 ∷ 244 ∷ [])
unfolding after stores open_edges
relative_to_the_last = refl

-- "outside 607Dh .., not taken, limit mark set": sums against -1000 and 1500, from 1300, 1301, -1200 and -1201
sums_against_limits : (after [] 0x5F (Rested 1300) ≡ drive (Moving (point 1500)) true false)
    × (after [] 0x5F (Rested 1301) ≡ drive (Rested 1301) false true)
    × (after (write target_position 0xFFFFFF38 ∷ []) 0x5F (Rested 0xFFFFFCE0) ≡ drive (Moving (point 0xFFFFFC18)) true false)
    × (after (write target_position 0xFFFFFF38 ∷ []) 0x5F (Rested 0xFFFFFCDF) ≡ drive (Rested 0xFFFFFCDF) false true)
unfolding after open_edges
sums_against_limits = (refl, refl, refl, refl)

-- "outside .. i32": with the widest limits, -2^31 minus 1 and 2^31-1 plus 1 and their like are outside; -2^31 and 2^31-1 are taken
widest : ℕ → List Write
widest t = write minimum_position 0x80000000 ∷ write maximum_position 0x7FFFFFFF ∷ write target_position t ∷ []

ends_of_i32 : (after (widest 0xFFFFFFFF) 0x5F (Rested 0x80000000) ≡ drive (Rested 0x80000000) false true)
    × (after (widest 0x80000000) 0x5F (Rested 0x80000000) ≡ drive (Rested 0x80000000) false true)
    × (after (widest 1) 0x5F (Rested 0x7FFFFFFF) ≡ drive (Rested 0x7FFFFFFF) false true)
    × (after (widest 0x7FFFFFFF) 0x5F (Rested 0x7FFFFFFF) ≡ drive (Rested 0x7FFFFFFF) false true)
    × (after (widest 0xFFFFFFFF) 0x5F (Rested 0x80000001) ≡ drive (Moving (point 0x80000000)) true false)
    × (after (widest 1) 0x5F (Rested 0x7FFFFFFE) ≡ drive (Moving (point 0x7FFFFFFF)) true false)
    × (after (widest 0x80000000) 0x5F (Rested 0x7FFFFFFF) ≡ drive (Moving (point 0xFFFFFFFF)) true false)
    × (map (λ t. after (widest t) 0x1F Empty) (0x80000000 ∷ 0x7FFFFFFF ∷ [])
    ≡ drive (Moving (point 0x80000000)) true false ∷ drive (Moving (point 0x7FFFFFFF)) true false ∷ [])
unfolding widest after open_edges
ends_of_i32 = (refl, refl, refl, refl, refl, refl, refl, refl)

-- limits with the minimum above the maximum (100 and 50) leave no target; equal ones (200) leave that one
odd_limits : (map (λ t. after (write minimum_position 100 ∷ write maximum_position 50 ∷ write target_position t ∷ []) 0x1F Empty)
    (49 ∷ 50 ∷ 75 ∷ 100 ∷ 101 ∷ []) ≡ replicate 5 (drive Empty false true))
    × (map (λ t. after (write minimum_position 200 ∷ write maximum_position 200 ∷ write target_position t ∷ []) 0x1F Empty) (199 ∷ 200 ∷ 201 ∷ [])
    ≡ drive Empty false true ∷ drive (Moving (point 200)) true false ∷ drive Empty false true ∷ [])
unfolding after open_edges
odd_limits = (refl, refl)

-- "not taken": the store and the taken mark stay, with bit 5 too; "with bit 5 zero and Queued, not taken": both marks stay as they are
not_taken_stays : (offered (bench (write target_position 1501 ∷ [])) 0x3F (drive (Queued (other 1) (other 2)) false false)
    ≡ drive (Queued (other 1) (other 2)) false true)
    × (offered (bench (write target_position 1501 ∷ [])) 0x1F (drive (Moving (other 1)) true false) ≡ drive (Moving (other 1)) true true)
    × (offered (bench []) 0x1F (drive (Queued (other 1) (other 2)) false true) ≡ drive (Queued (other 1) (other 2)) false true)
unfolding open_edges
not_taken_stays = (refl, refl, refl)

-- ---- "if enabled in mode 1 and bit 4 rose against the old 6040h"

in_mode : DriveState → Mode → Bool → Drive
in_mode s m taken = record { state = s; mode = m; store = Empty; taken = taken; limit = false; cause = false; stay = 0 }

-- enabled in modes 0 and 3, and in mode 1 in another state, nothing is taken; "bit 4 zero clears the taken mark" there too
only_where_it_positions : (map (set_point_rule (bench []) 0x0F 0x1F)
    (in_mode OperationEnabled NoMode false ∷ in_mode OperationEnabled ProfileVelocity false ∷ in_mode SwitchedOn ProfilePosition false
    ∷ in_mode QuickStopActive ProfilePosition false ∷ [])
    ≡ in_mode OperationEnabled NoMode false ∷ in_mode OperationEnabled ProfileVelocity false ∷ in_mode SwitchedOn ProfilePosition false
    ∷ in_mode QuickStopActive ProfilePosition false ∷ [])
    × (set_point_rule (bench []) 0x1F 0x0F (in_mode OperationEnabled NoMode true) ≡ in_mode OperationEnabled NoMode false)
unfolding in_mode open_edges
only_where_it_positions = (refl, refl)

-- bit 4 alone is looked at for the edge: 2Fh after 0Fh takes nothing, 10h after EFh rises
bit_4_alone : (set_point_rule (bench []) 0x0F 0x2F (drive Empty false false) ≡ drive Empty false false)
    × (set_point_rule (bench []) 0x0F 0x4F (drive Empty false false) ≡ drive Empty false false)
    × (set_point_rule (bench []) 0xFFEF 0x10 (drive Empty false false) ≡ drive (Moving (point 200)) true false)
unfolding open_edges
bit_4_alone = (refl, refl, refl)

-- "After the drive command": 1Fh after 16h enables and takes nothing; a Quick stop with bit 4 rising, 1Bh after 0Fh, takes nothing and
-- empties; Enable back from Quick stop active takes with the edge
written : ℕ → ℕ → Drive → Drive
written old word v = (control_written (bench (write control_word word ∷ [])) old v).drive

after_the_command : (written 0x16 0x1F (in_mode ReadyToSwitchOn ProfilePosition false) ≡ drive Empty false false)
    × (written 0x0F 0x1B (drive (Rested 1) false true) ≡ in_mode QuickStopActive ProfilePosition false)
    × (written 0x0B 0x1F (in_mode QuickStopActive ProfilePosition false) ≡ drive (Moving (point 200)) true false)
    × (written 0x0F 0x1F (drive (Moving (other 1)) false true) ≡ drive (Queued (other 1) (point 200)) true false)
    × (written 0x1F 0x0F (drive (Moving (other 1)) true true) ≡ drive (Moving (other 1)) false true)
    × (written 0x0F 0x1E (drive (Moving (other 1)) false true) ≡ in_mode ReadyToSwitchOn ProfilePosition false)
unfolding written in_mode open_edges
after_the_command = (refl, refl, refl, refl, refl, refl)

-- ---- modes: "0, 1 (profile position) and 3 (profile velocity)"

modes_told : (map mode_of (0 ∷ 1 ∷ 3 ∷ []) ≡ NoMode ∷ ProfilePosition ∷ ProfileVelocity ∷ [])
    × (map is_position (NoMode ∷ ProfilePosition ∷ ProfileVelocity ∷ []) ≡ false ∷ true ∷ false ∷ [])
modes_told = (refl, refl)

-- 6060h written 0, 1 and 3 in mode 1: "both marks clear, on leaving .. mode 1"
modes_written : map (λ k. mode_written (bench (write mode k ∷ [])) (drive (Queued (other 1) (other 2)) true true)) (0 ∷ 1 ∷ 3 ∷ [])
    ≡ in_mode OperationEnabled NoMode false ∷ drive (Queued (other 1) (other 2)) true true ∷ in_mode OperationEnabled ProfileVelocity false ∷ []
unfolding in_mode open_edges
modes_written = refl
