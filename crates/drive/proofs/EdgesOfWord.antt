-- Bits 12, 11 and 10 of 6041h in literal words, by computation: each mode, bit 8 of 6040h, both sides of each window, and nothing wraps.
-- Assumes nothing.
use Rattle.std.proofs.Common.{ℕ, ◌≡◌, refl, Bool, true, false, List, [], ◌∷◌, map, replicate}
use Rattle.rules_dictionary.specs.declared.Mode.{Mode}
use Rattle.rules_dictionary.specs.declared.Mode.TheVariants.{NoMode, ProfilePosition, ProfileVelocity}
use Rattle.drive.specs.declared.DriveState.TheVariants.{OperationEnabled}
use Rattle.drive.specs.declared.Store.{Store}
use Rattle.drive.specs.declared.Store.TheVariants.{Empty, Rested, Moving, Queued}
use Rattle.rules_dictionary.specs.Table.{control_word, position, position_window, velocity, velocity_window, velocity_threshold, target_velocity}
use Rattle.rules_dictionary.specs.Values.{Write, write}
use Rattle.drive.specs.StatusWord.{status}
use Rattle.drive.proofs.Edges.{bench, point, open_edges}

-- 6041h of an enabled drive, with the voltage on
shows : Mode → Store → Bool → List Write → ℕ
shows m st taken ws =
    status true true (record { state = OperationEnabled; mode = m; store = st; taken = taken; limit = false; cause = false; stay = 0 }) (bench ws)

-- the stores: none, at rest far off, on the way far off, two with the second one near
stores : List Store
stores = Empty ∷ Rested 900 ∷ Moving (point 900) ∷ Queued (point 900) (point 50) ∷ []

-- ---- bit 12

-- "bit 12 in mode 1, taken or Queued", and bit 10 "Rested or active target within 6067h of 6064h (Empty: 0)"
bits_in_mode_1 : (map (λ st. shows ProfilePosition st false []) stores ≡ 0x0237 ∷ 0x0637 ∷ 0x0237 ∷ 0x1237 ∷ [])
    × (map (λ st. shows ProfilePosition st true []) stores ≡ 0x1237 ∷ 0x1637 ∷ 0x1237 ∷ 0x1237 ∷ [])
unfolding shows stores open_edges
bits_in_mode_1 = (refl, refl)

-- in mode 0 none of the two, at rest, taken, near, slow and under bit 8 of 6040h
bits_in_mode_0 : (map (λ st. shows NoMode st true []) stores ≡ replicate 4 0x0237)
    × (map (λ st. shows NoMode st true (write control_word 0x10F ∷ [])) stores ≡ replicate 4 0x0237)
unfolding shows stores open_edges
bits_in_mode_0 = (refl, refl)

-- in mode 3, with 606Fh 5, 606Dh 2 and 60FFh 10
turning : List Write → ℕ
turning ws = shows ProfileVelocity Empty false (write velocity_threshold 5 ∷ write velocity_window 2 ∷ write target_velocity 10 ∷ ws)

-- the store and the taken mark show nothing there: 606Ch is 6 with 606Fh 5, and 60FFh is 100
bits_in_mode_3 : map (λ st. shows ProfileVelocity st true (write velocity_threshold 5 ∷ write velocity 6 ∷ write target_velocity 100 ∷ [])) stores
    ≡ replicate 4 0x0237
unfolding shows stores open_edges
bits_in_mode_3 = refl

-- "in mode 3, magnitude of 606Ch at most 606Fh": -6, -5, 0, 5, 6 against 5; the widest 606Fh
threshold_both_ways : (map (λ v. turning (write velocity v ∷ [])) (0xFFFFFFFA ∷ 0xFFFFFFFB ∷ 0 ∷ 5 ∷ 6 ∷ [])
    ≡ 0x0237 ∷ 0x1237 ∷ 0x1237 ∷ 0x1237 ∷ 0x0237 ∷ [])
    × (map (λ v. turning (write velocity_threshold 0xFFFF ∷ write velocity v ∷ [])) (0xFFFF ∷ 0x10000 ∷ 0xFFFF0001 ∷ 0xFFFF0000 ∷ [])
    ≡ 0x1237 ∷ 0x0237 ∷ 0x1237 ∷ 0x0237 ∷ [])
unfolding turning shows open_edges
threshold_both_ways = (refl, refl)

-- ---- bit 10

-- "in mode 3 60FFh within 606Dh of 606Ch": 7, 8, 12, 13 about 10; -13, -12, -8, -7 about -10; from one end of i32 to the other
velocity_window_lem : (map (λ v. turning (write velocity v ∷ [])) (7 ∷ 8 ∷ 12 ∷ 13 ∷ []) ≡ 0x0237 ∷ 0x0637 ∷ 0x0637 ∷ 0x0237 ∷ [])
    × (map (λ v. turning (write target_velocity 0xFFFFFFF6 ∷ write velocity v ∷ [])) (0xFFFFFFF3 ∷ 0xFFFFFFF4 ∷ 0xFFFFFFF8 ∷ 0xFFFFFFF9 ∷ [])
    ≡ 0x0237 ∷ 0x0637 ∷ 0x0637 ∷ 0x0237 ∷ [])
    × (turning (write target_velocity 0x7FFFFFFF ∷ write velocity 0x80000000 ∷ []) ≡ 0x0237)
    × (turning (write velocity_window 0xFFFF ∷ write target_velocity 0x7FFFFFFF ∷ write velocity 0x7FFF0000 ∷ []) ≡ 0x0637)
    × (turning (write velocity_window 0xFFFF ∷ write target_velocity 0x7FFFFFFF ∷ write velocity 0x7FFEFFFF ∷ []) ≡ 0x0237)
unfolding turning shows open_edges
velocity_window_lem = (refl, refl, refl, refl, refl)

-- "active target within 6067h of 6064h": a window of 0 is the position alone; the widest reaches 2^31-1 and no further
moving : ℕ → ℕ → ℕ → ℕ
moving window here t = shows ProfilePosition (Moving (point t)) false (write position_window window ∷ write position here ∷ [])

position_window_lem : (map (moving 0 50) (49 ∷ 50 ∷ 51 ∷ []) ≡ 0x0237 ∷ 0x0637 ∷ 0x0237 ∷ [])
    × (map (moving 0x7FFFFFFF 0x80000000) (0xFFFFFFFF ∷ 0 ∷ 0x7FFFFFFF ∷ []) ≡ 0x0637 ∷ 0x0237 ∷ 0x0237 ∷ [])
    × (map (moving 0x7FFFFFFF 0x7FFFFFFF) (0 ∷ 0xFFFFFFFF ∷ 0x80000000 ∷ []) ≡ 0x0637 ∷ 0x0237 ∷ 0x0237 ∷ [])
    × (map (moving 10 0) (0xFFFFFFF5 ∷ 0xFFFFFFF6 ∷ 10 ∷ 11 ∷ []) ≡ 0x0237 ∷ 0x0637 ∷ 0x0637 ∷ 0x0237 ∷ [])
unfolding moving shows open_edges
position_window_lem = (refl, refl, refl, refl)

-- "Bit 10 with bit 8 of 6040h set (modes 1, 3): 606Ch is 0": in mode 1 with each store, standing still and creeping either way
halted_in_mode_1 : (map (λ st. shows ProfilePosition st false (write control_word 0x10F ∷ [])) stores ≡ 0x0637 ∷ 0x0637 ∷ 0x0637 ∷ 0x1637 ∷ [])
    × (map (λ v. shows ProfilePosition (Rested 50) false (write control_word 0x10F ∷ write velocity v ∷ [])) (1 ∷ 0xFFFFFFFF ∷ [])
    ≡ 0x0237 ∷ 0x0237 ∷ [])
unfolding shows stores open_edges
halted_in_mode_1 = (refl, refl)

-- in mode 3: at 0 though 10 is asked, at 10 as asked, creeping at 1 and -1 under 606Fh
halted_in_mode_3 : map (λ v. turning (write control_word 0x100 ∷ write velocity v ∷ [])) (0 ∷ 10 ∷ 1 ∷ 0xFFFFFFFF ∷ [])
    ≡ 0x1637 ∷ 0x0237 ∷ 0x1237 ∷ 0x1237 ∷ []
unfolding turning shows open_edges
halted_in_mode_3 = refl

-- bit 8 of 6040h and no other: FEFFh does not halt
bit_8_alone : (turning (write control_word 0xFEFF ∷ write velocity 10 ∷ []) ≡ 0x0637)
    × (shows ProfilePosition Empty false (write control_word 0xFEFF ∷ []) ≡ 0x0237)
unfolding turning shows open_edges
bit_8_alone = (refl, refl)
