-- Ticket 2 in literal numbers, by computation: which target the position is held against, both ends of the window, how ticks are counted and
-- where they are counted from 0 again, and bit 10 of 6041h with the window time 6068h.
-- Assumes nothing.
use Rattle.std.proofs.Common.{ℕ, ◌≡◌, refl, Bool, true, false, List, [], ◌∷◌, map, replicate}
use Rattle.rules_dictionary.specs.declared.Mode.{Mode}
use Rattle.rules_dictionary.specs.declared.Mode.TheVariants.{NoMode, ProfilePosition, ProfileVelocity}
use Rattle.drive.specs.declared.Store.{Store}
use Rattle.drive.specs.declared.Store.TheVariants.{Empty, Rested, Moving, Queued}
use Rattle.drive.specs.declared.Drive.{Drive}
use Rattle.rules_dictionary.specs.Table.{control_word, mode, position, position_window, window_time, velocity, velocity_window, velocity_threshold}
use Rattle.rules_dictionary.specs.Table.{target_velocity, target_position}
use Rattle.rules_dictionary.specs.Values.{Write, write}
use Rattle.drive.specs.SetPoints.{with_stay, with_mode, moved_on, becomes_active, offered, set_point_rule, mode_written, control_written}
use Rattle.drive.specs.Window.{inside, most_ticks, one_more, counted, staying}
use Rattle.drive.specs.StatusWord.{position_reached, status}
use Rattle.drive.proofs.Edges.{bench, point, other, drive, open_edges}

-- ---- "inside 6067h of the active target (Rested: of the target at rest)": the position is 50, the window 10

-- none, at rest, on the way, and of two the first: with its target at an end of the window, and one past that
near_ones : List Store
near_ones = Empty ∷ Rested 60 ∷ Moving (point 40) ∷ Queued (point 60) (point 900) ∷ []

far_ones : List Store
far_ones = Empty ∷ Rested 61 ∷ Moving (point 39) ∷ Queued (point 61) (point 50) ∷ []

inside_by_store : (map (λ st. inside st (bench [])) near_ones ≡ false ∷ true ∷ true ∷ true ∷ [])
    × (map (λ st. inside st (bench [])) far_ones ≡ replicate 4 false)
unfolding near_ones far_ones open_edges
inside_by_store = (refl, refl)

-- at rest, on the way and of two the first, at that target, with that window and position
holdings : ℕ → ℕ → ℕ → List Bool
holdings window here t =
    map (λ st. inside st (bench (write position_window window ∷ write position here ∷ [])))
    (Rested t ∷ Moving (point t) ∷ Queued (point t) (point 0x40000000) ∷ [])

-- a window of 0 is the position alone; the widest reaches 2^31-1 and no further, and nothing wraps from one end of i32 to the other
window_by_store : (map (holdings 0 50) (49 ∷ 50 ∷ 51 ∷ []) ≡ replicate 3 false ∷ replicate 3 true ∷ replicate 3 false ∷ [])
    × (map (holdings 10 0) (0xFFFFFFF5 ∷ 0xFFFFFFF6 ∷ 10 ∷ 11 ∷ [])
    ≡ replicate 3 false ∷ replicate 3 true ∷ replicate 3 true ∷ replicate 3 false ∷ [])
    × (map (holdings 0x7FFFFFFF 0x80000000) (0xFFFFFFFF ∷ 0 ∷ 0x7FFFFFFF ∷ []) ≡ replicate 3 true ∷ replicate 3 false ∷ replicate 3 false ∷ [])
    × (map (holdings 0x7FFFFFFF 0x7FFFFFFF) (0 ∷ 0xFFFFFFFF ∷ 0x80000000 ∷ []) ≡ replicate 3 true ∷ replicate 3 false ∷ replicate 3 false ∷ [])
unfolding holdings open_edges
window_by_store = (refl, refl, refl, refl)

-- ---- "Ticks are counted while inside, to 65,535 at most"

one_more_lem : (most_ticks ≡ 65535) × (map one_more (0 ∷ 1 ∷ 255 ∷ 65533 ∷ 65534 ∷ 65535 ∷ []) ≡ 1 ∷ 2 ∷ 256 ∷ 65534 ∷ 65535 ∷ 65535 ∷ [])
one_more_lem = (refl, refl)

-- a drive that positions, with so many ticks counted
counting : ℕ → Store → Drive
counting n st = with_stay n (drive st false false)

-- what those stores have counted at a call's end, from 0, 7 and 65,535
counts : Bool → List Write → List Store → List (List ℕ)
counts ticked ws sts = map (λ st. map (λ n. counted ticked (counting n st) (bench ws)) (0 ∷ 7 ∷ 65535 ∷ [])) sts

-- a tick inside is one more, any other call inside none; "leaving the window .. starts again", by a tick or by any other call; an Empty store
-- counts nothing
counted_told : (counts true [] near_ones ≡ replicate 3 0 ∷ replicate 3 (1 ∷ 8 ∷ 65535 ∷ []))
    × (counts false [] near_ones ≡ replicate 3 0 ∷ replicate 3 (0 ∷ 7 ∷ 65535 ∷ []))
    × (map (λ ticked. counts ticked [] far_ones) (true ∷ false ∷ []) ≡ replicate 2 (replicate 4 (replicate 3 0)))
unfolding counts counting near_ones far_ones open_edges
counted_told = (refl, refl, refl)

-- "counted while inside whatever 6068h and bit 8 are": 6068h 0, 5, 7, 8 and 65,535; 6040h 010Fh, standing still and not
counted_whatever : map (λ ws. counts true ws (Moving (point 60) ∷ []))
    ((write window_time 0 ∷ []) ∷ (write window_time 5 ∷ []) ∷ (write window_time 7 ∷ []) ∷ (write window_time 8 ∷ [])
    ∷ (write window_time 65535 ∷ []) ∷ (write control_word 0x10F ∷ []) ∷ (write control_word 0x10F ∷ write velocity 1 ∷ write window_time 5 ∷ []) ∷ [])
    ≡ replicate 7 ((1 ∷ 8 ∷ 65535 ∷ []) ∷ [])
unfolding counts counting open_edges
counted_whatever = refl

-- the count alone is made: state, mode, store, marks and cause stay
stays_as_it_was : (staying true (bench []) (with_stay 7 (drive (Moving (point 60)) true true)) ≡ with_stay 8 (drive (Moving (point 60)) true true))
    × (staying false (bench []) (with_stay 7 (drive (Rested 61) false true)) ≡ drive (Rested 61) false true)
unfolding open_edges
stays_as_it_was = (refl, refl)

-- ---- "a new active set-point starts again"

-- what is taken is the active one: with bit 5 always, else where none is on its way
active_told : (map (becomes_active true) near_ones ≡ replicate 4 true) × (map (becomes_active false) near_ones ≡ true ∷ true ∷ false ∷ false ∷ [])
unfolding near_ones
active_told = (refl, refl)

-- each store with 7 ticks; 607Ah is 200, and so is a target of each
held_ones : List Drive
held_ones = map (counting 7) (Empty ∷ Rested 200 ∷ Moving (point 200) ∷ Queued (point 200) (point 200) ∷ [])

-- "one taken from Empty or Rested, one taken with bit 5 ..; also with the same target. One queued behind, or not taken, is none": 1Fh, a full
-- queue the last; 3Fh; and with 607Ah past its limit
taken_restarts : (map (offered (bench []) 0x1F) held_ones
    ≡ drive (Moving (point 200)) true false ∷ drive (Moving (point 200)) true false
    ∷ with_stay 7 (drive (Queued (point 200) (point 200)) true false) ∷ with_stay 7 (drive (Queued (point 200) (point 200)) false false) ∷ [])
    × (map (offered (bench []) 0x3F) held_ones ≡ replicate 4 (drive (Moving (point 200)) true false))
    × (map (λ word. map (λ v. (offered (bench (write target_position 1501 ∷ [])) word v).stay) held_ones) (0x1F ∷ 0x3F ∷ [])
    ≡ replicate 2 (replicate 4 7))
unfolding held_ones counting open_edges
taken_restarts = (refl, refl, refl)

-- bit 4 that stays 1, or is 0, takes nothing and leaves the count
edge_restarts : map (λ old. map (λ word. (set_point_rule (bench []) old word (counting 7 (Rested 200))).stay) (0x0F ∷ 0x1F ∷ [])) (0x0F ∷ 0x1F ∷ [])
    ≡ (7 ∷ 0 ∷ []) ∷ (7 ∷ 7 ∷ []) ∷ []
unfolding counting open_edges
edge_restarts = refl

-- "the second becoming the first by event 6; also with the same target .. Event 6 from Moving to Rested goes on counting."
moved_on_restarts : (map moved_on held_ones
    ≡ counting 7 Empty ∷ counting 7 (Rested 200) ∷ counting 7 (Rested 200) ∷ counting 0 (Moving (point 200)) ∷ [])
    × (moved_on (with_stay 7 (drive (Queued (other 1) (point 60)) true true)) ≡ drive (Moving (point 60)) true true)
    × (moved_on (with_stay 65535 (drive (Moving (other 1)) true true)) ≡ with_stay 65535 (drive (Rested 1) true true))
unfolding held_ones counting open_edges
moved_on_restarts = (refl, refl, refl)

-- "Leaving Operation enabled or mode 1 empties the store, so the count is 0": 6060h 0, 1 and 3; 6040h 0Fh, 0Bh, 07h, 06h and 00h
left : List Write → (List ℕ → Drive → Drive) → ℕ
left ws act = let d = bench ws in (staying true d (act d (counting 7 (Rested 50)))).stay

leaving_restarts : (map (λ k. left (write mode k ∷ []) mode_written) (0 ∷ 1 ∷ 3 ∷ []) ≡ 0 ∷ 8 ∷ 0 ∷ [])
    × (map (λ w. left (write control_word w ∷ []) (λ d v. (control_written d 0x0F v).drive)) (0x0F ∷ 0x0B ∷ 0x07 ∷ 0x06 ∷ 0x00 ∷ [])
    ≡ 8 ∷ 0 ∷ 0 ∷ 0 ∷ 0 ∷ [])
unfolding left counting open_edges
leaving_restarts = (refl, refl)

-- ---- bit 10

-- is it shown, with that window time and so many ticks
reaches : ℕ → Store → ℕ → Bool
reaches time st n = position_reached (counting n st) (bench (write window_time time ∷ []))

-- "At 0 the answer is as before": Rested gives 1 anywhere, inside gives 1 with nothing counted, and no count helps outside
at_zero : map (λ n. map (λ st. reaches 0 st n) (Empty ∷ Rested 60 ∷ Rested 900 ∷ Moving (point 60) ∷ Moving (point 61) ∷ Queued (point 40) (point 900)
    ∷ Queued (point 900) (point 50) ∷ [])) (0 ∷ 65535 ∷ [])
    ≡ replicate 2 (false ∷ true ∷ true ∷ true ∷ false ∷ true ∷ false ∷ [])
unfolding reaches counting open_edges
at_zero = refl

-- "for the window time 6068h": one tick less is too few, as many are enough and more too; the first and the last window time there is
for_the_window_time : (map (λ st. map (reaches 3 st) (0 ∷ 2 ∷ 3 ∷ 4 ∷ 65535 ∷ [])) near_ones
    ≡ replicate 5 false ∷ replicate 3 (false ∷ false ∷ true ∷ true ∷ true ∷ []))
    × (map (reaches 1 (Rested 60)) (0 ∷ 1 ∷ []) ≡ false ∷ true ∷ [])
    × (map (reaches 65535 (Moving (point 60))) (65534 ∷ 65535 ∷ []) ≡ false ∷ true ∷ [])
unfolding reaches counting near_ones open_edges
for_the_window_time = (refl, refl, refl)

-- with 6068h over 0 "it needs the position inside": whatever is counted, Rested outside is 0 now
outside_is_0 : map (λ time. map (λ st. reaches time st 65535) far_ones) (1 ∷ 3 ∷ 65535 ∷ []) ≡ replicate 3 (replicate 4 false)
unfolding reaches counting far_ones open_edges
outside_is_0 = refl

-- 6041h of an enabled drive in that mode, at rest inside, with 0, 2, 3 and 65,535 ticks; 6068h is 3
shows : Mode → List Write → List ℕ
shows m ws = map (λ n. status true true (with_mode m (counting n (Rested 60))) (bench (write window_time 3 ∷ ws))) (0 ∷ 2 ∷ 3 ∷ 65535 ∷ [])

-- "The rule under bit 8 stays": 606Ch is 0 or is not, whatever was counted
window_time_shown : (shows ProfilePosition [] ≡ 0x0237 ∷ 0x0237 ∷ 0x0637 ∷ 0x0637 ∷ [])
    × (shows ProfilePosition (write control_word 0x10F ∷ []) ≡ replicate 4 0x0637)
    × (map (λ v. shows ProfilePosition (write control_word 0x10F ∷ write velocity v ∷ [])) (1 ∷ 0xFFFFFFFF ∷ []) ≡ replicate 2 (replicate 4 0x0237))
unfolding shows counting open_edges
window_time_shown = (refl, refl, refl)

-- "bit 10 in profile position mode": in mode 3, with 606Fh 5, 606Dh 2 and 60FFh 10, it is 606Ch within the velocity window, and in mode 0 it is 0
other_modes_stay : (map
    (λ v. shows ProfileVelocity (write velocity_threshold 5 ∷ write velocity_window 2 ∷ write target_velocity 10 ∷ write velocity v ∷ []))
    (7 ∷ 8 ∷ 12 ∷ 13 ∷ [])
    ≡ replicate 4 0x0237 ∷ replicate 4 0x0637 ∷ replicate 4 0x0637 ∷ replicate 4 0x0237 ∷ [])
    × (shows NoMode [] ≡ replicate 4 0x0237)
unfolding shows counting open_edges
other_modes_stay = (refl, refl)
