-- What the code works out as words of 32 bits, where the rules speak of integers.
-- Assumes nothing.
use Rattle.std.specs.Prelude.{ℕ, cond, ◌&&◌, List, Option, None, Some, ℤ}
use Rattle.std.specs.Int.Signed.{le_z}
use Rattle.std.specs.Int.{w32}
use Rattle.std.proofs.Common.{of_z}
use Rattle.rules_dictionary.specs.Numbers.{integer}
use Rattle.rules_dictionary.specs.Table.{minimum_position, maximum_position, profile_velocity, profile_acceleration, profile_deceleration}
use Rattle.rules_dictionary.specs.Values.{read}
use Rattle.drive.specs.declared.SetPoint.{SetPoint}
use Rattle.drive.specs.declared.Store.{Store}
use Rattle.drive.specs.SetPoints.{target}

-- that integer as a word, where it lies within the limits
unfoldable pub aimed : ℤ → ℤ → ℤ → Option ℕ
aimed t low high = cond (le_z low t && le_z t high) (Some (of_z w32 t)) None

-- the target as a word, where it is inside 607Dh
unfoldable pub aim_of : List ℕ → ℕ → Store → Option ℕ
aim_of d word held = aimed (target d word held) (integer (read d minimum_position)) (integer (read d maximum_position))

-- a set-point to that word, "taken with 6081h, 6083h, 6084h"
unfoldable pub set_point_to : List ℕ → ℕ → SetPoint
set_point_to d w =
    record { target = w; velocity = read d profile_velocity; acceleration = read d profile_acceleration; deceleration = read d profile_deceleration }
