-- Ticket 2, 'Target reached comes too early': the position inside the window 6067h, and the ticks that it has been there, which the window time
-- 6068h is held against (StatusWord). Where the count starts again for a new set-point, SetPoints says.
-- Assumes nothing.
use Rattle.std.specs.Prelude.{ℕ, suc, List, Bool, false, cond, leb, ltb, ℤ, nat_abs, ◌-ℤ◌}
use Rattle.drive.specs.declared.Store.{Store}
use Rattle.drive.specs.declared.Store.TheVariants.{Empty, Rested, Moving, Queued}
use Rattle.drive.specs.declared.Drive.{Drive}
use Rattle.rules_dictionary.specs.Numbers.{integer}
use Rattle.rules_dictionary.specs.Table.{position, position_window}
use Rattle.rules_dictionary.specs.Values.{read}
use Rattle.drive.specs.SetPoints.{with_stay}

-- "within 6067h": the ends count, and nothing wraps
abbrev pub within : ℕ → ℤ → ℤ → Bool
within window a b = leb (nat_abs (a -ℤ b)) window

-- "within 6067h of 6064h"
unfoldable pub near : ℕ → List ℕ → Bool
near t d = within (read d position_window) (integer t) (integer (read d position))

-- "the position inside 6067h of the active target (Rested: of the target at rest)"; an Empty store has no target
unfoldable pub inside : Store → List ℕ → Bool
inside Empty d = false
inside (Rested t) d = near t d
inside (Moving a) d = near a.target d
inside (Queued a b) d = near a.target d

-- "to 65,535 at most"
abbrev pub most_ticks : ℕ
most_ticks = 65535

-- one tick more
abbrev pub one_more : ℕ → ℕ
one_more n = cond (ltb n most_ticks) (suc n) n

-- "Ticks are counted while inside .. leaving the window .. starts again": the count at a call's end, which was a tick or was none. Inside is
-- judged there, with all that the call wrote
unfoldable pub counted : Bool → Drive → List ℕ → ℕ
counted ticked v d = cond (inside v.store d) (cond ticked (one_more v.stay) v.stay) 0

-- the drive with that count
unfoldable pub staying : Bool → List ℕ → Drive → Drive
staying ticked d v = with_stay (counted ticked v d) v

-- opens every definition of this module, where a proof computes
unfoldable pub open_window : Unit {0}
unfolding near inside counted staying
open_window = tt
