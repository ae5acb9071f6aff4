-- Document 01, 'SDO', and tickets 1 and 5: the abort codes, and tests in order of which the first that fires decides.
-- Assumes nothing.
use Rattle.std.specs.Prelude.{ℕ, List, [], ◌∷◌, Bool, true, false}

pub data Abort : Type 0 where
  unknown_command wrong_toggle no_object no_subindex no_writing too_long too_short wrong_time below_range above_range bad_value limits_swapped : Abort
  not_mappable over_length : Abort

abbrev pub abort_code : Abort → ℕ
abort_code unknown_command = 0x05040001
abort_code wrong_toggle = 0x05030000
abort_code no_object = 0x06020000
abort_code no_subindex = 0x06090011
abort_code no_writing = 0x06010002
abort_code too_long = 0x06070012
abort_code too_short = 0x06070013
abort_code wrong_time = 0x08000022
abort_code below_range = 0x06090032
abort_code above_range = 0x06090031
abort_code bad_value = 0x06090030
abort_code limits_swapped = 0x06040043
abort_code not_mappable = 0x06040041
abort_code over_length = 0x06040042

pub data Verdict : Type 0 where
  good : Verdict
  bad : Abort → Verdict

abbrev pub is_good : Verdict → Bool
is_good good = true
is_good (bad a) = false

-- a test, and the abort that it gives where it fires
pub record Test : Type 0 where
  pub fires : Bool
  pub abort : Abort

abbrev pub test : Bool → Abort → Test
test b a = record { fires = b; abort = a }

-- the first test that fires decides; where none does, the verdict behind them
unfoldable pub first_firing : List Test → Verdict → Verdict
first_firing [] v = v
first_firing (t ∷ ts) v = elim t.fires [ true ↦ bad t.abort | false ↦ first_firing ts v ]

-- opens every definition of this module, where a proof computes
unfoldable pub open_aborts : Unit {0}
unfolding first_firing
open_aborts = tt
