-- Node 5 with a transfer running, as the facts on transfers take it, written out whole.
-- Assumes nothing.
use Prim.Native.Nat.{ℕ}
use mathlib.Core.Bool.{Bool, true, false}
use mathlib.Core.List.{List, [], ◌∷◌}
use Rattle.state.specs.declared.NmtState.{NmtState}
use Rattle.state.specs.declared.Transfer.{Transfer}
use Rattle.state.specs.declared.Transfer.TheVariants.{Downloading}
use Rattle.state.specs.declared.State.{State}
use Rattle.state.specs.declared.Pace.{Pace}
use Rattle.state.specs.declared.Occasion.TheVariants.{Plain}
use Rattle.rules_dictionary.specs.declared.Mode.{Mode}
use Rattle.rules_dictionary.specs.declared.Mode.TheVariants.{NoMode}
use Rattle.rules_dictionary.specs.declared.PdoData.{PdoData}
use Rattle.drive.specs.declared.Drive.{Drive}
use Rattle.drive.specs.declared.DriveState.{DriveState}
use Rattle.drive.specs.declared.DriveState.TheVariants.{SwitchOnDisabled}
use Rattle.drive.specs.declared.Store.TheVariants.{Empty}
use Rattle.rules_services.specs.Effects.{Effect, Frame}

abbrev pub driving : DriveState → Mode → Drive
driving v m = record { state = v; mode = m; store = Empty; taken = false; limit = false; cause = false; stay = 0 }

abbrev none_held : PdoData
none_held = record { length = 0; bytes = 0x00 ∷ 0x00 ∷ 0x00 ∷ 0x00 ∷ 0x00 ∷ 0x00 ∷ 0x00 ∷ 0x00 ∷ [] }

abbrev nothing_due : Pace
nothing_due = record { count = 0; due = false }

-- in that NMT state, with that drive, so many ticks counted and that transfer: voltage on, nothing held and nothing due
abbrev pub node5 : NmtState → Drive → ℕ → Transfer → State
node5 m v k t =
    record {
      node = record { id = 5; nmt = m; voltage = true; heartbeat = k };
      transfer = t;
      axis = record {
        drive = v;
        plans = [];
        ready = [];
        held = none_held ∷ none_held ∷ none_held ∷ none_held ∷ [];
        paces = nothing_due ∷ nothing_due ∷ nothing_due ∷ nothing_due ∷ [];
      };
    }

-- three ticks counted, the drive disabled, no mode
abbrev pub at : NmtState → Transfer → State
at m t = node5 m (driving SwitchOnDisabled NoMode) 3 t

-- a download of the object of those three bytes: the toggle that is due, how many bytes came, and the first four
abbrev pub receipt : (low high sub : ℕ) → Bool → ℕ → (b0 b1 b2 b3 : ℕ) → Transfer
receipt low high sub toggle count b0 b1 b2 b3 =
    Downloading (record {
      low = low;
      high = high;
      subindex = sub;
      toggle = toggle;
      count = count;
      first = b0;
      second = b1;
      third = b2;
      fourth = b3;
    })

-- .. of which no byte came yet
abbrev pub first : (low high sub : ℕ) → Transfer
first low high sub = receipt low high sub false 0 0x00 0x00 0x00 0x00

-- that state and those frames, and nothing written
abbrev pub tells : State → List Frame → Effect
tells s fs = record { state = s; writes = []; sent = fs; occasion = Plain }
