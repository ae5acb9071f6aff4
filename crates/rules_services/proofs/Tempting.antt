-- Document 01, "Tempting and wrong: missing bytes as zero": a frame shorter than its mapping changes nothing and sends 8210h.
-- Assumes nothing.
use Prim.Native.Nat.{ℕ, ◌<◌}
use mathlib.Core.Path.{◌≡◌}
use mathlib.Core.List.{List}
use borrow.Author.Tests.{lt-ltb}
use lib.ListN.{length}
use Rattle.state.specs.declared.State.{State}
use Rattle.rules_dictionary.specs.Plans.{mapped}
use Rattle.rules_services.specs.Effects.{sends, becomes}
use Rattle.rules_services.specs.Emergency.{emergency, pdo_too_short}
use Rattle.rules_services.specs.PdoTraffic.{received, mapped_length}

pub short_frame_dropped : (p : ℕ) (bs : List ℕ) (s : State) (d : List ℕ) → length bs < mapped_length (mapped d p) →
    received p bs s d ≡ sends (emergency pdo_too_short s d) (becomes s)
unfolding received
short_frame_dropped p bs s d short = rw (lt-ltb (length bs) (mapped_length (mapped d p)) short)
