-- A frame in the output is eleven bytes.
-- Assumes nothing.
use Prim.Native.Nat.{ℕ, suc}
use mathlib.Core.Path.{◌≡◌, ap}
use lib.ListN.{length}
use Rattle.rules_dictionary.specs.Numbers.{bytes}
use Rattle.rules_dictionary.proofs.Padded.{length-padded}
use Rattle.rules_services.specs.Effects.{Frame}
use Rattle.rules.specs.Outcome.{encoded, frame_size, most_data}

pub length_encoded : (f : Frame) → length (encoded f) ≡ frame_size
unfolding encoded bytes
length_encoded f = ap (λ (k : ℕ). suc (suc (suc k))) (length-padded 0 most_data f.content)
