-- The frame of one transmit PDO.
-- Assumes nothing.
use Prim.Native.Nat.{ℕ, ◌+◌, ◌/◌, ◌%◌, ◌^◌}
use native.Mathlib.Omega.{arith}
use mathlib.Core.Path.{◌≡◌, refl}
use mathlib.Core.List.{List, [], ◌∷◌}
use mathlib.Core.Bool.{Bool, true, false}
use lib.ListN.{length}
use Rattle.rules_dictionary.specs.declared.PdoData.{PdoData}
use Rattle.rules_dictionary.specs.Table.{each_way, identifier}
use Rattle.rules_dictionary.specs.Values.{read}
use Rattle.rules_dictionary.specs.Legal.{identifier_bits}
use Rattle.rules_services.specs.PdoTraffic.{transmitted}
use Rattle.rules.specs.Outcome.{sent_into}
use Rattle.output.specs.Laying.{frame_of}
use Rattle.tpdo.specs.Sending.{sent_one}

-- what a transmission leaves: how many frames, and the bytes that it was lent
abbrev pub Transmits : Bool → List ℕ → ℕ → PdoData → List ℕ → ℕ → List ℕ → Type 0
Transmits send d t content o r o' = (r ≡ length (sent_one send d t content)) × (o' ≡ sent_into o (sent_one send d t content))

module _ (d : List ℕ) (t : ℕ) (content : PdoData) (o : List ℕ) (send : Bool) where
  pub unsent : send ≡ false → Transmits send d t content o 0 o
  unfolding sent_one sent_into
  unsent h = rw h (refl, refl)

  pub sent : send ≡ true → (w : ℕ) → w ≡ read d (identifier (each_way + t)) → (o' : List ℕ) →
      o' ≡ sent_into o (frame_of (w % 2 ^ identifier_bits) content ∷ []) → Transmits send d t content o 1 o'
  unfolding sent_one transmitted
  sent h w e o' k =
      let b : w % 2 ^ identifier_bits ≡ w / 1 % 2 ^ identifier_bits = omega arith in
      rw (h, ← e, ← b) (refl, k)
