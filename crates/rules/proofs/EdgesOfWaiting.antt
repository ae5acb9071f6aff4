-- What waits for SYNC, of the paragraph that begins "Sound:", in literal values: counts, due marks and held frames, each clause by itself.
-- Assumes nothing.
use Prim.Native.Nat.{ℕ}
use mathlib.Core.Path.{◌≡◌, refl}
use mathlib.Core.Bool.{true, false}
use mathlib.Core.List.{List, [], ◌∷◌, map}
use lib.ListN.{replicate}
use Rattle.state.specs.declared.NmtState.TheVariants.{PreOperational, Operational, Stopped}
use Rattle.rules_dictionary.specs.declared.PdoData.{PdoData}
use Rattle.rules_dictionary.specs.Table.{table, transmission_type, identifier, map_count}
use Rattle.rules_dictionary.specs.Values.{Write, write, stored, packed_defaults}
use Rattle.rules_services.specs.PdoTraffic.{no_data}
use Rattle.rules.specs.Sound.{count_sound, due_sound, held_sound}
use Rattle.rules.specs.Scripts.{open_rules}

-- the defaults of node 5, with that type of a PDO and those values; transmit PDO 1 is 4 here and receive PDO 1 is 0
typed : ℕ → ℕ → List Write → List ℕ
typed p k ws = stored (write (transmission_type p) k ∷ ws) (packed_defaults 5 table)

-- "SYNC counts below their type and zero where unused": type 240, type 1; types 0, 254, 255; invalid, nothing mapped, not Operational
counts_told : (map (count_sound Operational (typed 4 240 []) 4) (0 ∷ 239 ∷ 240 ∷ []) ≡ true ∷ true ∷ false ∷ [])
    × (map (count_sound Operational (typed 4 1 []) 4) (0 ∷ 1 ∷ []) ≡ true ∷ false ∷ [])
    × (map (λ k. count_sound Operational (typed 4 k []) 4 1) (0 ∷ 254 ∷ 255 ∷ []) ≡ replicate 3 false)
    × (map (count_sound Operational (typed 4 3 (write (identifier 4) 0xC0000185 ∷ [])) 4) (0 ∷ 1 ∷ []) ≡ true ∷ false ∷ [])
    × (map (count_sound Operational (typed 4 3 (write (map_count 4) 0 ∷ [])) 4) (0 ∷ 1 ∷ []) ≡ true ∷ false ∷ [])
    × (map (λ m. count_sound m (typed 4 3 []) 4 1) (PreOperational ∷ Operational ∷ Stopped ∷ []) ≡ false ∷ true ∷ false ∷ [])
unfolding typed packed_defaults open_rules
counts_told = (refl, refl, refl, refl, refl, refl)

-- "due marks .. only in Operational, due for working type 0 TPDOs"
dues_told : (map (λ k. due_sound Operational (typed 4 k []) 4 true) (0 ∷ 1 ∷ 240 ∷ 254 ∷ 255 ∷ []) ≡ true ∷ false ∷ false ∷ false ∷ false ∷ [])
    × (map (λ m. due_sound m (typed 4 0 []) 4 true) (PreOperational ∷ Stopped ∷ []) ≡ false ∷ false ∷ [])
    × (due_sound Operational (typed 4 0 (write (identifier 4) 0xC0000185 ∷ [])) 4 true ≡ false)
    × (due_sound Operational (typed 4 0 (write (map_count 4) 0 ∷ [])) 4 true ≡ false)
    × (due_sound PreOperational (typed 4 255 []) 4 false ≡ true)
unfolding typed packed_defaults open_rules
dues_told = (refl, refl, refl, refl, refl)

holding : ℕ → ℕ → ℕ → ℕ → PdoData
holding n b2 b3 b7 = record { length = n; bytes = 6 ∷ 0 ∷ b2 ∷ b3 ∷ 0 ∷ 0 ∷ 0 ∷ b7 ∷ [] }

-- "held frames only in Operational, .. for working synchronous RPDOs": of type 240 but not 254; invalid, nothing mapped
held_told : (map (λ k. held_sound Operational (typed 0 k []) 0 (holding 2 0 0 0)) (0 ∷ 1 ∷ 240 ∷ 254 ∷ 255 ∷ [])
    ≡ true ∷ true ∷ true ∷ false ∷ false ∷ [])
    × (map (λ m. held_sound m (typed 0 1 []) 0 (holding 2 0 0 0)) (PreOperational ∷ Stopped ∷ []) ≡ false ∷ false ∷ [])
    × (held_sound Operational (typed 0 1 (write (identifier 0) 0x80000205 ∷ [])) 0 (holding 2 0 0 0) ≡ false)
    × (held_sound Operational (typed 0 1 (write (map_count 0) 0 ∷ [])) 0 (holding 2 0 0 0) ≡ false)
    × (held_sound PreOperational (typed 0 255 []) 0 no_data ≡ true)
unfolding typed holding packed_defaults open_rules
held_told = (refl, refl, refl, refl, refl)

-- "with full length and legal values", "spare .. bytes, held frames' too, zero": receive PDO 2 maps 6040h and 6060h, three bytes
held_whole : (map (held_sound Operational (typed 1 1 []) 1) (holding 3 3 0 0 ∷ holding 3 0 0 0 ∷ no_data ∷ []) ≡ replicate 3 true)
    × (map (held_sound Operational (typed 1 1 []) 1)
    (holding 2 0 0 0 ∷ holding 4 1 0 0 ∷ holding 3 2 0 0 ∷ holding 3 1 1 0 ∷ holding 3 1 0 1 ∷ holding 0 0 0 1 ∷ [])
    ≡ replicate 6 false)
unfolding typed holding packed_defaults open_rules
held_whole = (refl, refl)
