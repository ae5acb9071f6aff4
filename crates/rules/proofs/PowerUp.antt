-- An accepted power-up leaves a sound state and dictionary, whatever was there before, for every node-ID.
-- What the node-ID cannot touch is computed once, with it unknown; the rest is one computed test over all of them.
-- Assumes nothing.
use Prim.Native.Nat.{ℕ, suc}
use mathlib.Core.Path.{◌≡◌, refl}
use mathlib.Core.Bool.{Bool, true}
use mathlib.Core.List.{List, append-nil}
use lib.ListN.{length}
use Rattle.state.specs.declared.State.{State}
use Rattle.rules_dictionary.specs.TheNode.{last_node, is_node_id}
use Rattle.rules_dictionary.specs.Table.{table, dictionary_length}
use Rattle.rules_dictionary.proofs.Tests.{all_below, on_nodes}
use Rattle.rules_dictionary.proofs.Defaults.{all_defaults}
use Rattle.rules_dictionary.specs.Values.{stored, packed_defaults}
use Rattle.drive.specs.Window.{inside, counted, staying}
use Rattle.rules_services.specs.Nmt.{power_up, fresh_state, boot_up}
use Rattle.rules_services.specs.Effects.{sends, becomes}
use Rattle.rules.specs.Outcome.{End, ended, drive_at_end, settled}
use Rattle.rules.specs.Sound.{sound, dictionary_sound, status_as_made}
use Rattle.rules.specs.Sound.{mode_as_made, plans_fresh, ready_fresh, drive_sound, heartbeat_sound, waiting_sound, transfer_sound, stay_sound}
use Rattle.rules.specs.Scripts.{open_rules}

-- the dictionary that power-up leaves
fresh_dictionary : ℕ → List ℕ
fresh_dictionary n = settled (fresh_state n) (packed_defaults n table)

-- what the node-ID stands in
node_sound : ℕ → Bool
node_sound n = dictionary_sound n (fresh_dictionary n)

node_test_lem : all_below (λ k. node_sound (suc k)) last_node ≡ true
unfolding node_sound fresh_dictionary packed_defaults open_rules
node_test_lem = refl

-- power-up, once the defaults stand
fresh_end : ℕ → State → End
fresh_end n s = ended s (packed_defaults n table) (sends (boot_up n) (becomes (fresh_state n)))

as_fresh : (n : ℕ) (s : State) (d : List ℕ) → length d ≡ dictionary_length → ended s d (power_up n) ≡ fresh_end n s
unfolding fresh_end ended power_up stored
as_fresh n s d h = rw (append-nil, all_defaults n d h)

-- what the node-ID does not stand in
rest : (n : ℕ) (s : State) →
    (status_as_made (fresh_end n s).state (fresh_dictionary n) ≡ true)
    × (mode_as_made (fresh_end n s).state (fresh_dictionary n) ≡ true)
    × (plans_fresh (fresh_end n s).state (fresh_dictionary n) ≡ true)
    × (ready_fresh (fresh_end n s).state (fresh_dictionary n) ≡ true)
    × (drive_sound (fresh_end n s).state.axis.drive (fresh_dictionary n) ≡ true)
    × (heartbeat_sound (fresh_end n s).state.node.heartbeat (fresh_dictionary n) ≡ true)
    × (waiting_sound (fresh_end n s).state (fresh_dictionary n) ≡ true)
    × (transfer_sound (fresh_end n s).state.transfer ≡ true)
    × (stay_sound (fresh_end n s).state.axis.drive (fresh_dictionary n) ≡ true)
unfolding fresh_end fresh_dictionary packed_defaults open_rules
rest n s = (refl, refl, refl, refl, refl, refl, refl, refl, refl)

fresh_sound : (n : ℕ) (s : State) → is_node_id n ≡ true → sound (fresh_end n s).state (fresh_end n s).dictionary ≡ true
unfolding fresh_end fresh_dictionary ended drive_at_end staying counted inside stored fresh_state sound node_sound
fresh_sound n s p =
    let r = rest n s in
    rw (p, on_nodes node_sound node_test_lem n p, r.0, r.1, r.2, r.3, r.4, r.5, r.6, r.7, r.8)

-- THE THEOREM
pub power_up_sound : (n : ℕ) (s : State) (d : List ℕ) → is_node_id n ≡ true → length d ≡ dictionary_length →
    sound (ended s d (power_up n)).state (ended s d (power_up n)).dictionary ≡ true
power_up_sound n s d p h = rw (as_fresh n s d h) (fresh_sound n s p)
