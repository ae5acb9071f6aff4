-- What the node does on a write, by SDO or by a received frame: "Applying stores every value .., then acts on 6060h if mapped,
-- then 6040h"; 'Drive states': a fault reset; 'NMT, emergency, time': "writing 1017h .. restarts the count".
-- Assumes nothing.
use Rattle.std.specs.Prelude.{ℕ, List, [], ◌∷◌, Bool, cond}
use Rattle.state.specs.declared.State.{State}
use Rattle.rules_dictionary.specs.Numbers.{any}
use Rattle.rules_dictionary.specs.Table.{Row, same, control_word, mode, error_register, heartbeat_time}
use Rattle.rules_dictionary.specs.Values.{Write, write, read, store, stored}
use Rattle.drive.specs.SetPoints.{mode_written, control_written}
use Rattle.rules_services.specs.Effects.{Effect, becomes, sends, writes, with_drive, with_heartbeat}
use Rattle.rules_services.specs.Emergency.{emergency, fault_gone}

-- the row is among the written ones
abbrev pub wrote : Row → List Write → Bool
wrote x ws = any (λ w. same x w.row) ws

-- 1017h restarts the heartbeat's count
unfoldable pub count_restarted : List Write → State → State
count_restarted ws s = cond (wrote heartbeat_time ws) (with_heartbeat 0 s) s

-- 6060h, as it now stands
unfoldable pub mode_acted : List Write → State → List ℕ → State
mode_acted ws s d = cond (wrote mode ws) (with_drive (mode_written d s.axis.drive) s) s

-- "1001h to 0, emergency 0000h; 603Fh stays"
unfoldable pub fault_reset : State → List ℕ → Effect
fault_reset s d = writes (write error_register 0 ∷ []) (sends (emergency fault_gone s (store error_register 0 d)) (becomes s))

-- 6040h, as it now stands; `old` is what stood there before the write
unfoldable pub control_acted : ℕ → List Write → State → List ℕ → Effect
control_acted old ws s d =
    let c = control_written d old s.axis.drive in
    let s' = with_drive c.drive s in
    cond (wrote control_word ws) (cond c.reset (fault_reset s' d) (becomes s')) (becomes s)

-- the writes stored, then acted on
unfoldable pub applied : List Write → State → List ℕ → Effect
applied ws s d =
    let d' = stored ws d in
    writes ws (control_acted (read d control_word) ws (mode_acted ws (count_restarted ws s) d') d')

-- opens every definition of this module, where a proof computes
unfoldable pub open_written : Unit {0}
unfolding count_restarted mode_acted fault_reset control_acted applied
open_written = tt
