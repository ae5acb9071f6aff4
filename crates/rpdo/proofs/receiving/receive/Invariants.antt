-- `rpdo::receiving::receive` meets its contract. The invariant: no receive PDO before p listens, and nothing is written yet.
-- Assumes nothing.
use mathlib.Core.Path.{◌≡◌}
use lib.ListN.{drop}
use Rattle.rules_dictionary.specs.Table.{receive_pdos}
use Rattle.form.specs.Form.{state_of}
use Rattle.output.specs.Laying.{data_of}
use Rattle.rpdo.proofs.Hearing.{outcome}
use Rattle.rpdo.proofs.receiving.receive.Given as goal

abbrev pub invariant-loop-p : goal.invariant-loop-p
invariant-loop-p l =
    (l.state ≡ l.initial.state) × (l.d ≡ l.initial.d) × (l.output ≡ l.initial.output)
    × (outcome l.identifier (data_of l.content) (state_of l.initial.state) l.initial.d (drop l.p receive_pdos)
    ≡ outcome l.identifier (data_of l.content) (state_of l.initial.state) l.initial.d receive_pdos)
